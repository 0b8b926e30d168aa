-- Arrivals by their ports, and how many a group has.
use Rattle.std.proofs.Common.{◌≡◌, ℕ, zero, suc, ◌+◌, ◌<◌, ◌≤◌, ◌==◌, ltb, cond, Bool, true, false, List, [], ◌∷◌, ◌++◌, length, get_or, map, take, drop, refl, ap, sym, ◌∙◌, arith, append-nil, append_assoc, length-append}
use Rattle.std.proofs.lemmas.Bool.{and_from, and_parts, eqb-true, eqb-false, ne_eqb, ltb-true}
use Rattle.std.proofs.lemmas.List.{take_at, drop_at, take-append-drop}
use Rattle.flow_value.specs.View.{values_of-items_from}
use Rattle.flow_value.specs.declared.value.Value.{Value}
use Rattle.flow_link.specs.Lists.{every, below, numbers_from, concat}
use Rattle.flow_link.specs.Making.{Arrival, arrived_at, all_items, rows_weight}
use Rattle.flow_group.specs.Group.{came_at, row_of}
use Rattle.flow_group.specs.Groups.{group_row}

-- Parts of lists

pub every_parts : {A : Type 0} (test : A → Bool) (xs ys : List A) → every test (xs ++ ys) ≡ true
    → (every test xs ≡ true) × (every test ys ≡ true)
every_parts test [] ys all = (refl, all)
every_parts test (x ∷ xs) ys all =
    let both = and_parts (test x) (every test (xs ++ ys)) all in
    let rest = every_parts test xs ys both.1 in
    (and_from (test x) (every test xs) both.0 rest.0, rest.1)

pub concat_more : {A : Type 0} (groups : List (List A)) (group : List A) → concat (groups ++ group ∷ []) ≡ concat groups ++ group
concat_more [] group = append-nil group
concat_more (first ∷ groups) group =
    ap (λ (rest : List _). first ++ rest) (concat_more groups group) ∙ sym (append_assoc first (concat groups) group)

pub at_number : (f : ℕ → Value) (first count p : ℕ) (none : Value) → p < count
    → get_or (map f (numbers_from first count)) p none ≡ f (first + p)
at_number f first zero p none l = absurd (omega arith)
at_number f first (suc count) zero none l = ap f (omega arith)
at_number f first (suc count) (suc p) none l = at_number f (suc first) count p none (omega arith) ∙ ap f (omega arith)

-- Arrivals at one port

pub arrived_append : (p : ℕ) (xs ys : List Arrival) → arrived_at p (xs ++ ys) ≡ arrived_at p xs ++ arrived_at p ys
arrived_append p [] ys = refl
arrived_append p (arrival ∷ xs) ys =
    elim (arrival.port == p) as (λ here. cond here (arrival.value ∷ arrived_at p (xs ++ ys)) (arrived_at p (xs ++ ys))
    ≡ cond here (arrival.value ∷ arrived_at p xs) (arrived_at p xs) ++ arrived_at p ys) [
      | true ↦ ap (λ (values : List Value). arrival.value ∷ values) (arrived_append p xs ys)
      | false ↦ arrived_append p xs ys
    ]

pub counted : (p : ℕ) (came : List Arrival) → came_at p (map (λ (arrival : Arrival). arrival.port) came) ≡ length (arrived_at p came)
counted p [] = refl
counted p (arrival ∷ came) =
    let rest : came_at p (map (λ (arrival : Arrival). arrival.port) came) ≡ length (arrived_at p came) = counted p came in
    elim (arrival.port == p) as (λ here. cond here 1 0 + came_at p (map (λ (arrival : Arrival). arrival.port) came)
    ≡ length (cond here (arrival.value ∷ arrived_at p came) (arrived_at p came))) [
      | true ↦ omega arith
      | false ↦ omega arith
    ]

pub arrived_split : (p n : ℕ) (came : List Arrival) → arrived_at p came ≡ arrived_at p (take n came) ++ arrived_at p (drop n came)
arrived_split p n came = sym (ap (arrived_at p) (take-append-drop n came)) ∙ arrived_append p (take n came) (drop n came)

-- the messages of the first arrivals are the first at each port
pub first_arrived : (p n : ℕ) (came : List Arrival) (values : List Value) (count : ℕ) → values ≡ arrived_at p came
    → count ≡ length (arrived_at p (take n came)) → take count values ≡ arrived_at p (take n came)
first_arrived p n came values count is many =
    ap (take count) (is ∙ arrived_split p n came)
    ∙ take_at (arrived_at p (take n came)) (arrived_at p (drop n came)) count (sym many)

pub later_arrived : (p n : ℕ) (came : List Arrival) (values : List Value) (count : ℕ) → values ≡ arrived_at p came
    → count ≡ length (arrived_at p (take n came)) → drop count values ≡ arrived_at p (drop n came)
later_arrived p n came values count is many =
    ap (drop count) (is ∙ arrived_split p n came)
    ∙ drop_at (arrived_at p (take n came)) (arrived_at p (drop n came)) count (sym many)

-- How many messages a row of rows has

-- those that came in at so many ports, from a first one on
sum_from : ℕ → ℕ → List Arrival → ℕ
sum_from first zero group = 0
sum_from first (suc count) group = length (arrived_at first group) + sum_from (suc first) count group

sum_none : (first count : ℕ) → sum_from first count [] ≡ 0
unfolding sum_from
sum_none first zero = refl
sum_none first (suc count) = let rest : sum_from (suc first) count [] ≡ 0 = sum_none (suc first) count in omega arith

sum_before : (first count : ℕ) (arrival : Arrival) (group : List Arrival) → arrival.port < first
    → sum_from first count (arrival ∷ group) ≡ sum_from first count group
unfolding sum_from
sum_before first zero arrival group l = refl
sum_before first (suc count) arrival group l =
    let other : (arrival.port == first) ≡ false = ne_eqb arrival.port first (λ e. absurd (omega arith)) in
    let head : length (arrived_at first (arrival ∷ group)) ≡ length (arrived_at first group) =
    ap (λ (here : Bool). length (cond here (arrival.value ∷ arrived_at first group) (arrived_at first group))) other in
    let rest : sum_from (suc first) count (arrival ∷ group) ≡ sum_from (suc first) count group =
    sum_before (suc first) count arrival group (omega arith) in
    cc

sum_within : (first count : ℕ) (arrival : Arrival) (group : List Arrival) → first ≤ arrival.port → arrival.port < first + count
    → (here : Bool) → (arrival.port == first) ≡ here
    → sum_from first count (arrival ∷ group) ≡ 1 + sum_from first count group
unfolding sum_from
sum_within first zero arrival group from l here is = absurd (omega arith)
sum_within first (suc count) arrival group from l true is =
    let at : arrival.port ≡ first = eqb-true arrival.port first is in
    let head : length (arrived_at first (arrival ∷ group)) ≡ suc (length (arrived_at first group)) =
    ap (λ (here : Bool). length (cond here (arrival.value ∷ arrived_at first group) (arrived_at first group))) is in
    let rest : sum_from (suc first) count (arrival ∷ group) ≡ sum_from (suc first) count group =
    sum_before (suc first) count arrival group (omega arith) in
    omega arith
sum_within first (suc count) arrival group from l false is =
    let other = eqb-false arrival.port first is in
    let head : length (arrived_at first (arrival ∷ group)) ≡ length (arrived_at first group) =
    ap (λ (here : Bool). length (cond here (arrival.value ∷ arrived_at first group) (arrived_at first group))) is in
    let rest : sum_from (suc first) count (arrival ∷ group) ≡ 1 + sum_from (suc first) count group =
    sum_within (suc first) count arrival group (omega arith) (omega arith) (arrival.port == suc first) refl in
    omega arith

sum_all : (count : ℕ) (group : List Arrival) → every (λ (arrival : Arrival). ltb arrival.port count) group ≡ true
    → sum_from 0 count group ≡ length group
sum_all count [] known = sum_none 0 count
sum_all count (arrival ∷ group) known =
    let both = and_parts (ltb arrival.port count) (every (λ (arrival : Arrival). ltb arrival.port count) group) known in
    let below : arrival.port < count = ltb-true arrival.port count both.0 in
    let rest : sum_from 0 count group ≡ length group = sum_all count group both.1 in
    let more : sum_from 0 count (arrival ∷ group) ≡ 1 + sum_from 0 count group =
    sum_within 0 count arrival group (omega arith) (omega arith) (arrival.port == 0) refl in
    omega arith

weight_from : (first count : ℕ) (group : List Arrival)
    → length (all_items (map (λ p. row_of (arrived_at p group)) (numbers_from first count))) ≡ sum_from first count group
unfolding sum_from
weight_from first zero group = refl
weight_from first (suc count) group =
    let rows : List Value = map (λ p. row_of (arrived_at p group)) (numbers_from (suc first) count) in
    let rest : length (all_items rows) ≡ sum_from (suc first) count group = weight_from (suc first) count group in
    ap (λ (values : List Value). length (values ++ all_items rows)) (values_of-items_from (arrived_at first group))
    ∙ length-append (arrived_at first group) (all_items rows)
    ∙ ap (λ (n : ℕ). length (arrived_at first group) + n) rest

-- the row of a group has as many messages as the group
pub weight_of_group : (count : ℕ) (group : List Arrival) → every (λ (arrival : Arrival). ltb arrival.port count) group ≡ true
    → rows_weight (group_row count group) ≡ length group
weight_of_group count group known =
    ap (λ (rows : List Value). length (all_items rows)) (values_of-items_from (map (λ p. row_of (arrived_at p group)) (below count)))
    ∙ weight_from 0 count group ∙ sum_all count group known
