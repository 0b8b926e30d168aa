-- Each call keeps the law of groups.
use Rattle.std.proofs.Common.{◌≡◌, ℕ, zero, suc, ◌+◌, ◌<◌, ◌≤◌, ltb, leb, not, Bool, true, false, ◌&&◌, ◌||◌, List, [], ◌∷◌, ◌++◌, length, map, take, drop, min, refl, ap, sym, ◌∙◌, subst, arith, append_assoc, eq-eqb}
use Rattle.std.proofs.lemmas.Bool.{and_from, and_parts, or_left, or_right, lt-ltb, le-leb, leb-true, leb-false}
use Rattle.std.proofs.lemmas.List.{length-map, map-append, take-map, drop-map, drop_all, length-take, take-append-drop}
use Rattle.flow_value.specs.declared.value.Value.{Value}
use Rattle.flow_link.specs.Lists.{every, is_empty, numbers_from, concat}
use Rattle.flow_link.specs.Making.{Arrival, arrived_at, are_groups, rows_weight}
use Rattle.flow_link.proofs.OneMoreMark.{every_more}
use Rattle.flow_intake.specs.Port.{PortState}
use Rattle.flow_group.specs.Group.{came_at, has_group, row_of, rows_from, group_of, takes_from, takes_group}
use Rattle.flow_group.specs.Groups.{GroupsLaw, GroupsKept, group_row, is_whole, arrival_at}
use Rattle.flow_group.specs.Tuple.{held_at}
use Rattle.flow_group.specs.Tuples.{only_at}
use Rattle.flow_group.proofs.GroupsCount.{every_parts, concat_more, arrived_append, counted, first_arrived, later_arrived, weight_of_group}

-- Rows

-- one more row, where those before it are whole
groups_more : (size : ℕ) (rows : List Value) (row : Value) → every (is_whole size) rows ≡ true
    → ltb 0 (rows_weight row) ≡ true → leb (rows_weight row) size ≡ true → are_groups rows_weight size (rows ++ row ∷ []) ≡ true
groups_more size [] row all some fits = and_from (ltb 0 (rows_weight row)) (leb (rows_weight row) size) some fits
groups_more size (first ∷ []) row all some fits =
    let both = and_parts (is_whole size first) true all in
    and_from (is_whole size first) (are_groups rows_weight size (row ∷ [])) both.0
    (and_from (ltb 0 (rows_weight row)) (leb (rows_weight row) size) some fits)
groups_more size (first ∷ second ∷ rows) row all some fits =
    let both = and_parts (is_whole size first) (every (is_whole size) (second ∷ rows)) all in
    and_from (is_whole size first) (are_groups rows_weight size ((second ∷ rows) ++ row ∷ [])) both.0
    (groups_more size (second ∷ rows) row both.1 some fits)

-- while something is held, or a port is open, all rows are whole
all_whole : (ended empty whole : Bool) → ((ended && empty) || whole) ≡ true → empty ≡ false → whole ≡ true
all_whole true true whole law held = absurd (cc)
all_whole true false whole law held = law
all_whole false empty whole law held = law

whole_ended : (ended empty whole : Bool) → ((ended && empty) || whole) ≡ true → ((true && empty) || whole) ≡ true
whole_ended true empty whole law = law
whole_ended false empty whole law = or_right empty whole law

-- The next group

-- its rows are those of its messages
rows_are_of : (first : ℕ) (order : List ℕ) (group : List Arrival) (ports : List PortState)
    → ((p : ℕ) → p < length ports → take (came_at (first + p) order) (held_at ports p) ≡ arrived_at (first + p) group)
    → rows_from first order ports ≡ map (λ p. row_of (arrived_at p group)) (numbers_from first (length ports))
rows_are_of first order group [] each = refl
rows_are_of first order group (port ∷ ports) each =
    let zero_more : first + 0 ≡ first = omega arith in
    let head : take (came_at first order) port.waiting ≡ arrived_at first group =
    subst (λ (n : ℕ). take (came_at n order) port.waiting ≡ arrived_at n group) zero_more (each 0 (omega arith)) in
    let rest : rows_from (suc first) order ports ≡ map (λ p. row_of (arrived_at p group)) (numbers_from (suc first) (length ports)) =
    rows_are_of (suc first) order group ports (λ p l.
    let one_more : first + suc p ≡ suc first + p = omega arith in
    subst (λ (n : ℕ). take (came_at n order) (held_at ports p) ≡ arrived_at n group) one_more (each (suc p) (omega arith))) in
    ap (λ (values : List Value). row_of values ∷ rows_from (suc first) order ports) head
    ∙ ap (λ (rows : List Value). row_of (arrived_at first group) ∷ rows) rest

-- what each port holds then
held_then : (first : ℕ) (order : List ℕ) (ports : List PortState) (p : ℕ) → p < length ports
    → held_at (takes_from first order ports) p ≡ drop (came_at (first + p) order) (held_at ports p)
held_then first order [] p l = absurd (omega arith)
held_then first order (port ∷ ports) zero l =
    let zero_more : first ≡ first + 0 = omega arith in
    ap (λ (n : ℕ). drop (came_at n order) port.waiting) zero_more
held_then first order (port ∷ ports) (suc p) l =
    let one_more : suc first + p ≡ first + suc p = omega arith in
    held_then (suc first) order ports p (omega arith) ∙ ap (λ (n : ℕ). drop (came_at n order) (held_at ports p)) one_more

-- it has as many messages as a group has, or all that are held
weight_is : (size : ℕ) (order : List ℕ) (rest : List Arrival) → order ≡ map (λ (arrival : Arrival). arrival.port) rest
    → length (take size rest) ≡ min size (length order)
weight_is size order rest is =
    let many : length order ≡ length rest = ap length is ∙ length-map rest (λ (arrival : Arrival). arrival.port) in
    length-take size rest ∙ ap (min size) (sym many)

some_held : (order : List ℕ) → not (is_empty order) ≡ true → (is_empty order ≡ false) × (0 < length order)
some_held [] some = absurd (cc)
some_held (p ∷ order) some = (refl, omega arith)

whole_next : (size weight : ℕ) (ended enough : Bool) (order : List ℕ) (rows : List Value) (row : Value) → rows_weight row ≡ weight
    → weight ≡ min size (length order) → leb size (length order) ≡ enough → (enough || ended) ≡ true → every (is_whole size) rows ≡ true
    → ((ended && is_empty (drop size order)) || every (is_whole size) (rows ++ row ∷ [])) ≡ true
whole_next size weight ended true order rows row weighs is many may all =
    let enough : size ≤ length order = leb-true size (length order) many in
    let full : rows_weight row ≡ size = omega arith in
    or_right (ended && is_empty (drop size order)) (every (is_whole size) (rows ++ row ∷ []))
    (every_more (is_whole size) rows row all (eq-eqb (rows_weight row) size full))
whole_next size weight ended false order rows row weighs is many may all =
    let few : length order < size = leb-false size (length order) many in
    let nothing : drop size order ≡ [] = drop_all size order (omega arith) in
    or_left (ended && is_empty (drop size order)) (every (is_whole size) (rows ++ row ∷ []))
    (and_from ended (is_empty (drop size order)) may (ap is_empty nothing))

-- The calls

fresh : (count size : ℕ) (ended : Bool) → GroupsLaw count size ended [] [] [] (λ p. [])
fresh count size ended = record {
  groups = [];
  rest = [];
  cut = refl;
  rows_are = refl;
  order_is = refl;
  held_is = λ p l. refl;
  known = refl;
  sized = refl;
  whole = or_right (ended && true) true refl;
}

take_keeps : (count size : ℕ) (came : List Arrival) (rows : List Value) (order : List ℕ) (held : ℕ → List Value)
    → GroupsLaw count size false came rows order held → (q : ℕ) → q < count → (value : Value)
    → GroupsLaw count size false (came ++ arrival_at q value ∷ []) rows (order ++ q ∷ [])
    (λ p. held p ++ only_at q (value ∷ []) p)
take_keeps count size came rows order held law q l value = record {
  groups = law.groups;
  rest = law.rest ++ arrival_at q value ∷ [];
  cut =
      ap (λ (arrivals : List Arrival). arrivals ++ arrival_at q value ∷ []) law.cut
      ∙ append_assoc (concat law.groups) law.rest (arrival_at q value ∷ []);
  rows_are = law.rows_are;
  order_is =
      ap (λ (ports : List ℕ). ports ++ q ∷ []) law.order_is
      ∙ sym (map-append (λ (arrival : Arrival). arrival.port) law.rest (arrival_at q value ∷ []));
  held_is = λ p there.
      ap (λ (values : List Value). values ++ only_at q (value ∷ []) p) (law.held_is p there)
      ∙ sym (arrived_append p law.rest (arrival_at q value ∷ []));
  known = every_more (λ (arrival : Arrival). ltb arrival.port count) came (arrival_at q value) law.known (lt-ltb q count l);
  sized = law.sized;
  whole = law.whole;
}

pub make_keeps : (count size : ℕ) (ended : Bool) (came : List Arrival) (rows : List Value) (order : List ℕ) (ports : List PortState)
    → length ports ≡ count → 0 < size → GroupsLaw count size ended came rows order (held_at ports) → has_group size ended order ≡ true
    → GroupsLaw count size ended came (rows ++ group_of size order ports ∷ []) (drop size order)
    (held_at (takes_group size order ports))
make_keeps count size ended came rows order ports e some law has =
    let group : List Arrival = take size law.rest in
    let may = and_parts (not (is_empty order)) (leb size (length order) || ended) has in
    let held = some_held order may.0 in
    let all : every (is_whole size) rows ≡ true =
    all_whole ended (is_empty order) (every (is_whole size) rows) law.whole held.0 in
    let front : take size order ≡ map (λ (arrival : Arrival). arrival.port) group =
    ap (take size) law.order_is ∙ take-map (λ (arrival : Arrival). arrival.port) size law.rest in
    let many : (p : ℕ) → came_at p (take size order) ≡ length (arrived_at p group) =
    λ p. ap (came_at p) front ∙ counted p group in
    let row_is : group_of size order ports ≡ group_row count group =
    ap row_of (rows_are_of 0 (take size order) group ports
    (λ p l.
    let same : p ≡ 0 + p = omega arith in
    subst (λ (n : ℕ). take (came_at n (take size order)) (held_at ports p) ≡ arrived_at n group) same
    (first_arrived p size law.rest (held_at ports p) (came_at p (take size order)) (law.held_is p (omega arith)) (many p))))
    ∙ ap (λ (n : ℕ). row_of (map (λ p. row_of (arrived_at p group)) (numbers_from 0 n))) e in
    let known : every (λ (arrival : Arrival). ltb arrival.port count) law.rest ≡ true =
    (every_parts (λ (arrival : Arrival). ltb arrival.port count) (concat law.groups) law.rest
    (subst (λ (arrivals : List Arrival). every (λ (arrival : Arrival). ltb arrival.port count) arrivals ≡ true) law.cut law.known)).1 in
    let known_group : every (λ (arrival : Arrival). ltb arrival.port count) group ≡ true =
    (every_parts (λ (arrival : Arrival). ltb arrival.port count) group (drop size law.rest)
    (subst (λ (arrivals : List Arrival). every (λ (arrival : Arrival). ltb arrival.port count) arrivals ≡ true)
    (sym (take-append-drop size law.rest)) known)).0 in
    let weighs : rows_weight (group_of size order ports) ≡ length group =
    ap rows_weight row_is ∙ weight_of_group count group known_group in
    let weight : length group ≡ min size (length order) = weight_is size order law.rest law.order_is in
    let held_some : 0 < length order = held.1 in
    let more : 0 < rows_weight (group_of size order ports) = omega arith in
    let fits : rows_weight (group_of size order ports) ≤ size = omega arith in
    record {
      groups = law.groups ++ group ∷ [];
      rest = drop size law.rest;
      cut =
          law.cut
          ∙ ap (λ (arrivals : List Arrival). concat law.groups ++ arrivals) (sym (take-append-drop size law.rest))
          ∙ sym (append_assoc (concat law.groups) group (drop size law.rest))
          ∙ ap (λ (arrivals : List Arrival). arrivals ++ drop size law.rest) (sym (concat_more law.groups group));
      rows_are =
          ap (λ (before : List Value). before ++ group_of size order ports ∷ []) law.rows_are
          ∙ ap (λ (row : Value). map (group_row count) law.groups ++ row ∷ []) row_is
          ∙ sym (map-append (group_row count) law.groups (group ∷ []));
      order_is = ap (drop size) law.order_is ∙ drop-map (λ (arrival : Arrival). arrival.port) size law.rest;
      held_is = λ p l.
          let same : 0 + p ≡ p = omega arith in
          held_then 0 (take size order) ports p (omega arith)
          ∙ ap (λ (n : ℕ). drop (came_at n (take size order)) (held_at ports p)) same
          ∙ later_arrived p size law.rest (held_at ports p) (came_at p (take size order)) (law.held_is p l) (many p);
      known = law.known;
      sized = groups_more size rows (group_of size order ports) all (lt-ltb 0 (rows_weight (group_of size order ports)) more)
          (le-leb (rows_weight (group_of size order ports)) size fits);
      whole = whole_next size (length group) ended (leb size (length order)) order rows (group_of size order ports) weighs weight refl
          may.1 all;
    }

complete_keeps : (count size : ℕ) (ended : Bool) (came : List Arrival) (rows : List Value) (order : List ℕ) (held : ℕ → List Value)
    → GroupsLaw count size ended came rows order held → GroupsLaw count size true came rows order held
complete_keeps count size ended came rows order held law = record {
  groups = law.groups;
  rest = law.rest;
  cut = law.cut;
  rows_are = law.rows_are;
  order_is = law.order_is;
  held_is = law.held_is;
  known = law.known;
  sized = law.sized;
  whole = whole_ended ended (is_empty order) (every (is_whole size) rows) law.whole;
}

pub same_keeps : (count size : ℕ) (ended : Bool) (came : List Arrival) (rows : List Value) (order : List ℕ) (held holds : ℕ → List Value)
    → GroupsLaw count size ended came rows order held → ((p : ℕ) → p < count → holds p ≡ held p)
    → GroupsLaw count size ended came rows order holds
same_keeps count size ended came rows order held holds law same = record {
  groups = law.groups;
  rest = law.rest;
  cut = law.cut;
  rows_are = law.rows_are;
  order_is = law.order_is;
  held_is = λ p l. same p l ∙ law.held_is p l;
  known = law.known;
  sized = law.sized;
  whole = law.whole;
}

pub groups_kept : GroupsKept
groups_kept = record {
  fresh = fresh;
  take = take_keeps;
  make = λ size ended came rows order ports some law has.
      make_keeps (length ports) size ended came rows order ports refl some law has;
  complete = complete_keeps;
  same = same_keeps;
}
