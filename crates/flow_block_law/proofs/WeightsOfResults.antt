-- Which weights are kept for results that are not wholly given, when there is one more result, and when one more value is given.
use Rattle.std.proofs.Common.{◌≡◌, ℕ, ◌+◌, ◌-◌, ◌==◌, ◌≤◌, ltb, cond, Bool, true, false, List, [], ◌∷◌, ◌++◌, length, ◌||◌, Option, Some, None, is_some, Result, Ok, refl, ap, ap₂, sym, ◌∙◌, ◌<◌, arith, eq-eqb, ne_eqb, length-append, append_assoc}
use Rattle.std.proofs.lemmas.Bool.{ltb-true, ltb-false, lt-ltb}
use Rattle.flow_value.specs.declared.value.Value.{Value}
use Rattle.flow_link.specs.Lists.{concat}
use Rattle.flow_link.specs.Making.{items_of, all_items, row_weight}
use Rattle.flow_link.specs.Trace.{partly_left}
use Rattle.flow_link.specs.declared.draft.BlockKind.{BlockKind}
use Rattle.flow_link.specs.declared.draft.BlockKind.TheVariants.{TransformMany, Batch}
use Rattle.flow_link.proofs.OneMoreWorked.{results_more, concat_more}
use Rattle.flow_outlet.specs.declared.group.Group.{Group}
use Rattle.flow_outlet.specs.Fits.{weight_of}
use Rattle.flow_outlet.specs.Outlet.{first_of, rest_of, groups_with, groups_after}
use Rattle.flow_block.specs.Block.{unit_weight, group_weight, is_batch}
use Rattle.flow_block_law.specs.NodeLaw.{WeighsAs, weighed, rows_weighed, partly, partly_weighed}

-- Results of one value

-- the weights of what is left, with one message more and with one less
weighed_more : (capacity next : ℕ) (left : List Value) (value : Value)
    → weighed (Some capacity) next (left ++ value ∷ [])
    ≡ weighed (Some capacity) next left ++ record { until = next + length left; weight = 1 } ∷ []
weighed_more capacity next [] value = ap (λ (n : ℕ). record { until = n; weight = 1 } ∷ []) (omega arith)
weighed_more capacity next (first ∷ left) value =
    let last : next + 1 + length left ≡ next + length (first ∷ left) = omega arith in
    ap (λ (groups : List Group). record { until = next; weight = 1 } ∷ groups)
    (weighed_more capacity (next + 1) left value
    ∙ ap (λ (n : ℕ). weighed (Some capacity) (next + 1) left ++ record { until = n; weight = 1 } ∷ []) last)

groups_put : (capacity : Option ℕ) (next : ℕ) (left values : List Value) → length values ≡ 1
    → groups_with (next + length left) (length values) (unit_weight capacity) (weighed capacity next left)
    ≡ weighed capacity next (left ++ values)
groups_put None next left values one = rw one refl
groups_put (Some c) next left [] one = absurd (omega arith)
groups_put (Some c) next left (value ∷ []) one =
    let last : next + length left + 0 ≡ next + length left = omega arith in
    ap (λ (n : ℕ). weighed (Some c) next left ++ record { until = n; weight = 1 } ∷ []) last
    ∙ sym (weighed_more c next left value)
groups_put (Some c) next left (value ∷ second ∷ more) one = absurd (omega arith)

groups_given : (capacity : Option ℕ) (next : ℕ) (left : List Value)
    → groups_after next (weighed capacity next left) ≡ weighed capacity (next + 1) (rest_of left)
groups_given None next left = refl
groups_given (Some c) next [] = refl
groups_given (Some c) next (value ∷ left) =
    ap (λ (b : Bool). cond b (weighed (Some c) (next + 1) left) (weighed (Some c) next (value ∷ left)))
    (eq-eqb next next refl)

pub weight_weighed : (capacity : Option ℕ) (next : ℕ) (left : List Value) → is_some capacity ≡ true
    → weight_of (weighed capacity next left) ≡ length left
weight_weighed None next left there = absurd (cc)
weight_weighed (Some c) next [] there = refl
weight_weighed (Some c) next (value ∷ left) there = omega (arith, weight_weighed (Some c) (next + 1) left refl)

-- Rows

rows_more : (capacity next : ℕ) (left : List Value) (row : Value)
    → rows_weighed (Some capacity) next (left ++ row ∷ [])
    ≡ rows_weighed (Some capacity) next left ++ record { until = next + length left; weight = row_weight row } ∷ []
rows_more capacity next [] row = ap (λ (n : ℕ). record { until = n; weight = row_weight row } ∷ []) (omega arith)
rows_more capacity next (first ∷ left) row =
    let last : next + 1 + length left ≡ next + length (first ∷ left) = omega arith in
    ap (λ (groups : List Group). record { until = next; weight = row_weight first } ∷ groups)
    (rows_more capacity (next + 1) left row
    ∙ ap (λ (n : ℕ). rows_weighed (Some capacity) (next + 1) left ++ record { until = n; weight = row_weight row } ∷ [])
    last)

-- a row that is not empty is put, with the weight of its messages
pub rows_put : (capacity : Option ℕ) (next count : ℕ) (left : List Value) (row : Value) → row_weight row ≡ count → 0 < count
    → groups_with (next + length left) 1 (group_weight capacity count) (rows_weighed capacity next left)
    ≡ rows_weighed capacity next (left ++ row ∷ [])
rows_put None next count left row weighs some = refl
rows_put (Some c) next count left row weighs some =
    let heavy : (count == 0) ≡ false = ne_eqb count 0 (λ e. omega (arith, some, e)) in
    let last : next + length left + 0 ≡ next + length left = omega arith in
    ap (λ (none : Bool). cond none (rows_weighed (Some c) next left) (rows_weighed (Some c) next left
    ++ record { until = next + length left + 0; weight = count } ∷ [])) heavy
    ∙ ap₂ (λ (until weight : ℕ). rows_weighed (Some c) next left ++ record { until = until; weight = weight } ∷ [])
    last (sym weighs)
    ∙ sym (rows_more c next left row)

rows_given : (capacity : Option ℕ) (next : ℕ) (left : List Value)
    → groups_after next (rows_weighed capacity next left) ≡ rows_weighed capacity (next + 1) (rest_of left)
rows_given None next left = refl
rows_given (Some c) next [] = refl
rows_given (Some c) next (row ∷ left) =
    ap (λ (b : Bool). cond b (rows_weighed (Some c) (next + 1) left) (rows_weighed (Some c) next (row ∷ left)))
    (eq-eqb next next refl)

pub weight_rows : (capacity : Option ℕ) (next : ℕ) (left : List Value) → is_some capacity ≡ true
    → weight_of (rows_weighed capacity next left) ≡ length (all_items left)
weight_rows None next left there = absurd (cc)
weight_rows (Some c) next [] there = refl
weight_rows (Some c) next (row ∷ left) there =
    let rest = weight_rows (Some c) (next + 1) left refl in
    let sizes = length-append (items_of row) (all_items left) in
    omega (arith, rest, sizes)

-- Results of any number of values

-- one more group goes behind those in front too
behind_by : (none : Bool) (front groups : List Group) (last : Group)
    → front ++ cond none groups (groups ++ last ∷ []) ≡ cond none (front ++ groups) ((front ++ groups) ++ last ∷ [])
behind_by true front groups last = refl
behind_by false front groups last = sym (append_assoc front groups (last ∷ []))

behind : (next count weight : ℕ) (front groups : List Group)
    → front ++ groups_with next count weight groups ≡ groups_with next count weight (front ++ groups)
behind next count weight front groups =
    behind_by (count == 0 || weight == 0) front groups (record { until = next + (count - 1); weight = weight })

put_alone : (first : ℕ) (made : List Value) → partly first 0 (made ∷ []) ≡ groups_with (first + 0) (length made) 1 []
put_alone first [] = refl
put_alone first (value ∷ made) =
    let size = length (value ∷ made) in
    let there : ltb 0 size ≡ true = lt-ltb 0 size (omega arith) in
    let some : (size == 0) ≡ false = ne_eqb size 0 (λ e. omega arith) in
    let start : first + (size - 1) ≡ first + 0 + (size - 1) = omega arith in
    ap (λ (test : Bool). cond test (record { until = first + (size - 1); weight = 1 } ∷ []) [] ++ []) there
    ∙ ap (λ (n : ℕ). record { until = n; weight = 1 } ∷ []) start
    ∙ sym (ap (λ (test : Bool). cond (test || false) [] (record { until = first + 0 + (size - 1); weight = 1 } ∷ [])) some)

-- there is one more result
partly_put : (first given : ℕ) (results : List (List Value)) (made : List Value) → given ≤ length (concat results)
    → partly first given (results ++ made ∷ [])
    ≡ groups_with (first + length (concat results)) (length made) 1 (partly first given results)
partly_put first given [] made fits =
    let none : given ≡ 0 = omega arith in
    rw none (put_alone first made)
partly_put first given (result ∷ results) made fits =
    let front : List Group =
    cond (ltb given (length result)) (record { until = first + (length result - 1); weight = 1 } ∷ []) [] in
    let behind_it = partly (first + length result) (given - length result) results in
    let sizes : length (result ++ concat results) ≡ length result + length (concat results) =
    length-append result (concat results) in
    let start : first + length result + length (concat results) ≡ first + length (result ++ concat results) = omega arith in
    ap (λ (groups : List Group). front ++ groups)
    (partly_put (first + length result) (given - length result) results made (omega arith))
    ∙ behind (first + length result + length (concat results)) (length made) 1 front behind_it
    ∙ ap (λ (n : ℕ). groups_with n (length made) 1 (front ++ behind_it)) start

-- one more value is given: so of the first result, by whether it was wholly given before and is now
module _ (first given : ℕ) (result : List Value) (behind_it : ℕ → List Group)
    (later : groups_after (first + length result + (given - length result)) (behind_it (given - length result))
    ≡ behind_it (given - length result + 1)) where
  abbrev group : Group
  group = record { until = first + (length result - 1); weight = 1 }

  one_given : (here next : Bool) → ltb given (length result) ≡ here → ltb (given + 1) (length result) ≡ next
      → groups_after (first + given) (cond here (group ∷ []) [] ++ behind_it (given - length result))
      ≡ cond next (group ∷ []) [] ++ behind_it (given + 1 - length result)
  one_given true true e f =
      let below = ltb-true (given + 1) (length result) f in
      let apart : (group.until == first + given) ≡ false = ne_eqb group.until (first + given) (λ same. omega arith) in
      let none : given - length result ≡ given + 1 - length result = omega arith in
      ap (λ (test : Bool). cond test (behind_it (given - length result)) (group ∷ behind_it (given - length result))) apart
      ∙ ap (λ (n : ℕ). group ∷ behind_it n) none
  one_given true false e f =
      let below = ltb-true given (length result) e in
      let past = ltb-false (given + 1) (length result) f in
      let here : (group.until == first + given) ≡ true = eq-eqb group.until (first + given) (omega arith) in
      let none : given - length result ≡ given + 1 - length result = omega arith in
      ap (λ (test : Bool). cond test (behind_it (given - length result)) (group ∷ behind_it (given - length result))) here
      ∙ ap behind_it none
  one_given false true e f =
      let past = ltb-false given (length result) e in
      let below = ltb-true (given + 1) (length result) f in
      absurd (omega arith)
  one_given false false e f =
      let past = ltb-false given (length result) e in
      let start : first + given ≡ first + length result + (given - length result) = omega arith in
      let more : given - length result + 1 ≡ given + 1 - length result = omega arith in
      ap (λ (n : ℕ). groups_after n (behind_it (given - length result))) start ∙ later ∙ ap behind_it more

partly_given : (first given : ℕ) (results : List (List Value))
    → groups_after (first + given) (partly first given results) ≡ partly first (given + 1) results
partly_given first given [] = refl
partly_given first given (result ∷ results) =
    one_given first given result (λ n. partly (first + length result) n results)
    (partly_given (first + length result) (given - length result) results)
    (ltb given (length result)) (ltb (given + 1) (length result)) refl refl

weight_first : (here : Bool) (until : ℕ) (groups : List Group) (count : ℕ) → weight_of groups ≡ count
    → weight_of (cond here (record { until = until; weight = 1 } ∷ []) [] ++ groups) ≡ cond here 1 0 + count
weight_first true until groups count e = omega arith
weight_first false until groups count e = omega arith

weight_partly : (first given : ℕ) (results : List (List Value))
    → weight_of (partly first given results) ≡ partly_left given results
weight_partly first given [] = refl
weight_partly first given (result ∷ results) =
    weight_first (ltb given (length result)) (first + (length result - 1))
    (partly (first + length result) (given - length result) results)
    (partly_left (given - length result) results)
    (weight_partly (first + length result) (given - length result) results)

pub weight_partial : (capacity : Option ℕ) (given : ℕ) (results : List (List Value)) → is_some capacity ≡ true
    → weight_of (partly_weighed capacity given results) ≡ partly_left given results
weight_partial None given results there = absurd (cc)
weight_partial (Some c) given results there = weight_partly 1 given results

-- For each kind

-- a message is taken
pub weighs_taken : (result : Value → Result (List Value) ℕ) (kind : BlockKind) (capacity : Option ℕ)
    (taken held given left : List Value) (next : ℕ) (groups : List Group) (value : Value)
    → WeighsAs result kind capacity taken held given left next groups
    → WeighsAs result kind capacity (taken ++ value ∷ []) (held ++ value ∷ []) given left next groups
weighs_taken result TransformMany capacity taken held given left next groups value is = record {
  works = record {
    done = is.works.done;
    results = is.works.results;
    taken_is = ap (λ (vs : List Value). vs ++ value ∷ []) is.works.taken_is
        ∙ append_assoc is.works.done held (value ∷ []);
    worked = is.works.worked;
    all = is.works.all;
  };
  groups_are = is.groups_are;
}
weighs_taken result _ capacity taken held given left next groups value is = is

-- the head is given
given_on : (given left : List Value) (value : Value) → first_of left ≡ Some value
    → (given ++ value ∷ []) ++ rest_of left ≡ given ++ left
given_on given [] value head = absurd (cc)
given_on given (first ∷ left) value head =
    let same : value ≡ first = cc in
    append_assoc given (value ∷ []) left ∙ ap (λ (v : Value). given ++ v ∷ left) same

given_by : (capacity : Option ℕ) (next : ℕ) (given : List Value) (value : Value) (results : List (List Value))
    → next ≡ 1 + length given
    → groups_after next (partly_weighed capacity (length given) results)
    ≡ partly_weighed capacity (length (given ++ value ∷ [])) results
given_by None next given value results follows = refl
given_by (Some c) next given value results follows =
    ap (λ (n : ℕ). groups_after n (partly 1 (length given) results)) follows
    ∙ partly_given 1 (length given) results
    ∙ ap (λ (n : ℕ). partly 1 n results) (sym (length-append given (value ∷ [])))

pub weighs_given : (result : Value → Result (List Value) ℕ) (kind : BlockKind) (capacity : Option ℕ)
    (taken held given left : List Value) (next : ℕ) (groups : List Group) (value : Value)
    → next ≡ 1 + length given → first_of left ≡ Some value
    → WeighsAs result kind capacity taken held given left next groups
    → WeighsAs result kind capacity taken held (given ++ value ∷ []) (rest_of left) (next + 1) (groups_after next groups)
weighs_given result TransformMany capacity taken held given left next groups value follows head is = record {
  works = record {
    done = is.works.done;
    results = is.works.results;
    taken_is = is.works.taken_is;
    worked = is.works.worked;
    all = given_on given left value head ∙ is.works.all;
  };
  groups_are = rw is.groups_are (given_by capacity next given value is.works.results follows);
}
weighs_given result Batch capacity taken held given left next groups value follows head is =
    rw is (rows_given capacity next left)
weighs_given result _ capacity taken held given left next groups value follows head is =
    rw is (groups_given capacity next left)

-- a result is put
or_true : (b : Bool) → b || true ≡ true
or_true true = refl
or_true false = refl

put_by : (capacity : Option ℕ) (next : ℕ) (given left : List Value) (results : List (List Value)) (made : List Value)
    → next ≡ 1 + length given → given ++ left ≡ concat results
    → groups_with (next + length left) (length made) (unit_weight capacity) (partly_weighed capacity (length given) results)
    ≡ partly_weighed capacity (length given) (results ++ made ∷ [])
put_by None next given left results made follows all =
    ap (λ (none : Bool). cond none [] (record { until = next + length left + (length made - 1); weight = 0 } ∷ []))
    (or_true (length made == 0))
put_by (Some c) next given left results made follows all =
    let sizes : length (given ++ left) ≡ length given + length left = length-append given left in
    let whole : length (given ++ left) ≡ length (concat results) = ap length all in
    let start : next + length left ≡ 1 + length (concat results) = omega arith in
    ap (λ (n : ℕ). groups_with n (length made) 1 (partly 1 (length given) results)) start
    ∙ sym (partly_put 1 (length given) results made (omega arith))

pub weighs_many : (result : Value → Result (List Value) ℕ) (capacity : Option ℕ)
    (taken rest given left : List Value) (next : ℕ) (groups : List Group) (value : Value) (made : List Value)
    → result value ≡ Ok made → next ≡ 1 + length given
    → WeighsAs result TransformMany capacity taken (value ∷ rest) given left next groups
    → WeighsAs result TransformMany capacity taken rest given (left ++ made) next
    (groups_with (next + length left) (length made) (unit_weight capacity) groups)
weighs_many result capacity taken rest given left next groups value made e follows is = record {
  works = record {
    done = is.works.done ++ value ∷ [];
    results = is.works.results ++ made ∷ [];
    taken_is = is.works.taken_is ∙ sym (append_assoc is.works.done (value ∷ []) rest);
    worked = results_more result is.works.done is.works.results value made is.works.worked e;
    all = sym (append_assoc given left made) ∙ ap (λ (vs : List Value). vs ++ made) is.works.all
        ∙ sym (concat_more is.works.results made);
  };
  groups_are = rw is.groups_are (put_by capacity next given left is.works.results made follows is.works.all);
}

-- its results are of any number
abbrev pub is_many : BlockKind → Bool
is_many TransformMany = true
is_many _ = false

pub weighs_one : (result : Value → Result (List Value) ℕ) (kind : BlockKind) (capacity : Option ℕ)
    (taken held rest given left : List Value) (next : ℕ) (groups : List Group) (made : List Value)
    → is_many kind ≡ false → is_batch kind ≡ false → length made ≡ 1
    → WeighsAs result kind capacity taken held given left next groups
    → WeighsAs result kind capacity taken rest given (left ++ made) next
    (groups_with (next + length left) (length made) (unit_weight capacity) groups)
weighs_one result TransformMany capacity taken held rest given left next groups made other single one is = absurd (cc)
weighs_one result Batch capacity taken held rest given left next groups made other single one is = absurd (cc)
weighs_one result _ capacity taken held rest given left next groups made other single one is =
    rw is (groups_put capacity next left made one)
