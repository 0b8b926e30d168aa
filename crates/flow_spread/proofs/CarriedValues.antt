-- Parts of lists, and what a link carries of one element more.
use Rattle.std.proofs.Common.{◌≡◌, ℕ, ◌<◌, zero, suc, cond, Bool, true, false, List, [], ◌∷◌, ◌++◌, length, take, filter, Option, Some, None, refl, sym, ◌∙◌, ap, arith, append_assoc, is_some}
use Rattle.std.specs.Option.{ForSome}
use Rattle.std.proofs.lemmas.Bool.Decides.{nat_tests}
use Rattle.std.proofs.lemmas.List.{append-nil, length-append}
use Rattle.std.proofs.lemmas.List.Elements.{filter-append}
use Rattle.flow_value.specs.When.{admits}
use Rattle.flow_value.specs.declared.value.Value.{Value}
use Rattle.flow_link.specs.Copies.{up_to}
use Rattle.flow_link.specs.LinkOk.{HasRoom}
use Rattle.flow_outlet.specs.End.{is_limit}
use Rattle.flow_outlet.specs.Outlet.{first_of}
use Rattle.flow_outlet.specs.declared.ends.LinkRule.{LinkRule}
use Rattle.flow_spread.specs.Copied.{pick, IsPartOf, IsFrontOf, carried}

-- Parts

pick_more : (chosen : List Bool) (values : List Value) (takes : Bool) (value : Value) → length chosen ≡ length values
    → pick (chosen ++ takes ∷ []) (values ++ value ∷ []) ≡ pick chosen values ++ cond takes (value ∷ []) []
pick_more [] [] true value e = refl
pick_more [] [] false value e = refl
pick_more [] (v ∷ values) takes value e = absurd (omega arith)
pick_more (b ∷ chosen) [] takes value e = absurd (omega arith)
pick_more (true ∷ chosen) (v ∷ values) takes value e =
    ap (λ (vs : List Value). v ∷ vs) (pick_more chosen values takes value (let less : length chosen ≡ length values = omega (arith, e) in less))
pick_more (false ∷ chosen) (v ∷ values) takes value e =
    pick_more chosen values takes value (let less : length chosen ≡ length values = omega (arith, e) in less)

one_more_each : (chosen : List Bool) (values : List Value) (takes : Bool) (value : Value) → length chosen ≡ length values
    → length (chosen ++ takes ∷ []) ≡ length (values ++ value ∷ [])
one_more_each chosen values takes value e =
    omega (arith, e, length-append chosen (takes ∷ []), length-append values (value ∷ []))

-- one element more is in the part, or not
pub part_with : {part whole : List Value} (value : Value) → IsPartOf part whole → IsPartOf (part ++ value ∷ []) (whole ++ value ∷ [])
part_with {whole} value of = record {
  chosen = of.chosen ++ true ∷ [];
  one_each = one_more_each of.chosen whole true value of.one_each;
  is = pick_more of.chosen whole true value of.one_each ∙ ap (λ (vs : List Value). vs ++ value ∷ []) of.is;
}

pub part_without : {part whole : List Value} (value : Value) → IsPartOf part whole → IsPartOf part (whole ++ value ∷ [])
part_without {part} {whole} value of = record {
  chosen = of.chosen ++ false ∷ [];
  one_each = one_more_each of.chosen whole false value of.one_each;
  is = pick_more of.chosen whole false value of.one_each ∙ append-nil (pick of.chosen whole) ∙ of.is;
}

pub no_part : IsPartOf [] []
no_part = record { chosen = []; one_each = refl; is = refl }

-- What is carried

take_full : (n : ℕ) (xs ys : List Value) → length (take n xs) ≡ n → take n (xs ++ ys) ≡ take n xs
take_full zero xs ys e = refl
take_full (suc n) [] ys e = absurd (omega arith)
take_full (suc n) (x ∷ xs) ys e = ap (λ (vs : List Value). x ∷ vs) (take_full n xs ys (let less : length (take n xs) ≡ n = omega (arith, e) in less))

take_room : (n : ℕ) (xs : List Value) (y : Value) → length (take n xs) < n → take n (xs ++ y ∷ []) ≡ take n xs ++ y ∷ []
take_room zero xs y l = absurd (omega arith)
take_room (suc zero) [] y l = refl
take_room (suc (suc n)) [] y l = refl
take_room (suc n) (x ∷ xs) y l = ap (λ (vs : List Value). x ∷ vs) (take_room n xs y (let less : length (take n xs) < n = omega (arith, l) in less))

take_front : (n : ℕ) (xs ys : List Value) → IsFrontOf (take n xs) (take n (xs ++ ys))
take_front zero xs ys = record { rest = []; is = refl }
take_front (suc n) [] ys = record { rest = take (suc n) ys; is = refl }
take_front (suc n) (x ∷ xs) ys =
    let front = take_front n xs ys in
    record { rest = front.rest; is = ap (λ (vs : List Value). x ∷ vs) front.is }

only : (test : Value → Bool) (value : Value) (b : Bool) → test value ≡ b → filter test (value ∷ []) ≡ cond b (value ∷ []) []
only test value true e = rw e refl
only test value false e = rw e refl

filter_with : (rule : LinkRule) (elements : List Value) (value : Value) (b : Bool) → admits rule.when value ≡ b
    → filter (admits rule.when) (elements ++ value ∷ []) ≡ filter (admits rule.when) elements ++ cond b (value ∷ []) []
filter_with rule elements value b e =
    filter-append (admits rule.when) elements (value ∷ [])
    ∙ ap (λ (vs : List Value). filter (admits rule.when) elements ++ vs) (only (admits rule.when) value b e)

pub carried_skips : (rule : LinkRule) (elements : List Value) (value : Value) → admits rule.when value ≡ false
    → carried rule (elements ++ value ∷ []) ≡ carried rule elements
carried_skips rule elements value e =
    ap (up_to rule.max) (filter_with rule elements value false e ∙ append-nil (filter (admits rule.when) elements))

full_then : (max : Option ℕ) (count : ℕ) (xs ys : List Value) → is_limit max count ≡ true
    → ForSome max (λ _. count ≡ length (up_to max xs)) → up_to max (xs ++ ys) ≡ up_to max xs
full_then None count xs ys full counted = cc
full_then (Some m) count xs ys full counted =
    let same : count ≡ m = grind (arith, nat_tests) in
    take_full m xs ys (sym (counted m refl) ∙ same)

pub carried_cut : (rule : LinkRule) (count : ℕ) (elements : List Value) (value : Value) → is_limit rule.max count ≡ true
    → ForSome rule.max (λ _. count ≡ length (carried rule elements)) → carried rule (elements ++ value ∷ []) ≡ carried rule elements
carried_cut rule count elements value full counted =
    ap (up_to rule.max) (filter-append (admits rule.when) elements (value ∷ []))
    ∙ full_then rule.max count (filter (admits rule.when) elements) (filter (admits rule.when) (value ∷ [])) full counted

room_then : (max : Option ℕ) (count : ℕ) (xs : List Value) (y : Value) → HasRoom max count
    → ForSome max (λ _. count ≡ length (up_to max xs)) → up_to max (xs ++ y ∷ []) ≡ up_to max xs ++ y ∷ []
room_then None count xs y room counted = refl
room_then (Some m) count xs y room counted =
    let same : count ≡ length (take m xs) = counted m refl in
    take_room m xs y (let less : length (take m xs) < m = omega (arith, room) in less)

pub carried_adds : (rule : LinkRule) (count : ℕ) (elements : List Value) (value : Value) → admits rule.when value ≡ true
    → HasRoom rule.max count → ForSome rule.max (λ _. count ≡ length (carried rule elements))
    → carried rule (elements ++ value ∷ []) ≡ carried rule elements ++ value ∷ []
carried_adds rule count elements value e room counted =
    ap (up_to rule.max) (filter_with rule elements value true e)
    ∙ room_then rule.max count (filter (admits rule.when) elements) value room counted

front_then : (max : Option ℕ) (xs ys : List Value) → IsFrontOf (up_to max xs) (up_to max (xs ++ ys))
front_then None xs ys = record { rest = ys; is = refl }
front_then (Some m) xs ys = take_front m xs ys

pub front_more : (rule : LinkRule) (given elements more : List Value) → IsFrontOf given (carried rule elements)
    → IsFrontOf given (carried rule (elements ++ more))
front_more rule given elements more front =
    let test = admits rule.when in
    let next = front_then rule.max (filter test elements) (filter test more) in
    record {
      rest = front.rest ++ next.rest;
      is = sym (append_assoc given front.rest next.rest) ∙ ap (λ (vs : List Value). vs ++ next.rest) front.is ∙ next.is
          ∙ ap (up_to rule.max) (sym (filter-append test elements more));
    }

pub front_same : (given whole : List Value) → given ≡ whole → IsFrontOf given whole
front_same given whole e = record { rest = []; is = append-nil given ∙ e }

-- The first that is carried

first_front : (front whole : List Value) → IsFrontOf front whole → is_some (first_of front) ≡ true → first_of whole ≡ first_of front
first_front [] whole of some = cc
first_front (v ∷ front) whole of some = sym (ap first_of of.is)

-- where one is carried, it stays the first
pub first_more : (rule : LinkRule) (elements more : List Value) → is_some (first_of (carried rule elements)) ≡ true
    → first_of (carried rule (elements ++ more)) ≡ first_of (carried rule elements)
first_more rule elements more some =
    first_front (carried rule elements) (carried rule (elements ++ more))
    (front_more rule (carried rule elements) elements more (front_same (carried rule elements) (carried rule elements) refl)) some

pub first_dropped : (rule : LinkRule) (older given more : List Value) (owes : Bool)
    → first_of given ≡ first_of (carried rule (older ++ cond owes [] more)) → is_some (first_of given) ≡ true
    → first_of given ≡ first_of (carried rule (older ++ more))
first_dropped rule older given more false e some = e
first_dropped rule older given more true e some =
    let same : first_of given ≡ first_of (carried rule older) = e ∙ ap (λ (vs : List Value). first_of (carried rule vs)) (append-nil older) in
    same ∙ sym (first_more rule older more (sym (ap is_some same) ∙ some))

none_first : (values : List Value) → first_of values ≡ None → values ≡ []
none_first [] e = refl
none_first (v ∷ values) e = cc

first_room : (max : Option ℕ) (count : ℕ) (values : List Value) (value : Value) → HasRoom max count → up_to max values ≡ []
    → first_of (up_to max (values ++ value ∷ [])) ≡ Some value
first_room None count values value room e = rw e refl
first_room (Some zero) count values value room e = absurd (omega (arith, room))
first_room (Some (suc m)) count [] value room e = refl
first_room (Some (suc m)) count (v ∷ values) value room e = cc

-- where none was carried, the next is the first
pub first_is : (rule : LinkRule) (count : ℕ) (elements : List Value) (value : Value) → admits rule.when value ≡ true
    → HasRoom rule.max count → first_of (carried rule elements) ≡ None → first_of (carried rule (elements ++ value ∷ [])) ≡ Some value
first_is rule count elements value e room none =
    ap (λ (vs : List Value). first_of (up_to rule.max vs)) (filter_with rule elements value true e)
    ∙ first_room rule.max count (filter (admits rule.when) elements) value room (none_first (carried rule elements) none)

none_of_none : (max : Option ℕ) (count : ℕ) (values : List Value) → is_limit max count ≡ true → ForSome max (λ _. count ≡ zero)
    → up_to max values ≡ []
none_of_none None count values full counted = cc
none_of_none (Some m) count values full counted =
    let zero_is : m ≡ 0 = (let none : count ≡ 0 = counted m refl in grind (arith, nat_tests)) in
    rw zero_is refl

-- a link that has carried its limit has its first
pub first_cut : (rule : LinkRule) (count : ℕ) (given elements more : List Value) → is_limit rule.max count ≡ true
    → ForSome rule.max (λ _. count ≡ length given) → first_of given ≡ first_of (carried rule elements)
    → first_of given ≡ first_of (carried rule (elements ++ more))
first_cut rule count [] elements more full counted e =
    sym (ap first_of (none_of_none rule.max count (filter (admits rule.when) (elements ++ more)) full counted))
first_cut rule count (v ∷ given) elements more full counted e =
    e ∙ sym (first_more rule elements more (sym (ap is_some e)))
