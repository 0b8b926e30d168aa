-- One more message is worked on.
use Rattle.std.proofs.Common.{◌≡◌, ℕ, List, [], ◌∷◌, ◌++◌, Option, Some, None, Result, Ok, Err, refl, ap, sym, ◌∙◌, append-nil, append_assoc}
use Rattle.flow_value.specs.declared.value.Value.{Value}
use Rattle.flow_link.specs.Lists.{concat}
use Rattle.flow_link.specs.Making.{results_of, with_result}
use Rattle.flow_link.specs.Worked.{WorkedInto}

one_result : (result : Value → Result (List Value) ℕ) (value : Value) (made : List Value) → result value ≡ Ok made → results_of result (value ∷ []) ≡ Some (made ∷ [])
one_result result value made e = ap (λ (r : Result (List Value) ℕ). with_result r (Some [])) e

with_more : (r : Result (List Value) ℕ) (before : Option (List (List Value))) (all : List (List Value)) (more : List (List Value)) (after : Option (List (List Value)))
    → with_result r before ≡ Some all → ((firsts : List (List Value)) → before ≡ Some firsts → after ≡ Some (firsts ++ more)) → with_result r after ≡ Some (all ++ more)
with_more (Ok values) (Some firsts) all more after e rest =
    let same : values ∷ firsts ≡ all = cc in
    ap (with_result (Ok values)) (rest firsts refl) ∙ ap (λ (a : List (List Value)). Some (a ++ more)) same
with_more (Ok values) None all more after e rest = absurd (cc)
with_more (Err n) before all more after e rest = absurd (cc)

pub results_more : (result : Value → Result (List Value) ℕ) (done : List Value) (results : List (List Value)) (value : Value) (made : List Value)
    → results_of result done ≡ Some results → result value ≡ Ok made → results_of result (done ++ value ∷ []) ≡ Some (results ++ made ∷ [])
results_more result [] results value made e is =
    let none : [] ≡ results = cc in
    one_result result value made is ∙ ap (λ (rs : List (List Value)). Some (rs ++ made ∷ [])) none
results_more result (first ∷ done) results value made e is =
    with_more (result first) (results_of result done) results (made ∷ []) (results_of result (done ++ value ∷ [])) e
    (λ firsts so. results_more result done firsts value made so is)

pub concat_more : (results : List (List Value)) (made : List Value) → concat (results ++ made ∷ []) ≡ concat results ++ made
concat_more [] made = append-nil made
concat_more (first ∷ results) made = ap (λ (vs : List Value). first ++ vs) (concat_more results made) ∙ sym (append_assoc first (concat results) made)

-- one more message is worked on
pub worked_more : (result : Value → Result (List Value) ℕ) (taken : List Value) (value : Value) (rest before made : List Value)
    → result value ≡ Ok made → WorkedInto result taken (value ∷ rest) before → WorkedInto result taken rest (before ++ made)
worked_more result taken value rest before made is so_far = record {
  done = so_far.done ++ value ∷ [];
  results = so_far.results ++ made ∷ [];
  taken_is = so_far.taken_is ∙ sym (append_assoc so_far.done (value ∷ []) rest);
  worked = results_more result so_far.done so_far.results value made so_far.worked is;
  all = ap (λ (vs : List Value). vs ++ made) so_far.all ∙ sym (concat_more so_far.results made);
}
