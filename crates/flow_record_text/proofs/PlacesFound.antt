-- A map into which the names of inputs are put, one by one, finds each input by its name, and nothing by another.
use Rattle.std.proofs.Common.{◌≡◌, ◌<◌, ◌+◌, ◌∙◌, ℕ, zero, suc, Bool, true, false, List, [], length, get_or, Option, Some, None, Bor, refl, sym, ap, cond, arith, Result, Ok, Err, OnOk}
use Rattle.std.specs.HashMap.{HashMap, UpdatesBy}
use Rattle.std.specs.Result.{is_ok}
use Rattle.std.specs.Str.{bytes_eq}
use Rattle.std.proofs.lemmas.List.Quantifiers.{position-Some}
use Rattle.std.proofs.lemmas.Map.Text.{hash_map_updates_str}
use Rattle.std.proofs.lemmas.Slice.Eq.{bytes_eq-Decides}
use Rattle.flow_record_text.specs.Places.{place_in, FindsInputs}
use Rattle.flow_record_text.specs.Records.{AllDiffer, input_named}

wrong : false ≡ true → ⊥
wrong same = cc

-- what is said of a call that went well
pub on_ok : {A E : Type 0} {P : Type 0} (result : Result A E) → is_ok result ≡ true → OnOk result P → P
on_ok (Ok a) good is = is
on_ok (Err e) good is = absurd (wrong good)

not-last : (i place : ℕ) → i < place + 1 → (i ≡ place → ⊥) → i < place
not-last zero zero low other = absurd (other refl)
not-last zero (suc place) low other = omega arith
not-last (suc i) zero low other = absurd (omega (arith, low))
not-last (suc i) (suc place) low other = omega (arith, not-last i place (omega (arith, low)) (λ same. other (ap suc same)))

module _ {S : Type 0} (names : List (List ℕ)) where
  -- what a map finds is the input with that name
  abbrev pub IsRight : HashMap (Bor (List ℕ)) ℕ S → Type 0
  IsRight places = (name : List ℕ) (place : ℕ) → place_in places name ≡ Some place → input_named names name ≡ Some place

  -- it finds the first inputs, so many
  abbrev pub FindsFirst : HashMap (Bor (List ℕ)) ℕ S → ℕ → Type 0
  FindsFirst places count = (place : ℕ) → place < count → place_in places (get_or names place []) ≡ Some place

  -- one name more is put there
  module _ (old new : HashMap (Bor (List ℕ)) ℕ S) (key : List ℕ) (place : ℕ) (differ : AllDiffer names) (low : place < length names)
      (is : key ≡ get_or names place []) (updates : UpdatesBy (λ x y. bytes_eq x.now y.now) (λ k. bytes_eq key k.now) old new (Some place)) where
    found : (name : List ℕ) → place_in new name ≡ cond (bytes_eq key name) (Some place) (place_in old name)
    found name = hash_map_updates_str key old new (Some place) updates name

    right-at : (name : List ℕ) (i : ℕ) (same : Bool) → bytes_eq key name ≡ same → cond same (Some place) (place_in old name) ≡ Some i
        → IsRight old → input_named names name ≡ Some i
    right-at name i true same there right = ap (input_named names) (sym ((bytes_eq-Decides key name).0 same) ∙ is) ∙ differ place low ∙ there
    right-at name i false same there right = right name i there

    pub right-more : IsRight old → IsRight new
    right-more right name i there = right-at name i (bytes_eq key name) refl (sym (found name) ∙ there) right

    first-at : (i : ℕ) (same : Bool) → bytes_eq key (get_or names i []) ≡ same → i < place + 1 → FindsFirst old place
        → cond same (Some place) (place_in old (get_or names i [])) ≡ Some i
    first-at i true same within first =
        sym (differ place low) ∙ ap (input_named names) (sym is ∙ (bytes_eq-Decides key (get_or names i [])).0 same) ∙ differ i (omega (arith, low, within))
    first-at i false same within first =
        first i (not-last i place within (λ last. wrong (sym same ∙ (bytes_eq-Decides key (get_or names i [])).1 (is ∙ ap (λ at. get_or names at []) (sym last)))))

    pub first-more : FindsFirst old place → FindsFirst new (place + 1)
    first-more first i within = found (get_or names i []) ∙ first-at i (bytes_eq key (get_or names i [])) refl within first

  -- all are there
  pub all-found : (places : HashMap (Bor (List ℕ)) ℕ S) → IsRight places → FindsFirst places (length names) → FindsInputs places names
  all-found places right first name = of (place_in places name) refl
    where
      none : (there : Option ℕ) → input_named names name ≡ there → place_in places name ≡ None → None ≡ there
      none None there is = refl
      none (Some i) there is =
          let at = position-Some (λ other. bytes_eq other name) names i [] there in
          sym is ∙ ap (place_in places) (sym ((bytes_eq-Decides (get_or names i []) name).0 at.1)) ∙ first i at.0

      of : (there : Option ℕ) → place_in places name ≡ there → place_in places name ≡ input_named names name
      of (Some i) there = there ∙ sym (right name i there)
      of None there = there ∙ none (input_named names name) refl there
