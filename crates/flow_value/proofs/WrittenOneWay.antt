-- A text is written in one way at most, as a name and a number behind it.
use Rattle.std.proofs.Common.{◌≡◌, ℕ, zero, suc, ◌<◌, ◌≤◌, ◌+◌, take, List, [], ◌∷◌, ◌++◌, length, get_or, Option, Some, None, Ok, refl, sym, ap, ◌∙◌, arith, length-append, ℤ, subst, map, Bor}
use Rattle.std.proofs.Math.Seq.{get_or-append_seam}
use Rattle.std.proofs.lemmas.List.{length-map, get_or-map, get_or-take, length-take-le, take_more}
use Rattle.flow_value.specs.Grammar.{HasNoSpace, IsWritten, Spells, AllSpelled, IsFirstBad}
use Rattle.flow_value.specs.Number.{int_of}
use Rattle.flow_value.specs.declared.step.Step.{Step}

no_space-tail : (c : ℕ) (name : List ℕ) → HasNoSpace (c ∷ name) → HasNoSpace name
no_space-tail c name h i within e = h (suc i) (omega arith) e

-- a text with a space in it has one
space_in : (text head tail : List ℕ) → text ≡ head ++ 32 ∷ tail → HasNoSpace text → ⊥
space_in text head tail parts none =
    let longer : length text ≡ length head + suc (length tail) = ap length parts ∙ length-append head (32 ∷ tail) in
    none (length head) (omega arith) (ap (λ t. get_or t (length head) 0) parts ∙ get_or-append_seam head 32 tail 0)

same_parts : (head name tail digits : List ℕ) → HasNoSpace head → HasNoSpace name
    → head ++ 32 ∷ tail ≡ name ++ 32 ∷ digits → (name ≡ head) × (digits ≡ tail)
same_parts [] [] tail digits h n e = (refl, cc)
same_parts [] (c ∷ name) tail digits h n e = absurd (n 0 (omega arith) cc)
same_parts (c ∷ head) [] tail digits h n e = absurd (h 0 (omega arith) cc)
same_parts (c ∷ head) (d ∷ name) tail digits h n e =
    let first : d ≡ c = cc in
    let others : head ++ 32 ∷ tail ≡ name ++ 32 ∷ digits = cc in
    let rest = same_parts head name tail digits (no_space-tail c head h) (no_space-tail d name n) others in
    let same : name ≡ head = rest.0 in
    (cc, rest.1)

-- a text with no space is a name alone
pub only_name : (text : List ℕ) → HasNoSpace text
    → (name : List ℕ) (number : Option ℤ) → HasNoSpace name → IsWritten text name number → (name ≡ text) × (number ≡ None)
only_name text none name None no_space e = (sym e, refl)
only_name text none name (Some n) no_space w = absurd (space_in text name w.0 w.1 none)

-- a text with a space is the name before it, and the number behind it
pub only_split : (text head tail : List ℕ) → text ≡ head ++ 32 ∷ tail → HasNoSpace head
    → (name : List ℕ) (number : Option ℤ) → HasNoSpace name → IsWritten text name number
    → (name ≡ head) × ((n : ℤ) × (number ≡ Some n) × (int_of tail ≡ Ok n))
only_split text head tail parts none name None no_space e = absurd (space_in text head tail parts (subst HasNoSpace (sym e) no_space))
only_split text head tail parts none name (Some n) no_space w =
    let same = same_parts head name tail w.0 none no_space (sym parts ∙ w.1) in
    (same.0, (n, refl, ap int_of (sym same.1) ∙ w.2))

pub AllSpelled-push : (texts : List (List ℕ)) (steps : List Step) (text : List ℕ) (step : Step)
    → AllSpelled texts steps → Spells text step → AllSpelled (texts ++ text ∷ []) (steps ++ step ∷ [])
AllSpelled-push [] [] text step all spells = (spells, tt)
AllSpelled-push [] (s ∷ steps) text step all spells = absurd all
AllSpelled-push (t ∷ texts) [] text step all spells = absurd all
AllSpelled-push (t ∷ texts) (s ∷ steps) text step all spells = (all.0, AllSpelled-push texts steps text step all.1 spells)

pub AllSpelled-at : (texts : List (List ℕ)) (steps : List Step) (i : ℕ)
    → AllSpelled texts steps → i < length texts → (step : Step) × Spells (get_or texts i []) step
AllSpelled-at [] steps i all within = absurd (omega arith)
AllSpelled-at (t ∷ texts) [] i all within = absurd all
AllSpelled-at (t ∷ texts) (s ∷ steps) zero all within = (s, all.0)
AllSpelled-at (t ∷ texts) (s ∷ steps) (suc i) all within = AllSpelled-at texts steps i all.1 (omega arith)

-- the texts before a place are steps, and stand among the sixteen
pub fine_before-place : (texts : List (List ℕ)) (steps : List Step) (place : ℕ)
    → AllSpelled (take place texts) steps → place ≤ 16 → place ≤ length texts
    → (i : ℕ) → i < place → (i < 16) × ((step : Step) × Spells (get_or texts i []) step)
fine_before-place texts steps place all few within i before =
    let longer : length (take place texts) ≡ place = length-take-le place texts within in
    let at = AllSpelled-at (take place texts) steps i all (omega arith) in
    (omega arith, (at.0, subst (λ text. Spells text at.0) (get_or-take place texts i [] before) at.1))

module _ (texts : List (Bor (List ℕ))) (steps : List Step) (place : ℕ)
    (within : place < length texts) (few : place ≤ 16)
    (all : AllSpelled (take place (map (λ text. text.now) texts)) steps) where
  text_at : (d : Bor (List ℕ)) → get_or (map (λ text. text.now) texts) place [] ≡ (get_or texts place d).now
  text_at d = get_or-map (λ text. text.now) texts place d [] within

  -- what stands behind the sixteenth is bad
  pub too_many : 16 ≤ place → IsFirstBad (map (λ text. text.now) texts) place
  too_many many =
      let longer : length (map (λ text. text.now) texts) ≡ length texts = length-map texts (λ text. text.now) in
      record {
        within = omega arith;
        bad = λ room step spells. absurd (omega arith);
        fine_before = fine_before-place (map (λ text. text.now) texts) steps place all few (omega arith);
      }

  pub no_step : (d : Bor (List ℕ)) → ((step : Step) → Spells ((get_or texts place d).now) step → ⊥)
      → IsFirstBad (map (λ text. text.now) texts) place
  no_step d bad =
      let longer : length (map (λ text. text.now) texts) ≡ length texts = length-map texts (λ text. text.now) in
      record {
        within = omega arith;
        bad = λ room step spells. bad step (subst (λ text. Spells text step) (text_at d) spells);
        fine_before = fine_before-place (map (λ text. text.now) texts) steps place all few (omega arith);
      }

  pub one_more_step : (d : Bor (List ℕ)) (step : Step) → Spells ((get_or texts place d).now) step
      → AllSpelled (take (place + 1) (map (λ text. text.now) texts)) (steps ++ step ∷ [])
  one_more_step d step spells =
      let longer : length (map (λ text. text.now) texts) ≡ length texts = length-map texts (λ text. text.now) in
      let more = take_more (map (λ text. text.now) texts) place [] (omega arith) in
      let pushed = AllSpelled-push (take place (map (λ text. text.now) texts)) steps (get_or (map (λ text. text.now) texts) place []) step all
      (subst (λ text. Spells text step) (sym (text_at d)) spells) in
      subst (λ some. AllSpelled some (steps ++ step ∷ [])) (sym more) pushed
