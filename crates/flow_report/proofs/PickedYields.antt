-- Which values an iterator gives that picks some of what another gives.
use Rattle.std.proofs.Common.{◌≡◌, refl, sym, ap, ◌∙◌, subst, List, [], ◌∷◌, ◌++◌, Option, Some, None}
use Rattle.std.proofs.lemmas.Iterator.{YieldsList}
use Rattle.std.specs.Iterator.{AlwaysYields, Yields}
use Rattle.std.specs.Iterator.Adapters.{filter_map_source, filter_map_callee, filter_map_steps}
use Rattle.std.specs.declared.iter.FilterMap.{FilterMap}
use Rattle.std.specs.Fn.{Mut, Called}
use Rattle.std.specs.List.{FoldsTo}
use Rattle.std.specs.Option.{MatchOption, IsSome, option_map, option_to_list}

module _ {S A B C D F : Type 0} (steps : S → Option A → S → Type 0) (v : A → B) (w : C → D) (g : Mut F (A × Unit {0}) (Option C)) (picked : List B → List D) (f : F)
    (nothing : picked [] ≡ [])
    (k : (x : A) (r : Option C) (q : F) → Called g f (x, tt) r q → (q ≡ f) × ((ys : List B) → picked (v x ∷ ys) ≡ option_to_list (option_map w r) ++ picked ys)) where
  -- after the last item there is none
  ended : (more : List B) (t u : S) → AlwaysYields steps v t more → steps t None u → more ≡ []
  ended [] t u gives step = refl
  ended (y ∷ ys) t u gives step = absurd (gives.0 u step)

  -- an item that comes is the first of those that are left
  went_on : (more : List B) (t u : S) (x : A) → AlwaysYields steps v t more → steps t (Some x) u → (ys : List B) × (more ≡ v x ∷ ys) × AlwaysYields steps v u ys
  went_on [] t u x gives step = absurd (gives x u step)
  went_on (y ∷ ys) t u x gives step = (ys, ap (λ first. first ∷ ys) (sym (gives.1 x u step).0), (gives.1 x u step).1)

  -- what is passed over adds nothing
  passed_over : (xs : List A) (ys : List B) (s t : S) (p q : F) → p ≡ f → AlwaysYields steps v s ys → Yields steps s xs t → FoldsTo (λ p x q. Called g p (x, tt) None q) p xs q
      → (more : List B) × (q ≡ f) × (picked ys ≡ picked more) × AlwaysYields steps v t more
  passed_over [] ys s t p q same gives ran calls = (ys, sym calls ∙ same, refl, subst (λ u. AlwaysYields steps v u ys) ran gives)
  passed_over (x ∷ xs) [] s t p q same gives ran calls = absurd (gives x ran.0 ran.1)
  passed_over (x ∷ xs) (y ∷ ys) s t p q same gives ran calls =
      let first = gives.1 x ran.0 ran.1 in
      let call = k x None calls.0 (subst (λ u. Called g u (x, tt) None calls.0) same calls.1) in
      let rest = passed_over xs ys ran.0 t calls.0 q call.0 first.1 ran.2 calls.2 in
      (rest.0, rest.1, ap (λ u. picked (u ∷ ys)) (sym first.0) ∙ call.1 ys ∙ rest.2, rest.3)

  -- a value comes: it is the first of those that are left
  comes : (more : List B) (t u : S) (p q : F) (y : C) (o : Option A) → p ≡ f → AlwaysYields steps v t more → steps t o u
      → MatchOption o ((Some y ≡ None) × (q ≡ p)) (λ x. Called g p (x, tt) (Some y) q × IsSome (Some y))
      → (zs : List B) × (q ≡ f) × (picked more ≡ w y ∷ picked zs) × AlwaysYields steps v u zs
  comes more t u p q y None same gives step match = absurd (let none = match.0 in cc)
  comes more t u p q y (Some x) same gives step match =
      let next = went_on more t u x gives step in
      let call = k x (Some y) q (subst (λ c. Called g c (x, tt) (Some y) q) same match.0) in
      (next.0, call.0, ap picked next.1 ∙ call.1 next.0, next.2)

  next_comes : (ys : List B) (s j : FilterMap S F) (y : C) → filter_map_callee s ≡ f → AlwaysYields steps v (filter_map_source s) ys → filter_map_steps steps g s (Some y) j
      → (zs : List B) × (filter_map_callee j ≡ f) × (picked ys ≡ w y ∷ picked zs) × AlwaysYields steps v (filter_map_source j) zs
  next_comes ys s j y same gives step =
      let over = passed_over step.0 ys (filter_map_source s) step.3.0 (filter_map_callee s) step.2 same gives step.3.1 step.4 in
      let one = comes over.0 step.3.0 (filter_map_source j) step.2 (filter_map_callee j) y step.1 over.1 over.3 step.3.2 step.5 in
      (one.0, one.1, over.2 ∙ one.2, one.3)

  ends : (more : List B) (t u : S) (P : Type 0) (Q : A → Type 0) (R : Type 0) (o : Option A) → (R → more ≡ []) → AlwaysYields steps v t more → steps t o u → MatchOption o P (λ x. Q x × R) → more ≡ []
  ends more t u P Q R None never gives step match = ended more t u gives step
  ends more t u P Q R (Some x) never gives step match = never match.1

  yields_picked : (zs : List D) (ys : List B) (s : FilterMap S F) → filter_map_callee s ≡ f → picked ys ≡ zs → AlwaysYields steps v (filter_map_source s) ys
      → AlwaysYields (filter_map_steps steps g) w s zs
  yields_picked [] ys s same all gives = λ y j step. let one = next_comes ys s j y same gives step in absurd (let none = sym one.2 ∙ all in cc)
  yields_picked (z ∷ zs) ys s same all gives = (
    (λ j step.
        let over = passed_over step.0 ys (filter_map_source s) step.3.0 (filter_map_callee s) step.2 same gives step.3.1 step.4 in
        let none : over.0 ≡ [] = ends over.0 step.3.0 (filter_map_source j) _ _ _ step.1 (λ none. absurd (let false_is_true = none in cc)) over.3 step.3.2 step.5 in
        let empty : z ∷ zs ≡ [] = sym all ∙ over.2 ∙ ap picked none ∙ nothing in
        absurd (let nil = empty in cc)),
    λ y j step.
        let one = next_comes ys s j y same gives step in
        let whole : z ∷ zs ≡ w y ∷ picked one.0 = sym all ∙ one.2 in
        ((let same_list = whole in cc), yields_picked zs one.0 j one.1 (let same_list = whole in cc) one.3),
  )

-- the values that come are those that are picked
pub picked_yields : {S A B C D F : Type 0} {steps : S → Option A → S → Type 0} {v : A → B} {ys : List B} {s : FilterMap S F} {f : F} (w : C → D) (g : Mut F (A × Unit {0}) (Option C)) (picked : List B → List D)
    → YieldsList steps v (filter_map_source s) ys → filter_map_callee s ≡ f → picked [] ≡ []
    → ((x : A) (r : Option C) (q : F) → Called g f (x, tt) r q → (q ≡ f) × ((more : List B) → picked (v x ∷ more) ≡ option_to_list (option_map w r) ++ picked more))
    → YieldsList (filter_map_steps steps g) w s (picked ys)
picked_yields {steps = steps} {v = v} {ys = ys} {s = s} {f = f} w g picked from same nothing calls =
    record { runs = yields_picked steps v w g picked f nothing calls (picked ys) ys s same refl from.runs }
