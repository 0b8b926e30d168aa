-- The first number that none has, of those that stand in the order of their numbers.
use Rattle.std.proofs.Common.{◌≡◌, nat_lt, ℕ, suc, ◌+◌, ◌-◌, ◌<◌, ◌≤◌, Bool, true, false, Option, IfSome, IfNone, All, List, [], ◌∷◌, length, map, slice_index_or, refl, sym, ap, ◌∙◌, subst, arith, ⊎_elim}
use Rattle.std.specs.Bool.{then_some}
use Rattle.std.specs.List.Sorted.{IsNonDecreasingBy}
use Rattle.std.proofs.lemmas.Bool.{cases_order, ltb-true, ltb-false}
use Rattle.flow_link.specs.Lists.{numbers_from}
use Rattle.flow_task.specs.Absent.{AllDiffer, HasAll, IsGap}

some_of : {A : Type 0} (xs : List A) → 0 < length xs → A
some_of [] some = absurd (omega (arith, some))
some_of (x ∷ xs) some = x

-- what is told where there is a number, or none
none_by : (P : Type 0) (b : Bool) (n : ℕ) → (b ≡ false → P) → IfNone (then_some b n) P
none_by P true n h = tt
none_by P false n h = h refl

some_by : (P : ℕ → Type 0) (b : Bool) (n : ℕ) → (b ≡ true → P n) → IfSome (then_some b n) P
some_by P true n h = h refl
some_by P false n h = tt

pub told_none : (P : Type 0) (o : Option ℕ) (x y n : ℕ) → o ≡ then_some (nat_lt x y) n → (y ≤ x → P) → IfNone o P
told_none P o x y n is h =
    subst (λ (it : Option ℕ). IfNone it P) (sym is) (none_by P (nat_lt x y) n (λ no. h (ltb-false x y no)))

pub told_some : (P : ℕ → Type 0) (o : Option ℕ) (x y n : ℕ) → o ≡ then_some (nat_lt x y) n → (x < y → P n) → IfSome o P
told_some P o x y n is h =
    subst (λ (it : Option ℕ). IfSome it P) (sym is) (some_by P (nat_lt x y) n (λ yes. h (ltb-true x y yes)))

module _ {A : Type 0} (says : A → ℕ) where
  -- so many have the numbers from a first one on
  abbrev pub Counted : ℕ → ℕ → List A → Type 0
  Counted first i xs = (j : ℕ) (d : A) → j < i → says (slice_index_or xs j d) ≡ first + j

  -- some have all of these
  pub counted_has : (xs : List A) (first i : ℕ) → i ≤ length xs → Counted first i xs → HasAll says first (first + i) xs
  counted_has xs first i there counted k from low none =
      let d = some_of xs (omega (arith, there, from, low)) in
      none (k - first) d (omega (arith, there, from, low))
      (counted (k - first) d (omega (arith, from, low)) ∙ omega (arith, from))

  -- these are all that there are
  pub counted_all : (xs : List A) (first : ℕ) → Counted first (length xs) xs → map says xs ≡ numbers_from first (length xs)
  counted_all [] first counted = refl
  counted_all (x ∷ xs) first counted =
      let here : says x ≡ first = (let is = counted 0 x (omega arith) in omega (arith, is)) in
      let later : Counted (suc first) (length xs) xs =
      (λ j d low. let is = counted (suc j) d (omega (arith, low)) in omega (arith, is)) in
      let rest = counted_all xs (suc first) later in
      ap (λ (n : ℕ). n ∷ map says xs) here ∙ ap (λ (ns : List ℕ). first ∷ ns) rest

  module _ (xs : List A) (first end : ℕ) where
    -- the next has another number
    pub gap_here : (i : ℕ) (x : A) → i < length xs → ((d : A) → slice_index_or xs i d ≡ x) → Counted first i xs
        → (says x ≡ first + i → ⊥) → All (λ part. first ≤ says part) xs → All (λ part. says part < end) xs
        → IsNonDecreasingBy says xs → AllDiffer says xs → IsGap says first end xs (first + i)
    gap_here i x there is counted other low high rise differ =
        let from : first ≤ says x = subst (λ (y : A). first ≤ says y) (is x) (low i x there) in
        let before : says x < end = subst (λ (y : A). says y < end) (is x) (high i x there) in
        let above : first + i < says x =
        ⊎_elim (λ (same : says x ≡ first + i). absurd (other same))
        (⊎_elim
        (λ (less : says x < first + i).
        let two = differ (says x - first) i x (omega (arith, from, less)) there in
        let one = counted (says x - first) x (omega (arith, from, less)) in
        let again : first + (says x - first) ≡ says x = omega (arith, from) in
        absurd (two (one ∙ again ∙ sym (ap says (is x)))))
        (λ (more : first + i < says x). more))
        (cases_order (says x) (first + i)) in
        record {
          from = omega arith;
          low = omega (arith, above, before);
          none = λ j d there_j same.
              ⊎_elim
              (λ (at : j ≡ i).
              let here = ap (λ (k : ℕ). says (slice_index_or xs k d)) at ∙ ap says (is d) in
              absurd (omega (arith, here, same, above)))
              (⊎_elim
              (λ (less : j < i). let one = counted j d less in absurd (omega (arith, one, same, less)))
              (λ (more : i < j).
              let up = rise i j d (omega (arith, more)) there_j in
              let here = ap says (is d) in
              absurd (omega (arith, up, here, same, above))))
              (cases_order j i);
        }

    -- there is no next one
    pub gap_after : Counted first (length xs) xs → first + length xs < end → IsGap says first end xs (first + length xs)
    gap_after counted low = record {
      from = omega arith;
      low = low;
      none = λ j d there same. let one = counted j d there in absurd (omega (arith, one, same, there));
    }

    -- there is none where all are there
    pub none_after : Counted first (length xs) xs → end ≡ first + length xs → map says xs ≡ numbers_from first (end - first)
    none_after counted is =
        let many : length xs ≡ end - first = omega (arith, is) in
        counted_all xs first counted ∙ ap (numbers_from first) many
