-- Ends of links are dealt out to rows, and taken back, one by one.
use Rattle.std.proofs.Common.{◌≡◌, ℕ, zero, suc, ◌+◌, ◌<◌, Bool, true, false, List, [], ◌∷◌, ◌++◌, length, map, slice_set, slice_index_or, refl, sym, ap, ◌∙◌, arith}
use Rattle.std.proofs.lemmas.List.{map-append, same_from_push}
use Rattle.flow_link.specs.Lists.{below}
use Rattle.flow_link.proofs.ListTests.{below_more}
use Rattle.flow_block.proofs.PlanMade.{mapped_where, mapped_else}
use Rattle.flow_task.specs.Dealt.{said_of}
use Rattle.flow_task.proofs.Places.{all_same, set_at}

pub fails : (b : Bool) → (b ≡ true → ⊥) → b ≡ false
fails true never = absurd (never refl)
fails false never = refl

no_push : {A : Type 0} (xs : List A) (x : A) → [] ≡ xs ++ x ∷ [] → ⊥
no_push [] x e = absurd (cc)
no_push (y ∷ xs) x e = absurd (cc)

pub is_one : {A : Type 0} (xs : List A) → (xs ≡ [] → ⊥) → 0 < length xs
is_one [] some = absurd (some refl)
is_one (x ∷ xs) some = omega arith

-- One list
module _ {E V : Type 0} (known : E → V) (say : ℕ → V) (test : ℕ → Bool) (n : ℕ) (ends : List E) where
  pub one_more : (end : E) → map known ends ≡ said_of say test n → test n ≡ true → known end ≡ say n
      → map known (ends ++ end ∷ []) ≡ said_of say test (n + 1)
  one_more end are passes is =
      map-append known ends (end ∷ []) ∙ mapped_where test n say (map known ends) (known end) are passes is

  pub none_more : map known ends ≡ said_of say test n → test n ≡ false → map known ends ≡ said_of say test (n + 1)
  none_more are not_it = mapped_else test n say (map known ends) are not_it

  -- and back
  pushed : test n ≡ true → said_of say test (n + 1) ≡ said_of say test n ++ say n ∷ []
  pushed passes = sym (mapped_where test n say (said_of say test n) (say n) refl passes refl)

  pub last_known : (end : E) → map known (ends ++ end ∷ []) ≡ said_of say test (n + 1) → test n ≡ true
      → (map known ends ≡ said_of say test n) × (known end ≡ say n)
  last_known end are passes =
      same_from_push (map known ends) (said_of say test n) (known end) (say n)
      (sym (map-append known ends (end ∷ [])) ∙ are ∙ pushed passes)

  pub none_less : map known ends ≡ said_of say test (n + 1) → test n ≡ false → map known ends ≡ said_of say test n
  none_less are not_it = are ∙ sym (mapped_else test n say (said_of say test n) refl not_it)

  pub is_some_left : map known ends ≡ said_of say test (n + 1) → test n ≡ true → ends ≡ [] → ⊥
  is_some_left are passes none =
      no_push (said_of say test n) (say n) (ap (map known) (sym none) ∙ are ∙ pushed passes)

-- Rows
module _ {E V L : Type 0} (known : E → V) (items : L → List E) (say : ℕ → V) (test : ℕ → ℕ → Bool) (count n : ℕ) (rows : List L) where
  abbrev shown : L → List V
  shown row = map known (items row)

  abbrev row_at : ℕ → ℕ → List V
  row_at m b = said_of say (test b) m

  row_stays : (j : ℕ) → test j n ≡ false → row_at (n + 1) j ≡ row_at n j
  row_stays j not_it = sym (mapped_else (test j) n say (row_at n j) refl not_it)

  pub rows_more : map shown rows ≡ map (row_at n) (below count) → (b : ℕ) (changed : L) → b < count
      → shown changed ≡ row_at (n + 1) b → ((j : ℕ) → test j n ≡ true → j ≡ b)
      → map shown (slice_set rows b changed) ≡ map (row_at (n + 1)) (below count)
  rows_more are b changed low here alone =
      set_at shown (row_at n) (row_at (n + 1)) count rows b changed are low here
      (λ j small apart. row_stays j (fails (test j n) (λ yes. apart (alone j yes))))

  pub rows_less : map shown rows ≡ map (row_at (n + 1)) (below count) → (b : ℕ) (changed : L) → b < count
      → shown changed ≡ row_at n b → ((j : ℕ) → test j n ≡ true → j ≡ b)
      → map shown (slice_set rows b changed) ≡ map (row_at n) (below count)
  rows_less are b changed low here alone =
      set_at shown (row_at (n + 1)) (row_at n) count rows b changed are low here
      (λ j small apart. sym (row_stays j (fails (test j n) (λ yes. apart (alone j yes)))))

  pub rows_keep : ((j : ℕ) → j < count → test j n ≡ false) → map (row_at n) (below count) ≡ map (row_at (n + 1)) (below count)
  rows_keep none = all_same (row_at n) (row_at (n + 1)) count (λ j small. row_stays j (none j small))

-- A list grows at its end

pub pushed_more : {E V : Type 0} (view : E → V) (f : ℕ → V) (k : ℕ) (xs : List E) (x : E) → map view xs ≡ map f (below k) → view x ≡ f k
    → map view (xs ++ x ∷ []) ≡ map f (below (k + 1))
pushed_more view f k xs x are is =
    map-append view xs (x ∷ []) ∙ ap (λ vs. vs ++ view x ∷ []) are ∙ ap (λ v. map f (below k) ++ v ∷ []) is
    ∙ sym (map-append f (below k) (k ∷ [])) ∙ sym (ap (map f) (below_more k))

-- what holds of each element at its place
pub each_more : {L : Type 0} (P : ℕ → L → Type 0) (xs : List L) (x : L) → ((i : ℕ) (d : L) → i < length xs → P i (slice_index_or xs i d))
    → P (length xs) x → (i : ℕ) (d : L) → i < length (xs ++ x ∷ []) → P i (slice_index_or (xs ++ x ∷ []) i d)
each_more P [] x each here zero d small = here
each_more P [] x each here (suc i) d small = absurd (omega (arith, small))
each_more P (y ∷ xs) x each here zero d small = each 0 d (omega arith)
each_more P (y ∷ xs) x each here (suc i) d small =
    each_more (λ j. P (suc j)) xs x (λ j e low. each (suc j) e (omega (arith, low))) here i d (omega (arith, small))
