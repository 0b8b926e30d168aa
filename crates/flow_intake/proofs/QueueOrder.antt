-- Which places stand in a queue when one leaves or joins.
use Rattle.std.proofs.Common.{◌≡◌, ◌≢◌, ℕ, ◌<◌, ◌+◌, ◌==◌, ◌||◌, not, cond, Bool, true, false, List, [], ◌∷◌, ◌++◌, refl, ap, sym, ◌∙◌, arith, eqb-true, eq-eqb, ne_eqb}
use Rattle.std.proofs.Math.Bool.{or-false, or_assoc}
use Rattle.flow_intake.specs.Queue.{without}
use Rattle.flow_intake.specs.PortLaw.{is_in, IsDistinct, AreBelow}

-- what is kept of a queue
kept_in : (k first : ℕ) (rest : List ℕ) (stays : Bool) → (stays ≡ false → first ≢ k) → is_in k (cond stays (first ∷ rest) rest) ≡ ((first == k) || is_in k rest)
kept_in k first rest true other = refl
kept_in k first rest false other = rw (ne_eqb first k (other refl)) refl

pub in_without : (k place : ℕ) (queue : List ℕ) → k ≢ place → is_in k (without place queue) ≡ is_in k queue
in_without k place [] apart = refl
in_without k place (first ∷ queue) apart =
    kept_in k first (without place queue) (not (first == place)) (leaves (first == place) refl)
    ∙ ap (λ (b : Bool). (first == k) || b) (in_without k place queue apart)
  where
    leaves : (same : Bool) → first == place ≡ same → not (first == place) ≡ false → first ≢ k
    leaves true is gone = λ at. apart (sym at ∙ eqb-true first place is)
    leaves false is gone = let stays : not (first == place) ≡ true = rw is refl in absurd (cc)

gone_one : (place first : ℕ) (rest : List ℕ) (same : Bool) → first == place ≡ same → is_in place rest ≡ false → is_in place (cond (not same) (first ∷ rest) rest) ≡ false
gone_one place first rest true is none = none
gone_one place first rest false is none = rw is none

pub gone : (place : ℕ) (queue : List ℕ) → is_in place (without place queue) ≡ false
gone place [] = refl
gone place (first ∷ queue) = gone_one place first (without place queue) (first == place) refl (gone place queue)

-- what does not stand in the queue does not stand in it when one has left
none_left : (k place : ℕ) (queue : List ℕ) (same : Bool) → k == place ≡ same → is_in k queue ≡ false → is_in k (without place queue) ≡ false
none_left k place queue true is none = rw (eqb-true k place is) (gone place queue)
none_left k place queue false is none = in_without k place queue (λ at. let equal : k == place ≡ true = eq-eqb k place at in cc) ∙ none

distinct_one : (place first : ℕ) (rest : List ℕ) (stays : Bool) → is_in first rest ≡ false → IsDistinct rest → IsDistinct (cond stays (first ∷ rest) rest)
distinct_one place first rest true none distinct = (none, distinct)
distinct_one place first rest false none distinct = distinct

pub distinct_without : (place : ℕ) (queue : List ℕ) → IsDistinct queue → IsDistinct (without place queue)
distinct_without place [] distinct = tt
distinct_without place (first ∷ queue) distinct =
    distinct_one place first (without place queue) (not (first == place)) (none_left first place queue (first == place) refl distinct.0) (distinct_without place queue distinct.1)

below_one : (count first : ℕ) (rest : List ℕ) (stays : Bool) → first < count → AreBelow count rest → AreBelow count (cond stays (first ∷ rest) rest)
below_one count first rest true one known = (one, known)
below_one count first rest false one known = known

pub below_without : (count place : ℕ) (queue : List ℕ) → AreBelow count queue → AreBelow count (without place queue)
below_without count place [] known = tt
below_without count place (first ∷ queue) known = below_one count first (without place queue) (not (first == place)) known.0 (below_without count place queue known.1)

pub in_joined : (k place : ℕ) (queue : List ℕ) → is_in k (queue ++ place ∷ []) ≡ (is_in k queue || (place == k))
in_joined k place [] = or-false (place == k)
in_joined k place (first ∷ queue) = ap (λ (b : Bool). (first == k) || b) (in_joined k place queue) ∙ sym (or_assoc (first == k) (is_in k queue) (place == k))

pub distinct_joined : (place : ℕ) (queue : List ℕ) → IsDistinct queue → is_in place queue ≡ false → IsDistinct (queue ++ place ∷ [])
distinct_joined place [] distinct none = (refl, tt)
distinct_joined place (first ∷ queue) distinct none = (
  in_joined first place queue ∙ ap (λ (b : Bool). b || (place == first)) distinct.0 ∙ ne_eqb place first (λ at. differ (eq-eqb first place (sym at)) none),
  distinct_joined place queue distinct.1 (rest_none (first == place) none),
)
  where
    differ : first == place ≡ true → (first == place) || is_in place queue ≡ false → ⊥
    differ same apart = let there : (first == place) || is_in place queue ≡ true = rw same refl in cc

    rest_none : (same : Bool) → same || is_in place queue ≡ false → is_in place queue ≡ false
    rest_none true apart = absurd (cc)
    rest_none false apart = apart

pub below_joined : (count place : ℕ) (queue : List ℕ) → AreBelow count queue → place < count → AreBelow count (queue ++ place ∷ [])
below_joined count place [] known one = (one, tt)
below_joined count place (first ∷ queue) known one = (known.0, below_joined count place queue known.1 one)

pub below_more : (count : ℕ) (queue : List ℕ) → AreBelow count queue → AreBelow (count + 1) queue
below_more count [] known = tt
below_more count (first ∷ queue) known = (omega (arith, known.0), below_more count queue known.1)
