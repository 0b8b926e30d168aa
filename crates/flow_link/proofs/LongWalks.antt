-- A walk that leads back to where it began is no longer than there are blocks, if any leads back: round by round more
-- blocks reach the end, until a round adds none, and then no later one does.
use Rattle.std.proofs.Common.{◌≡◌, ℕ, zero, suc, ◌+◌, ◌-◌, ◌<◌, ◌≤◌, Bool, true, false, cond, not, ◌&&◌, ◌||◌, List, [], ◌∷◌, length, ◌⊎◌, inl, inr, refl, ap, sym, ◌∙◌, subst, arith}
use Rattle.flow_link.specs.declared.plan.Link.{Link}
use Rattle.flow_link.specs.Lists.{every, some, below}
use Rattle.flow_link.specs.PlanFaults.{leads, walks}
use Rattle.flow_link.proofs.ListTests.{length_numbers, or_weaker, and_weaker, some_weaker_below, never_both, passes_from, at_most_one, counts_no_less}
use Rattle.flow_link.proofs.RoundsOfWalks.{some_same_below}

abbrev alike : Bool → Bool → Bool
alike true b = b
alike false b = not b

alike_is : (a b : Bool) → alike a b ≡ true → a ≡ b
alike_is true b e = sym e
alike_is false true e = cc
alike_is false false e = refl

-- how many of these numbers pass
abbrev how_many : (ℕ → Bool) → List ℕ → ℕ
how_many test [] = 0
how_many test (n ∷ ns) = cond (test n) 1 0 + how_many test ns

few : (test : ℕ → Bool) (ns : List ℕ) → how_many test ns ≤ length ns
few test [] = omega arith
few test (n ∷ ns) =
    let rest = few test ns in
    omega (arith, rest, at_most_one (test n))

more_here : (a b : Bool) → (a ≡ true → b ≡ true) → alike a b ≡ false → cond a 1 0 < cond b 1 0
more_here true true h e = never_both true refl e
more_here true false h e = never_both false (h refl) refl
more_here false true h e = omega arith
more_here false false h e = never_both true refl e

no_fewer : (f g : ℕ → Bool) (ns : List ℕ) → ((n : ℕ) → f n ≡ true → g n ≡ true) → how_many f ns ≤ how_many g ns
no_fewer f g [] h = omega arith
no_fewer f g (n ∷ ns) h =
    let rest = no_fewer f g ns h in
    let here = counts_no_less (f n) (g n) (h n) in
    omega arith

more : (f g : ℕ → Bool) (ns : List ℕ) → ((n : ℕ) → f n ≡ true → g n ≡ true) → every (λ n. alike (f n) (g n)) ns ≡ false
    → how_many f ns < how_many g ns
more f g [] h e = never_both true refl e
more f g (n ∷ ns) h e =
    let rest = every (λ k. alike (f k) (g k)) ns in
    let here = counts_no_less (f n) (g n) (h n) in
    let later = no_fewer f g ns h in
    let go : (b : Bool) → alike (f n) (g n) ≡ b → (b && rest) ≡ false → how_many f (n ∷ ns) < how_many g (n ∷ ns) =
    λ b. elim b as (λ v. alike (f n) (g n) ≡ v → (v && rest) ≡ false → how_many f (n ∷ ns) < how_many g (n ∷ ns)) [
      | true ↦ λ is none. let behind = more f g ns h none in omega arith
      | false ↦ λ is none. let first = more_here (f n) (g n) (h n) is in omega arith
    ] in
    go (alike (f n) (g n)) refl e

module _ (links : List Link) (count end : ℕ) where
  -- the end is reached from this block over at most so many links
  abbrev reach : ℕ → ℕ → Bool
  reach steps block = walks links count steps block end

  -- one link more adds no block
  abbrev settles : ℕ → Bool
  settles steps = every (λ block. alike (reach steps block) (reach (suc steps) block)) (below count)

  stays_reached : (steps block : ℕ) → reach steps block ≡ true → reach (suc steps) block ≡ true
  stays_reached zero block e = never_both false e refl
  stays_reached (suc steps) block e =
      or_weaker (leads links block end) (some (λ c. leads links block c && reach steps c) (below count))
      (leads links block end) (some (λ c. leads links block c && reach (suc steps) c) (below count)) (λ h. h)
      (some_weaker_below (λ c. leads links block c && reach steps c) (λ c. leads links block c && reach (suc steps) c) count
      (λ c low. and_weaker (leads links block c) (reach steps c) (leads links block c) (reach (suc steps) c) (λ h. h) (stays_reached steps c)))
      e

  reached_later : (later steps block : ℕ) → reach steps block ≡ true → reach (later + steps) block ≡ true
  reached_later zero steps block e =
      let same : steps ≡ 0 + steps = omega arith in
      subst (λ (n : ℕ). reach n block ≡ true) same e
  reached_later (suc later) steps block e =
      let same : suc (later + steps) ≡ suc later + steps = omega arith in
      subst (λ (n : ℕ). reach n block ≡ true) same (stays_reached (later + steps) block (reached_later later steps block e))

  settled_is : (steps block : ℕ) → settles steps ≡ true → block < count → reach steps block ≡ reach (suc steps) block
  settled_is steps block e low =
      let zeroth : 0 + block ≡ block = omega arith in
      alike_is (reach steps block) (reach (suc steps) block)
      (ap (λ n. alike (reach steps n) (reach (suc steps) n)) (sym zeroth)
      ∙ passes_from (λ n. alike (reach steps n) (reach (suc steps) n)) 0 count block e low)

  -- and then no later round adds one
  settled_later : (later steps block : ℕ) → settles steps ≡ true → block < count → reach (later + steps) block ≡ reach steps block
  settled_later zero steps block e low =
      let same : 0 + steps ≡ steps = omega arith in
      ap (λ n. reach n block) same
  settled_later (suc later) steps block e low =
      let same : suc later + steps ≡ suc (later + steps) = omega arith in
      ap (λ n. reach n block) same
      ∙ ap (λ b. leads links block end || b) (some_same_below (λ c. leads links block c && reach (later + steps) c) (λ c. leads links block c && reach steps c) count
      (λ c small. ap (λ b. leads links block c && b) (settled_later later steps c e small)))
      ∙ sym (settled_is steps block e low)

  -- a round before this one adds no block, or this one reaches as many blocks as its number
  settles_or_grows : (steps : ℕ) → ((k : ℕ) × (k < steps) × (settles k ≡ true)) ⊎ (steps ≤ how_many (reach steps) (below count))
  settles_or_grows zero = inr (omega arith)
  settles_or_grows (suc steps) =
      elim (settles_or_grows steps) [
        | inl before ↦ let low : before.0 < steps = before.1 in inl (before.0, omega arith, before.2)
        | inr many ↦
            let go : (b : Bool) → settles steps ≡ b → ((k : ℕ) × (k < suc steps) × (settles k ≡ true)) ⊎ (suc steps ≤ how_many (reach (suc steps)) (below count)) =
            λ b. elim b as (λ v. settles steps ≡ v → ((k : ℕ) × (k < suc steps) × (settles k ≡ true)) ⊎ (suc steps ≤ how_many (reach (suc steps)) (below count))) [
              | true ↦ λ is. inl (steps, omega arith, is)
              | false ↦ λ is. let grown = more (reach steps) (reach (suc steps)) (below count) (stays_reached steps) is in inr (omega arith)
            ] in
            go (settles steps) refl
      ]

  settles_in_time : (k : ℕ) × (k ≤ count) × (settles k ≡ true)
  settles_in_time =
      elim (settles_or_grows (suc count)) [
        | inl before ↦ let low : before.0 < suc count = before.1 in (before.0, omega arith, before.2)
        | inr many ↦
            let most = few (reach (suc count)) (below count) in
            let all = length_numbers 0 count in
            absurd (omega arith)
      ]

  -- what no walk of as many links as there are blocks reaches, no longer walk reaches
  pub never_reached : (steps block : ℕ) → block < count → reach count block ≡ false → reach steps block ≡ false
  never_reached steps block low e =
      let settled = settles_in_time in
      let k = settled.0 in
      let early : k ≤ count = settled.1 in
      let go : (b : Bool) → reach steps block ≡ b → reach steps block ≡ false =
      λ b. elim b as (λ v. reach steps block ≡ v → reach steps block ≡ false) [
        | true ↦ λ is.
            let turned : k + steps ≡ steps + k = omega arith in
            let whole : (count - k) + k ≡ count = omega arith in
            let late : reach (steps + k) block ≡ true = ap (λ n. reach n block) (sym turned) ∙ reached_later k steps block is in
            let soon : reach k block ≡ true = sym (settled_later steps k block settled.2 low) ∙ late in
            never_both (reach count block) (ap (λ n. reach n block) (sym whole) ∙ reached_later (count - k) k block soon) e
        | false ↦ λ is. is
      ] in
      go (reach steps block) refl
