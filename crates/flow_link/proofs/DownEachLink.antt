-- Where each link leads down, no walk leads to a block that is no lower.
use Rattle.std.proofs.Common.{◌≡◌, ℕ, zero, suc, ◌<◌, ◌≤◌, ◌==◌, Bool, true, false, ◌&&◌, ◌||◌, List, [], ◌∷◌, get_or, refl, ap, arith, inl, inr}
use Rattle.std.proofs.lemmas.Bool.{eqb-true, leb-false, cases_lt}
use Rattle.flow_link.specs.declared.plan.Link.{Link}
use Rattle.flow_link.specs.declared.plan.LinkSource.{LinkSource}
use Rattle.flow_link.specs.declared.plan.LinkSource.TheVariants.{Block, Input}
use Rattle.flow_link.specs.declared.plan.LinkTarget.{LinkTarget}
use Rattle.flow_link.specs.declared.plan.LinkTarget.TheVariants.{Port, Exit}
use Rattle.flow_link.specs.Lists.{some, below}
use Rattle.flow_link.proofs.ListTests.{never_both}
use Rattle.flow_link.specs.Plan.{begins_at, ends_at}
use Rattle.flow_link.specs.PlanFaults.{leads, walks}
use Rattle.flow_link.specs.Heights.{climbs, rises}
use Rattle.flow_link.proofs.RoundsOfWalks.{some_none_below}

first_fails : (a b : Bool) → (a || b) ≡ false → a ≡ false
first_fails true b e = cc
first_fails false b e = refl

other_fails : (a b : Bool) → (a || b) ≡ false → b ≡ false
other_fails true b e = cc
other_fails false b e = e

and_fails : (a b : Bool) → (a ≡ true → b ≡ false) → (a && b) ≡ false
and_fails true b fails = fails refl
and_fails false b fails = refl

neither : (a b : Bool) → a ≡ false → b ≡ false → (a || b) ≡ false
neither true b e none = cc
neither false b e none = none

module _ (heights : List ℕ) where
  abbrev height : ℕ → ℕ
  height block = get_or heights block 0

  lands : (target : LinkTarget) (n b : ℕ) → climbs heights target (Block n) ≡ false → height n ≤ height b → ends_at b target ≡ false
  lands Exit n b e up = refl
  lands (Port t p) n b e up =
      let down : height t < height n = leb-false (height n) (height t) e in
      let go : (v : Bool) → (t == b) ≡ v → v ≡ false =
      λ v. elim v as (λ v. (t == b) ≡ v → v ≡ false) [
        | true ↦ λ is. let at : height t ≡ height b = ap height (eqb-true t b is) in absurd (omega (arith, at, down, up))
        | false ↦ λ is. refl
      ] in
      go (t == b) refl

  crosses_none : (source : LinkSource) (target : LinkTarget) (a b : ℕ) → climbs heights target source ≡ false → height a ≤ height b
      → (begins_at a source && ends_at b target) ≡ false
  crosses_none (Input k) target a b e up = refl
  crosses_none (Block n) target a b e up = and_fails (n == a) (ends_at b target) (λ is.
      let at : height n ≡ height a = ap height (eqb-true n a is) in
      lands target n b e (omega (arith, at, up)))

  leads_none : (links : List Link) (a b : ℕ) → some (rises heights) links ≡ false → height a ≤ height b → leads links a b ≡ false
  leads_none [] a b none up = refl
  leads_none (link ∷ links) a b none up =
      neither (begins_at a link.source && ends_at b link.target) (leads links a b)
      (crosses_none link.source link.target a b (first_fails (rises heights link) (some (rises heights) links) none) up)
      (leads_none links a b (other_fails (rises heights link) (some (rises heights) links) none) up)

  -- no walk leads to a block that is no lower
  pub walks_none : (links : List Link) (blocks steps a b : ℕ) → some (rises heights) links ≡ false → height a ≤ height b
      → walks links blocks steps a b ≡ false
  walks_none links blocks zero a b none up = refl
  walks_none links blocks (suc steps) a b none up =
      neither (leads links a b) (some (λ c. leads links a c && walks links blocks steps c b) (below blocks))
      (leads_none links a b none up)
      (some_none_below (λ c. leads links a c && walks links blocks steps c b) blocks (λ c low.
      elim (cases_lt (height c) (height a)) [
        | inl down ↦ and_fails (leads links a c) (walks links blocks steps c b) (λ is. walks_none links blocks steps c b none (omega (arith, down, up)))
        | inr high ↦ and_fails (leads links a c) (walks links blocks steps c b) (λ is. never_both (leads links a c) is (leads_none links a c none high))
      ]))
