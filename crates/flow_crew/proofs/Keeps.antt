-- Each step keeps the rule of the queue.
use Rattle.std.proofs.Common.{◌≡◌, ℕ, zero, suc, ◌+◌, ◌-◌, ◌/◌, ◌<◌, ◌≤◌, List, [], ◌∷◌, ◌++◌, length, set, drop, sym, refl, ap, ◌∙◌, ⊎_elim}
use mathlib.Core.Option.{Option, some, none, some-ne-none}
use native.Mathlib.Omega.{arith}
use lib.ListN.{get_elem?}
use Rattle.crossbeam_queue.specs.Fifo.{Pushes, Pops, Forks, Merges, Learns}
use Rattle.crossbeam_queue.proofs.Lists.{at_set, at_snoc}
use Rattle.flow_crew.specs.declared.rule.Hand.{Hand}
use Rattle.flow_crew.specs.Numbers.{weigh}
use Rattle.flow_crew.specs.Rules.{hand, total, IdleIsEmpty, Balanced, HasRoom, Tells}

pub weigh-append : (h : ℕ → ℕ) (xs ys : List ℕ) → weigh h (xs ++ ys) ≡ weigh h xs + weigh h ys
weigh-append h [] ys = omega arith
weigh-append h (x ∷ xs) ys = let rest = weigh-append h xs ys in omega arith

weigh-one : (xs : List ℕ) → weigh (λ _. 1) xs ≡ length xs
weigh-one [] = refl
weigh-one (x ∷ xs) = let rest = weigh-one xs in omega arith

abbrev from : Hand → Option Hand → Hand
from z none = z
from z (some v) = v

some-is : (z v : Hand) → some z ≡ some v → z ≡ v
some-is z v e = ap (from z) e

-- the total after a change of one pass
total_set : (f : Hand → ℕ) (views : List Hand) (port : ℕ) (v w : Hand) → get_elem? views port ≡ some v → total f (set views port w) + f v ≡ total f views + f w
total_set f [] port v w e = absurd (some-ne-none v (sym e))
total_set f (z ∷ vs) zero v w e = let here = ap f (some-is z v e) in omega arith
total_set f (z ∷ vs) (suc i) v w e = let rest = total_set f vs i v w e in omega arith

total_snoc : (f : Hand → ℕ) (views : List Hand) (w : Hand) → total f (views ++ w ∷ []) ≡ total f views + f w
total_snoc f [] w = omega arith
total_snoc f (z ∷ vs) w = let rest = total_snoc f vs w in omega arith

total_at : (f : Hand → ℕ) (views : List Hand) (port : ℕ) (v : Hand) → get_elem? views port ≡ some v → f v ≤ total f views
total_at f [] port v e = absurd (some-ne-none v (sym e))
total_at f (z ∷ vs) zero v e = let here = ap f (some-is z v e) in omega arith
total_at f (z ∷ vs) (suc i) v e = let rest = total_at f vs i v e in omega arith

idle_set : (views : List Hand) (port : ℕ) (w : Hand) → (w.parts ≡ 0 → w.holds ≡ []) → IdleIsEmpty views → IdleIsEmpty (set views port w)
idle_set views port w mine old j u e nil =
    ⊎_elim (λ (x : (j ≡ port) × (w ≡ u)). sym (ap (λ (y : Hand). y.holds) x.1) ∙ mine (ap (λ (y : Hand). y.parts) x.1 ∙ nil))
    (λ (x : ((j ≡ port) → ⊥) × (get_elem? views j ≡ some u)). old j u x.1 nil) (at_set views port j w u e)

idle_snoc : (views : List Hand) (w : Hand) → (w.parts ≡ 0 → w.holds ≡ []) → IdleIsEmpty views → IdleIsEmpty (views ++ w ∷ [])
idle_snoc views w mine old j u e nil =
    ⊎_elim (λ x. old j u x nil) (λ (is : w ≡ u). sym (ap (λ (y : Hand). y.holds) is) ∙ mine (ap (λ (y : Hand). y.parts) is ∙ nil)) (at_snoc views w u j e)

-- where no pass has a part, none holds anything
total_none : (h : ℕ → ℕ) (views : List Hand) → IdleIsEmpty views → total (λ v. v.parts) views ≡ 0 → total (λ v. weigh h v.holds) views ≡ 0
total_none h [] idle nil = refl
total_none h (z ∷ vs) idle nil =
    let here = ap (weigh h) (idle 0 z refl (omega arith)) in
    let rest = total_none h vs (λ j u e. idle (suc j) u e) (omega arith) in
    omega arith

pub learns_room : (all : List ℕ) (port : ℕ) (v : Hand) → Learns (Balanced all) port v (HasRoom all v)
learns_room all port v items views b at =
    let t = total_at (λ u. weigh (λ _. 1) u.holds) views port v at in
    let p = b.1 (λ _. 1) in
    omega (arith, weigh-one v.holds, weigh-one items, weigh-one all)

pub puts : (all : List ℕ) (n port : ℕ) (v : Hand) (x : ℕ) (rest : List ℕ) → 0 < v.parts → v.holds ≡ x ∷ rest
    → Pushes (Balanced all) n port v x (λ w. w ≡ hand v.parts (drop 1 v.holds))
puts all n port v x rest part is items views room b at =
    let w = hand v.parts (drop 1 v.holds) in (
      w,
      (
        (let s = total_set (λ u. u.parts) views port v w at in let p = b.0 in omega arith),
        (λ h.
            let s = total_set (λ u. weigh h u.holds) views port v w at in
            let p = b.1 h in
            let first : weigh h v.holds ≡ h x + weigh h rest = ap (weigh h) is in
            let last : weigh h (drop 1 v.holds) ≡ weigh h rest = ap (λ l. weigh h (drop 1 l)) is in
            omega (arith, weigh-append h items (x ∷ []))),
        idle_set views port w (λ nil. absurd (omega arith)) b.2,
      ),
      refl,
    )

pub takes : (all : List ℕ) (port : ℕ) (v : Hand) → 0 < v.parts
    → Pops (Balanced all) port v (λ x w. (w ≡ hand v.parts (v.holds ++ x ∷ [])) × (length v.holds < length all))
takes all port v part x items views b at =
    let w = hand v.parts (v.holds ++ x ∷ []) in (
      w,
      (
        (let s = total_set (λ u. u.parts) views port v w at in let p = b.0 in omega arith),
        (λ h.
            let s = total_set (λ u. weigh h u.holds) views port v w at in
            let p = b.1 h in
            omega (arith, weigh-append h v.holds (x ∷ []))),
        idle_set views port w (λ nil. absurd (omega arith)) b.2,
      ),
      (refl, (let room = learns_room all port v (x ∷ items) views b at in omega arith)),
    )

pub tells : (all : List ℕ) (port : ℕ) (v : Hand) → Learns (Balanced all) port v (Tells all v)
tells all port v items views b at whole h =
    let w = hand 0 [] in
    let p = total_set (λ u. u.parts) views port v w at in
    let s = total_set (λ u. weigh h u.holds) views port v w at in
    let sum = b.0 in
    let all_weigh = b.1 h in
    let none = total_none h (set views port w) (idle_set views port w (λ _. refl) b.2) (omega arith) in
    omega arith

pub forks : (all : List ℕ) (port : ℕ) (v : Hand) → 1 < v.parts
    → Forks (Balanced all) port v (hand (v.parts - v.parts / 2) v.holds) (hand (v.parts / 2) [])
forks all port v parts items views b at =
    let l = hand (v.parts - v.parts / 2) v.holds in
    let r = hand (v.parts / 2) [] in (
      (let s = total_set (λ u. u.parts) views port v l at in let p = b.0 in omega (arith, total_snoc (λ u. u.parts) (set views port l) r)),
      (λ h.
          let s = total_set (λ u. weigh h u.holds) views port v l at in
          let p = b.1 h in
          omega (arith, total_snoc (λ u. weigh h u.holds) (set views port l) r)),
      idle_snoc (set views port l) r (λ _. refl) (idle_set views port l (λ nil. absurd (omega arith)) b.2),
    )

pub merges : (all : List ℕ) (port : ℕ) (v : Hand) (other : ℕ) (u : Hand) → 0 < v.parts
    → Merges (Balanced all) port v other u (hand (v.parts + u.parts) (v.holds ++ u.holds)) (hand 0 [])
merges all port v other u part items views b at two at' =
    let both = hand (v.parts + u.parts) (v.holds ++ u.holds) in
    let vs = set views port both in
    let spent = hand 0 [] in (
      (let s = total_set (λ y. y.parts) views port v both at in let t = total_set (λ y. y.parts) vs other u spent at' in let p = b.0 in omega arith),
      (λ h.
          let s = total_set (λ y. weigh h y.holds) views port v both at in
          let t = total_set (λ y. weigh h y.holds) vs other u spent at' in
          let p = b.1 h in
          omega (arith, weigh-append h v.holds u.holds)),
      idle_set vs other spent (λ _. refl) (idle_set views port both (λ nil. absurd (omega arith)) b.2),
    )
