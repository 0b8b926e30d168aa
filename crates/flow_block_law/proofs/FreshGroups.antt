-- A block with several ports in which nothing has happened has made nothing.
use Rattle.std.proofs.Common.{◌≡◌, ℕ, zero, suc, List, [], ◌∷◌, length, map, refl}
use Rattle.flow_link.specs.Layout.{Layout}
use Rattle.flow_link.specs.Lists.{below}
use Rattle.flow_link.specs.Plan.{block_in, port_count}
use Rattle.flow_link.specs.Trace.{took_at}
use Rattle.flow_intake.specs.Port.{PortState}
use Rattle.flow_group.specs.Tuple.{held_at}
use Rattle.flow_group.specs.Tuples.{TuplesLaw}
use Rattle.flow_group.proofs.GroupsKeep.{groups_kept}
use Rattle.flow_group.proofs.TuplesKeep.{tuples_kept}
use Rattle.flow_block_law.specs.FreshGroups.{FreshGroups}
use Rattle.flow_block_law.specs.GroupsLaw.{are_complete}
use Rattle.flow_block.specs.Planned.{port_of_plan}

module _ {W : Type 0} (layout : Layout W) (b : ℕ) where
  none_waits : (ps : List ℕ) (p : ℕ) → held_at (map (port_of_plan layout b) ps) p ≡ []
  none_waits [] p = refl
  none_waits (q ∷ ps) zero = refl
  none_waits (q ∷ ps) (suc p) = none_waits ps p

  abbrev pub numbers : List ℕ
  numbers = below (port_count (block_in layout.blocks b))

  abbrev pub ports : List PortState
  ports = map (port_of_plan layout b) numbers

pub fresh_tuples : {W : Type 0} (layout : Layout W) (b : ℕ)
    → TuplesLaw (length (ports layout b)) (λ p. took_at p []) [] (held_at (ports layout b))
fresh_tuples layout b =
    let count = length (ports layout b) in
    tuples_kept.same count (λ p. []) (λ p. took_at p []) [] (λ p. []) (held_at (ports layout b)) (tuples_kept.fresh count)
    (λ p there. refl) (λ p there. none_waits layout b (numbers layout b) p)

pub fresh_groups : (W : Type 0) → FreshGroups W
fresh_groups W layout b size of_so_many =
    let count = length (ports layout b) in
    let complete = are_complete count [] in (
      groups_kept.same count size complete [] [] [] (λ p. []) (held_at (ports layout b)) (groups_kept.fresh count size complete)
          (λ p there. none_waits layout b (numbers layout b) p),
      λ p there. refl,
    )
