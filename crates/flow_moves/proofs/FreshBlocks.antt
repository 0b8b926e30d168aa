-- A block that is made of a plan has no mark due, and nothing waits at its ports.
use Rattle.std.proofs.Common.{◌≡◌, ℕ, true, List, [], ◌∷◌, map, refl, ap, ◌∙◌, arith}
use Rattle.flow_link.specs.declared.draft.BlockKind.{BlockKind}
use Rattle.flow_link.specs.Layout.{Layout}
use Rattle.flow_link.specs.Lists.{every}
use Rattle.flow_intake.specs.Port.{PortState, count_at, is_owed, fresh_end}
use Rattle.flow_outlet.specs.Outlet.{is_empty}
use Rattle.flow_outlet.specs.declared.ends.LinkRule.{LinkRule}
use Rattle.flow_spread.specs.End.{is_busy_at, is_waiting_at}
use Rattle.flow_spread.proofs.CountsOfEnds.{none_counts}
use Rattle.flow_block.specs.Block.{BlockState}
use Rattle.flow_block.specs.BlockFits.{fresh_block}
use Rattle.flow_block.specs.Copies.{copied_rules}
use Rattle.flow_block.specs.JournalFits.{ports_due, marks_due}
use Rattle.flow_block.specs.Planned.{port_of_plan, links_to}

none_owed : (links : List ℕ) → count_at is_owed (map fresh_end links) ≡ 0
none_owed [] = refl
none_owed (link ∷ links) = omega (arith, none_owed links)

module _ {W : Type 0} (layout : Layout W) (b : ℕ) where
  none_due : (ports : List ℕ) → ports_due (map (port_of_plan layout b) ports) ≡ 0
  none_due [] = refl
  none_due (p ∷ ports) = omega (arith, none_owed (links_to layout b p), none_due ports)

  pub none_waits : (ports : List ℕ)
      → every (λ (port : PortState). is_empty port.waiting) (map (port_of_plan layout b) ports) ≡ true
  none_waits [] = refl
  none_waits (p ∷ ports) = none_waits ports

  pub no_mark_due : (kind : BlockKind) (lanes size : ℕ) (ports : List ℕ) (rules : List LinkRule) (block : BlockState)
      → block ≡ fresh_block kind lanes size (map (port_of_plan layout b) ports) rules → marks_due block ≡ 0
  no_mark_due kind lanes size ports rules block is =
      let busy = none_counts is_busy_at (copied_rules kind rules) (λ rule. refl) in
      let waiting = none_counts is_waiting_at (copied_rules kind rules) (λ rule. refl) in
      ap marks_due is ∙ omega (arith, none_due ports, busy, waiting)
