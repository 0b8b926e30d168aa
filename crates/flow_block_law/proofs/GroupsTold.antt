-- The ports of a batched join that goes on tell what its journal does: whether all are complete, and so whether it has a group.
use Rattle.std.proofs.Common.{◌≡◌, ℕ, ◌+◌, ◌<◌, Bool, List, length, None, Result, ap, sym, ◌∙◌, arith}
use Rattle.flow_value.specs.declared.value.Value.{Value}
use Rattle.flow_link.specs.declared.trace.Mark.{Mark}
use Rattle.flow_link.specs.Layout.{Layout}
use Rattle.flow_link.specs.Trace.{has_complete}
use Rattle.flow_intake.specs.Port.{PortState}
use Rattle.flow_intake.specs.PortLaw.{has_ended as has_port_ended}
use Rattle.flow_group.specs.Tuple.{all_ended as ports_ended}
use Rattle.flow_block.specs.Block.{BlockState, port_at}
use Rattle.flow_block.specs.Groups.{has_group_at}
use Rattle.flow_block_law.specs.GroupsLaw.{are_complete}
use Rattle.flow_block_law.specs.NodeLaw.{EndsLaw}
use Rattle.flow_block.specs.Peeks.{has_group_of_ports}
use Rattle.flow_block_law.proofs.JournalTells.{ended_is_complete}
use Rattle.flow_block_law.proofs.TuplesSeen.{every_port}

module _ {W : Type 0} (layout : Layout W) (meaning : ℕ → Value → Result (List Value) ℕ) (b : ℕ) (block : BlockState)
    (journal : List Mark) (law : EndsLaw layout meaning b block journal) (going : block.stopped ≡ None) where
  pub complete_at : (p : ℕ) → p < length block.ports → has_port_ended (port_at p block).refusing ≡ has_complete p journal
  complete_at p there = law.ended_is p there ∙ ended_is_complete p journal (sym law.stopped_is ∙ going)

  pub ended_told : ports_ended block.ports ≡ are_complete (length block.ports) journal
  ended_told =
      sym (every_port (λ (port : PortState). has_port_ended port.refusing) (λ p. has_complete p journal) 0 block.ports
      (λ p there.
      let same : 0 + p ≡ p = omega arith in
      ap (λ (q : ℕ). has_complete q journal) same ∙ sym (complete_at p there)))

  pub group_told : has_group_of_ports block ≡ has_group_at block.size (are_complete (length block.ports) journal) block.ports
  group_told = ap (λ (ended : Bool). has_group_at block.size ended block.ports) ended_told
