-- Where no work faults by number 0, and no input ends by it, no block does: each block's law says so.
use Rattle.std.proofs.Common.{◌≡◌, ℕ, ◌<◌, false, List, length, Result, ap, ◌∙◌, arith, ⊎_elim}
use Rattle.std.proofs.Math.ListN.{get_or-eq_default, get_or-map}
use Rattle.std.proofs.lemmas.Bool.{cases_lt, false_from_ne_true}
use Rattle.flow_value.specs.declared.value.Value.{Value}
use Rattle.flow_link.specs.Layout.{Layout}
use Rattle.flow_link.specs.Trace.{BlockTrace, has_fault, marks_of}
use Rattle.flow_block.specs.Node.{node_trace}
use Rattle.flow_block_law.proofs.FaultsNumbered.{marks_numbered}
use Rattle.flow_core.specs.Keeps.{NetKeeps}
use Rattle.flow_core.specs.Numbers.{BlocksFaultByNumber}
use Rattle.flow_core.specs.State.{NetState, node_at, no_node, run_of_net}
use Rattle.flow_core.specs.Statements.{EventsKeep, FreshKeeps}
use Rattle.flow_core.proofs.SchedulesGoWell.{kept_by_schedule}

module _ {W : Type 0} (layout : Layout W) (meaning : ℕ → Value → Result (List Value) ℕ) (net : NetState)
    (keeps : NetKeeps layout meaning net) where
  marks_are : (b : ℕ) → marks_of (run_of_net layout meaning net) b ≡ (node_at net b).journal
  marks_are b = ap (λ (trace : BlockTrace). trace.journal) (get_or-map node_trace net.nodes b no_node)

  none_where : (b : ℕ) → b < length layout.blocks → has_fault 0 (node_at net b).journal ≡ false
  none_where b low =
      false_from_ne_true (has_fault 0 (node_at net b).journal)
      (λ has. let number = marks_numbered layout meaning b (node_at net b) (keeps.nodes b low) 0 has in omega (arith, number))

  none_faults : (b : ℕ) → has_fault 0 (marks_of (run_of_net layout meaning net) b) ≡ false
  none_faults b =
      ap (has_fault 0) (marks_are b)
      ∙ ⊎_elim
      (λ low. none_where b low)
      (λ high. ap (λ node. has_fault 0 node.journal) (get_or-eq_default net.nodes no_node (omega (arith, high, keeps.node_count))))
      (cases_lt b (length layout.blocks))

pub blocks_fault_by_number : {W : Type 0} → EventsKeep W → FreshKeeps W → BlocksFaultByNumber W
blocks_fault_by_number keep fresh layout meaning runs never posted events now count numbered goes b =
    none_faults layout meaning now (kept_by_schedule keep fresh layout meaning runs never posted events now count numbered goes) b
