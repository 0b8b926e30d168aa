-- A move of one end of a link, which is the end's next by its own data, keeps the link in order; and the mover has seen the phase
-- to which it led.
use Rattle.std.specs.Prelude.{◌≡◌, ℕ, ◌<◌, List, length, Option, Some, Result}
use Rattle.flow_value.specs.declared.value.Value.{Value}
use Rattle.flow_link.specs.declared.phase.Move.{Move}
use Rattle.flow_link.specs.declared.phase.Phase.{Phase}
use Rattle.flow_link.specs.declared.plan.LinkSource.TheVariants.{Block, Input}
use Rattle.flow_link.specs.declared.plan.LinkTarget.TheVariants.{Port, Exit}
use Rattle.flow_link.specs.Facts.{facts_in}
use Rattle.flow_link.specs.Layout.{Layout}
use Rattle.flow_link.specs.LinkOk.{LinkOk}
use Rattle.flow_link.specs.Looks.{SourceHasSeen, TargetHasSeen}
use Rattle.flow_link.specs.Phase.{phase_after}
use Rattle.flow_link.specs.Plan.{link_in}
use Rattle.flow_link.specs.Views.{SourceView, TargetView, LinkFacts}
use Rattle.flow_input.specs.Input.{InputState, input_move, input_view, next_value}
use Rattle.flow_input.specs.InputKeeps.{InputLaw}
use Rattle.flow_block_law.specs.NextMoves.{next_in, next_source}
use Rattle.flow_block.specs.Node.{NodeState, in_view, given_next, source_view}
use Rattle.flow_block_law.specs.NodeLaw.{NodeLaw}
use Rattle.flow_block.specs.Planned.{in_place, out_place}
use Rattle.flow_exit.specs.Exit.{ExitState, exit_view, exit_move, exit_call, exit_after}
use Rattle.flow_exit.specs.ExitKeeps.{ExitLaw}
use Rattle.flow_core.specs.Events.{node_after, source_call, in_call, input_call, input_after, slot_after}
use Rattle.flow_core.specs.Keeps.{IsRun}

-- the link after a move of its source, and of its target
pub record SourceMoved (facts : LinkFacts) (phase : Phase) (slot : Option Value) (source : SourceView Value) (target : TargetView Value) : Type 0 where
  pub in_order : LinkOk facts phase slot source target
  pub seen : SourceHasSeen phase source

pub record TargetMoved (facts : LinkFacts) (phase : Phase) (slot : Option Value) (source : SourceView Value) (target : TargetView Value) : Type 0 where
  pub in_order : LinkOk facts phase slot source target
  pub seen : TargetHasSeen phase target

module _ (W : Type 0) where
  abbrev pub BlocksMoveWell : Type 0
  BlocksMoveWell =
      (layout : Layout W) (meaning : ℕ → Value → Result (List Value) ℕ) → IsRun layout → (l s : ℕ) → l < length layout.links
      → (link_in layout.links l).source ≡ Block s → (node : NodeState) → NodeLaw layout meaning s node
      → (phase new : Phase) (slot : Option Value) (target : TargetView Value) (next : Move)
      → LinkOk (facts_in layout l) phase slot (source_view (out_place layout s l) node) target
      → next_source (out_place layout s l) node ≡ Some next → phase_after phase next ≡ Some new
      → SourceMoved (facts_in layout l) new (slot_after next (given_next node) slot)
      (source_view (out_place layout s l) (node_after layout meaning s (source_call node.block.kind (out_place layout s l) next) node))
      target

  abbrev pub InputsMoveWell : Type 0
  InputsMoveWell =
      (layout : Layout W) → IsRun layout → (l b : ℕ) → l < length layout.links → (link_in layout.links l).source ≡ Input b
      → (input : InputState) → InputLaw input
      → (phase new : Phase) (slot : Option Value) (target : TargetView Value) (next : Move)
      → LinkOk (facts_in layout l) phase slot (input_view input) target → input_move input ≡ Some next → phase_after phase next ≡ Some new
      → SourceMoved (facts_in layout l) new (slot_after next (next_value input) slot) (input_view (input_after (input_call next) input)) target

  -- what the source would give does not matter to a move of the target
  abbrev pub TargetsMoveWell : Type 0
  TargetsMoveWell =
      (layout : Layout W) (meaning : ℕ → Value → Result (List Value) ℕ) → IsRun layout → (l t p : ℕ) → l < length layout.links
      → (link_in layout.links l).target ≡ Port t p → (node : NodeState) → NodeLaw layout meaning t node
      → (phase new : Phase) (slot given : Option Value) (source : SourceView Value) (next : Move)
      → LinkOk (facts_in layout l) phase slot source (in_view p (in_place layout t p l) node)
      → next_in p (in_place layout t p l) node ≡ Some next → phase_after phase next ≡ Some new
      → TargetMoved (facts_in layout l) new (slot_after next given slot) source
      (in_view p (in_place layout t p l) (node_after layout meaning t (in_call p (in_place layout t p l) slot next) node))

  abbrev pub ExitsMoveWell : Type 0
  ExitsMoveWell =
      (layout : Layout W) (l : ℕ) → (link_in layout.links l).target ≡ Exit → (exit : ExitState) → ExitLaw exit
      → (phase new : Phase) (slot given : Option Value) (source : SourceView Value) (next : Move)
      → LinkOk (facts_in layout l) phase slot source (exit_view exit) → exit_move exit ≡ Some next → phase_after phase next ≡ Some new
      → TargetMoved (facts_in layout l) new (slot_after next given slot) source (exit_view (exit_after (exit_call slot next) exit))
