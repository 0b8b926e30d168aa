-- The moves of a network whose links are named by their ways: by the places that they have at their two ends.
use Rattle.std.specs.Prelude.{ℕ, Bool, true, false, not, ◌&&◌, ltb, ◌^◌, List, get_or, set, Option, Some, Result}
use Rattle.flow_value.specs.declared.value.Value.{Value}
use Rattle.flow_link.specs.declared.phase.Move.{Move}
use Rattle.flow_link.specs.declared.phase.Phase.{Phase}
use Rattle.flow_link.specs.declared.phase.Phase.TheVariants.{Posted}
use Rattle.flow_link.specs.declared.plan.LinkSource.{LinkSource}
use Rattle.flow_link.specs.declared.plan.LinkSource.TheVariants.{Block, Input}
use Rattle.flow_link.specs.declared.plan.LinkTarget.{LinkTarget}
use Rattle.flow_link.specs.declared.plan.LinkTarget.TheVariants.{Port, Exit}
use Rattle.flow_outlet.specs.End.{is_free}
use Rattle.flow_block.specs.declared.planned.Route.{Route}
use Rattle.flow_input.specs.Input.{InputState, InputCall, no_input, input_move, after_input, next_value, next_id, has_next}
use Rattle.flow_block_law.specs.NextMoves.{next_in, next_source}
use Rattle.flow_block.specs.Node.{NodeState, NodeCall, given_next}
use Rattle.flow_exit.specs.Exit.{ExitState, ExitCall, fresh_exit, exit_move, exit_call, exit_after, after_exit}
use Rattle.flow_core.specs.Events.{source_call, source_look, in_call, input_call, input_after, slot_after, with_node, with_line}
use Rattle.flow_link.specs.declared.trace.LinkState.{LinkState}
use Rattle.flow_core.specs.State.{NetState, node_at, line_at}
use Rattle.flow_moves.specs.Calls.{called}

-- the input at a place among all inputs
abbrev pub input_in : NetState → ℕ → InputState
input_in net k = get_or net.inputs k no_input

abbrev pub with_input_in : ℕ → (InputState → InputState) → NetState → NetState
with_input_in k change net = record net { inputs = set net.inputs k (change (input_in net k)) }

-- the end of a link out of the network, at its place among all exits
abbrev pub exit_in : NetState → ℕ → ExitState
exit_in net k = get_or net.exits k fresh_exit

abbrev pub with_exit_in : ℕ → (ExitState → ExitState) → NetState → NetState
with_exit_in k change net = record net { exits = set net.exits k (change (exit_in net k)) }

-- what the two ends of a link would do next
abbrev pub source_next : NetState → LinkSource → ℕ → Option Move
source_next net (Block s) k = next_source k (node_at net s)
source_next net (Input b) k = input_move (input_in net k)

abbrev pub target_next : NetState → LinkTarget → ℕ → Option Move
target_next net (Port t p) k = next_in p k (node_at net t)
target_next net Exit k = exit_move (exit_in net k)

-- an input has a next value, and no id is left for it
abbrev pub input_lacks_id : InputState → Bool
input_lacks_id input = is_free input.stage && has_next input && not (ltb (next_id input) (2 ^ 59))

abbrev pub lacks_id : NetState → LinkSource → ℕ → Bool
lacks_id net (Block s) k = false
lacks_id net (Input b) k = input_lacks_id (input_in net k)

-- the value that the source gives next
abbrev pub value_next : NetState → LinkSource → ℕ → Option Value
value_next net (Block s) k = given_next (node_at net s)
value_next net (Input b) k = next_value (input_in net k)

-- what has changed after a move, where blocks make this of their messages
module _ (makes : ℕ → Value → Result (List Value) ℕ) where
  abbrev pub source_moved : Move → LinkSource → ℕ → NetState → NetState
  source_moved next (Block s) k net =
      with_node s (λ (node : NodeState). called (makes s) (source_call node.block.kind k next) node) net
  source_moved next (Input b) k net = with_input_in k (input_after (input_call next)) net

  abbrev pub target_moved : Move → Option Value → LinkTarget → ℕ → NetState → NetState
  target_moved next slot (Port t p) k net = with_node t (called (makes t) (in_call p k slot next)) net
  target_moved next slot Exit k net = with_exit_in k (exit_after (exit_call slot next)) net

  abbrev pub source_looked : Phase → LinkSource → ℕ → NetState → NetState
  source_looked phase (Block s) k net =
      with_node s (λ (node : NodeState). called (makes s) (Some (source_look node.block.kind k phase)) node) net
  source_looked phase (Input b) k net = with_input_in k (after_input (InputCall.look phase)) net

  abbrev pub target_looked : Phase → LinkTarget → ℕ → NetState → NetState
  target_looked phase (Port t p) k net = with_node t (called (makes t) (Some (NodeCall.look_in p k phase))) net
  target_looked phase Exit k net = with_exit_in k (after_exit (ExitCall.look phase)) net

  -- the line after a move that leads to this phase
  abbrev pub line_moved : ℕ → Move → Phase → Route → NetState → LinkState
  line_moved l next phase route net = record {
    phase = phase;
    slot = slot_after next (value_next net route.source route.source_place) (line_at net l).slot;
  }

  abbrev pub moved_by_source : ℕ → Move → Phase → Route → NetState → NetState
  moved_by_source l next phase route net =
      target_looked phase route.target route.target_place
      (with_line l (line_moved l next phase route net) (source_moved next route.source route.source_place net))

  abbrev pub moved_by_target : ℕ → Move → Phase → Route → NetState → NetState
  moved_by_target l next phase route net =
      source_looked phase route.source route.source_place
      (with_line l (line_moved l next phase route net)
      (target_moved next (line_at net l).slot route.target route.target_place net))

  -- both ends of a link look at its phase
  abbrev pub looked_along : ℕ → Route → NetState → NetState
  looked_along l route net =
      source_looked (line_at net l).phase route.source route.source_place
      (target_looked (line_at net l).phase route.target route.target_place net)

  -- a value that the caller of an input posts over its link
  abbrev pub posted_along : ℕ → Value → Route → NetState → NetState
  posted_along l value route net =
      let id = next_id (input_in net route.source_place) in
      target_looked (Posted id) route.target route.target_place
      (with_line l (record { phase = Posted id; slot = (line_at net l).slot })
      (with_input_in route.source_place (after_input (InputCall.post value)) net))

  abbrev pub moved_along : Bool → ℕ → Move → Phase → Route → NetState → NetState
  moved_along true l next phase route net = moved_by_source l next phase route net
  moved_along false l next phase route net = moved_by_target l next phase route net
