-- The state of a network as plain data: what each block, input, exit and link has come to, and the run that it stands for.
use Rattle.std.specs.Prelude.{ℕ, List, [], get_or, map, None, Result}
use Rattle.flow_value.specs.declared.value.Value.{Value}
use Rattle.flow_link.specs.declared.draft.BlockKind.TheVariants.{Buffer}
use Rattle.flow_link.specs.declared.phase.Phase.TheVariants.{Idle}
use Rattle.flow_link.specs.declared.plan.LinkSource.{LinkSource}
use Rattle.flow_link.specs.declared.plan.LinkSource.TheVariants.{Block, Input}
use Rattle.flow_link.specs.declared.plan.LinkTarget.{LinkTarget}
use Rattle.flow_link.specs.declared.plan.LinkTarget.TheVariants.{Port, Exit}
use Rattle.flow_link.specs.declared.trace.LinkState.{LinkState}
use Rattle.flow_lawful.specs.Composes.{Ends, is_refused_phase}
use Rattle.flow_link.specs.Layout.{Layout}
use Rattle.flow_link.specs.Plan.{link_in}
use Rattle.flow_link.specs.Trace.{InputTrace, Trace, Run}
use Rattle.flow_link.specs.Views.{SourceView, TargetView}
use Rattle.flow_group.specs.Round.{no_round}
use Rattle.flow_block.specs.BlockFits.{fresh_block}
use Rattle.flow_input.specs.Input.{InputState, fresh_input, no_input, input_view, input_trace}
use Rattle.flow_block.specs.Node.{NodeState, in_view, source_view, node_trace}
use Rattle.flow_block.specs.Planned.{in_place, out_place, input_place, exit_place, links_out, fresh_node}
use Rattle.flow_exit.specs.Exit.{CallerState, ExitState, caller_of, fresh_exit, exit_view}
use Rattle.flow_link.specs.Lists.{below}
use Rattle.std.specs.Prelude.{length, replicate}

-- blocks and links by their numbers, inputs in the order of their blocks, and exits in the order of their links. A link has its
-- phase, and what lies in its slot
pub record NetState : Type 0 where
  pub nodes : List NodeState
  pub inputs : List InputState
  pub exits : List ExitState
  pub lines : List LinkState

-- what the callers of exits have received and asked for
abbrev pub callers_in : NetState → List CallerState
callers_in net = map caller_of net.exits

abbrev pub fresh_line : LinkState
fresh_line = record { phase = Idle; slot = None }

abbrev pub no_node : NodeState
no_node = record {
  block = fresh_block Buffer 1 0 [] [];
  journal = [];
  grouped = 0;
  round = no_round;
}

abbrev pub node_at : NetState → ℕ → NodeState
node_at net b = get_or net.nodes b no_node

abbrev pub line_at : NetState → ℕ → LinkState
line_at net l = get_or net.lines l fresh_line

module _ {W : Type 0} (layout : Layout W) where
  abbrev pub input_at : NetState → ℕ → InputState
  input_at net b = get_or net.inputs (input_place layout b) no_input

  -- the end of a link that leads out of the network
  abbrev pub exit_at : NetState → ℕ → ExitState
  exit_at net l = get_or net.exits (exit_place layout l) fresh_exit

  -- what the two ends of a link know
  abbrev pub source_from : NetState → ℕ → LinkSource → SourceView Value
  source_from net l (Block s) = source_view (out_place layout s l) (node_at net s)
  source_from net l (Input b) = input_view (input_at net b)

  abbrev pub target_from : NetState → ℕ → LinkTarget → TargetView Value
  target_from net l (Port t p) = in_view p (in_place layout t p l) (node_at net t)
  target_from net l Exit = exit_view (exit_at net l)

  abbrev pub ends_of : NetState → ℕ → Ends
  ends_of net l = record {
    phase = (line_at net l).phase;
    slot = (line_at net l).slot;
    source = source_from net l (link_in layout.links l).source;
    target = target_from net l (link_in layout.links l).target;
  }

  -- the trace so far, and the run
  abbrev pub trace_of_net : NetState → Trace
  trace_of_net net = record {
    blocks = map node_trace net.nodes;
    inputs = map input_trace net.inputs;
    refused = λ l. is_refused_phase (line_at net l).phase;
  }

  abbrev pub run_of_net : (ℕ → Value → Result (List Value) ℕ) → NetState → Run W
  run_of_net meaning net = record { layout = layout; meaning = meaning; trace = trace_of_net net }

  -- a network in which nothing has happened, to which this is posted
  abbrev pub fresh_net : List InputTrace → NetState
  fresh_net posted = record {
    nodes = map (fresh_node layout) (below (length layout.blocks));
    inputs = map fresh_input posted;
    exits = map (λ _. fresh_exit) (links_out layout);
    lines = replicate (length layout.links) fresh_line;
  }
