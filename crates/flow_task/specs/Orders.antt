-- The blocks, inputs and exits of a network, each in order, and what becomes of them when all ends of links look.
use Rattle.std.specs.Prelude.{◌≡◌, ℕ, ◌<◌, List, length, get_or, Result}
use Rattle.flow_value.specs.declared.value.Value.{Value}
use Rattle.flow_value.specs.declared.work.WorkFault.{WorkFault}
use Rattle.flow_link.specs.Layout.{Layout}
use Rattle.flow_block.specs.Node.{NodeState}
use Rattle.flow_block.specs.Planned.{links_out}
use Rattle.flow_core.specs.InOrder.{all_looked}
use Rattle.flow_link.specs.declared.trace.LinkState.{LinkState}
use Rattle.flow_core.specs.State.{NetState, no_node}
use Rattle.flow_exec.specs.Works.{works_of}
use Rattle.flow_block_law.specs.NodeLaw.{NodeLaw}
use Rattle.flow_exit.specs.Exit.{ExitState, fresh_exit}
use Rattle.flow_exit.specs.ExitKeeps.{ExitLaw}
use Rattle.flow_input.specs.Input.{InputState, no_input}
use Rattle.flow_input.specs.InputKeeps.{InputLaw}
use Rattle.flow_task.specs.Inputs.{links_of_inputs}

pub record AreInOrder {W : Type 0} (layout : Layout W) (meaning : ℕ → Value → Result (List Value) ℕ) (nodes : List NodeState)
    (inputs : List InputState) (exits : List ExitState) : Type 0 where
  pub node_count : length nodes ≡ length layout.blocks
  pub nodes_law : (b : ℕ) → b < length layout.blocks → ∥ NodeLaw layout meaning b (get_or nodes b no_node) ∥₁
  pub input_count : length inputs ≡ length (links_of_inputs layout)
  pub inputs_law : (q : ℕ) → q < length (links_of_inputs layout) → ∥ InputLaw (get_or inputs q no_input) ∥₁
  pub exit_count : length exits ≡ length (links_out layout)
  pub exits_law : (k : ℕ) → k < length (links_out layout) → ∥ ExitLaw (get_or exits k fresh_exit) ∥₁

-- a network of these blocks, inputs and exits, when all ends of its links have looked
abbrev pub HasLookedAround : {W : Type 0} → (W → Value → Result (List Value) WorkFault) → Layout W → NetState → NetState → Type 0
HasLookedAround meaning layout net new =
    (lines : List LinkState) × (new ≡ all_looked layout (works_of meaning layout) (length layout.links)
    (record { nodes = net.nodes; inputs = net.inputs; exits = net.exits; lines = lines }))
