-- What a call leaves of a node, whatever the node makes of its messages; and what a move takes out of its end.
use Rattle.std.specs.Prelude.{◌≡◌, ℕ, Bool, true, false, List, Option, Some, None, Result}
use Rattle.flow_value.specs.declared.value.Value.{Value}
use Rattle.flow_link.specs.declared.phase.Move.{Move}
use Rattle.flow_link.specs.declared.phase.Move.TheVariants as move
use Rattle.flow_block.specs.Node.{NodeState, NodeCall, after}

-- a node after a call, if there is one, where it makes this of a message
abbrev pub called : (Value → Result (List Value) ℕ) → Option NodeCall → NodeState → NodeState
called result None node = node
called result (Some call) node = after result call node

-- a move leaves a node so, whatever it makes of its messages
abbrev pub Calls : Option NodeCall → NodeState → NodeState → Type 0
Calls call old new = (result : Value → Result (List Value) ℕ) → new ≡ called result call old

-- what a source hands over by a move, where this is what it gives next
abbrev pub handed : Move → Option Value → Option Value
handed move.Give value = value
handed _ value = None

-- what lies in the slot after a move of the source, which hands this over, and after one of the target
abbrev pub slot_after_source : Move → Option Value → Option Value → Option Value
slot_after_source move.Give given slot = given
slot_after_source _ given slot = slot

abbrev pub left_in_slot : Move → Option Value → Option Value
left_in_slot move.Open slot = None
left_in_slot _ slot = slot

-- the first answer to an offer, for which a block needs room
abbrev pub answers_first : Move → Bool
answers_first move.Want = true
answers_first move.Postpone = true
answers_first _ = false
