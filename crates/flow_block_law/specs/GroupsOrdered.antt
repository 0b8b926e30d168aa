-- A batched join's node cuts what it took in the order that its own journal tells.
use Rattle.std.specs.Prelude.{ℕ, ◌<◌, List, Result}
use Rattle.flow_value.specs.declared.value.Value.{Value}
use Rattle.flow_link.specs.Layout.{Layout}
use Rattle.flow_block_law.specs.GroupsLaw.{OrderedGroups}
use Rattle.flow_block_law.specs.GroupsKeep.{MayCallBatched}
use Rattle.flow_block.specs.Node.{NodeState, NodeCall, after, hand_at, holds_in, order_in, makes_next_group}
use Rattle.flow_block.specs.Planned.{block_makes}

-- what becomes of it by a call: it makes the next group in that order, holds what it takes, and does all else as each node does
abbrev pub after_in_order : (Value → Result (List Value) ℕ) → NodeCall → NodeState → NodeState
after_in_order result NodeCall.make node = makes_next_group node
after_in_order result (NodeCall.close p k) node = holds_in p k (hand_at p k node) node
after_in_order result call node = after result call node

-- each call keeps that
abbrev pub GroupsOrdered : Type 0 → Type 0
GroupsOrdered W =
    (layout : Layout W) (meaning : ℕ → Value → Result (List Value) ℕ) (b : ℕ) (node : NodeState) (call : NodeCall)
    → 0 < node.block.size → OrderedGroups node → MayCallBatched layout meaning b node.block.size (order_in node) call node
    → OrderedGroups (after_in_order (block_makes layout meaning b) call node)
