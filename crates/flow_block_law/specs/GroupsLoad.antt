-- What a batched join counts at each of its ports: a place is taken by each message that waits there, and by each that is in a
-- group which is not given yet.
use Rattle.std.specs.Prelude.{◌≡◌, ℕ, true, List, Result}
use Rattle.flow_value.specs.declared.value.Value.{Value}
use Rattle.flow_link.specs.Layout.{Layout}
use Rattle.flow_block.specs.Block.{is_batched_join}
use Rattle.flow_block_law.specs.GroupsLaw.{OrderedGroups, LoadByPort}
use Rattle.flow_block_law.specs.GroupsKeep.{MayCallBatched}
use Rattle.flow_block_law.specs.GroupsOrdered.{after_in_order}
use Rattle.flow_block.specs.Node.{NodeState, NodeCall, order_in}
use Rattle.flow_block.specs.Planned.{block_makes}

-- each call of a batched join's node keeps that
abbrev pub GroupsKeepLoad : Type 0 → Type 0
GroupsKeepLoad W =
    (layout : Layout W) (meaning : ℕ → Value → Result (List Value) ℕ) (b : ℕ) (node : NodeState) (call : NodeCall)
    → is_batched_join node.block.kind ≡ true → OrderedGroups node → LoadByPort node.block
    → MayCallBatched layout meaning b node.block.size (order_in node) call node
    → LoadByPort (after_in_order (block_makes layout meaning b) call node).block
