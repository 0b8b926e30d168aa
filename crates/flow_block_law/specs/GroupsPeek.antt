-- Whether a batched join has a next group, as its ports tell it: in which order its messages came in plays no part in that.
use Rattle.std.specs.Prelude.{◌≡◌, Bool}
use Rattle.flow_group.specs.Group.{has_group}
use Rattle.flow_block_law.specs.GroupsLaw.{OrderedGroups}
use Rattle.flow_block.specs.Node.{NodeState, order_in}
use Rattle.flow_block.specs.Groups.{has_group_at}

-- that is whether it has one in the order that its journal tells
abbrev pub PortsTellGroups : Type 0
PortsTellGroups =
    (node : NodeState) → OrderedGroups node → (ended : Bool)
    → has_group node.block.size ended (order_in node) ≡ has_group_at node.block.size ended node.block.ports
