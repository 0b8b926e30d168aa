-- A batched join as a part of a run: what it counts at its ports, and that it rests where it has no group.
use Rattle.std.specs.Prelude.{◌≡◌, ℕ, ◌<◌, true, false, length, is_some}
use Rattle.flow_link.specs.declared.draft.BlockKind.TheVariants.{BatchedJoin}
use Rattle.flow_link.specs.Layout.{Layout}
use Rattle.flow_link.specs.Making.{group_size, load_as}
use Rattle.flow_lawful.specs.Quiet.{has_no_group}
use Rattle.flow_link.specs.Trace.{Run}
use Rattle.flow_block.specs.Block.{port_at}
use Rattle.flow_block_law.specs.GroupsLaw.{are_complete, LoadByPort, OrderedGroups}
use Rattle.flow_block.specs.Groups.{has_group_at}
use Rattle.flow_block.specs.Node.{NodeState}
use Rattle.flow_block.specs.Planned.{fresh_node}
use Rattle.flow_block_law.specs.TuplesSeen.{IsPortsOf}

module _ {W : Type 0} (run : Run W) (b : ℕ) (node : NodeState) where
  pub record GroupsRest : Type 0 where
    -- where it has a capacity, a port counts what the run says that it has to count
    pub load : LoadByPort node.block → (p : ℕ) → p < length node.block.ports → is_some (port_at p node.block).capacity ≡ true
        → load_as run b BatchedJoin p ≡ (port_at p node.block).load
    -- where its ports tell of no group, what it holds could not be worked on
    pub rests : 0 < group_size run b
        → has_group_at (group_size run b) (are_complete (length node.block.ports) node.journal) node.block.ports ≡ false
        → has_no_group run b ≡ true

abbrev pub GroupsRestInRuns : Type 0 → Type 0
GroupsRestInRuns W = (run : Run W) (b : ℕ) (node : NodeState) → IsPortsOf run b node → GroupsRest run b node

-- a batched join in which nothing has happened
pub record FreshInOrder {W : Type 0} (layout : Layout W) (b : ℕ) : Type 0 where
  pub groups : OrderedGroups (fresh_node layout b)
  pub load : LoadByPort (fresh_node layout b).block

abbrev pub GroupsBegin : Type 0 → Type 0
GroupsBegin W = (layout : Layout W) (b : ℕ) → FreshInOrder layout b
