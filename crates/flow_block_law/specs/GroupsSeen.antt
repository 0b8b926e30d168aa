-- A batched join as a part of a run: no group of it is short while one of its ports is open, and what its node knows of its
-- groups is what the laws of a run say of a batched join.
use Rattle.std.specs.Prelude.{◌≡◌, ℕ, true, List, length, Result}
use Rattle.flow_value.specs.declared.value.Value.{Value}
use Rattle.flow_link.specs.declared.draft.BlockKind.TheVariants.{BatchedJoin}
use Rattle.flow_lawful.specs.Endings.{is_complete_as}
use Rattle.flow_link.specs.Layout.{Layout}
use Rattle.flow_link.specs.Making.{batched_join_makes, group_size}
use Rattle.flow_link.specs.Trace.{Run}
use Rattle.flow_block_law.specs.GroupsKeep.{MayCallBatched, after_at_batched}
use Rattle.flow_block.specs.Node.{NodeState, NodeCall}
use Rattle.flow_block.specs.Planned.{block_makes}
use Rattle.flow_block_law.specs.TuplesSeen.{IsPortsOf}
use Rattle.flow_block_law.specs.GroupsLaw.{are_complete, KeepsGroups, WholeBefore}

-- each call of a batched join keeps that
abbrev pub WholeStand : Type 0 → Type 0
WholeStand W =
    (layout : Layout W) (meaning : ℕ → Value → Result (List Value) ℕ) (b size weight : ℕ) (order : List ℕ) (node : NodeState)
    (call : NodeCall)
    → KeepsGroups size order node.block node.journal → MayCallBatched layout meaning b size order call node
    → WholeBefore (length node.block.ports) size node.journal
    → WholeBefore (length node.block.ports) size
    (after_at_batched size weight (block_makes layout meaning b) order call node).journal

module _ {W : Type 0} (run : Run W) (b : ℕ) (node : NodeState) where
  pub record BatchedSeen : Type 0 where
    -- what was taken is cut, in its order, into its outputs and what is held; no group is short while a port is open
    pub makes : (order : List ℕ) → KeepsGroups (group_size run b) order node.block node.journal
        → WholeBefore (length node.block.ports) (group_size run b) node.journal → batched_join_makes run b ≡ true
    -- it is complete when all its ports are
    pub complete : is_complete_as run BatchedJoin b ≡ are_complete (length node.block.ports) node.journal

abbrev pub BatchedJoinsAreParts : Type 0 → Type 0
BatchedJoinsAreParts W = (run : Run W) (b : ℕ) (node : NodeState) → IsPortsOf run b node → BatchedSeen run b node
