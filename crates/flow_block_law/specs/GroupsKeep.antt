-- Which groups a batched join has made: whatever its node does, what it took is cut, in the order in which it came in over all
-- ports, into the groups that were given or are left, and what waits.
use Rattle.std.specs.Prelude.{◌≡◌, ℕ, ◌<◌, true, false, List, [], ◌∷◌, ◌++◌, length, drop, Option, Some, None, Result}
use Rattle.flow_value.specs.declared.value.Value.{Value}
use Rattle.flow_link.specs.Layout.{Layout}
use Rattle.flow_link.specs.Trace.{has_complete}
use Rattle.flow_intake.specs.Port.{is_hand}
use Rattle.flow_group.specs.Group.{has_group}
use Rattle.flow_block.specs.Groups.{makes_group}
use Rattle.flow_block.specs.Node.{NodeState, NodeCall, with_block, hand_at, after, holds_in}
use Rattle.flow_block_law.specs.NodeKeeps.{InAt, MayCall}
use Rattle.flow_block.specs.Planned.{block_makes}
use Rattle.flow_block_law.specs.GroupsLaw.{are_complete, KeepsGroups}

-- a message came in at the port
abbrev pub order_taken : ℕ → Option Value → List ℕ → List ℕ
order_taken p None order = order
order_taken p (Some _) order = order ++ p ∷ []

module _ (size weight : ℕ) where
  -- what becomes of a batched join's node by a call, whatever weight a group has: it makes groups, holds what it takes, and
  -- does all else as each node does
  abbrev pub after_at_batched : (Value → Result (List Value) ℕ) → List ℕ → NodeCall → NodeState → NodeState
  after_at_batched result order NodeCall.make node = with_block (makes_group size weight order node.block) node
  after_at_batched result order (NodeCall.close p k) node = holds_in p k (hand_at p k node) node
  after_at_batched result order call node = after result call node

  -- and of the order of what is in no group
  abbrev pub order_after : NodeCall → NodeState → List ℕ → List ℕ
  order_after (NodeCall.close p k) node order = order_taken p (hand_at p k node) order
  order_after NodeCall.make node order = drop size order
  order_after _ node order = order

-- the message in hand may be taken: its port is not complete
pub record MayTake (p k : ℕ) (node : NodeState) : Type 0 where
  pub hand : InAt is_hand p k node
  pub unfinished : has_complete p node.journal ≡ false

module _ {W : Type 0} (layout : Layout W) (meaning : ℕ → Value → Result (List Value) ℕ) (b size : ℕ) where
  abbrev pub MayCallBatched : List ℕ → NodeCall → NodeState → Type 0
  MayCallBatched order NodeCall.make node = has_group size (are_complete (length node.block.ports) node.journal) order ≡ true
  MayCallBatched order (NodeCall.close p k) node = MayTake p k node
  MayCallBatched order (NodeCall.copy call) node = ⊥
  MayCallBatched order call node = MayCall layout meaning b call node

-- each call keeps the groups of a batched join
abbrev pub GroupsStand : Type 0 → Type 0
GroupsStand W =
    (layout : Layout W) (meaning : ℕ → Value → Result (List Value) ℕ) (b size weight : ℕ) → 0 < size
    → (order : List ℕ) (node : NodeState) (call : NodeCall)
    → KeepsGroups size order node.block node.journal → MayCallBatched layout meaning b size order call node
    → KeepsGroups size (order_after size weight call node order)
    (after_at_batched size weight (block_makes layout meaning b) order call node).block
    (after_at_batched size weight (block_makes layout meaning b) order call node).journal
