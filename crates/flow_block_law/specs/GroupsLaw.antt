-- When a batched join is in order: what it took is cut, in the order in which it came in over all ports, into the groups that
-- were given or are left, and what waits; and at each port a place is taken by each message that is not in a group that was given.
use Rattle.std.specs.Prelude.{◌≡◌, ℕ, ◌+◌, ◌<◌, ◌≤◌, Bool, true, List, [], ◌++◌, length, is_some}
use Rattle.flow_value.specs.declared.value.Value.{Value}
use Rattle.flow_link.specs.declared.trace.Mark.{Mark}
use Rattle.flow_link.specs.Lists.{every, below}
use Rattle.flow_link.specs.Making.{all_items, arrivals, before_complete, column}
use Rattle.flow_link.specs.Trace.{gave, has_complete}
use Rattle.flow_group.specs.Groups.{GroupsLaw, is_whole}
use Rattle.flow_group.specs.Tuple.{held_at}
use Rattle.flow_block.specs.Block.{BlockState, port_at}
use Rattle.flow_block.specs.Copies.{copies_weight}
use Rattle.flow_block.specs.Node.{NodeState, order_in}

-- a node with so many ports has a mark Complete of each
abbrev pub are_complete : ℕ → List Mark → Bool
are_complete count journal = every (λ p. has_complete p journal) (below count)

-- with groups of this size, and the ports of the messages that are in no group yet, in the order in which they came in
abbrev pub KeepsGroups : ℕ → List ℕ → BlockState → List Mark → Type 0
KeepsGroups size order block journal =
    GroupsLaw (length block.ports) size (are_complete (length block.ports) journal) (arrivals journal)
    (gave journal ++ block.exits.left) order (held_at block.ports)

-- of so many ports: what was given before a port's Complete are whole groups
abbrev pub WholeBefore : (count size : ℕ) → List Mark → Type 0
WholeBefore count size journal = (p : ℕ) → p < count → every (is_whole size) (gave (before_complete p journal)) ≡ true

-- what it took is cut into its groups and what waits; the marks of the messages in groups stand in front of those that wait
pub record OrderedGroups (node : NodeState) : Type 0 where
  pub within : node.grouped ≤ length node.journal
  pub groups : KeepsGroups node.block.size (order_in node) node.block node.journal
  pub whole : WholeBefore (length node.block.ports) node.block.size node.journal

-- how many messages of these groups came in at a port
abbrev pub rows_left : ℕ → List Value → ℕ
rows_left p groups = length (all_items (column p groups))

pub record LoadByPort (block : BlockState) : Type 0 where
  -- a group has no weight: its room is that of its rows
  pub no_groups : block.exits.groups ≡ []
  pub no_room : block.exits.room ≡ 0
  pub no_copies : copies_weight block.copies ≡ 0
  pub load : (p : ℕ) → p < length block.ports → is_some (port_at p block).capacity ≡ true
      → (port_at p block).load ≡ length (port_at p block).waiting + rows_left p block.exits.left
