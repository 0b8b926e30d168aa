-- What becomes of the messages of a batched join that a caller drives by hand, over any calls.
use Rattle.std.specs.Prelude.{◌≡◌, ℕ, ◌<◌, true, List, [], ◌∷◌, ◌++◌, length, Ok, ◌+◌}
use Rattle.flow_value.specs.declared.value.Value.{Value}
use Rattle.flow_link.specs.BlockCalls.{BlockCall}
use Rattle.flow_link.specs.declared.draft.BlockKind.TheVariants.{BatchedJoin}
use Rattle.flow_link.specs.Making.{Arrival, all_items, column}
use Rattle.flow_intake.specs.Port.{PortState, coming}
use Rattle.flow_group.specs.Group.{group_of}
use Rattle.flow_group.specs.Groups.{GroupsLaw}
use Rattle.flow_group.specs.Tuple.{held_at, all_ended}
use Rattle.flow_outlet.specs.declared.ends.LinkRule.{LinkRule}
use Rattle.flow_kinds.specs.BatchedJoin.{JoinState, Tells, waits, fresh_join}
use Rattle.flow_kinds.specs.BatchedCalls.{Learns, Acts, Gives, Takes}
use Rattle.flow_link.specs.LinkOk.{IsWithin}
use Rattle.flow_block.specs.Block.{port_at}
use Rattle.flow_history.specs.Calls.{MayCallInOrder, Call, MayCall, Fits, Step, AllDone, after_all}
use Rattle.flow_history.specs.History.{History, nothing_yet, given, came_by, history_of, gave_by}
use Rattle.flow_history.specs.Kept.{NothingCame}

abbrev pub MayCallJoin : Call → JoinState → Type 0
MayCallJoin call join = MayCall call join.block

abbrev pub MayCallJoinInOrder : Call → JoinState → Type 0
MayCallJoinInOrder call join = MayCallInOrder call join.block

abbrev pub DoesToJoin : Call → JoinState → JoinState → Type 0
DoesToJoin (Call.acts call) old new = Acts old call new
DoesToJoin (Call.gives call) old new = Gives old call new
DoesToJoin (Call.takes call) old new = Takes old call new
DoesToJoin Call.asked old new = Learns old new

-- facts of each batched join
pub record FitsJoin (join : JoinState) : Type 0 where
  pub fits : Fits join.block
  pub kind_is : join.block.kind ≡ BatchedJoin
  pub tells : Tells join.order (waits join.block.ports)

abbrev pub came_to : Call → JoinState → List Arrival
came_to call join = came_by call join.block

abbrev pub grouped_by : Call → JoinState → List Value
grouped_by (Call.acts (BlockCall.made (Ok true))) join = group_of join.block.size join.order join.block.ports ∷ []
grouped_by _ join = []

pub record KeepsGroups (history : History) (join : JoinState) : Type 0 where
  -- each group is given once, in order, or is left
  pub shared : history.made ≡ given history.gave ++ join.block.exits.left
  -- what came in is cut into groups, in the order in which it came, and what is held
  pub groups : GroupsLaw (length join.block.ports) join.block.size (all_ended join.block.ports) history.came history.made join.order
      (held_at join.block.ports)
  -- what it holds at a port, the port's messages in groups that are not given, and what comes there fit into the port's capacity
  pub within : (p : ℕ) → p < length join.block.ports
      → IsWithin (port_at p join.block).capacity
      (length (held_at join.block.ports p) + length (all_items (column p join.block.exits.left)) + coming (port_at p join.block))

-- over any calls, from a batched join to which nothing came
pub record GroupsAreKept : Type 0 where
  pub each : (size : ℕ) (ports : List PortState) (rules : List LinkRule) → 0 < size → NothingCame ports
      → FitsJoin (fresh_join size ports rules)
      → (steps : List (Step Call JoinState)) → AllDone FitsJoin MayCallJoinInOrder DoesToJoin steps (fresh_join size ports rules)
      → KeepsGroups (history_of came_to grouped_by gave_by steps (fresh_join size ports rules) nothing_yet)
      (after_all steps (fresh_join size ports rules))
