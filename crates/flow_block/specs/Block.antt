-- A block as plain data, and what its calls make of it: each block takes messages at its ports, makes something of them, and
-- gives that over its exits.
use Rattle.std.specs.Prelude.{ℕ, suc, ◌+◌, ◌-◌, min, Bool, true, false, cond, List, [], ◌∷◌, ◌++◌, length, get_or, set, map, take, drop, Option, Some, None, is_none, Result, Ok, Err, pos, ◌^◌, ◌==◌, ltb, not, ◌&&◌}
use Rattle.flow_value.specs.View.{items_from}
use Rattle.flow_value.specs.declared.value.Value.{Value}
use Rattle.flow_value.specs.declared.value.Value.TheVariants.{Int, Row}
use Rattle.flow_link.specs.declared.draft.BlockKind.{BlockKind}
use Rattle.flow_link.specs.declared.draft.BlockKind.TheVariants.{Buffer, Broadcast, WriteOnce, Action, Transform, TransformMany, Batch, Join, BatchedJoin}
use Rattle.flow_link.specs.declared.kinds.BlockUnit.{BlockUnit}
use Rattle.flow_link.specs.declared.kinds.BlockUnit.TheVariants as unit
pub use Rattle.flow_link.specs.Kinds.{is_batch, is_join, is_batched_join, has_ports}
use Rattle.flow_link.specs.Kinds.{unit_of, gives_nothing}
use Rattle.flow_link.specs.Making.{items_of, row_weight}
use Rattle.flow_link.specs.declared.trace.Outcome.{Outcome}
use Rattle.flow_link.specs.Plan.{is_write_once}
use Rattle.flow_intake.specs.Port.{PortState, fresh_port}
use Rattle.flow_intake.specs.Calls.{first_of, takes_next, gives_room, port_closes, port_fails}
use Rattle.flow_group.specs.Tuple.{tuple_of, takes_tuple}
use Rattle.flow_outlet.specs.Outlet.{OutletState, puts, gives, head_of, is_empty}
use Rattle.flow_outlet.specs.Fits.{weight_of}
use Rattle.flow_spread.specs.Spread.{SpreadState, puts as copies_put, is_spread_free}
use Rattle.flow_block.specs.Copies.{copies_weight}
use Rattle.flow_block.specs.Jobs.{JobsState, Slot, begins as one_more, brings, works_off, comes_out, place_of}

pub record BlockState : Type 0 where
  pub kind : BlockKind
  -- how many messages a batch makes a row of
  pub size : ℕ
  pub ports : List PortState
  pub exits : OutletState
  -- the element that it copies to its links, if its kind copies
  pub copies : SpreadState
  -- what it works on
  pub jobs : JobsState
  -- the results that an action keeps
  pub recorded : List Value
  -- the fault of its own function on the message that waits longest, once it is known
  pub fault : Option ℕ
  pub stopped : Option Outcome

abbrev pub port_in : List PortState → ℕ → PortState
port_in ports p = get_or ports p (fresh_port None)

abbrev pub port_at : ℕ → BlockState → PortState
port_at p block = port_in block.ports p

-- one port changed
abbrev pub with_port : ℕ → (PortState → PortState) → BlockState → BlockState
with_port p change block = record block { ports = set block.ports p (change (port_at p block)) }

-- what it took at its first port and has not worked on: all kinds but joins have that port alone
abbrev pub held_by : BlockState → List Value
held_by block = (port_at 0 block).waiting

-- What it makes

-- what a block makes of one message: a buffer hands it on
abbrev pub made_of : BlockKind → (Value → Result (List Value) ℕ) → Value → Result (List Value) ℕ
made_of Buffer result value = Ok (value ∷ [])
made_of Broadcast result value = result value
made_of WriteOnce result value = result value
made_of Action result value = result value
made_of Transform result value = result value
made_of TransformMany result value = result value
made_of Batch result value = result value
made_of Join result value = result value
made_of BatchedJoin result value = result value

-- what is given counts only where there is a capacity
abbrev pub unit_weight : Option ℕ → ℕ
unit_weight None = 0
unit_weight (Some _) = 1

-- its own function faults on the message that waits longest
abbrev pub fails : ℕ → BlockState → BlockState
fails number block = record block { fault = Some number; ports = map port_fails block.ports }

-- the message is done with, and its results are recorded
abbrev pub records : List Value → BlockState → BlockState
records values block = record (with_port 0 (λ port. gives_room 1 (takes_next port)) block) { recorded = block.recorded ++ values }

-- the message's results are there to be given, and its room comes back when they are; where there are none, it does at once
abbrev pub puts_out : List Value → BlockState → BlockState
puts_out [] block = with_port 0 (λ port. gives_room 1 (takes_next port)) block
puts_out (value ∷ values) block =
    record (with_port 0 takes_next block) { exits = puts (value ∷ values) (unit_weight (port_at 0 block).capacity) block.exits }

-- a block with a function is done with a job by that
abbrev pub with_jobs : (JobsState → JobsState) → BlockState → BlockState
with_jobs change block = record block { jobs = change block.jobs }

abbrev pub keeps_results : BlockKind → List Value → BlockState → BlockState
keeps_results Buffer values block = puts_out values block
keeps_results Broadcast values block = with_jobs works_off (puts_out values block)
keeps_results WriteOnce values block = with_jobs works_off (puts_out values block)
keeps_results Action values block = with_jobs works_off (records values block)
keeps_results Transform values block = with_jobs works_off (puts_out values block)
keeps_results TransformMany values block = with_jobs works_off (puts_out values block)
keeps_results Batch values block = with_jobs works_off (puts_out values block)
keeps_results Join values block = with_jobs works_off (puts_out values block)
keeps_results BatchedJoin values block = with_jobs works_off (puts_out values block)

abbrev pub yields : Result (List Value) ℕ → BlockState → BlockState
yields (Ok values) block = keeps_results block.kind values block
yields (Err number) block = fails number block

abbrev pub makes_of : (Value → Result (List Value) ℕ) → Option Value → BlockState → BlockState
makes_of result None block = block
makes_of result (Some value) block = yields (made_of block.kind result value) block

-- a batch makes rows of its messages
abbrev pub row_of : List Value → Value
row_of values = Row (items_from values)

-- the messages of its next row: as many as a row has, or all that there are
abbrev pub next_group : BlockState → List Value
next_group block = take block.size (held_by block)

-- a row counts for each of its messages, where there is a capacity
abbrev pub group_weight : Option ℕ → ℕ → ℕ
group_weight None count = 0
group_weight (Some _) count = count

abbrev pub takes_group : ℕ → PortState → PortState
takes_group count port = record port { waiting = drop count port.waiting }

-- the row is there to be given, and the room of its messages comes back when it is
abbrev pub makes_row : BlockState → BlockState
makes_row block =
    record (with_port 0 (takes_group block.size) block) {
      exits = puts (row_of (next_group block) ∷ []) (group_weight (port_at 0 block).capacity (length (next_group block))) block.exits;
    }

-- a join makes tuples, of the messages that wait longest, one from each port. The tuple is there to be given, and when it is, one
-- place comes back at each port
abbrev pub makes_tuple : BlockState → BlockState
makes_tuple block = record block {
  ports = takes_tuple block.ports;
  exits = puts (tuple_of block.ports ∷ []) (unit_weight (port_at 0 block).capacity) block.exits;
}

-- the message is what it copies from now on. Where it counts nothing, its room comes back at once
abbrev pub copies_it : Value → BlockState → BlockState
copies_it value block =
    record (with_port 0 (λ port. gives_room (1 - copies_weight (copies_put value block.copies)) (takes_next port)) block) {
      copies = copies_put value block.copies;
    }

abbrev pub copies_next : Option Value → BlockState → BlockState
copies_next None block = block
copies_next (Some value) block = copies_it value block

-- a block that takes one message in all copies it when it takes it, if all that this needs is there
abbrev pub copies_at_once : BlockState → Bool
copies_at_once block =
    is_write_once block.kind && length block.ports == 1 && not (is_empty (held_by block)) && is_spread_free block.copies
    && ltb (block.copies.id + 1) (2 ^ 59)

abbrev pub copies_where : Bool → BlockState → BlockState
copies_where true block = copies_next (first_of (held_by block)) block
copies_where false block = block

abbrev pub copies_taken : BlockState → BlockState
copies_taken block = copies_where (copies_at_once block) block

-- a batch makes its next row, a join its next tuple, a broadcast copies the message that it holds first, and each other block
-- makes what it makes of that message; of a batched join it is the node that makes its next group
abbrev pub makes_by_unit : BlockUnit → (Value → Result (List Value) ℕ) → BlockState → BlockState
makes_by_unit unit.Message result block = makes_of result (first_of (held_by block)) block
makes_by_unit unit.Row result block = makes_row block
makes_by_unit unit.Tuple result block = makes_tuple block
makes_by_unit unit.Group result block = makes_of result (first_of (held_by block)) block
makes_by_unit unit.Copy result block = copies_next (first_of (held_by block)) block
makes_by_unit unit.OneCopy result block = makes_of result (first_of (held_by block)) block

abbrev pub makes : (Value → Result (List Value) ℕ) → BlockState → BlockState
makes result block = makes_by_unit (unit_of block.kind) result block

-- what it would put into its exits by that
abbrev pub put_by_kind : BlockKind → List Value → List Value
put_by_kind kind values = cond (gives_nothing kind) [] values

abbrev pub values_of_result : Result (List Value) ℕ → List Value
values_of_result (Ok values) = values
values_of_result (Err number) = []

abbrev pub put_of : BlockKind → (Value → Result (List Value) ℕ) → Option Value → List Value
put_of kind result None = []
put_of kind result (Some value) = put_by_kind kind (values_of_result (made_of kind result value))

abbrev pub puts_by_unit : BlockUnit → (Value → Result (List Value) ℕ) → BlockState → List Value
puts_by_unit unit.Message result block = put_of block.kind result (first_of (held_by block))
puts_by_unit unit.Row result block = row_of (next_group block) ∷ []
puts_by_unit unit.Tuple result block = tuple_of block.ports ∷ []
puts_by_unit unit.Group result block = put_of block.kind result (first_of (held_by block))
puts_by_unit unit.Copy result block = []
puts_by_unit unit.OneCopy result block = put_of block.kind result (first_of (held_by block))

abbrev pub put_next : (Value → Result (List Value) ℕ) → BlockState → List Value
put_next result block = puts_by_unit (unit_of block.kind) result block

-- Its jobs

-- one more of the messages that it holds is worked on
abbrev pub begins : BlockState → BlockState
begins block = with_jobs one_more block

-- the results that are there come out in order, up to one that is not, or is a fault
abbrev pub yields_all : List Slot → BlockState → BlockState
yields_all (Some (Ok values) ∷ slots) block = yields_all slots (keeps_results block.kind values block)
yields_all (Some (Err number) ∷ slots) block = fails number block
yields_all _ block = block

-- nothing comes out behind a fault of its own
abbrev pub yields_where : Bool → BlockState → BlockState
yields_where true block = yields_all block.jobs.slots block
yields_where false block = block

-- the result of a message comes back, and what is in order comes out
abbrev pub ends_job : ℕ → Result (List Value) ℕ → BlockState → BlockState
ends_job ticket result block = yields_where (is_none block.fault) (with_jobs (brings ticket result) block)

-- what it would put into its exits by that
abbrev pub put_where : Bool → BlockKind → List Slot → List Value
put_where true kind slots = put_by_kind kind (comes_out slots)
put_where false kind slots = []

abbrev pub put_by_job : ℕ → Result (List Value) ℕ → BlockState → List Value
put_by_job ticket result block = put_where (is_none block.fault) block.kind (brings ticket result block.jobs).slots

-- the message of a job
abbrev pub job_message : ℕ → BlockState → Value
job_message ticket block = get_or (held_by block) (place_of ticket block.jobs) (Int (pos 0))

-- What it gives, and how it ends

-- how many messages of a group came in at a port; the groups of a batched join have no weight, but this room
abbrev pub group_count : Option Value → ℕ → ℕ
group_count None p = 0
group_count (Some group) p = row_weight (get_or (items_of group) p (Int (pos 0)))

abbrev pub count_by_unit : BlockUnit → Option Value → ℕ → ℕ
count_by_unit unit.Message head p = 0
count_by_unit unit.Row head p = 0
count_by_unit unit.Tuple head p = 0
count_by_unit unit.Group head p = group_count head p
count_by_unit unit.Copy head p = 0
count_by_unit unit.OneCopy head p = 0

abbrev pub row_count : BlockKind → Option Value → ℕ → ℕ
row_count kind head p = count_by_unit (unit_of kind) head p

-- so much room comes back at a port, and that of so many messages of a group, but no more than it has out besides a weight
abbrev pub room_at : (room weight count : ℕ) → PortState → ℕ
room_at room weight count port = room + min count (port.load - length port.waiting - room - weight)

-- at each port, from this one on
abbrev pub gives_each : (room weight : ℕ) → (ℕ → ℕ) → ℕ → List PortState → List PortState
gives_each room weight counts p [] = []
gives_each room weight counts p (port ∷ ports) =
    gives_room (room_at room weight (counts p) port) port ∷ gives_each room weight counts (suc p) ports

-- the room of a head that was given comes back to the ports: what is wholly given of what was put, and at each port of a batched
-- join that of its messages
abbrev pub comes_back : OutletState → SpreadState → BlockKind → Option Value → List PortState → List PortState
comes_back exits copies kind head ports =
    gives_each exits.room (weight_of exits.groups + copies_weight copies) (row_count kind head) 0 ports

-- it gives its head over the exit at a place, and room comes back
abbrev pub gives_out : ℕ → BlockState → BlockState
gives_out k block = record block {
  exits = record (gives k block.exits) { room = 0 };
  ports = comes_back (gives k block.exits) block.copies block.kind (head_of block.exits) block.ports;
}

-- its end of a link over which copies go comes to stand elsewhere. Where the element counts no more, its room comes back
abbrev pub with_copies : SpreadState → BlockState → BlockState
with_copies copies block = record block {
  copies = copies;
  ports = map (gives_room (copies_weight block.copies - copies_weight copies)) block.ports;
}

abbrev pub stops_by : Outcome → BlockState → BlockState
stops_by how block = record block { stopped = Some how; ports = map port_closes block.ports }
