-- What a block could do next by itself, told by its own data alone.
use Rattle.std.specs.Prelude.{ℕ, ◌+◌, ◌^◌, ◌==◌, leb, ltb, Bool, not, ◌&&◌, ◌||◌, cond, List, [], ◌∷◌, length, Option, None, is_some, is_none, option_map, Result}
use Rattle.flow_value.specs.declared.value.Value.{Value}
use Rattle.flow_link.specs.declared.kinds.BlockUnit.{BlockUnit}
use Rattle.flow_link.specs.declared.kinds.BlockUnit.TheVariants as unit
use Rattle.flow_link.specs.Kinds.{unit_of}
use Rattle.flow_link.specs.Lists.{every}
use Rattle.flow_link.specs.Plan.{has_work, is_broadcast, is_write_once}
use Rattle.flow_intake.specs.Port.{PortState, coming}
use Rattle.flow_intake.specs.Ended.{first_some, has_seen_completion, of_lower_link, fault_at_ends}
use Rattle.flow_intake.specs.PortLaw.{has_ended}
use Rattle.flow_outlet.specs.Outlet.{is_empty, is_at_rest, only_waits, lacks_ids}
use Rattle.flow_spread.specs.Spread.{SpreadState, is_spread_free, is_at_rest as is_spread_at_rest, only_waits as spread_only_waits}
use Rattle.flow_group.specs.Tuple.{has_tuple, is_join_complete, all_ended as ports_ended}
use Rattle.flow_block.specs.Block.{BlockState, port_at, held_by, is_join}
use Rattle.flow_block.specs.Copies.{copies_left, may_put}
use Rattle.flow_block.specs.Jobs.{out_count, is_out}
use Rattle.flow_block.specs.Groups.{has_group_at}
use Rattle.flow_block.specs.Node.{NodeState, puts_next}

-- of the faults that came over links the one over the link with the lowest number, with that link
abbrev pub link_fault : List PortState → Option (ℕ × ℕ)
link_fault [] = None
link_fault (port ∷ ports) = of_lower_link (fault_at_ends port.ends) (link_fault ports)

abbrev pub fault_at_ports : List PortState → Option ℕ
fault_at_ports ports = option_map (λ (fault : ℕ × ℕ). fault.1) (link_fault ports)

abbrev pub holds_nothing : List PortState → Bool
holds_nothing ports = every (λ (port : PortState). is_empty port.waiting) ports

abbrev pub nothing_comes : List PortState → Bool
nothing_comes ports = every (λ (port : PortState). coming port == 0) ports

abbrev pub all_ended : List PortState → Bool
all_ended ports = every (λ (port : PortState). has_ended port.refusing) ports

-- the block faults, or will when what is under way is through: its own function has faulted, or it has seen a fault
abbrev pub is_pending : BlockState → Bool
is_pending block = is_some block.fault || is_some (fault_at_ports block.ports)

-- a batch holds what it makes a row of: as many messages as a row has, or the rest when its port has completed
abbrev pub has_group : BlockState → Bool
has_group block =
    not (is_empty (held_by block)) && (leb block.size (length (held_by block)) || has_ended (port_at 0 block).refusing)

-- as many messages wait at the ports of a batched join as a group has, or the rest do when all its ports have completed
abbrev pub has_group_of_ports : BlockState → Bool
has_group_of_ports block = has_group_at block.size (ports_ended block.ports) block.ports

-- a broadcast may copy another message: no link is to have the last one still, or waits for it
abbrev pub may_copy : BlockState → Bool
may_copy block = not (is_broadcast block.kind) || may_put block.copies

-- it holds what it could make something of
abbrev pub has_unit : BlockUnit → BlockState → Bool
has_unit unit.Message block = not (is_empty (held_by block)) && may_copy block
has_unit unit.Row block = has_group block
has_unit unit.Tuple block = has_tuple block.ports
has_unit unit.Group block = has_group_of_ports block
has_unit unit.Copy block = not (is_empty (held_by block)) && may_copy block
has_unit unit.OneCopy block = not (is_empty (held_by block)) && may_copy block

abbrev pub has_next : BlockState → Bool
has_next block = has_unit (unit_of block.kind) block

-- it could make nothing more of what it holds
abbrev pub is_off_by_unit : BlockUnit → BlockState → Bool
is_off_by_unit unit.Message block = holds_nothing block.ports
is_off_by_unit unit.Row block = not (has_group block)
is_off_by_unit unit.Tuple block = not (has_tuple block.ports)
is_off_by_unit unit.Group block = not (has_group_of_ports block)
is_off_by_unit unit.Copy block = holds_nothing block.ports
is_off_by_unit unit.OneCopy block = holds_nothing block.ports

abbrev pub is_worked_off : BlockState → Bool
is_worked_off block = is_off_by_unit (unit_of block.kind) block

-- it goes on, and holds what it could make something of
abbrev pub may_work : BlockState → Bool
may_work block = is_none block.stopped && is_none block.fault && has_next block

-- it may make its next outputs: a block without a function makes them at once
abbrev pub may_make : BlockState → Bool
may_make block = may_work block && not (has_work block.kind)

-- there is no id left for what it would make
abbrev pub lacks_next : (Value → Result (List Value) ℕ) → NodeState → Bool
lacks_next result node =
    cond (is_broadcast node.block.kind) (leb (2 ^ 59) (node.block.copies.id + 1))
    (lacks_ids (puts_next result node) node.block.exits)

-- it may work on one more of the messages that it holds: a lane is free, and not all that wait are begun
abbrev pub may_begin : BlockState → Bool
may_begin block =
    may_work block && has_work block.kind
    && ltb (out_count block.jobs.slots) block.jobs.lanes && ltb (length block.jobs.slots) (length (held_by block))

-- the result of this job may come back
abbrev pub may_end : ℕ → BlockState → Bool
may_end ticket block = is_none block.stopped && is_out ticket block.jobs

-- it takes one message in all, and has it
abbrev pub is_written : BlockState → Bool
is_written block = is_write_once block.kind && is_some block.copies.element

-- the port is open, completion came over a link or the block has all that it takes, and no message is on its way into the port
abbrev pub may_complete : ℕ → BlockState → Bool
may_complete p block =
    not (has_ended (port_at p block).refusing) && coming (port_at p block) == 0
    && (has_seen_completion (port_at p block).ends || is_written block)

-- the fault by which it would stop: its own, or one that it has seen, once it could make nothing more of what it took
abbrev pub fault_cause : BlockState → Option ℕ
fault_cause block = first_some block.fault (cond (is_worked_off block) (fault_at_ports block.ports) None)

-- it has not stopped, and no message is on its way into it
abbrev pub could_stop : BlockState → Bool
could_stop block = is_none block.stopped && nothing_comes block.ports

-- nothing is under way over a link out of it
abbrev pub is_out_at_rest : BlockState → Bool
is_out_at_rest block = is_at_rest block.exits && is_spread_at_rest block.copies

abbrev pub next_fault : BlockState → Option ℕ
next_fault block = cond (could_stop block && is_out_at_rest block) (fault_cause block) None

-- it would fault, but for offers that wait for their targets
abbrev pub is_held_up : BlockState → Bool
is_held_up block = could_stop block && only_waits block.exits && is_some (fault_cause block)

-- its ports have completed; a join is complete, too, when a completed port has no message that waits for partners, and what takes
-- one message in all when it has that
abbrev pub is_complete : BlockState → Bool
is_complete block = cond (is_join block.kind) (is_join_complete block.ports) (all_ended block.ports || is_written block)

-- it is complete, and has nothing to work on and nothing to give
abbrev pub has_all_given : BlockState → Bool
has_all_given block =
    is_complete block && holds_nothing block.ports && is_empty block.exits.left && copies_left block.copies == 0

-- no copy is left to give, and none is under way
abbrev pub is_copied_out : SpreadState → Bool
is_copied_out copies = copies_left copies == 0 && is_spread_at_rest copies

-- it is complete, has nothing to work on and nothing to give, and nothing is under way
abbrev pub may_finish : BlockState → Bool
may_finish block =
    could_stop block && is_complete block && holds_nothing block.ports && is_empty block.exits.left && is_at_rest block.exits
    && is_copied_out block.copies

-- a broadcast would copy its next message, but for offers of the last one that wait
abbrev pub would_copy : BlockState → Bool
would_copy block = is_none block.stopped && not (is_empty (held_by block)) && is_spread_free block.copies

-- a block that copies would go on, fault or be done, but for such offers
abbrev pub is_copy_held_up : BlockState → Bool
is_copy_held_up block =
    would_copy block || could_stop block && spread_only_waits block.copies && (is_some (fault_cause block) || has_all_given block)
