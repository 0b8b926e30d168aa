-- A message that goes over a link in one call: what the five moves of the link and the looks at its phases make of the source,
-- and of the target. The message has id i.
use Rattle.std.specs.Prelude.{ℕ, Bool, ◌&&◌, not}
use Rattle.flow_value.specs.declared.value.Value.{Value}
use Rattle.flow_link.specs.declared.phase.Phase.{Phase}
use Rattle.flow_link.specs.declared.phase.Phase.TheVariants.{Idle, Offered, Wanted, Given, Opened}
use Rattle.flow_intake.specs.Port.{PortState}
use Rattle.flow_intake.specs.Calls.{wants, opens, looks as port_looks}
use Rattle.flow_intake.specs.Receives.{takes_at_once}
use Rattle.flow_outlet.specs.Outlet.{head_of, prepares, offers, looks as exit_looks}
use Rattle.flow_group.specs.Round.{reserves}
use Rattle.flow_block.specs.Block.{BlockState, port_at, with_port, gives_out}
use Rattle.flow_block.specs.Copies.{CopyCall}
use Rattle.flow_block.specs.Node.{NodeState, with_block, with_exits, gives_from, takes_in, hand_at, copies_by}

-- the source's block, where the head's parcel is made
abbrev pub exits_look : ℕ → Phase → BlockState → BlockState
exits_look k phase block = record block { exits = exit_looks k phase block.exits }

abbrev pub block_sends : ℕ → ℕ → BlockState → BlockState
block_sends k i block =
    exits_look k Idle (exits_look k (Opened i) (gives_out k (exits_look k (Wanted i) (record block { exits = offers k block.exits }))))

-- the source's node: it offers, sees that the message is wanted, gives it, and sees that it is taken
abbrev pub looks_out : ℕ → Phase → NodeState → NodeState
looks_out k phase node = with_exits (exit_looks k phase node.block.exits) node

abbrev pub gives_head : ℕ → NodeState → NodeState
gives_head k node = gives_from k (head_of node.block.exits) node

abbrev pub sends_ready : ℕ → ℕ → NodeState → NodeState
sends_ready k i node =
    looks_out k Idle (looks_out k (Opened i) (gives_head k (looks_out k (Wanted i) (with_exits (offers k node.block.exits) node))))

abbrev pub sends_on : ℕ → ℕ → NodeState → NodeState
sends_on k i node = sends_ready k i (with_exits (prepares node.block.exits) node)

-- the node of a block that copies, after its offer: it sees that the element is wanted, gives it, and sees that it is taken
abbrev pub sends_copy : ℕ → ℕ → NodeState → NodeState
sends_copy k i node =
    copies_by (CopyCall.look k Idle) (copies_by (CopyCall.look k (Opened i)) (copies_by (CopyCall.give k)
    (copies_by (CopyCall.look k (Wanted i)) node)))

-- the target's node: it sees the offer, wants the message, sees that it is given, opens it and takes it
abbrev pub on_port : ℕ → (PortState → PortState) → NodeState → NodeState
on_port p change node = with_block (with_port p change node.block) node

abbrev pub takes_hand : ℕ → ℕ → NodeState → NodeState
takes_hand p k node = takes_in p k (hand_at p k node) node

abbrev pub receives_on : ℕ → ℕ → ℕ → Value → NodeState → NodeState
receives_on p k i value node =
    takes_hand p k (on_port p (opens k value) (on_port p (port_looks k (Given i)) (on_port p (wants k)
    (on_port p (port_looks k (Offered i)) node))))

-- a port takes at once what is offered to it, and no round stands in its way
abbrev pub takes_freely : ℕ → ℕ → NodeState → Bool
takes_freely p k node = takes_at_once k (port_at p node.block) && not (reserves node.round)
