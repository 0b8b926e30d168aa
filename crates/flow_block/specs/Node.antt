-- A node of a network: a block with its journal. Its calls are its side of each move of a link, its looks, and what it does by
-- itself.
use Rattle.std.specs.Prelude.{ℕ, ◌+◌, cond, Bool, false, List, [], ◌∷◌, ◌++◌, map, drop, Option, Some, None, Result}
use Rattle.flow_value.specs.declared.value.Value.{Value}
use Rattle.flow_link.specs.declared.phase.LinkEnd.{LinkEnd}
use Rattle.flow_link.specs.declared.phase.Move.{Move}
use Rattle.flow_link.specs.declared.phase.Phase.{Phase}
use Rattle.flow_link.specs.declared.trace.Mark.{Mark}
use Rattle.flow_link.specs.declared.trace.Mark.TheVariants.{Took, Gave, Complete, Fault, Done}
use Rattle.flow_link.specs.declared.trace.Outcome.TheVariants as outcome
use Rattle.flow_link.specs.Stage.{source_stage_of, target_stage_of}
use Rattle.flow_link.specs.Trace.{BlockTrace, gave_over, took_over}
use Rattle.flow_link.specs.Views.{SourceView, TargetView}
use Rattle.flow_intake.specs.Port.{EndState, PortState, end_in, link_in, hand_in}
use Rattle.flow_intake.specs.Calls.{in_move, is_front, loses_front, wants, turns_down, postpones, refuses, consumes, asks, claims, releases, opens, closes, looks as port_looks, port_closes}
use Rattle.flow_outlet.specs.Outlet.{OutletState, head_of, end_at, prepares, offers, holds, denies, withdraws, ends_link, looks as exit_looks}
use Rattle.flow_outlet.specs.declared.ends.OutEnd.{OutEnd}
use Rattle.flow_outlet.specs.History.{listed}
use Rattle.flow_spread.specs.Spread.{SpreadState, link_at, left_of}
use Rattle.flow_link.specs.Plan.{is_one_taker}
use Rattle.flow_group.specs.Group.{group_of}
use Rattle.flow_group.specs.Round.{RoundState, settles, claims_on, round_move}
use Rattle.flow_block.specs.Block.{BlockState, port_at, with_port, begins, makes, put_next, gives_out, with_copies, stops_by, is_batched_join, copies_taken}
use Rattle.flow_block.specs.Copies.{CopyCall, after_copy}
use Rattle.flow_block.specs.Groups.{makes_group, ports_in, marks_until}

pub record NodeState : Type 0 where
  pub block : BlockState
  pub journal : List Mark
  -- how many of its marks are no younger than those of the messages that are in groups, if it is a batched join
  pub grouped : ℕ
  -- how far its round is, if it is a join that reserves
  pub round : RoundState

-- a call of a node. The ends of its links are told by their places: those of the links into it by a port and a place there
pub data NodeCall : Type 0 where
  -- the target's side of each move
  want : ℕ → ℕ → NodeCall
  turn_down : ℕ → ℕ → NodeCall
  postpone : ℕ → ℕ → NodeCall
  refuse : ℕ → ℕ → NodeCall
  consume : ℕ → ℕ → NodeCall
  ask : ℕ → ℕ → NodeCall
  claim : ℕ → ℕ → NodeCall
  release : ℕ → ℕ → NodeCall
  open_with : ℕ → ℕ → Value → NodeCall
  close : ℕ → ℕ → NodeCall
  -- the source's side; an offer's parcel is made ready with it
  offer : ℕ → NodeCall
  give : ℕ → NodeCall
  hold : ℕ → NodeCall
  deny : ℕ → NodeCall
  withdraw : ℕ → NodeCall
  end_link : ℕ → LinkEnd → NodeCall
  -- the looks
  look_in : ℕ → ℕ → Phase → NodeCall
  look_out : ℕ → Phase → NodeCall
  -- the source's side of each move and look, at a link over which copies go
  copy : CopyCall → NodeCall
  -- what it does by itself: it begins to work on one more message, and what it makes of its first message comes out
  begin : NodeCall
  make : NodeCall
  complete : ℕ → NodeCall
  fault : ℕ → NodeCall
  finish : NodeCall

abbrev pub with_block : BlockState → NodeState → NodeState
with_block block node = record node { block = block }

abbrev pub with_exits : OutletState → NodeState → NodeState
with_exits exits node = record node { block = record node.block { exits = exits } }

abbrev pub marks : Mark → NodeState → NodeState
marks mark node = record node { journal = node.journal ++ mark ∷ [] }

-- what the end at a place has in hand, and its link
abbrev pub hand_at : ℕ → ℕ → NodeState → Option Value
hand_at p k node = hand_in k (port_at p node.block).ends

abbrev pub in_link_at : ℕ → ℕ → NodeState → ℕ
in_link_at p k node = link_in k (port_at p node.block).ends

abbrev pub out_link_at : ℕ → NodeState → ℕ
out_link_at k node = (end_at node.block.exits k).rule.id

-- the message in hand becomes the block's, which holds it
abbrev pub holds_in : ℕ → ℕ → Option Value → NodeState → NodeState
holds_in p k None node = node
holds_in p k (Some value) node =
    marks (Took p (in_link_at p k node) value) (with_block (with_port p (closes k value) node.block) node)

-- the round of a join that reserves goes on with its ports: an offer in front of one has gone, or none has
abbrev pub goes_round : Bool → NodeState → NodeState
goes_round gone node = record node { round = settles gone node.block.ports node.round }

-- or copies it at once
abbrev pub takes_in : ℕ → ℕ → Option Value → NodeState → NodeState
takes_in p k hand node = with_block (copies_taken (holds_in p k hand node).block) (holds_in p k hand node)

-- the head goes over the link
abbrev pub gives_from : ℕ → Option Value → NodeState → NodeState
gives_from k None node = node
gives_from k (Some value) node = marks (Gave (out_link_at k node) value) (with_block (gives_out k node.block) node)

-- a copy of the element goes over its link
abbrev pub marks_copied : ℕ → Option Value → List Mark → List Mark
marks_copied link None journal = journal
marks_copied link (Some value) journal = journal ++ Gave link value ∷ []

abbrev pub marks_copy : CopyCall → SpreadState → List Mark → List Mark
marks_copy (CopyCall.give k) copies journal = marks_copied (link_at copies k).rule.id copies.element journal
marks_copy _ copies journal = journal

abbrev pub copies_by : CopyCall → NodeState → NodeState
copies_by call node = record node {
  block = with_copies (after_copy call node.block.copies) node.block;
  journal = marks_copy call node.block.copies node.journal;
}

-- of a batched join, the ports of the messages that are in no group yet, in the order in which they came in: its journal says it
abbrev pub order_in : NodeState → List ℕ
order_in node = ports_in (drop node.grouped node.journal)

-- the next group is there to be given, and its marks are those of a group. Its room comes back by its rows, so it has no weight
abbrev pub makes_next_group : NodeState → NodeState
makes_next_group node = record node {
  block = makes_group node.block.size 0 (order_in node) node.block;
  grouped = node.grouped + marks_until (drop node.grouped node.journal) node.block.size;
}

abbrev pub next_group_in : NodeState → Value
next_group_in node = group_of node.block.size (order_in node) node.block.ports

-- what the end of a link into it would do next: by itself, or for the round of a join that reserves
abbrev pub or_else : Option Move → Option Move → Option Move
or_else (Some next) other = Some next
or_else None other = other

abbrev pub next_in : ℕ → ℕ → NodeState → Option Move
next_in p k node = or_else (in_move k (port_at p node.block)) (round_move p k node.round node.block.ports)

-- what a node makes of a message by its function
module _ (result : Value → Result (List Value) ℕ) where
  -- a batched join makes its next group, and each other block what it makes by itself
  abbrev pub makes_next : NodeState → NodeState
  makes_next node = cond (is_batched_join node.block.kind) (makes_next_group node) (with_block (makes result node.block) node)

  -- what it would put into its exits by that
  abbrev pub puts_next : NodeState → List Value
  puts_next node = cond (is_batched_join node.block.kind) (next_group_in node ∷ []) (put_next result node.block)

  abbrev pub after : NodeCall → NodeState → NodeState
  after (NodeCall.want p k) node = with_block (with_port p (wants k) node.block) node
  after (NodeCall.turn_down p k) node = with_block (with_port p (turns_down k) node.block) node
  after (NodeCall.postpone p k) node = with_block (with_port p (postpones k) node.block) node
  after (NodeCall.refuse p k) node =
      goes_round (is_front k (port_at p node.block)) (with_block (with_port p (refuses k) node.block) node)
  after (NodeCall.consume p k) node = with_block (with_port p (consumes k) node.block) node
  after (NodeCall.ask p k) node = with_block (with_port p (asks k) node.block) node
  after (NodeCall.claim p k) node =
      record (with_block (with_port p (claims k) node.block) node) { round = claims_on node.round }
  after (NodeCall.release p k) node = goes_round false (with_block (with_port p (releases k) node.block) node)
  after (NodeCall.open_with p k value) node = with_block (with_port p (opens k value) node.block) node
  after (NodeCall.close p k) node = goes_round false (takes_in p k (hand_at p k node) node)
  after (NodeCall.offer k) node = with_exits (offers k (prepares node.block.exits)) node
  after (NodeCall.give k) node = gives_from k (head_of node.block.exits) node
  after (NodeCall.hold k) node = with_exits (holds k node.block.exits) node
  after (NodeCall.deny k) node = with_exits (denies k node.block.exits) node
  after (NodeCall.withdraw k) node = with_exits (withdraws k node.block.exits) node
  after (NodeCall.end_link k how) node = with_exits (ends_link k how node.block.exits) node
  after (NodeCall.look_in p k phase) node =
      goes_round (loses_front k phase (port_at p node.block)) (with_block (with_port p (port_looks k phase) node.block) node)
  after (NodeCall.look_out k phase) node = with_exits (exit_looks k phase node.block.exits) node
  after (NodeCall.copy call) node = copies_by call node
  after NodeCall.begin node = with_block (begins node.block) node
  after NodeCall.make node = makes_next node
  after (NodeCall.complete p) node = marks (Complete p) (with_block (with_port p port_closes node.block) node)
  after (NodeCall.fault number) node = marks (Fault number) (with_block (stops_by (outcome.Faulted number) node.block) node)
  after NodeCall.finish node = marks Done (with_block (stops_by outcome.Done node.block) node)

-- what an end of a link knows, as its node's stages and marks tell
abbrev pub view_of_in : List Mark → EndState → TargetView Value
view_of_in journal end = record { before = 0; taken = took_over end.link journal; stage = target_stage_of end.stage end.hand }

abbrev pub view_of_out : List Mark → OutEnd → SourceView Value
view_of_out journal end =
    record { before = 0; given = gave_over end.rule.id journal; last = end.last; stage = source_stage_of end.stage }

abbrev pub in_view : ℕ → ℕ → NodeState → TargetView Value
in_view p k node = view_of_in node.journal (end_in k (port_at p node.block).ends)

abbrev pub out_view : ℕ → NodeState → SourceView Value
out_view k node = view_of_out node.journal (end_at node.block.exits k)

abbrev pub copy_view : ℕ → NodeState → SourceView Value
copy_view k node = view_of_out node.journal (link_at node.block.copies k)

-- of a link out of it, whether it shares its messages or copies them
abbrev pub source_view : ℕ → NodeState → SourceView Value
source_view k node = cond (is_one_taker node.block.kind) (out_view k node) (copy_view k node)

-- what it would give next: its head, or the element
abbrev pub given_next : NodeState → Option Value
given_next node = cond (is_one_taker node.block.kind) (head_of node.block.exits) node.block.copies.element

-- what it has to give
abbrev pub left_in : BlockState → List Value
left_in block = cond (is_one_taker block.kind) block.exits.left (listed (left_of block.copies))

-- what the block leaves of a run
abbrev pub node_trace : NodeState → BlockTrace
node_trace node = record {
  journal = node.journal;
  held = map (λ (port : PortState). port.waiting) node.block.ports;
  left = left_in node.block;
  recorded = node.block.recorded;
}
