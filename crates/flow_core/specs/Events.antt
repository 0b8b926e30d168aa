-- What may happen next in a network, and what it changes. A move of a link may happen where the link's phase allows it and the
-- mover's end, by its own data alone, would make it; then the mover makes it, the link takes its new phase, and the other end
-- looks.
use Rattle.std.specs.Prelude.{◌≡◌, ℕ, ◌<◌, ◌^◌, cond, Bool, true, false, List, length, set, option_map, Option, Some, None, is_some, Result}
use Rattle.flow_value.specs.declared.value.Value.{Value}
use Rattle.flow_link.specs.declared.draft.BlockKind.{BlockKind}
use Rattle.flow_link.specs.declared.phase.Move.{Move}
use Rattle.flow_link.specs.declared.phase.Move.TheVariants as move
use Rattle.flow_link.specs.declared.phase.Phase.{Phase}
use Rattle.flow_link.specs.declared.phase.Phase.TheVariants.{Posted}
use Rattle.flow_link.specs.declared.plan.Link.{Link}
use Rattle.flow_link.specs.declared.plan.LinkSource.{LinkSource}
use Rattle.flow_link.specs.declared.plan.LinkSource.TheVariants.{Block, Input}
use Rattle.flow_link.specs.declared.plan.LinkTarget.{LinkTarget}
use Rattle.flow_link.specs.declared.plan.LinkTarget.TheVariants.{Port, Exit}
use Rattle.flow_link.specs.Layout.{Layout}
use Rattle.flow_link.specs.Phase.{phase_after}
use Rattle.flow_link.specs.Plan.{link_in, is_one_taker}
use Rattle.flow_outlet.specs.Outlet.{lacks_ids}
use Rattle.flow_block.specs.Copies.{CopyCall}
use Rattle.flow_input.specs.Input.{InputState, InputCall, input_move, after_input, next_id, next_value}
use Rattle.flow_block_law.specs.JobsEnd.{after_job, put_at_end}
use Rattle.flow_block_law.specs.NextMoves.{next_in, next_source}
use Rattle.flow_block.specs.Node.{NodeState, NodeCall, given_next, after as after_call}
use Rattle.flow_block.specs.Peeks.{lacks_next, may_make, may_begin, may_end, may_complete, next_fault, may_finish}
use Rattle.flow_block.specs.Planned.{in_place, out_place, input_place, exit_place, block_makes}
use Rattle.flow_link.specs.declared.trace.LinkState.{LinkState}
use Rattle.flow_exit.specs.Exit.{ExitState, ExitCall, exit_move, exit_call, exit_after}
use Rattle.flow_core.specs.State.{NetState, node_at, line_at, input_at, exit_at}

pub data NetEvent : Type 0 where
  -- a move at a link
  at_link : ℕ → Move → NetEvent
  -- what a block does by itself: it hands a message on, or begins to work on one, and the result of a job, by its ticket, comes back
  make : ℕ → NetEvent
  begin : ℕ → NetEvent
  end_job : ℕ → ℕ → NetEvent
  complete : ℕ → ℕ → NetEvent
  fault : ℕ → NetEvent
  finish : ℕ → NetEvent

-- whose move it is
abbrev pub is_of_source : Move → Bool
is_of_source (move.Offer _) = true
is_of_source (move.Post _) = true
is_of_source move.Withdraw = true
is_of_source move.Deny = true
is_of_source move.Hold = true
is_of_source move.Give = true
is_of_source (move.End _) = true
is_of_source _ = false

-- the call that a move is to its own end; a target opens what lies in the slot
abbrev pub out_call : ℕ → Move → Option NodeCall
out_call k (move.Offer _) = Some (NodeCall.offer k)
out_call k move.Give = Some (NodeCall.give k)
out_call k move.Hold = Some (NodeCall.hold k)
out_call k move.Deny = Some (NodeCall.deny k)
out_call k move.Withdraw = Some (NodeCall.withdraw k)
out_call k (move.End how) = Some (NodeCall.end_link k how)
out_call k _ = None

-- the same over a link over which copies go
abbrev pub copy_call : ℕ → Move → Option NodeCall
copy_call k (move.Offer _) = Some (NodeCall.copy (CopyCall.offer k))
copy_call k move.Give = Some (NodeCall.copy (CopyCall.give k))
copy_call k move.Hold = Some (NodeCall.copy (CopyCall.hold k))
copy_call k move.Withdraw = Some (NodeCall.copy (CopyCall.withdraw k))
copy_call k (move.End how) = Some (NodeCall.copy (CopyCall.end_link k how))
copy_call k _ = None

-- and over either, by the kind of the block, with its look
abbrev pub source_call : BlockKind → ℕ → Move → Option NodeCall
source_call kind k next = cond (is_one_taker kind) (out_call k next) (copy_call k next)

abbrev pub source_look : BlockKind → ℕ → Phase → NodeCall
source_look kind k phase = cond (is_one_taker kind) (NodeCall.look_out k phase) (NodeCall.copy (CopyCall.look k phase))

abbrev pub in_call : ℕ → ℕ → Option Value → Move → Option NodeCall
in_call p k slot move.Want = Some (NodeCall.want p k)
in_call p k slot move.TurnDown = Some (NodeCall.turn_down p k)
in_call p k slot move.Postpone = Some (NodeCall.postpone p k)
in_call p k slot move.Refuse = Some (NodeCall.refuse p k)
in_call p k slot move.Consume = Some (NodeCall.consume p k)
in_call p k slot move.Ask = Some (NodeCall.ask p k)
in_call p k slot move.Claim = Some (NodeCall.claim p k)
in_call p k slot move.Release = Some (NodeCall.release p k)
in_call p k slot move.Open = option_map (NodeCall.open_with p k) slot
in_call p k slot move.Close = Some (NodeCall.close p k)
in_call p k slot _ = None

abbrev pub input_call : Move → Option InputCall
input_call (move.Offer _) = Some InputCall.offer
input_call move.Give = Some InputCall.give
input_call (move.End how) = Some (InputCall.end_link how)
input_call _ = None

abbrev pub input_after : Option InputCall → InputState → InputState
input_after None input = input
input_after (Some call) input = after_input call input

-- what lies in the slot after a move, where the source gives this value
abbrev pub slot_after : Move → Option Value → Option Value → Option Value
slot_after move.Give given slot = given
slot_after move.Open given slot = None
slot_after _ given slot = slot

-- one part of a network changed
abbrev pub with_node : ℕ → (NodeState → NodeState) → NetState → NetState
with_node b change net = record net { nodes = set net.nodes b (change (node_at net b)) }

abbrev pub with_line : ℕ → LinkState → NetState → NetState
with_line l line net = record net { lines = set net.lines l line }

module _ {W : Type 0} (layout : Layout W) where
  abbrev pub with_input : ℕ → (InputState → InputState) → NetState → NetState
  with_input b change net = record net { inputs = set net.inputs (input_place layout b) (change (input_at layout net b)) }

  abbrev pub with_exit : ℕ → (ExitState → ExitState) → NetState → NetState
  with_exit l change net = record net { exits = set net.exits (exit_place layout l) (change (exit_at layout net l)) }

  -- what the two ends of a link would do next
  abbrev pub source_peek : NetState → ℕ → LinkSource → Option Move
  source_peek net l (Block s) = next_source (out_place layout s l) (node_at net s)
  source_peek net l (Input b) = input_move (input_at layout net b)

  abbrev pub target_peek : NetState → ℕ → LinkTarget → Option Move
  target_peek net l (Port t p) = next_in p (in_place layout t p l) (node_at net t)
  target_peek net l Exit = exit_move (exit_at layout net l)

  abbrev pub peek_by : Bool → NetState → ℕ → Link → Option Move
  peek_by true net l link = source_peek net l link.source
  peek_by false net l link = target_peek net l link.target

  -- the value that the source gives next
  abbrev pub value_from : NetState → LinkSource → Option Value
  value_from net (Block s) = given_next (node_at net s)
  value_from net (Input b) = next_value (input_at layout net b)

-- what may happen
module _ {W : Type 0} (layout : Layout W) (net : NetState) where
  pub record LinkMay (l : ℕ) (next : Move) : Type 0 where
    pub there : l < length layout.links
    pub allowed : is_some (phase_after (line_at net l).phase next) ≡ true
    pub peek : peek_by layout (is_of_source next) net l (link_in layout.links l) ≡ Some next

  pub record BlockMay (b : ℕ) (test : Bool) : Type 0 where
    pub there : b < length layout.blocks
    pub would : test ≡ true

  pub record PortMay (b p : ℕ) : Type 0 where
    pub there : b < length layout.blocks
    pub port : p < length (node_at net b).block.ports
    pub would : may_complete p (node_at net b).block ≡ true

  abbrev pub Enabled : NetEvent → Type 0
  Enabled (NetEvent.at_link l next) = LinkMay l next
  Enabled (NetEvent.make b) = BlockMay b (may_make (node_at net b).block)
  Enabled (NetEvent.begin b) = BlockMay b (may_begin (node_at net b).block)
  Enabled (NetEvent.end_job b ticket) = BlockMay b (may_end ticket (node_at net b).block)
  Enabled (NetEvent.complete b p) = PortMay b p
  Enabled (NetEvent.fault b) = BlockMay b (is_some (next_fault (node_at net b).block))
  Enabled (NetEvent.finish b) = BlockMay b (may_finish (node_at net b).block)

-- what has changed when it has happened
module _ {W : Type 0} (layout : Layout W) (meaning : ℕ → Value → Result (List Value) ℕ) where
  -- a node after a call, if there is one
  abbrev pub node_after : ℕ → Option NodeCall → NodeState → NodeState
  node_after b None node = node
  node_after b (Some call) node = after_call (block_makes layout meaning b) call node

  -- the mover's part, and the other's look
  abbrev pub source_moves : ℕ → Move → LinkSource → NetState → NetState
  source_moves l next (Block s) net =
      with_node s (node_after s (source_call (node_at net s).block.kind (out_place layout s l) next)) net
  source_moves l next (Input b) net = with_input layout b (input_after (input_call next)) net

  abbrev pub target_moves : ℕ → Move → LinkTarget → NetState → NetState
  target_moves l next (Port t p) net = with_node t (node_after t (in_call p (in_place layout t p l) (line_at net l).slot next)) net
  target_moves l next Exit net = with_exit layout l (exit_after (exit_call (line_at net l).slot next)) net

  abbrev pub source_sees : ℕ → Phase → LinkSource → NetState → NetState
  source_sees l phase (Block s) net =
      with_node s (node_after s (Some (source_look (node_at net s).block.kind (out_place layout s l) phase))) net
  source_sees l phase (Input b) net = with_input layout b (input_after (Some (InputCall.look phase))) net

  abbrev pub target_sees : ℕ → Phase → LinkTarget → NetState → NetState
  target_sees l phase (Port t p) net = with_node t (node_after t (Some (NodeCall.look_in p (in_place layout t p l) phase))) net
  target_sees l phase Exit net = with_exit layout l (exit_after (Some (ExitCall.look phase))) net

  abbrev pub line_after : ℕ → Move → Phase → LinkSource → NetState → LinkState
  line_after l next phase source net =
      record { phase = phase; slot = slot_after next (value_from layout net source) (line_at net l).slot }

  -- a move of the source, and of the target, that leads to this phase
  abbrev pub moved_by : Bool → ℕ → Move → Phase → Link → NetState → NetState
  moved_by true l next phase link net =
      target_sees l phase link.target (with_line l (line_after l next phase link.source net) (source_moves l next link.source net))
  moved_by false l next phase link net =
      source_sees l phase link.source (with_line l (line_after l next phase link.source net) (target_moves l next link.target net))

  abbrev pub after_move : ℕ → Move → Option Phase → NetState → NetState
  after_move l next None net = net
  after_move l next (Some phase) net = moved_by (is_of_source next) l next phase (link_in layout.links l) net

  -- the caller of the input of block b posts a value over its link l, and the target looks
  abbrev pub after_post : ℕ → ℕ → Value → NetState → NetState
  after_post l b value net =
      let id = next_id (input_at layout net b) in
      target_sees l (Posted id) (link_in layout.links l).target
      (with_line l (line_after l (move.Post id) (Posted id) (Input b) net) (with_input layout b (after_input (InputCall.post value)) net))

  abbrev pub after : NetEvent → NetState → NetState
  after (NetEvent.at_link l next) net = after_move l next (phase_after (line_at net l).phase next) net
  after (NetEvent.make b) net = with_node b (node_after b (Some NodeCall.make)) net
  after (NetEvent.begin b) net = with_node b (node_after b (Some NodeCall.begin)) net
  after (NetEvent.end_job b ticket) net = with_node b (after_job (block_makes layout meaning b) ticket) net
  after (NetEvent.complete b p) net = with_node b (node_after b (Some (NodeCall.complete p))) net
  after (NetEvent.fault b) net = with_node b (node_after b (option_map NodeCall.fault (next_fault (node_at net b).block))) net
  after (NetEvent.finish b) net = with_node b (node_after b (Some NodeCall.finish)) net

  -- there is an id for each message that comes out: a block's outputs, and what an input offers
  abbrev pub HasIds : NetEvent → NetState → Type 0
  HasIds (NetEvent.at_link l (move.Offer id)) net = id < 2 ^ 59
  HasIds (NetEvent.make b) net = lacks_next (block_makes layout meaning b) (node_at net b) ≡ false
  HasIds (NetEvent.end_job b ticket) net =
      lacks_ids (put_at_end (block_makes layout meaning b) ticket (node_at net b).block) (node_at net b).block.exits ≡ false
  HasIds _ net = Unit {0}

  -- an event that may happen, with the ids that it needs
  pub record MayHappen (event : NetEvent) (net : NetState) : Type 0 where
    pub enabled : Enabled layout net event
    pub ids : HasIds event net
