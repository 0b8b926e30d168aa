-- A message that has gone over a link in one call, told for each end alone.
use Rattle.std.specs.Prelude.{◌≡◌, ℕ, ◌<◌, ◌^◌, Bool, true, false, length, Some, is_some}
use Rattle.flow_value.specs.declared.value.Value.{Value}
use Rattle.flow_link.specs.declared.plan.LinkSource.{LinkSource}
use Rattle.flow_link.specs.declared.plan.LinkSource.TheVariants.{Block, Input}
use Rattle.flow_link.specs.declared.plan.LinkTarget.{LinkTarget}
use Rattle.flow_link.specs.declared.plan.LinkTarget.TheVariants.{Port, Exit}
use Rattle.flow_link.specs.declared.stage.SourceStage.TheVariants.{Out}
use Rattle.flow_link.specs.LinkOk.{HasRoom}
use Rattle.flow_link.specs.Plan.{is_one_taker}
use Rattle.flow_intake.specs.Calls.{prepared, unprepared}
use Rattle.flow_intake.specs.Receives.{takes_at_once}
use Rattle.flow_outlet.specs.End.{is_free}
use Rattle.flow_outlet.specs.Outlet.{OutletState, end_at, may_offer, prepares, offers}
use Rattle.flow_spread.specs.Spread.{SpreadState, end_at as copy_end_at, link_at, stage_at}
use Rattle.flow_block.specs.Block.{BlockState, port_at, with_port}
use Rattle.flow_input.specs.Input.{InputState, next_id, next_value, input_sends}
use Rattle.flow_block.specs.Copies.{CopyCall}
use Rattle.flow_block.specs.Node.{NodeState, with_block, with_exits, copies_by}
use Rattle.flow_block.specs.Passes.{sends_on, sends_ready, sends_copy, receives_on}
use Rattle.flow_block.specs.declared.planned.Route.{Route}
use Rattle.flow_core.specs.Events.{with_node}
use Rattle.flow_core.specs.State.{NetState, node_at}
use Rattle.flow_moves.specs.Ways.{input_in, with_input_in}

-- What the source's block does, by whether it shares its messages out or copies them

-- it sends the message with this id
abbrev pub sends_by : Bool → ℕ → ℕ → NodeState → NodeState
sends_by true k i node = sends_on k i node
sends_by false k i node = sends_copy k i (copies_by (CopyCall.offer k) node)

abbrev pub node_sends : ℕ → ℕ → NodeState → NodeState
node_sends k i node = sends_by (is_one_taker node.block.kind) k i node

-- it makes ready to send: the parcel is made, or the element is offered
abbrev pub prepared_by : Bool → ℕ → NodeState → NodeState
prepared_by true k node = with_exits (prepares node.block.exits) node
prepared_by false k node = copies_by (CopyCall.offer k) node

abbrev pub node_prepared : ℕ → NodeState → NodeState
node_prepared k node = prepared_by (is_one_taker node.block.kind) k node

-- it sends what it has ready
abbrev pub ready_sends_by : Bool → ℕ → ℕ → NodeState → NodeState
ready_sends_by true k i node = sends_ready k i node
ready_sends_by false k i node = sends_copy k i node

abbrev pub node_sends_ready : ℕ → ℕ → NodeState → NodeState
node_sends_ready k i node = ready_sends_by (is_one_taker node.block.kind) k i node

-- it only offers that
abbrev pub ready_offers_by : Bool → ℕ → NodeState → NodeState
ready_offers_by true k node = with_exits (offers k node.block.exits) node
ready_offers_by false k node = node

abbrev pub node_offers : ℕ → NodeState → NodeState
node_offers k node = ready_offers_by (is_one_taker node.block.kind) k node

-- The same in a network

-- the source has sent the message with this id
abbrev pub sent_by : LinkSource → ℕ → ℕ → NetState → NetState
sent_by (Block s) k i net = with_node s (node_sends k i) net
sent_by (Input b) k i net = with_input_in k (input_sends i) net

-- the target has received it
abbrev pub received_by : LinkTarget → ℕ → ℕ → Value → NetState → NetState
received_by (Port t p) k i value net = with_node t (receives_on p k i value) net
received_by Exit k i value net = net

-- the line is idle before and after
abbrev pub passed : ℕ → Value → Route → NetState → NetState
passed i value route net =
    received_by route.target route.target_place i value (sent_by route.source route.source_place i net)

-- the source is ready to send
abbrev pub source_prepared : LinkSource → ℕ → NetState → NetState
source_prepared (Block s) k net = with_node s (node_prepared k) net
source_prepared (Input b) k net = with_input_in k (λ input. record input { parcel = next_value input }) net

-- the target has memory for the message
abbrev pub target_prepared : LinkTarget → NetState → NetState
target_prepared (Port t p) net = with_node t (λ node. with_block (with_port p prepared node.block) node) net
target_prepared Exit net = net

-- whether it has
abbrev pub target_ready : LinkTarget → NetState → Bool
target_ready (Port t p) net = (port_at p (node_at net t).block).ready
target_ready Exit net = true

-- it has not any more, unless it had before
abbrev pub forgot_by : Bool → ℕ → NodeState → NodeState
forgot_by true p node = node
forgot_by false p node = with_block (with_port p unprepared node.block) node

abbrev pub target_forgot : Bool → LinkTarget → NetState → NetState
target_forgot was (Port t p) net = with_node t (forgot_by was p) net
target_forgot was Exit net = net

-- a source that was ready has sent
abbrev pub sent_ready : LinkSource → ℕ → ℕ → NetState → NetState
sent_ready (Block s) k i net = with_node s (node_sends_ready k i) net
sent_ready (Input b) k i net = with_input_in k (input_sends i) net

-- it has only offered it
abbrev pub offered_by : LinkSource → ℕ → NetState → NetState
offered_by (Block s) k net = with_node s (node_offers k) net
offered_by (Input b) k net = with_input_in k (λ input. record input { stage = Out (next_id input); parcel = next_value input }) net

-- a block may send its head: the parcel is made, and nothing stands in its way
pub record HeadMayGo (k : ℕ) (exits : OutletState) : Type 0 where
  pub may : may_offer exits ≡ Some k
  pub parcel : is_some exits.parcel ≡ true
  pub room : HasRoom (end_at exits k).rule.max (end_at exits k).given

-- it may send the element, which it has offered
pub record CopyMayGo (k : ℕ) (copies : SpreadState) : Type 0 where
  pub there : k < length copies.ends
  pub offered : stage_at copies k ≡ Out copies.id
  pub share : is_some (copy_end_at copies k).share ≡ true
  pub room : HasRoom (link_at copies k).rule.max (link_at copies k).given

abbrev pub MayGoBy : Bool → ℕ → BlockState → Type 0
MayGoBy true k block = HeadMayGo k block.exits
MayGoBy false k block = CopyMayGo k block.copies

abbrev pub BlockMaySend : BlockState → ℕ → Type 0
BlockMaySend block k = MayGoBy (is_one_taker block.kind) k block

pub record InputMaySend (input : InputState) : Type 0 where
  pub free : is_free input.stage ≡ true
  pub parcel : is_some input.parcel ≡ true
  pub id : next_id input < 2 ^ 59

abbrev pub MaySend : NetState → LinkSource → ℕ → Type 0
MaySend net (Block s) k = (s < length net.nodes) × BlockMaySend (node_at net s).block k
MaySend net (Input b) k = (k < length net.inputs) × InputMaySend (input_in net k)

-- a target may receive one
pub record BlockMayReceive (block : BlockState) (p k : ℕ) : Type 0 where
  pub port : p < length block.ports
  pub place : k < length (port_at p block).ends
  pub takes : takes_at_once k (port_at p block) ≡ true
  pub ready : (port_at p block).ready ≡ true

abbrev pub MayReceive : NetState → LinkTarget → ℕ → Type 0
MayReceive net (Port t p) k = (t < length net.nodes) × BlockMayReceive (node_at net t).block p k
MayReceive net Exit k = Unit {0}
