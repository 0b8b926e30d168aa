-- When each call of a node may be made, and that it keeps the node in order.
use Rattle.std.specs.Prelude.{◌≡◌, ℕ, ◌+◌, ◌^◌, ◌<◌, Bool, true, false, List, [], length, Some, None, is_some, is_none, Result}
use Rattle.std.specs.Bool.{OnTrue}
use Rattle.flow_value.specs.declared.value.Value.{Value}
use Rattle.flow_link.specs.declared.phase.LinkEnd.{LinkEnd}
use Rattle.flow_link.specs.declared.phase.Move.{Move}
use Rattle.flow_link.specs.declared.phase.Move.TheVariants as move
use Rattle.flow_link.specs.declared.phase.Phase.{Phase}
use Rattle.flow_link.specs.declared.stage.SourceStage.{SourceStage}
use Rattle.flow_link.specs.declared.stage.TargetStage.{TargetStage}
use Rattle.flow_link.specs.Facts.{facts_in}
use Rattle.flow_link.specs.Layout.{Layout}
use Rattle.flow_link.specs.LinkOk.{MayPutOff}
use Rattle.flow_link.specs.Phase.{is_numbered}
use Rattle.flow_link.specs.Lists.{every}
use Rattle.flow_link.specs.Stage.{source_looks}
use Rattle.flow_link.specs.Trace.{took_at}
use Rattle.flow_intake.specs.Port.{stage_at as port_stage, has_room, is_offer, is_hand}
use Rattle.flow_intake.specs.PortLaw.{has_ended}
use Rattle.flow_intake.specs.Calls.{is_offered, is_posted, is_postponed, is_arrived, may_be_refused}
use Rattle.flow_outlet.specs.End.{is_free, is_waiting, speaks_of}
use Rattle.flow_outlet.specs.Law.{is_put_off}
use Rattle.flow_outlet.specs.Outlet.{end_at, stage_at, may_offer, may_give, may_hold, is_wish, end_of, lacks_ids}
use Rattle.flow_link.specs.Plan.{is_broadcast, is_write_once, is_one_taker}
use Rattle.flow_spread.specs.Law.{MayPutOff as MayPutOffOver}
use Rattle.flow_spread.specs.Spread.{may_offer as may_offer_copy, may_give as may_give_copy, is_asked_by}
use Rattle.flow_spread.specs.Spread as spread
use Rattle.flow_block.specs.Block.{port_at, is_join, is_batched_join, held_by}
use Rattle.flow_block.specs.Copies.{CopyCall, copy_place}
use Rattle.flow_block.specs.Node.{NodeState, NodeCall, next_in, in_link_at, after, puts_next}
use Rattle.flow_block_law.specs.NodeLaw.{NodeLaw, RoundKept, ShapeLaw, PortsLaw, ExitsLaw, CopiesLaw, GaveLaw, MakesLaw, KeepsRows, KeepsTuples, JobsLaw, LoadLaw, MarksLaw, EndsLaw}
use Rattle.flow_block.specs.Peeks.{is_pending, may_work, may_begin, may_complete, next_fault, may_finish}
use Rattle.flow_block.specs.Planned.{block_makes}
use Rattle.flow_block_law.specs.GroupsLaw.{OrderedGroups, LoadByPort}

-- an end of a link into the node stands so
pub record InAt (test : TargetStage → Bool) (p k : ℕ) (node : NodeState) : Type 0 where
  pub port : p < length node.block.ports
  pub place : k < length (port_at p node.block).ends
  pub stands : test (port_stage k (port_at p node.block)) ≡ true

-- a message may be taken at the port
pub record IsOpen (p : ℕ) (node : NodeState) : Type 0 where
  pub room : has_room (port_at p node.block) ≡ true
  pub open_port : has_ended (port_at p node.block).refusing ≡ false
  -- at once: what reserves asks first
  pub freely : (port_at p node.block).reserves ≡ false

-- a join that reserves would do so next at an end of a link into it
pub record MayWish (wish : Move) (p k : ℕ) (node : NodeState) : Type 0 where
  pub port : p < length node.block.ports
  pub place : k < length (port_at p node.block).ends
  pub next : next_in p k node ≡ Some wish

abbrev pub any_stage : TargetStage → Bool
any_stage _ = true

-- an end of a link out of the node stands so
pub record OutAt (test : SourceStage → Bool) (k : ℕ) (node : NodeState) : Type 0 where
  pub place : k < length node.block.exits.ends
  pub stands : test (stage_at node.block.exits k) ≡ true

-- the head may be offered over the link: the block has not stopped
pub record MayOffer (k : ℕ) (node : NodeState) : Type 0 where
  pub going : node.block.stopped ≡ None
  pub next : may_offer node.block.exits ≡ Some k

pub record MayGive (k : ℕ) (node : NodeState) : Type 0 where
  pub place : k < length node.block.exits.ends
  pub wanted : may_give k node.block.exits ≡ true

-- the head may be kept for the target that asks for it: it is spoken for nowhere
pub record MayHold (k : ℕ) (node : NodeState) : Type 0 where
  pub place : k < length node.block.exits.ends
  pub asked : may_hold k node.block.exits ≡ true

-- what waits may be withdrawn; the head's own offer only where the block faults, or the head is to be offered anew
pub record MayWithdraw (k : ℕ) (node : NodeState) : Type 0 where
  pub waits : OutAt is_waiting k node
  pub faults : node.block.exits.renewing ≡ false → speaks_of node.block.exits.next (stage_at node.block.exits k) ≡ true
      → is_pending node.block ≡ true

pub record MayEndLink (k : ℕ) (how : LinkEnd) (node : NodeState) : Type 0 where
  pub is_at_home : OutAt is_free k node
  pub is_due : end_of (end_at node.block.exits k) node.block.stopped ≡ Some how

-- a look finds an offer put off only over a link that is not steady
pub record MayLookOut (k : ℕ) (phase : Phase) (node : NodeState) : Type 0 where
  pub place : k < length node.block.exits.ends
  pub put_off : OnTrue (is_put_off (source_looks (stage_at node.block.exits k) phase)) ((end_at node.block.exits k).rule.steady ≡ false)

-- what a call needs at a link over which copies go
abbrev pub MayCopyAt : CopyCall → NodeState → Type 0
MayCopyAt (CopyCall.offer k) node = (node.block.stopped ≡ None) × (may_offer_copy k node.block.copies ≡ true)
MayCopyAt (CopyCall.look k phase) node =
    OnTrue (is_put_off (source_looks (spread.stage_at node.block.copies k) phase)) (MayPutOffOver (spread.link_at node.block.copies k))
MayCopyAt (CopyCall.give k) node = may_give_copy k node.block.copies ≡ true
MayCopyAt (CopyCall.hold k) node = is_asked_by (spread.stage_at node.block.copies k) ≡ true
MayCopyAt (CopyCall.withdraw k) node =
    (is_waiting (spread.stage_at node.block.copies k) ≡ true)
    × ((spread.end_at node.block.copies k).owes ≡ true → is_pending node.block ≡ true)
MayCopyAt (CopyCall.end_link k how) node =
    (is_free (spread.stage_at node.block.copies k) ≡ true)
    × (end_of (spread.link_at node.block.copies k) node.block.stopped ≡ Some how)

pub record MayCopy (call : CopyCall) (node : NodeState) : Type 0 where
  pub place : copy_place call < length node.block.copies.ends
  pub stands : MayCopyAt call node

-- there are ids left for what it makes, and no result that came back waits for it
pub record MayMake (result : Value → Result (List Value) ℕ) (node : NodeState) : Type 0 where
  pub waits : may_work node.block ≡ true
  pub all_out : every is_none node.block.jobs.slots ≡ true
  pub ids : lacks_ids (puts_next result node) node.block.exits ≡ false
  pub copy_id : is_broadcast node.block.kind ≡ true → node.block.copies.id + 1 < 2 ^ 59

pub record MayCompletePort (p : ℕ) (node : NodeState) : Type 0 where
  pub port : p < length node.block.ports
  pub completes : may_complete p node.block ≡ true

module _ {W : Type 0} (layout : Layout W) (meaning : ℕ → Value → Result (List Value) ℕ) (b : ℕ) where
  -- an offer may be put off, by what the plan says of its link
  pub record MayPostpone (p k : ℕ) (node : NodeState) : Type 0 where
    pub offered : InAt is_offered p k node
    pub may : MayPutOff (facts_in layout (in_link_at p k node)) (length (took_at p node.journal))

  abbrev pub MayCall : NodeCall → NodeState → Type 0
  MayCall (NodeCall.want p k) node = InAt is_offer p k node × IsOpen p node
  MayCall (NodeCall.turn_down p k) node = InAt is_posted p k node
  MayCall (NodeCall.postpone p k) node = MayPostpone p k node
  MayCall (NodeCall.refuse p k) node = InAt may_be_refused p k node × (is_some (port_at p node.block).refusing ≡ true)
  MayCall (NodeCall.consume p k) node = InAt is_postponed p k node × IsOpen p node
  MayCall (NodeCall.ask p k) node = MayWish move.Ask p k node
  MayCall (NodeCall.claim p k) node = MayWish move.Claim p k node
  MayCall (NodeCall.release p k) node = MayWish move.Release p k node
  MayCall (NodeCall.open_with p k value) node = InAt is_arrived p k node
  MayCall (NodeCall.close p k) node = InAt is_hand p k node
  MayCall (NodeCall.offer k) node = MayOffer k node
  MayCall (NodeCall.give k) node = MayGive k node
  MayCall (NodeCall.hold k) node = MayHold k node
  MayCall (NodeCall.deny k) node = OutAt is_wish k node
  MayCall (NodeCall.withdraw k) node = MayWithdraw k node
  MayCall (NodeCall.end_link k how) node = MayEndLink k how node
  -- a link that has ended with a fault tells its number
  MayCall (NodeCall.look_in p k phase) node = InAt any_stage p k node × (is_numbered phase ≡ true)
  MayCall (NodeCall.look_out k phase) node = MayLookOut k phase node
  MayCall (NodeCall.copy call) node = MayCopy call node
  MayCall NodeCall.begin node = may_begin node.block ≡ true
  MayCall NodeCall.make node = MayMake (block_makes layout meaning b) node
  MayCall (NodeCall.complete p) node = MayCompletePort p node
  MayCall (NodeCall.fault number) node = next_fault node.block ≡ Some number
  MayCall NodeCall.finish node = may_finish node.block ≡ true

  abbrev pub after_call : NodeCall → NodeState → NodeState
  after_call call node = after (block_makes layout meaning b) call node

  -- a call of a node in order leaves this
  abbrev pub Leaves : (NodeState → Type 0) → Type 0
  Leaves P = (node : NodeState) (call : NodeCall) → NodeLaw layout meaning b node → MayCall call node → P (after_call call node)

module _ (W : Type 0) where
  -- the parts of the law, one by one
  abbrev pub AtEachBlock : (Layout W → (ℕ → Value → Result (List Value) ℕ) → ℕ → NodeState → Type 0) → Type 0
  AtEachBlock P = (layout : Layout W) (meaning : ℕ → Value → Result (List Value) ℕ) (b : ℕ) → Leaves layout meaning b (P layout meaning b)

  abbrev pub ShapeKept : Type 0
  ShapeKept = AtEachBlock (λ layout meaning b node. ShapeLaw layout meaning b node.block)

  abbrev pub PortsKept : Type 0
  PortsKept = AtEachBlock (λ layout meaning b node. PortsLaw layout meaning b node.block node.journal)

  abbrev pub ExitsKept : Type 0
  ExitsKept = AtEachBlock (λ layout meaning b node. ExitsLaw layout meaning b node.block)

  abbrev pub CopiesKept : Type 0
  CopiesKept = AtEachBlock (λ layout meaning b node. CopiesLaw layout meaning b node.block node.journal)

  abbrev pub NoneHeldKept : Type 0
  NoneHeldKept = AtEachBlock (λ layout meaning b node. is_write_once node.block.kind ≡ true → held_by node.block ≡ [])

  abbrev pub GaveKept : Type 0
  GaveKept = AtEachBlock (λ layout meaning b node.
      is_one_taker node.block.kind ≡ true → GaveLaw layout meaning b node.block.exits node.journal)

  abbrev pub MakesKept : Type 0
  MakesKept = AtEachBlock (λ layout meaning b node. MakesLaw layout meaning b node.block node.journal)

  abbrev pub RowsKept : Type 0
  RowsKept = AtEachBlock (λ layout meaning b node. KeepsRows node.block node.journal)

  abbrev pub TuplesKept : Type 0
  TuplesKept = AtEachBlock (λ layout meaning b node. is_join node.block.kind ≡ true → KeepsTuples node.block node.journal)

  abbrev pub JobsKept : Type 0
  JobsKept = AtEachBlock (λ layout meaning b node. JobsLaw layout meaning b node.block node.journal)

  abbrev pub LoadKept : Type 0
  LoadKept = AtEachBlock (λ layout meaning b node.
      is_batched_join node.block.kind ≡ false → LoadLaw layout meaning b node.block node.journal)

  abbrev pub GroupsKept : Type 0
  GroupsKept = AtEachBlock (λ layout meaning b node. is_batched_join node.block.kind ≡ true → OrderedGroups node)

  abbrev pub GroupLoadKept : Type 0
  GroupLoadKept = AtEachBlock (λ layout meaning b node. is_batched_join node.block.kind ≡ true → LoadByPort node.block)

  abbrev pub RoundStays : Type 0
  RoundStays = AtEachBlock (λ layout meaning b node. RoundKept layout meaning b node)

  abbrev pub MarksKept : Type 0
  MarksKept = AtEachBlock (λ layout meaning b node. MarksLaw layout meaning b node.journal)

  abbrev pub EndsKept : Type 0
  EndsKept = AtEachBlock (λ layout meaning b node. EndsLaw layout meaning b node.block node.journal)

  -- each call keeps a node in order
  abbrev pub NodesKept : Type 0
  NodesKept = AtEachBlock (λ layout meaning b node. NodeLaw layout meaning b node)
