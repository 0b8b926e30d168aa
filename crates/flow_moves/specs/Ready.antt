-- What stands ready at the end that makes a move: where it stands, and that what it hands over or takes is there.
use Rattle.std.specs.Prelude.{◌≡◌, ℕ, ◌<◌, ◌^◌, cond, Bool, true, false, length, Option, Some, None, is_some}
use Rattle.flow_value.specs.declared.value.Value.{Value}
use Rattle.flow_link.specs.declared.phase.Move.{Move}
use Rattle.flow_link.specs.declared.phase.Move.TheVariants as move
use Rattle.flow_link.specs.declared.plan.LinkSource.{LinkSource}
use Rattle.flow_link.specs.declared.plan.LinkSource.TheVariants.{Block, Input}
use Rattle.flow_link.specs.declared.plan.LinkTarget.{LinkTarget}
use Rattle.flow_link.specs.declared.plan.LinkTarget.TheVariants.{Port, Exit}
use Rattle.flow_link.specs.LinkOk.{HasRoom}
use Rattle.flow_link.specs.Plan.{is_one_taker}
use Rattle.flow_intake.specs.Port.{has_room, is_offer, is_hand, is_holding}
use Rattle.flow_intake.specs.Calls.{is_offered, is_posted, is_postponed, is_arrived, may_be_refused}
use Rattle.flow_outlet.specs.End.{is_free, is_waiting}
use Rattle.flow_outlet.specs.Outlet.{OutletState, end_at, may_offer, may_give, is_wish}
use Rattle.flow_spread.specs.Spread.{SpreadState, may_offer as may_offer_copy, may_give as may_give_copy, is_asked_by}
use Rattle.flow_spread.specs.Spread as spread
use Rattle.flow_block.specs.Block.{port_at}
use Rattle.flow_input.specs.Input.{InputState, next_id, is_wanted}
use Rattle.flow_input.specs.InputKeeps.{MayOfferNext}
use Rattle.flow_block.specs.Node.{NodeState}
use Rattle.flow_block_law.specs.NodeKeeps.{InAt, OutAt, MayHold, any_stage}
use Rattle.flow_core.specs.Events.{is_of_source}
use Rattle.flow_core.specs.State.{NetState, node_at, line_at}
use Rattle.flow_block.specs.declared.planned.Route.{Route}
use Rattle.flow_exit.specs.Exit.{ExitState}
use Rattle.flow_moves.specs.Ways.{input_in, exit_in}

-- the head is wanted over the link, its parcel is made, and the link may carry it
pub record GiveIsReady (k : ℕ) (exits : OutletState) : Type 0 where
  pub there : k < length exits.ends
  pub wanted : may_give k exits ≡ true
  pub parcel : is_some exits.parcel ≡ true
  pub room : HasRoom (end_at exits k).rule.max (end_at exits k).given

abbrev pub OutIsReady : ℕ → Move → NodeState → Type 0
OutIsReady k (move.Offer _) node = may_offer node.block.exits ≡ Some k
OutIsReady k move.Give node = GiveIsReady k node.block.exits
OutIsReady k move.Hold node = MayHold k node
OutIsReady k move.Deny node = OutAt is_wish k node
OutIsReady k move.Withdraw node = OutAt is_waiting k node
OutIsReady k (move.End how) node = OutAt is_free k node
OutIsReady k _ node = ⊥

-- of a link over which copies go: its end is there, and stands so
pub record CopyAt (stands_so : Bool) (k : ℕ) (copies : SpreadState) : Type 0 where
  pub there : k < length copies.ends
  pub stands : stands_so ≡ true

-- the element is wanted over it, what its target is to have is made, and the link may carry it
pub record CopyIsReadyToGive (k : ℕ) (copies : SpreadState) : Type 0 where
  pub there : k < length copies.ends
  pub wanted : may_give_copy k copies ≡ true
  pub share : is_some (spread.end_at copies k).share ≡ true
  pub room : HasRoom (spread.link_at copies k).rule.max (spread.link_at copies k).given

abbrev pub CopyIsReady : ℕ → Move → SpreadState → Type 0
CopyIsReady k (move.Offer _) copies = CopyAt (may_offer_copy k copies) k copies
CopyIsReady k move.Give copies = CopyIsReadyToGive k copies
CopyIsReady k move.Hold copies = CopyAt (is_asked_by (spread.stage_at copies k)) k copies
CopyIsReady k move.Withdraw copies = CopyAt (is_waiting (spread.stage_at copies k)) k copies
CopyIsReady k (move.End how) copies = CopyAt (is_free (spread.stage_at copies k)) k copies
CopyIsReady k _ copies = ⊥

-- over either, by whether the block shares its messages out or copies them
abbrev pub ReadyBy : Bool → ℕ → Move → NodeState → Type 0
ReadyBy true k next node = OutIsReady k next node
ReadyBy false k next node = CopyIsReady k next node.block.copies

abbrev pub ExitIsReady : ℕ → Move → NodeState → Type 0
ExitIsReady k next node = ReadyBy (is_one_taker node.block.kind) k next node

-- how many links lead out of the block
abbrev pub exit_count : NodeState → ℕ
exit_count node = cond (is_one_taker node.block.kind) (length node.block.exits.ends) (length node.block.copies.ends)

abbrev pub InIsReady : ℕ → ℕ → Option Value → Move → NodeState → Type 0
InIsReady p k slot move.Want node = InAt is_offer p k node × (has_room (port_at p node.block) ≡ true)
InIsReady p k slot move.TurnDown node = InAt is_posted p k node
InIsReady p k slot move.Postpone node = InAt is_offered p k node
InIsReady p k slot move.Refuse node = InAt may_be_refused p k node × (is_some (port_at p node.block).refusing ≡ true)
InIsReady p k slot move.Consume node = InAt is_postponed p k node × (has_room (port_at p node.block) ≡ true)
InIsReady p k slot move.Ask node = InAt is_postponed p k node × (has_room (port_at p node.block) ≡ true)
InIsReady p k slot move.Claim node = InAt is_holding p k node
InIsReady p k slot move.Release node = InAt is_holding p k node
InIsReady p k slot move.Open node = InAt is_arrived p k node × (is_some slot ≡ true)
InIsReady p k slot move.Close node = InAt is_hand p k node
InIsReady p k slot _ node = ⊥

-- the same of the end of a link out of the network
abbrev pub ExitEndIsReady : Option Value → Move → ExitState → Type 0
ExitEndIsReady slot move.Want exit = (is_offer exit.stage ≡ true) × (exit.kept ≡ None)
ExitEndIsReady slot move.TurnDown exit = is_posted exit.stage ≡ true
ExitEndIsReady slot move.Postpone exit = is_offered exit.stage ≡ true
ExitEndIsReady slot move.Consume exit = (is_postponed exit.stage ≡ true) × (exit.kept ≡ None)
ExitEndIsReady slot move.Open exit = (is_arrived exit.stage ≡ true) × (is_some slot ≡ true)
ExitEndIsReady slot move.Close exit = is_hand exit.stage ≡ true
ExitEndIsReady slot _ exit = ⊥

-- the next value is there, and has an id
pub record OfferIsReady (input : InputState) : Type 0 where
  pub may : MayOfferNext input
  pub id : next_id input < 2 ^ 59

-- the next value is wanted, and its parcel is made
pub record NextIsReady (input : InputState) : Type 0 where
  pub wanted : is_wanted input.stage ≡ true
  pub parcel : is_some input.parcel ≡ true

abbrev pub InputIsReady : Move → InputState → Type 0
InputIsReady (move.Offer _) input = OfferIsReady input
InputIsReady move.Give input = NextIsReady input
InputIsReady (move.End how) input = is_free input.stage ≡ true
InputIsReady _ input = ⊥

-- The same in a network

-- an end of a link is there
abbrev pub SourceIsThere : NetState → LinkSource → ℕ → Type 0
SourceIsThere net (Block s) k = (s < length net.nodes) × (k < exit_count (node_at net s))
SourceIsThere net (Input b) k = k < length net.inputs

abbrev pub TargetIsThere : NetState → LinkTarget → ℕ → Type 0
TargetIsThere net (Port t p) k = (t < length net.nodes) × InAt any_stage p k (node_at net t)
TargetIsThere net Exit k = k < length net.exits

abbrev pub SourceIsReady : Move → NetState → LinkSource → ℕ → Type 0
SourceIsReady next net (Block s) k = ExitIsReady k next (node_at net s)
SourceIsReady next net (Input b) k = InputIsReady next (input_in net k)

abbrev pub TargetIsReady : ℕ → Move → NetState → LinkTarget → ℕ → Type 0
TargetIsReady l next net (Port t p) k = InIsReady p k (line_at net l).slot next (node_at net t)
TargetIsReady l next net Exit k = ExitEndIsReady (line_at net l).slot next (exit_in net k)

module _ (net : NetState) (l : ℕ) (route : Route) where
  -- a link and its two ends are there
  pub record IsThere : Type 0 where
    pub line : l < length net.lines
    pub source : SourceIsThere net route.source route.source_place
    pub target : TargetIsThere net route.target route.target_place

  abbrev pub MoverIsReady : Bool → Move → Type 0
  MoverIsReady true next = SourceIsReady next net route.source route.source_place
  MoverIsReady false next = TargetIsReady l next net route.target route.target_place

  -- and the end whose move it is stands ready for it
  abbrev pub IsReady : Move → Type 0
  IsReady next = MoverIsReady (is_of_source next) next
