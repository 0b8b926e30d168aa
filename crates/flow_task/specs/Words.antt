-- What each move of an end does to its wire: what it needs there, and what the end knows after it.
use Rattle.std.specs.Prelude.{◌≡◌, ℕ, ◌<◌, Bool, true, false, Option, Some, None, is_some}
use Rattle.flow_value.specs.declared.value.Value.{Value}
use Rattle.flow_link.specs.declared.phase.Move.{Move}
use Rattle.flow_link.specs.declared.phase.Move.TheVariants as move
use Rattle.flow_link.specs.declared.stage.Refusal.{Refusal}
use Rattle.flow_link.specs.LinkOk.{HasRoom, MayEnd, MayPutOff}
use Rattle.flow_link.specs.Moves.{offering, ending, giving, denying, holding, withdrawing, wanting, turning_down, refusing, postponing, consuming, asking, claiming, releasing, opening}
use Rattle.flow_link.specs.Stage.{refusal_of}
use Rattle.flow_link.specs.Views.{SourceStage, TargetStage as TargetAt, SourceView, TargetView, LinkFacts, crossed, crossed_in}
use Rattle.flow_link.specs.declared.stage.TargetStage.{TargetStage}
use Rattle.flow_link.specs.declared.stage.TargetStage.TheVariants as kept
use Rattle.flow_intake.specs.Calls.{is_postponed}
use Rattle.flow_core.specs.MovesFit.{message_out, is_to_fill, is_asked, may_deny, is_waiting, message_in, to_answer, is_offered, is_posted, is_postponed as is_put_off, may_refuse, is_holding, has_arrived, has_in_hand, closed_at}

-- Of a source

-- it stands free, and may offer this message
pub record MayOffer (facts : LinkFacts) (i : ℕ) (view : SourceView Value) : Type 0 where
  pub free : view.stage ≡ SourceStage.free
  pub rises : view.last < i
  pub room : HasRoom facts.max (crossed view)

-- the message is wanted, its header is known, and its parcel is there
pub record MayGive (header : Option ℕ) (given : Option Value) (view : SourceView Value) : Type 0 where
  pub wanted : is_to_fill view.stage ≡ true
  pub its : header ≡ Some (message_out view.stage)
  pub there : is_some given ≡ true

pub record MayHold (header : Option ℕ) (view : SourceView Value) : Type 0 where
  pub asked : is_asked view.stage ≡ true
  pub its : header ≡ Some (message_out view.stage)

pub record MayWithdraw (header : Option ℕ) (view : SourceView Value) : Type 0 where
  pub waits : is_waiting view.stage ≡ true
  pub its : header ≡ Some (message_out view.stage)

-- what a move asks of the source's end, where this is the header of the message of which its stage speaks
abbrev pub MayMoveOut : Move → Option ℕ → Option Value → LinkFacts → SourceView Value → Type 0
MayMoveOut (move.Offer i) header given facts view = MayOffer facts i view
MayMoveOut move.Give header given facts view = MayGive header given view
MayMoveOut move.Hold header given facts view = MayHold header view
MayMoveOut move.Deny header given facts view = may_deny view.stage ≡ true
MayMoveOut move.Withdraw header given facts view = MayWithdraw header view
MayMoveOut (move.End how) header given facts view = (view.stage ≡ SourceStage.free) × MayEnd facts (crossed view) how
MayMoveOut _ header given facts view = ⊥

abbrev pub gave_this : Option Value → SourceView Value → SourceView Value
gave_this (Some value) view = giving (message_out view.stage) value view
gave_this None view = view

-- what it knows then
abbrev pub moved_out : Move → Option Value → SourceView Value → SourceView Value
moved_out (move.Offer i) given view = offering i view
moved_out move.Give given view = gave_this given view
moved_out move.Hold given view = holding (message_out view.stage) view
moved_out move.Deny given view = denying view
moved_out move.Withdraw given view = withdrawing view
moved_out (move.End how) given view = ending how view
moved_out _ given view = view

-- a move that the target may forestall
abbrev pub is_withdrawal : Move → Bool
is_withdrawal move.Withdraw = true
is_withdrawal _ = false

-- Of a target

-- the header of the message of which a stage speaks
abbrev pub header_of : TargetStage → Option ℕ
header_of (kept.Offered i) = Some i
header_of (kept.Posted i) = Some i
header_of (kept.Postponed i) = Some i
header_of (kept.Accepted i) = Some i
header_of (kept.Consuming i) = Some i
header_of (kept.Asking i) = Some i
header_of (kept.Holding i) = Some i
header_of (kept.Claiming i) = Some i
header_of (kept.Arrived i) = Some i
header_of (kept.Hand i) = Some i
header_of _ = None

-- a move that the source may forestall: the message was postponed
abbrev pub may_be_forestalled : Move → TargetStage → Bool
may_be_forestalled move.Consume stage = true
may_be_forestalled move.Ask stage = true
may_be_forestalled move.Refuse stage = is_postponed stage
may_be_forestalled _ stage = false

-- by what the target knows of the link
abbrev pub is_late : Move → TargetAt Value → Bool
is_late move.Consume stage = true
is_late move.Ask stage = true
is_late move.Refuse stage = is_put_off stage
is_late _ stage = false

abbrev pub opens : Move → Bool
opens move.Open = true
opens _ = false

-- it has a message before it, and takes it with no reservation
pub record MayWant (header : Option ℕ) (facts : LinkFacts) (view : TargetView Value) : Type 0 where
  pub offered : is_some (to_answer view.stage) ≡ true
  pub freely : facts.reserving ≡ false
  pub its : header ≡ Some (message_in view.stage)

pub record MayPostpone (header : Option ℕ) (facts : LinkFacts) (view : TargetView Value) : Type 0 where
  pub offered : is_offered view.stage ≡ true
  pub may : MayPutOff facts (crossed_in view)
  pub its : header ≡ Some (message_in view.stage)

pub record MayRefuse (header : Option ℕ) (why : Option Refusal) (view : TargetView Value) : Type 0 where
  pub stands : may_refuse view.stage ≡ true
  pub refuses : is_some why ≡ true
  pub its : header ≡ Some (message_in view.stage)

-- it stands so, with the message of this header
pub record Stands (test : Bool) (header : Option ℕ) (view : TargetView Value) : Type 0 where
  pub stands : test ≡ true
  pub its : header ≡ Some (message_in view.stage)

abbrev pub MayMoveIn : Move → Option ℕ → Option Refusal → LinkFacts → TargetView Value → Type 0
MayMoveIn move.Want header why facts view = MayWant header facts view
MayMoveIn move.TurnDown header why facts view = is_posted view.stage ≡ true
MayMoveIn move.Postpone header why facts view = MayPostpone header facts view
MayMoveIn move.Refuse header why facts view = MayRefuse header why view
MayMoveIn move.Consume header why facts view = Stands (is_put_off view.stage) header view × (facts.reserving ≡ false)
MayMoveIn move.Ask header why facts view = Stands (is_put_off view.stage) header view × (facts.reserving ≡ true)
MayMoveIn move.Claim header why facts view = Stands (is_holding view.stage) header view
MayMoveIn move.Release header why facts view = Stands (is_holding view.stage) header view
MayMoveIn move.Open header why facts view = Stands (has_arrived view.stage) header view
MayMoveIn move.Close header why facts view = has_in_hand view.stage ≡ true
MayMoveIn _ header why facts view = ⊥

abbrev pub refused_so : Option Refusal → TargetView Value → TargetView Value
refused_so (Some why) view = refusing (refusal_of why) view
refused_so None view = view

abbrev pub opened_so : Option Value → TargetView Value → TargetView Value
opened_so (Some value) view = opening (message_in view.stage) value view
opened_so None view = view

-- what it knows then, where it finds this in the slot if it opens it
abbrev pub moved_in : Move → Option Refusal → Option Value → TargetView Value → TargetView Value
moved_in move.Want why slot view = wanting (message_in view.stage) view
moved_in move.TurnDown why slot view = turning_down view
moved_in move.Postpone why slot view = postponing (message_in view.stage) view
moved_in move.Refuse why slot view = refused_so why view
moved_in move.Consume why slot view = consuming (message_in view.stage) view
moved_in move.Ask why slot view = asking (message_in view.stage) view
moved_in move.Claim why slot view = claiming (message_in view.stage) view
moved_in move.Release why slot view = releasing (message_in view.stage) view
moved_in move.Open why slot view = opened_so slot view
moved_in move.Close why slot view = closed_at view.stage view
moved_in _ why slot view = view
