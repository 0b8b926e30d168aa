-- The stages of a link's two ends, as the program keeps them and as the model names them. What the target has in hand
-- stands beside its stage, and the model joins them.
use Rattle.std.specs.Prelude.{◌≡◌, Bool, true, false, Option, None, pos, unwrap_or}
use Rattle.flow_value.specs.declared.value.Value.{Value}
use Rattle.flow_value.specs.declared.value.Value.TheVariants.{Int}
use Rattle.flow_link.specs.Views as views
use Rattle.flow_link.specs.Looks.{source_finds, target_finds, tells_release, tells_withdrawal}
use Rattle.flow_link.specs.declared.phase.Phase.{Phase}
use Rattle.flow_link.specs.declared.stage.SourceStage.{SourceStage}
use Rattle.flow_link.specs.declared.stage.SourceStage.TheVariants as source
use Rattle.flow_link.specs.declared.stage.Refusal.{Refusal}
use Rattle.flow_link.specs.declared.stage.Refusal.TheVariants as refusal
use Rattle.flow_link.specs.declared.stage.TargetStage.{TargetStage}
use Rattle.flow_link.specs.declared.stage.TargetStage.TheVariants as target

abbrev pub source_stage_of : SourceStage → views.SourceStage
source_stage_of source.Free = views.SourceStage.free
source_stage_of (source.Posted i) = views.SourceStage.posted i
source_stage_of (source.Out i) = views.SourceStage.out i
source_stage_of (source.Waiting i) = views.SourceStage.waiting i
source_stage_of (source.Accepted i) = views.SourceStage.accepted i
source_stage_of (source.Wished i) = views.SourceStage.wished i
source_stage_of (source.AskedBy i) = views.SourceStage.asked_by i
source_stage_of (source.Reserved i) = views.SourceStage.reserved i
source_stage_of (source.Claimed i) = views.SourceStage.claimed i
source_stage_of source.Crossing = views.SourceStage.crossing
source_stage_of source.Refused = views.SourceStage.refused
source_stage_of (source.Ended how) = views.SourceStage.ended how

abbrev pub refusal_of : Refusal → views.Refusal
refusal_of refusal.PortEnded = views.Refusal.port_ended
refusal_of refusal.OwnFault = views.Refusal.own_fault

-- the value in hand; where none is, none is asked for
abbrev pub in_hand : Option Value → Value
in_hand parcel = unwrap_or parcel (Int (pos 0))

abbrev pub target_stage_of : TargetStage → Option Value → views.TargetStage Value
target_stage_of target.Free _ = views.TargetStage.free
target_stage_of (target.Offered i) _ = views.TargetStage.offered i
target_stage_of (target.Posted i) _ = views.TargetStage.posted i
target_stage_of (target.Postponed i) _ = views.TargetStage.postponed i
target_stage_of (target.Accepted i) _ = views.TargetStage.accepted i
target_stage_of (target.Consuming i) _ = views.TargetStage.consuming i
target_stage_of (target.Asking i) _ = views.TargetStage.asking i
target_stage_of (target.Holding i) _ = views.TargetStage.holding i
target_stage_of (target.Claiming i) _ = views.TargetStage.claiming i
target_stage_of (target.Arrived i) _ = views.TargetStage.arrived i
target_stage_of (target.Hand i) parcel = views.TargetStage.hand i (in_hand parcel)
target_stage_of (target.Refused why) _ = views.TargetStage.refused (refusal_of why)
target_stage_of (target.Ended how) _ = views.TargetStage.ended how

-- nothing is under way at a source's end, though an offer may wait there
abbrev pub rests_out : SourceStage → Bool
rests_out source.Free = true
rests_out (source.Waiting _) = true
rests_out source.Refused = true
rests_out (source.Ended _) = true
rests_out _ = false

-- the message is kept for the target
abbrev pub is_kept : SourceStage → Bool
is_kept (source.Reserved _) = true
is_kept (source.Claimed _) = true
is_kept _ = false

-- the target asks to reserve the message
abbrev pub is_asked : SourceStage → Bool
is_asked (source.AskedBy _) = true
is_asked _ = false

-- the stage that the program keeps where the model has this one. It never keeps that the slot is out
abbrev pub source_kept : views.SourceStage → SourceStage
source_kept views.SourceStage.free = source.Free
source_kept (views.SourceStage.posted i) = source.Posted i
source_kept (views.SourceStage.out i) = source.Out i
source_kept (views.SourceStage.waiting i) = source.Waiting i
source_kept (views.SourceStage.accepted i) = source.Accepted i
source_kept (views.SourceStage.wished i) = source.Wished i
source_kept (views.SourceStage.asked_by i) = source.AskedBy i
source_kept (views.SourceStage.reserved i) = source.Reserved i
source_kept (views.SourceStage.claimed i) = source.Claimed i
source_kept (views.SourceStage.filling i) = source.Accepted i
source_kept views.SourceStage.crossing = source.Crossing
source_kept views.SourceStage.refused = source.Refused
source_kept (views.SourceStage.ended how) = source.Ended how

abbrev pub refusal_kept : views.Refusal → Refusal
refusal_kept views.Refusal.port_ended = refusal.PortEnded
refusal_kept views.Refusal.own_fault = refusal.OwnFault

abbrev pub target_kept : views.TargetStage Value → TargetStage
target_kept views.TargetStage.free = target.Free
target_kept (views.TargetStage.offered i) = target.Offered i
target_kept (views.TargetStage.posted i) = target.Posted i
target_kept (views.TargetStage.postponed i) = target.Postponed i
target_kept (views.TargetStage.accepted i) = target.Accepted i
target_kept (views.TargetStage.consuming i) = target.Consuming i
target_kept (views.TargetStage.asking i) = target.Asking i
target_kept (views.TargetStage.holding i) = target.Holding i
target_kept (views.TargetStage.claiming i) = target.Claiming i
target_kept (views.TargetStage.arrived i) = target.Arrived i
target_kept (views.TargetStage.hand i _) = target.Hand i
target_kept (views.TargetStage.refused why) = target.Refused (refusal_kept why)
target_kept (views.TargetStage.ended how) = target.Ended how

-- where an end stands after a look that finds this phase, and what the look tells it
abbrev pub source_looks : SourceStage → Phase → SourceStage
source_looks stage phase = source_kept (source_finds (source_stage_of stage) phase)

abbrev pub source_is_released : SourceStage → Phase → Bool
source_is_released stage phase = tells_release (source_stage_of stage) phase

abbrev pub target_looks : TargetStage → Phase → TargetStage
target_looks stage phase = target_kept (target_finds (target_stage_of stage None) phase)

abbrev pub target_is_withdrawn : TargetStage → Phase → Bool
target_is_withdrawn stage phase = tells_withdrawal (target_stage_of stage None) phase

-- what is kept is what the model says, whatever the target has in hand
pub record StagesAreKept : Type 0 where
  pub source : (stage : SourceStage) (phase : Phase)
      → source_stage_of (source_looks stage phase) ≡ source_finds (source_stage_of stage) phase
  pub target : (stage : TargetStage) (parcel : Option Value) (phase : Phase)
      → target_stage_of (target_looks stage phase) parcel ≡ target_finds (target_stage_of stage parcel) phase
  pub withdrawn : (stage : TargetStage) (parcel : Option Value) (phase : Phase)
      → tells_withdrawal (target_stage_of stage parcel) phase ≡ target_is_withdrawn stage phase
