-- The stages that the program keeps are those of the model.
use Rattle.std.proofs.Common.{◌≡◌, false, Option, refl, ap}
use Rattle.flow_value.specs.declared.value.Value.{Value}
use Rattle.flow_link.specs.declared.phase.LinkEnd.{LinkEnd}
use Rattle.flow_link.specs.declared.phase.Phase.{Phase}
use Rattle.flow_link.specs.declared.phase.Phase.TheVariants.{Idle}
use Rattle.flow_link.specs.declared.stage.SourceStage.{SourceStage}
use Rattle.flow_link.specs.declared.stage.SourceStage.TheVariants as source
use Rattle.flow_link.specs.declared.stage.TargetStage.{TargetStage}
use Rattle.flow_link.specs.declared.stage.TargetStage.TheVariants as target
use Rattle.flow_link.specs.declared.stage.Refusal.TheVariants as refusal
use Rattle.flow_link.specs.Looks.{source_finds, target_finds, tells_withdrawal}
use Rattle.flow_link.specs.Stage.{source_stage_of, target_stage_of, source_looks, target_looks, target_is_withdrawn, is_kept, StagesAreKept}
use Rattle.flow_link.specs.Views as views

pub source_looks_kept : (stage : SourceStage) (phase : Phase)
    → source_stage_of (source_looks stage phase) ≡ source_finds (source_stage_of stage) phase
source_looks_kept source.Free Idle = refl
source_looks_kept _ Idle = refl
source_looks_kept _ _ = refl

pub target_looks_kept : (stage : TargetStage) (parcel : Option Value) (phase : Phase)
    → target_stage_of (target_looks stage phase) parcel ≡ target_finds (target_stage_of stage parcel) phase
target_looks_kept target.Free parcel Idle = refl
target_looks_kept (target.Refused refusal.PortEnded) parcel Idle = refl
target_looks_kept (target.Refused _) parcel _ = refl
target_looks_kept _ parcel Idle = refl
target_looks_kept _ parcel _ = refl

pub withdrawn_kept : (stage : TargetStage) (parcel : Option Value) (phase : Phase)
    → tells_withdrawal (target_stage_of stage parcel) phase ≡ target_is_withdrawn stage phase
withdrawn_kept target.Free parcel Idle = refl
withdrawn_kept _ parcel Idle = refl
withdrawn_kept _ parcel _ = refl

pub stages_are_kept : StagesAreKept
stages_are_kept = record {
  source = source_looks_kept;
  target = target_looks_kept;
  withdrawn = withdrawn_kept;
}

-- what a stage says, as the model names it
pub ended_stage : (stage : SourceStage) (how : LinkEnd) → source_stage_of stage ≡ views.SourceStage.ended how
    → stage ≡ source.Ended how
ended_stage (source.Ended other) how e = let same : other ≡ how = cc in ap source.Ended same
ended_stage _ how e = absurd (cc)

pub free_back : (stage : SourceStage) → source_stage_of stage ≡ views.SourceStage.free → stage ≡ source.Free
free_back source.Free e = refl
free_back _ e = absurd (cc)

-- a look finds no message kept that was not
pub none_kept_by_looks : (stage : SourceStage) (phase : Phase) → is_kept stage ≡ false
    → is_kept (source_looks stage phase) ≡ false
none_kept_by_looks (source.Reserved i) phase none = absurd (cc)
none_kept_by_looks (source.Claimed i) phase none = absurd (cc)
none_kept_by_looks _ Idle none = refl
none_kept_by_looks _ _ none = refl
