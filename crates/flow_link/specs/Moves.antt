-- How each move changes what its own end knows of the link.
use Rattle.std.specs.Prelude.{ℕ, [], ◌∷◌, ◌++◌}
use Rattle.flow_link.specs.declared.phase.LinkEnd.{LinkEnd}
use Rattle.flow_link.specs.Views.{SourceStage, TargetStage, Refusal, SourceView, TargetView}

-- what the source's end knows at another stage
abbrev pub source_at : {V : Type 0} → SourceStage → SourceView V → SourceView V
source_at stage view = record view { stage = stage }

abbrev pub target_at : {V : Type 0} → TargetStage V → TargetView V → TargetView V
target_at stage view = record view { stage = stage }

-- what the source's end knows after its move
module _ {V : Type 0} where
  abbrev pub offering : ℕ → SourceView V → SourceView V
  offering i view = source_at (SourceStage.out i) view

  abbrev pub posting : ℕ → SourceView V → SourceView V
  posting i view = source_at (SourceStage.posted i) view

  abbrev pub ending : LinkEnd → SourceView V → SourceView V
  ending how view = source_at (SourceStage.ended how) view

  -- it takes the slot out, to lay the message in: no move, since the phase stays
  abbrev pub filling : ℕ → SourceView V → SourceView V
  filling i view = source_at (SourceStage.filling i) view

  abbrev pub giving : ℕ → V → SourceView V → SourceView V
  giving i value view = record view { given = view.given ++ value ∷ []; last = i; stage = SourceStage.crossing }

  abbrev pub denying : SourceView V → SourceView V
  denying view = source_at SourceStage.free view

  abbrev pub holding : ℕ → SourceView V → SourceView V
  holding i view = source_at (SourceStage.reserved i) view

  abbrev pub withdrawing : SourceView V → SourceView V
  withdrawing view = source_at SourceStage.free view

-- what the target's end knows after its move
module _ {V : Type 0} where
  abbrev pub wanting : ℕ → TargetView V → TargetView V
  wanting i view = target_at (TargetStage.accepted i) view

  abbrev pub turning_down : TargetView V → TargetView V
  turning_down view = target_at TargetStage.free view

  abbrev pub refusing : Refusal → TargetView V → TargetView V
  refusing why view = target_at (TargetStage.refused why) view

  abbrev pub postponing : ℕ → TargetView V → TargetView V
  postponing i view = target_at (TargetStage.postponed i) view

  abbrev pub consuming : ℕ → TargetView V → TargetView V
  consuming i view = target_at (TargetStage.consuming i) view

  abbrev pub asking : ℕ → TargetView V → TargetView V
  asking i view = target_at (TargetStage.asking i) view

  abbrev pub claiming : ℕ → TargetView V → TargetView V
  claiming i view = target_at (TargetStage.claiming i) view

  abbrev pub releasing : ℕ → TargetView V → TargetView V
  releasing i view = target_at (TargetStage.postponed i) view

  abbrev pub opening : ℕ → V → TargetView V → TargetView V
  opening i value view = target_at (TargetStage.hand i value) view

  abbrev pub closing : V → TargetView V → TargetView V
  closing value view = record view { taken = view.taken ++ value ∷ []; stage = TargetStage.free }
