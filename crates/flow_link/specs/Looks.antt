-- What an end of a link finds when it looks at the phase: its new stage, and what that tells it of the other end.
use Rattle.std.specs.Prelude.{◌≡◌, Bool, true, false}
use Rattle.flow_link.specs.declared.phase.Phase.{Phase}
use Rattle.flow_link.specs.declared.phase.Phase.TheVariants.{Idle, Posted, Offered, Postponed, Wanted, Given, Asked, Held, Refused, Ended}
use Rattle.flow_link.specs.Views.{SourceStage, TargetStage, SourceView, TargetView}
use Rattle.flow_link.specs.Moves.{source_at, target_at}

-- the source's stage after a look that finds this phase
abbrev pub source_finds : SourceStage → Phase → SourceStage
source_finds (SourceStage.out i) (Wanted _) = SourceStage.accepted i
source_finds (SourceStage.out i) (Postponed _) = SourceStage.waiting i
source_finds (SourceStage.out i) (Asked _) = SourceStage.asked_by i
source_finds (SourceStage.out _) Refused = SourceStage.refused
source_finds (SourceStage.posted i) (Wanted _) = SourceStage.accepted i
-- the target turned the message down
source_finds (SourceStage.posted _) Idle = SourceStage.free
source_finds (SourceStage.posted _) Refused = SourceStage.refused
source_finds (SourceStage.waiting i) (Wanted _) = SourceStage.wished i
source_finds (SourceStage.waiting i) (Asked _) = SourceStage.asked_by i
source_finds (SourceStage.waiting _) Refused = SourceStage.refused
-- the target claims the message, or else has released it
source_finds (SourceStage.reserved i) (Wanted _) = SourceStage.claimed i
source_finds (SourceStage.reserved i) (Postponed _) = SourceStage.waiting i
source_finds (SourceStage.reserved i) (Asked _) = SourceStage.asked_by i
source_finds (SourceStage.reserved _) Refused = SourceStage.refused
-- the target has closed
source_finds SourceStage.crossing Idle = SourceStage.free
source_finds stage _ = stage

-- the look tells the source that the target released the message that was kept for it
abbrev pub tells_release : SourceStage → Phase → Bool
tells_release (SourceStage.reserved _) (Postponed _) = true
tells_release (SourceStage.reserved _) (Asked _) = true
tells_release (SourceStage.reserved _) Refused = true
tells_release _ _ = false

module _ {V : Type 0} where
  -- the target's stage after a look that finds this phase
  abbrev pub target_finds : TargetStage V → Phase → TargetStage V
  target_finds TargetStage.free (Posted i) = TargetStage.posted i
  target_finds TargetStage.free (Offered i) = TargetStage.offered i
  target_finds TargetStage.free (Ended how) = TargetStage.ended how
  -- withdrawn, or denied: the target goes on as if it had been free
  target_finds (TargetStage.postponed _) Idle = TargetStage.free
  target_finds (TargetStage.postponed _) (Posted i) = TargetStage.posted i
  target_finds (TargetStage.postponed _) (Offered i) = TargetStage.offered i
  target_finds (TargetStage.postponed _) (Ended how) = TargetStage.ended how
  target_finds (TargetStage.consuming _) Idle = TargetStage.free
  target_finds (TargetStage.consuming _) (Posted i) = TargetStage.posted i
  target_finds (TargetStage.consuming _) (Offered i) = TargetStage.offered i
  target_finds (TargetStage.consuming _) (Ended how) = TargetStage.ended how
  target_finds (TargetStage.asking _) Idle = TargetStage.free
  target_finds (TargetStage.asking _) (Posted i) = TargetStage.posted i
  target_finds (TargetStage.asking _) (Offered i) = TargetStage.offered i
  target_finds (TargetStage.asking _) (Ended how) = TargetStage.ended how
  -- the source kept the message, or gave it
  target_finds (TargetStage.asking i) (Held _) = TargetStage.holding i
  target_finds (TargetStage.accepted i) (Given _) = TargetStage.arrived i
  target_finds (TargetStage.consuming i) (Given _) = TargetStage.arrived i
  target_finds (TargetStage.claiming i) (Given _) = TargetStage.arrived i
  target_finds stage _ = stage

  -- the look tells the target that its wish stands no more: the source withdrew the offer or denied the wish
  abbrev pub tells_withdrawal : TargetStage V → Phase → Bool
  tells_withdrawal (TargetStage.postponed _) (Postponed _) = false
  tells_withdrawal (TargetStage.postponed _) _ = true
  tells_withdrawal (TargetStage.consuming _) (Wanted _) = false
  tells_withdrawal (TargetStage.consuming _) (Given _) = false
  tells_withdrawal (TargetStage.consuming _) _ = true
  tells_withdrawal (TargetStage.asking _) (Asked _) = false
  tells_withdrawal (TargetStage.asking _) (Held _) = false
  tells_withdrawal (TargetStage.asking _) _ = true
  tells_withdrawal _ _ = false

  -- what an end knows after its look
  abbrev pub looking_out : Phase → SourceView V → SourceView V
  looking_out phase view = source_at (source_finds view.stage phase) view

  abbrev pub looking_in : Phase → TargetView V → TargetView V
  looking_in phase view = target_at (target_finds view.stage phase) view

  -- a look of this end would not change its stage
  abbrev pub SourceHasSeen : Phase → SourceView V → Type 0
  SourceHasSeen phase view = source_finds view.stage phase ≡ view.stage

  abbrev pub TargetHasSeen : Phase → TargetView V → Type 0
  TargetHasSeen phase view = target_finds view.stage phase ≡ view.stage

  -- a look by either end would change neither stage
  pub record Seen (phase : Phase) (source : SourceView V) (target : TargetView V) : Type 0 where
    pub by_source : SourceHasSeen phase source
    pub by_target : TargetHasSeen phase target
