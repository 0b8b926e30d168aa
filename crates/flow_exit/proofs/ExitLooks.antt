-- What a look makes of an exit's stage.
use Rattle.std.proofs.Common.{◌≡◌, true, refl}
use Rattle.flow_link.specs.declared.phase.Phase.{Phase}
use Rattle.flow_link.specs.declared.phase.Phase.TheVariants.{Idle, Posted, Offered, Postponed, Wanted, Given, Opened, Asked, Held, Refused, Ended}
use Rattle.flow_link.specs.declared.stage.TargetStage.{TargetStage}
use Rattle.flow_link.specs.declared.stage.TargetStage.TheVariants as target
use Rattle.flow_link.specs.Stage.{target_looks}
use Rattle.flow_intake.specs.Port.{is_hand}
use Rattle.flow_exit.specs.ExitKeeps.{is_plain, comes}

pub record LooksPlain (stage : TargetStage) (phase : Phase) : Type 0 where
  pub plain : is_plain (target_looks stage phase) ≡ true
  pub in_hand : is_hand (target_looks stage phase) ≡ is_hand stage
  pub comes_before : comes (target_looks stage phase) ≡ true → comes stage ≡ true

abbrev quiet : {stage : TargetStage} {phase : Phase} → is_plain (target_looks stage phase) ≡ true
    → is_hand (target_looks stage phase) ≡ is_hand stage
    → (comes (target_looks stage phase) ≡ true → comes stage ≡ true) → LooksPlain stage phase
quiet plain in_hand before = record { plain = plain; in_hand = in_hand; comes_before = before }

pub looks_plain : (stage : TargetStage) (phase : Phase) → is_plain stage ≡ true → LooksPlain stage phase
looks_plain target.Free Idle e = quiet refl refl (λ c. c)
looks_plain target.Free (Posted i) e = quiet refl refl (λ c. c)
looks_plain target.Free (Offered i) e = quiet refl refl (λ c. c)
looks_plain target.Free (Postponed i) e = quiet refl refl (λ c. c)
looks_plain target.Free (Wanted i) e = quiet refl refl (λ c. c)
looks_plain target.Free (Given i) e = quiet refl refl (λ c. c)
looks_plain target.Free (Opened i) e = quiet refl refl (λ c. c)
looks_plain target.Free (Asked i) e = quiet refl refl (λ c. c)
looks_plain target.Free (Held i) e = quiet refl refl (λ c. c)
looks_plain target.Free Refused e = quiet refl refl (λ c. c)
looks_plain target.Free (Ended how) e = quiet refl refl (λ c. c)
looks_plain (target.Postponed k) Idle e = quiet refl refl (λ c. c)
looks_plain (target.Postponed k) (Posted i) e = quiet refl refl (λ c. c)
looks_plain (target.Postponed k) (Offered i) e = quiet refl refl (λ c. c)
looks_plain (target.Postponed k) (Postponed i) e = quiet refl refl (λ c. c)
looks_plain (target.Postponed k) (Wanted i) e = quiet refl refl (λ c. c)
looks_plain (target.Postponed k) (Given i) e = quiet refl refl (λ c. c)
looks_plain (target.Postponed k) (Opened i) e = quiet refl refl (λ c. c)
looks_plain (target.Postponed k) (Asked i) e = quiet refl refl (λ c. c)
looks_plain (target.Postponed k) (Held i) e = quiet refl refl (λ c. c)
looks_plain (target.Postponed k) Refused e = quiet refl refl (λ c. c)
looks_plain (target.Postponed k) (Ended how) e = quiet refl refl (λ c. c)
looks_plain (target.Consuming k) Idle e = quiet refl refl (λ c. refl)
looks_plain (target.Consuming k) (Posted i) e = quiet refl refl (λ c. refl)
looks_plain (target.Consuming k) (Offered i) e = quiet refl refl (λ c. refl)
looks_plain (target.Consuming k) (Postponed i) e = quiet refl refl (λ c. refl)
looks_plain (target.Consuming k) (Wanted i) e = quiet refl refl (λ c. refl)
looks_plain (target.Consuming k) (Given i) e = quiet refl refl (λ c. refl)
looks_plain (target.Consuming k) (Opened i) e = quiet refl refl (λ c. refl)
looks_plain (target.Consuming k) (Asked i) e = quiet refl refl (λ c. refl)
looks_plain (target.Consuming k) (Held i) e = quiet refl refl (λ c. refl)
looks_plain (target.Consuming k) Refused e = quiet refl refl (λ c. refl)
looks_plain (target.Consuming k) (Ended how) e = quiet refl refl (λ c. refl)
looks_plain (target.Accepted k) Idle e = quiet refl refl (λ c. refl)
looks_plain (target.Accepted k) (Posted i) e = quiet refl refl (λ c. refl)
looks_plain (target.Accepted k) (Offered i) e = quiet refl refl (λ c. refl)
looks_plain (target.Accepted k) (Postponed i) e = quiet refl refl (λ c. refl)
looks_plain (target.Accepted k) (Wanted i) e = quiet refl refl (λ c. refl)
looks_plain (target.Accepted k) (Given i) e = quiet refl refl (λ c. refl)
looks_plain (target.Accepted k) (Opened i) e = quiet refl refl (λ c. refl)
looks_plain (target.Accepted k) (Asked i) e = quiet refl refl (λ c. refl)
looks_plain (target.Accepted k) (Held i) e = quiet refl refl (λ c. refl)
looks_plain (target.Accepted k) Refused e = quiet refl refl (λ c. refl)
looks_plain (target.Accepted k) (Ended how) e = quiet refl refl (λ c. refl)
looks_plain (target.Offered k) phase e = quiet refl refl (λ c. c)
looks_plain (target.Posted k) phase e = quiet refl refl (λ c. c)
looks_plain (target.Arrived k) phase e = quiet refl refl (λ c. c)
looks_plain (target.Hand k) phase e = quiet refl refl (λ c. c)
looks_plain (target.Ended how) phase e = quiet refl refl (λ c. c)
looks_plain (target.Asking k) phase e = absurd (cc)
looks_plain (target.Holding k) phase e = absurd (cc)
looks_plain (target.Claiming k) phase e = absurd (cc)
looks_plain (target.Refused why) phase e = absurd (cc)
