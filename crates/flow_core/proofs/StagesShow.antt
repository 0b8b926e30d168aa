-- The phase of a link that both its ends have seen is the one that their stages show.
use Rattle.std.proofs.Common.{◌≡◌, ℕ, ⊎_elim, ap, ◌∙◌}
use Rattle.flow_value.specs.declared.value.Value.{Value}
use Rattle.flow_link.specs.declared.phase.Phase.{Phase}
use Rattle.flow_link.specs.declared.phase.Phase.TheVariants.{Idle, Posted, Offered, Postponed, Wanted, Given, Opened, Asked, Held, Refused, Ended}
use Rattle.flow_link.specs.LooksKeep.{HasSeenWanted, SeenAt, Wants}
use Rattle.flow_link.specs.Views.{SourceStage, TargetStage}

-- a source whose message crosses does not see whether it is opened
abbrev pub source_shows : SourceStage → Phase
source_shows SourceStage.free = Idle
source_shows (SourceStage.posted i) = Posted i
source_shows (SourceStage.out i) = Offered i
source_shows (SourceStage.waiting i) = Postponed i
source_shows (SourceStage.accepted i) = Wanted i
source_shows (SourceStage.wished i) = Wanted i
source_shows (SourceStage.asked_by i) = Asked i
source_shows (SourceStage.reserved i) = Held i
source_shows (SourceStage.claimed i) = Wanted i
source_shows (SourceStage.filling i) = Wanted i
source_shows SourceStage.crossing = Given 0
source_shows SourceStage.refused = Refused
source_shows (SourceStage.ended how) = Ended how

abbrev pub target_shows : TargetStage Value → Phase
target_shows TargetStage.free = Idle
target_shows (TargetStage.offered i) = Offered i
target_shows (TargetStage.posted i) = Posted i
target_shows (TargetStage.postponed i) = Postponed i
target_shows (TargetStage.accepted i) = Wanted i
target_shows (TargetStage.consuming i) = Wanted i
target_shows (TargetStage.asking i) = Asked i
target_shows (TargetStage.holding i) = Held i
target_shows (TargetStage.claiming i) = Wanted i
target_shows (TargetStage.arrived i) = Given i
target_shows (TargetStage.hand i value) = Opened i
target_shows (TargetStage.refused why) = Refused
target_shows (TargetStage.ended how) = Ended how

wanted_shown : (i : ℕ) (s : SourceStage) → HasSeenWanted i s → source_shows s ≡ Wanted i
wanted_shown i s h =
    ⊎_elim (λ is. ap source_shows is)
    (λ rest. ⊎_elim (λ is. ap source_shows is)
    (λ rest. ⊎_elim (λ is. ap source_shows is) (λ is. ap source_shows is) rest) rest) h

wanting_shown : (i : ℕ) (t : TargetStage Value) → Wants i t → target_shows t ≡ Wanted i
wanting_shown i t h =
    ⊎_elim (λ is. ap target_shows is)
    (λ rest. ⊎_elim (λ is. ap target_shows is) (λ is. ap target_shows is) rest) h

pub target_shown : (phase : Phase) (s : SourceStage) (t : TargetStage Value) → SeenAt phase s t
    → target_shows t ≡ phase
target_shown (Wanted i) s t h = wanting_shown i t h.1
target_shown (Opened i) s t h = ap target_shows h.1.1
target_shown Refused s t h = ap target_shows h.1.1
target_shown Idle s t h = ap target_shows h.1
target_shown (Posted i) s t h = ap target_shows h.1
target_shown (Offered i) s t h = ap target_shows h.1
target_shown (Postponed i) s t h = ap target_shows h.1
target_shown (Given i) s t h = ap target_shows h.1
target_shown (Asked i) s t h = ap target_shows h.1
target_shown (Held i) s t h = ap target_shows h.1
target_shown (Ended how) s t h = ap target_shows h.1

-- the source's stage tells what is the same for each message that crosses, be it opened or not
module _ {A : Type 0} (f : Phase → A) (given : (i : ℕ) → f (Given 0) ≡ f (Given i))
    (opened : (i : ℕ) → f (Given 0) ≡ f (Opened i)) where
  abbrev shown : SourceStage → A
  shown s = f (source_shows s)

  pub source_shown : (phase : Phase) (s : SourceStage) (t : TargetStage Value) → SeenAt phase s t → shown s ≡ f phase
  source_shown (Wanted i) s t h = ap f (wanted_shown i s h.0)
  source_shown (Given i) s t h = ap shown h.0 ∙ given i
  source_shown (Opened i) s t h = ap shown h.0 ∙ opened i
  source_shown Idle s t h = ap shown h.0
  source_shown (Posted i) s t h = ap shown h.0
  source_shown (Offered i) s t h = ap shown h.0
  source_shown (Postponed i) s t h = ap shown h.0
  source_shown (Asked i) s t h = ap shown h.0
  source_shown (Held i) s t h = ap shown h.0
  source_shown Refused s t h = ap shown h.0
  source_shown (Ended how) s t h = ap shown h.0
