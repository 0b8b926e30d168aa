-- What a look of the source leaves as it was.
use Rattle.std.proofs.Common.{◌≡◌, ℕ, true, false, Some, refl}
use Rattle.flow_link.specs.declared.phase.LinkEnd.{LinkEnd}
use Rattle.flow_link.specs.declared.phase.Phase.{Phase}
use Rattle.flow_link.specs.declared.phase.Phase.TheVariants.{Idle, Postponed, Wanted, Asked, Refused as refused_phase}
use Rattle.flow_link.specs.declared.stage.SourceStage.{SourceStage}
use Rattle.flow_link.specs.declared.stage.SourceStage.TheVariants.{Posted, Out, Waiting, Reserved, Crossing, Ended}
use Rattle.flow_link.specs.Stage.{source_looks}
use Rattle.flow_outlet.specs.End.{id_of, is_out, is_spoken_for}
use Rattle.flow_outlet.specs.Law.{is_posted, is_refused}

-- a look tells of no new message, makes no offer, ends no link, and takes no refusal back
pub record LookTells (before after : SourceStage) : Type 0 where
  pub same_id : (i : ℕ) → id_of after ≡ Some i → id_of before ≡ Some i
  pub was_out : is_posted before ≡ false → is_out after ≡ true → is_out before ≡ true
  pub was_spoken : is_posted before ≡ false → is_spoken_for after ≡ true → is_spoken_for before ≡ true
  pub not_posted : is_posted before ≡ false → is_posted after ≡ false
  pub ended : (how : LinkEnd) → after ≡ Ended how → before ≡ Ended how
  pub refused : is_refused before ≡ true → is_refused after ≡ true

stays : (stage : SourceStage) → LookTells stage stage
stays stage = record {
  same_id = λ i e. e;
  was_out = λ p e. e;
  was_spoken = λ p e. e;
  not_posted = λ p. p;
  ended = λ how e. e;
  refused = λ e. e;
}

pub look_tells : (stage : SourceStage) (phase : Phase) → LookTells stage (source_looks stage phase)
look_tells (Out i) (Wanted _) = record { same_id = λ _ e. e; was_out = λ _ e. e; was_spoken = λ p e. refl; not_posted = λ _. refl; ended = λ _ e. cc; refused = λ e. cc }
look_tells (Out i) (Postponed _) = record { same_id = λ _ e. e; was_out = λ _ e. cc; was_spoken = λ p e. cc; not_posted = λ _. refl; ended = λ _ e. cc; refused = λ e. cc }
look_tells (Out i) (Asked _) = record { same_id = λ _ e. e; was_out = λ _ e. cc; was_spoken = λ p e. cc; not_posted = λ _. refl; ended = λ _ e. cc; refused = λ e. cc }
look_tells (Out i) refused_phase = record { same_id = λ _ e. cc; was_out = λ _ e. cc; was_spoken = λ p e. cc; not_posted = λ _. refl; ended = λ _ e. cc; refused = λ e. cc }
look_tells (Posted i) (Wanted _) = record { same_id = λ _ e. e; was_out = λ p e. cc; was_spoken = λ p e. cc; not_posted = λ p. refl; ended = λ _ e. cc; refused = λ e. cc }
look_tells (Posted i) Idle = record { same_id = λ _ e. cc; was_out = λ p e. cc; was_spoken = λ p e. cc; not_posted = λ p. refl; ended = λ _ e. cc; refused = λ e. cc }
look_tells (Posted i) refused_phase = record { same_id = λ _ e. cc; was_out = λ p e. cc; was_spoken = λ p e. cc; not_posted = λ p. refl; ended = λ _ e. cc; refused = λ e. cc }
look_tells (Waiting i) (Wanted _) = record { same_id = λ _ e. e; was_out = λ p e. cc; was_spoken = λ p e. cc; not_posted = λ p. refl; ended = λ _ e. cc; refused = λ e. cc }
look_tells (Waiting i) (Asked _) = record { same_id = λ _ e. e; was_out = λ p e. cc; was_spoken = λ p e. cc; not_posted = λ p. refl; ended = λ _ e. cc; refused = λ e. cc }
look_tells (Waiting i) refused_phase = record { same_id = λ _ e. cc; was_out = λ p e. cc; was_spoken = λ p e. cc; not_posted = λ p. refl; ended = λ _ e. cc; refused = λ e. cc }
look_tells (Reserved i) (Wanted _) = record { same_id = λ _ e. e; was_out = λ p e. cc; was_spoken = λ p e. refl; not_posted = λ p. refl; ended = λ _ e. cc; refused = λ e. cc }
look_tells (Reserved i) (Postponed _) = record { same_id = λ _ e. e; was_out = λ p e. cc; was_spoken = λ p e. cc; not_posted = λ p. refl; ended = λ _ e. cc; refused = λ e. cc }
look_tells (Reserved i) (Asked _) = record { same_id = λ _ e. e; was_out = λ p e. cc; was_spoken = λ p e. cc; not_posted = λ p. refl; ended = λ _ e. cc; refused = λ e. cc }
look_tells (Reserved i) refused_phase = record { same_id = λ _ e. cc; was_out = λ p e. cc; was_spoken = λ p e. cc; not_posted = λ p. refl; ended = λ _ e. cc; refused = λ e. cc }
look_tells Crossing Idle = record { same_id = λ _ e. cc; was_out = λ p e. cc; was_spoken = λ p e. cc; not_posted = λ p. refl; ended = λ _ e. cc; refused = λ e. cc }
look_tells (Ended how) phase = stays (Ended how)
look_tells stage _ = stays stage
