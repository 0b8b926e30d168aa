-- What a look makes of the stage of an input.
use Rattle.std.proofs.Common.{◌≡◌, ℕ, ◌-◌, ◌≤◌, cond, Bool, true, false, Option, Some, None, refl, arith}
use Rattle.flow_link.specs.declared.phase.LinkEnd.{LinkEnd}
use Rattle.flow_link.specs.declared.phase.Phase.{Phase}
use Rattle.flow_link.specs.declared.phase.Phase.TheVariants.{Idle, Wanted, Postponed, Asked, Refused as refused_phase}
use Rattle.flow_link.specs.declared.stage.SourceStage.{SourceStage}
use Rattle.flow_link.specs.declared.stage.SourceStage.TheVariants.{Free, Posted, Out, Waiting, Accepted, Wished, Reserved, Crossing, Refused, Ended}
use Rattle.flow_link.specs.Looks.{source_finds}
use Rattle.flow_link.specs.Stage.{source_looks, source_stage_of}
use Rattle.flow_link.specs.Views as views
use Rattle.flow_outlet.specs.End.{id_of, is_free}
use Rattle.flow_outlet.specs.Law.{is_posted, is_refused}
use Rattle.flow_input.specs.Input.{is_turned_down, is_wanted}
use Rattle.flow_input.specs.InputKeeps.{goes_at_once, is_at_home}
use Rattle.flow_input.specs.Sends.{is_crossing}

pub record LookFinds (before after : SourceStage) : Type 0 where
  pub posted : is_posted after ≡ true → is_posted before ≡ true
  pub crossing : is_crossing after ≡ true → is_crossing before ≡ true
  pub home : is_at_home before ≡ true → after ≡ before

stays : (stage : SourceStage) → LookFinds stage stage
stays stage = record { posted = λ e. e; crossing = λ e. e; home = λ e. refl }

away : (before after : SourceStage) → is_posted after ≡ false → is_crossing after ≡ false → is_at_home before ≡ false → LookFinds before after
away before after posted crossing home = record { posted = λ e. absurd (cc); crossing = λ e. absurd (cc); home = λ e. absurd (cc) }

pub look_finds : (stage : SourceStage) (phase : Phase) → LookFinds stage (source_looks stage phase)
look_finds (Out i) (Wanted j) = away (Out i) (source_looks (Out i) (Wanted j)) refl refl refl
look_finds (Out i) (Postponed j) = away (Out i) (source_looks (Out i) (Postponed j)) refl refl refl
look_finds (Out i) (Asked j) = away (Out i) (source_looks (Out i) (Asked j)) refl refl refl
look_finds (Out i) refused_phase = away (Out i) (source_looks (Out i) refused_phase) refl refl refl
look_finds (Posted i) (Wanted j) = away (Posted i) (source_looks (Posted i) (Wanted j)) refl refl refl
look_finds (Posted i) Idle = away (Posted i) (source_looks (Posted i) Idle) refl refl refl
look_finds (Posted i) refused_phase = away (Posted i) (source_looks (Posted i) refused_phase) refl refl refl
look_finds (Waiting i) (Wanted j) = away (Waiting i) (source_looks (Waiting i) (Wanted j)) refl refl refl
look_finds (Waiting i) (Asked j) = away (Waiting i) (source_looks (Waiting i) (Asked j)) refl refl refl
look_finds (Waiting i) refused_phase = away (Waiting i) (source_looks (Waiting i) refused_phase) refl refl refl
look_finds (Reserved i) (Wanted j) = away (Reserved i) (source_looks (Reserved i) (Wanted j)) refl refl refl
look_finds (Reserved i) (Postponed j) = away (Reserved i) (source_looks (Reserved i) (Postponed j)) refl refl refl
look_finds (Reserved i) (Asked j) = away (Reserved i) (source_looks (Reserved i) (Asked j)) refl refl refl
look_finds (Reserved i) refused_phase = away (Reserved i) (source_looks (Reserved i) refused_phase) refl refl refl
look_finds Crossing Idle = away Crossing (source_looks Crossing Idle) refl refl refl
look_finds (Ended how) phase = stays (Ended how)
look_finds stage _ = stays stage

-- what is posted is wanted or refused, unless it is turned down
pub at_once_still : (stage : SourceStage) (phase : Phase) → is_turned_down stage phase ≡ false → goes_at_once stage ≡ true
    → goes_at_once (source_looks stage phase) ≡ true
at_once_still (Posted i) (Wanted j) down e = refl
at_once_still (Posted i) Idle down e = absurd (cc)
at_once_still (Posted i) refused_phase down e = refl
at_once_still (Posted i) _ down e = refl
at_once_still (Accepted i) Idle down e = refl
at_once_still (Accepted i) _ down e = refl
at_once_still Refused Idle down e = refl
at_once_still Refused _ down e = refl
at_once_still _ phase down e = absurd (cc)

pub down_posted : (stage : SourceStage) (phase : Phase) → is_turned_down stage phase ≡ true → is_posted stage ≡ true
down_posted (Posted i) phase e = refl
down_posted _ phase e = absurd (cc)

-- and then the source is free
pub down_free : (stage : SourceStage) (phase : Phase) → is_turned_down stage phase ≡ true
    → views.SourceStage.free ≡ source_finds (source_stage_of stage) phase
down_free (Posted i) Idle e = refl
down_free (Posted i) _ e = absurd (cc)
down_free _ phase e = absurd (cc)

pub free_waits : (stage : SourceStage) → is_free stage ≡ true → goes_at_once stage ≡ true → ⊥
free_waits Free f e = cc
free_waits _ f e = absurd (cc)

pub refused_silent : (stage : SourceStage) (i : ℕ) → is_refused stage ≡ true → id_of stage ≡ Some i → ⊥
refused_silent Refused i f e = cc
refused_silent _ i f e = absurd (cc)

pub refused_open : (stage : SourceStage) (how : LinkEnd) → is_refused stage ≡ true → stage ≡ Ended how → ⊥
refused_open Refused how f e = cc
refused_open _ how f e = absurd (cc)

pub refused_posted : (stage : SourceStage) → is_refused stage ≡ true → is_posted stage ≡ true → ⊥
refused_posted Refused f e = cc
refused_posted _ f e = absurd (cc)

pub refused_home : (stage : SourceStage) → is_refused stage ≡ true → is_crossing stage ≡ false
refused_home Refused e = refl
refused_home _ e = absurd (cc)

-- a message that is wanted is one that was offered
pub wanted_id : (stage : SourceStage) → is_wanted stage ≡ true → (i : ℕ) × (id_of stage ≡ Some i)
wanted_id (Accepted i) wanted = (i, refl)
wanted_id (Wished i) wanted = (i, refl)
wanted_id _ wanted = absurd (cc)

-- where nothing is offered or crosses, nothing is under way
pub home_where : (stage : SourceStage) → id_of stage ≡ None → is_crossing stage ≡ false → is_at_home stage ≡ true
home_where Free silent crossing = refl
home_where Refused silent crossing = refl
home_where (Ended how) silent crossing = refl
home_where _ silent crossing = absurd (cc)

pub silent_where : (option : Option ℕ) → ((i : ℕ) → option ≡ Some i → ⊥) → option ≡ None
silent_where None never = refl
silent_where (Some i) never = absurd (never i refl)

-- what was taken is of what was given
pub settled_within : (crossing : Bool) (sent : ℕ) → cond crossing (sent - 1) sent ≤ sent
settled_within true sent = omega arith
settled_within false sent = omega arith

pub settled_then : (before after : Bool) (told sent : ℕ) → (after ≡ true → before ≡ true) → told ≤ cond before (sent - 1) sent
    → told ≤ cond after (sent - 1) sent
settled_then true true told sent same low = low
settled_then false true told sent same low = absurd (let now = same refl in cc)
settled_then true false told sent same low = omega (arith, low)
settled_then false false told sent same low = low
