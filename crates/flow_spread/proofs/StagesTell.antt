-- What a stage tells of the element: whether it speaks of it, whether its link may owe, and what a look leaves of that.
use Rattle.std.proofs.Common.{◌≡◌, ℕ, ◌<◌, ◌==◌, ◌||◌, ◌&&◌, Bool, true, false, Option, Some, None, is_some, refl, arith}
use Rattle.std.proofs.lemmas.Bool.{and_parts}
use Rattle.std.proofs.lemmas.Bool.Decides.{nat_tests}
use Rattle.flow_link.specs.declared.phase.Phase.{Phase}
use Rattle.flow_link.specs.declared.phase.Phase.TheVariants.{Idle, Postponed, Wanted, Asked, Refused as refused_phase}
use Rattle.flow_link.specs.declared.stage.SourceStage.{SourceStage}
use Rattle.flow_link.specs.declared.stage.SourceStage.TheVariants.{Free, Posted, Out, Waiting, Accepted, Wished, AskedBy, Reserved, Claimed, Crossing, Refused, Ended}
use Rattle.flow_link.specs.Stage.{source_looks}
use Rattle.flow_outlet.specs.ByLink.{forgotten_stage, is_taken}
use Rattle.flow_outlet.specs.End.{id_of, is_out, is_away, is_over}
use Rattle.flow_outlet.specs.Law.{is_put_off, is_posted, is_refused}
use Rattle.flow_spread.specs.End.{is_busy, is_answer}
use Rattle.flow_spread.specs.Spread.{is_wanted, is_asked_by}
use Rattle.flow_spread.specs.Law.{may_owe}

-- Tests

pub or_first : (a b : Bool) → a ≡ true → (a || b) ≡ true
or_first true b e = refl
or_first false b e = cc

pub or_second : (a b : Bool) → b ≡ true → (a || b) ≡ true
or_second true b e = refl
or_second false b e = e

pub or_either : {Q : Type 0} (a b : Bool) → (a ≡ true → Q) → (b ≡ true → Q) → (a || b) ≡ true → Q
or_either true b f g e = f refl
or_either false b f g e = g e

pub never_so : {Q : Type 0} (b : Bool) → b ≡ true → b ≡ false → Q
never_so true e f = absurd (cc)
never_so false e f = absurd (cc)

pub some_is : {Q : Type 0} (o : Option ℕ) → is_some o ≡ true → ((i : ℕ) → o ≡ Some i → Q) → Q
some_is (Some i) e f = f i refl
some_is None e f = absurd (cc)

pub number_below : (a b : ℕ) → a < b → (a == b) ≡ false
number_below a b l = grind (arith, nat_tests)

pub number_same : (a : ℕ) → (a == a) ≡ true
number_same a = grind (arith, nat_tests)

-- A look

-- a link owes as before, unless its target is seen to have answered
pub looks_owing : (once : Bool) (stage : SourceStage) (phase : Phase) → may_owe once stage ≡ true
    → is_answer once (source_looks stage phase) ≡ false → may_owe once (source_looks stage phase) ≡ true
looks_owing once (Out i) (Wanted _) owes none = refl
looks_owing true (Out i) (Postponed _) owes none = refl
looks_owing false (Out i) (Postponed _) owes none = cc
looks_owing true (Out i) (Asked _) owes none = refl
looks_owing false (Out i) (Asked _) owes none = cc
looks_owing once (Out i) refused_phase owes none = cc
looks_owing once (Posted i) phase owes none = posted once owes
  where
    posted : {Q : Type 0} (once : Bool) → once && false ≡ true → Q
    posted true e = absurd (cc)
    posted false e = absurd (cc)
looks_owing true (Waiting i) (Wanted _) owes none = refl
looks_owing true (Waiting i) (Asked _) owes none = refl
looks_owing true (Waiting i) refused_phase owes none = cc
looks_owing false (Waiting i) phase owes none = cc
looks_owing true (Reserved i) (Wanted _) owes none = refl
looks_owing true (Reserved i) (Postponed _) owes none = refl
looks_owing true (Reserved i) (Asked _) owes none = refl
looks_owing true (Reserved i) refused_phase owes none = cc
looks_owing false (Reserved i) phase owes none = cc
looks_owing once Crossing Idle owes none = refl
looks_owing once stage _ owes none = owes

-- what is not under way is not seen to be
pub looks_rest : (stage : SourceStage) (phase : Phase) → is_away stage ≡ false → is_away (source_looks stage phase) ≡ false
looks_rest Free phase e = refl
looks_rest Refused phase e = refl
looks_rest (Ended how) phase e = refl
looks_rest (Posted _) phase e = cc
looks_rest (Out _) phase e = cc
looks_rest (Waiting _) phase e = cc
looks_rest (Accepted _) phase e = cc
looks_rest (Wished _) phase e = cc
looks_rest (AskedBy _) phase e = cc
looks_rest (Reserved _) phase e = cc
looks_rest (Claimed _) phase e = cc
looks_rest Crossing phase e = cc

-- who has an offer out has not answered
pub out_is_no_answer : (once : Bool) (stage : SourceStage) → is_out stage ≡ true → is_answer once stage ≡ false
out_is_no_answer once (Out _) e = refl
out_is_no_answer once (Accepted _) e = refl
out_is_no_answer once Free e = cc
out_is_no_answer once (Posted _) e = cc
out_is_no_answer once (Waiting _) e = cc
out_is_no_answer once (Wished _) e = cc
out_is_no_answer once (AskedBy _) e = cc
out_is_no_answer once (Reserved _) e = cc
out_is_no_answer once (Claimed _) e = cc
out_is_no_answer once Crossing e = cc
out_is_no_answer once Refused e = cc
out_is_no_answer once (Ended _) e = cc

-- where a block takes once, only a refusal is an answer
pub once_refused : (stage : SourceStage) → is_answer true stage ≡ true → is_refused stage ≡ true
once_refused Refused e = refl
once_refused Free e = cc
once_refused (Posted _) e = cc
once_refused (Out _) e = cc
once_refused (Waiting _) e = cc
once_refused (Accepted _) e = cc
once_refused (Wished _) e = cc
once_refused (AskedBy _) e = cc
once_refused (Reserved _) e = cc
once_refused (Claimed _) e = cc
once_refused Crossing e = cc
once_refused (Ended _) e = cc

-- What is wanted, asked for or put off

pub record IsWanted (id : ℕ) (stage : SourceStage) : Type 0 where
  pub speaks : is_some (id_of stage) ≡ true
  pub away : is_away stage ≡ true
  pub not_refused : is_refused stage ≡ false
  pub out_or_off : (is_out stage || is_put_off stage) ≡ true

pub wanted_is : (id : ℕ) (stage : SourceStage) → is_wanted id stage ≡ true → IsWanted id stage
wanted_is id (Accepted i) e = record { speaks = refl; away = refl; not_refused = refl; out_or_off = refl }
wanted_is id (Wished i) e = record { speaks = refl; away = refl; not_refused = refl; out_or_off = refl }
wanted_is id (Claimed i) e = record { speaks = refl; away = refl; not_refused = refl; out_or_off = refl }
wanted_is id Free e = cc
wanted_is id (Posted _) e = cc
wanted_is id (Out _) e = cc
wanted_is id (Waiting _) e = cc
wanted_is id (AskedBy _) e = cc
wanted_is id (Reserved _) e = cc
wanted_is id Crossing e = cc
wanted_is id Refused e = cc
wanted_is id (Ended _) e = cc

-- what a target takes is wanted, once the source looks
pub record IsTaken (id header : ℕ) (stage : SourceStage) : Type 0 where
  pub wanted : is_wanted id (source_looks stage (Wanted header)) ≡ true
  pub off : is_put_off (source_looks stage (Wanted header)) ≡ true → is_put_off stage ≡ true

pub taken_is : (id header : ℕ) (stage : SourceStage) → is_taken id false stage ≡ true → IsTaken id header stage
taken_is id header (Accepted i) e = record { wanted = e; off = λ o. cc }
taken_is id header (Waiting i) e = record { wanted = (and_parts (i == id) true e).0; off = λ o. refl }
taken_is id header (Wished i) e = record { wanted = (and_parts (i == id) true e).0; off = λ o. refl }
taken_is id header Free e = cc
taken_is id header (Posted _) e = cc
taken_is id header (Out _) e = cc
taken_is id header (AskedBy _) e = cc
taken_is id header (Reserved i) e = record { wanted = e; off = λ o. refl }
taken_is id header (Claimed _) e = cc
taken_is id header Crossing e = cc
taken_is id header Refused e = cc
taken_is id header (Ended _) e = cc

pub record Asks (stage : SourceStage) : Type 0 where
  pub id : ℕ
  pub is : stage ≡ AskedBy id

pub asks_for : (stage : SourceStage) → is_asked_by stage ≡ true → Asks stage
asks_for (AskedBy i) e = record { id = i; is = refl }
asks_for Free e = cc
asks_for (Posted _) e = cc
asks_for (Out _) e = cc
asks_for (Waiting _) e = cc
asks_for (Accepted _) e = cc
asks_for (Wished _) e = cc
asks_for (Reserved _) e = cc
asks_for (Claimed _) e = cc
asks_for Crossing e = cc
asks_for Refused e = cc
asks_for (Ended _) e = cc

pub owes_once : (once : Bool) → once && true ≡ true → once ≡ true
owes_once true e = refl
owes_once false e = cc

-- A stage where nobody is busy, once what waited there is forgotten

pub record IsQuiet (before after : SourceStage) : Type 0 where
  pub silent : id_of after ≡ None
  pub not_out : is_out after ≡ false
  pub not_posted : is_posted after ≡ false
  pub not_off : is_put_off after ≡ false
  pub may_owe : (once : Bool) → is_over after ≡ false → may_owe once after ≡ true
  pub over : is_over after ≡ true → (is_refused after ≡ false) → after ≡ before

pub quiet_is : (stage : SourceStage) → is_busy stage ≡ false → IsQuiet stage (forgotten_stage stage)
quiet_is Free e = record { silent = refl; not_out = refl; not_posted = refl; not_off = refl; may_owe = λ once o. refl; over = λ o r. refl }
quiet_is (Waiting _) e = record { silent = refl; not_out = refl; not_posted = refl; not_off = refl; may_owe = λ once o. refl; over = λ o r. cc }
quiet_is Crossing e = record { silent = refl; not_out = refl; not_posted = refl; not_off = refl; may_owe = λ once o. refl; over = λ o r. refl }
quiet_is Refused e = record { silent = refl; not_out = refl; not_posted = refl; not_off = refl; may_owe = λ once o. cc; over = λ o r. refl }
quiet_is (Ended _) e = record { silent = refl; not_out = refl; not_posted = refl; not_off = refl; may_owe = λ once o. cc; over = λ o r. refl }
quiet_is (Posted _) e = cc
quiet_is (Out _) e = cc
quiet_is (Accepted _) e = cc
quiet_is (Wished _) e = cc
quiet_is (AskedBy _) e = cc
quiet_is (Reserved _) e = cc
quiet_is (Claimed _) e = cc
