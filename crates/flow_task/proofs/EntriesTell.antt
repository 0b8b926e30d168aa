-- What an entry tells, and what a call of its input leaves of what it keeps.
use Rattle.std.proofs.Common.{◌≡◌, ℕ, ◌-◌, ◌<◌, ◌≤◌, ltb, cond, Bool, true, false, ◌&&◌, ◌||◌, List, length, Option, Some, None, is_none, refl, sym, ap, ◌∙◌, subst, arith}
use Rattle.std.proofs.Math.Bool.{Bool-set}
use Rattle.std.proofs.Math.Logic.{∥∥₁_elim, ∥∥₁_map, ∥∥₁_prop}
use Rattle.std.proofs.Math.Nat.{ℕ_set}
use Rattle.std.specs.Coded.{codes}
use Rattle.std.proofs.lemmas.Bool.{lt-ltb, ltb-false, ltb-true}
use Rattle.flow_value.specs.declared.value.Value.{Value}
use Rattle.flow_value.specs.contracts.value.Value as content
use Rattle.flow_link.specs.declared.phase.Move.{Move}
use Rattle.flow_link.specs.declared.phase.Move.TheVariants as move
use Rattle.flow_link.specs.declared.stage.SourceStage.{SourceStage}
use Rattle.flow_link.specs.declared.phase.LinkEnd.{LinkEnd}
use Rattle.flow_link.specs.declared.stage.SourceStage.TheVariants.{Accepted, Free, Refused, Wished}
use Rattle.flow_link.specs.declared.trace.Ending.{Ending}
use Rattle.flow_link.specs.declared.trace.Ending.TheVariants as ending
use Rattle.flow_lawful.specs.Quiet.{is_open}
use Rattle.flow_link.specs.Planned.{layout_of}
use Rattle.flow_outlet.specs.End.{is_free}
use Rattle.flow_outlet.specs.Law.{is_refused}
use Rattle.flow_core.specs.Events.{input_after, input_call}
use Rattle.flow_poll.specs.Sends.{SendView}
use Rattle.flow_poll.specs.declared.send.Sent.{Sent}
use Rattle.flow_poll.specs.declared.send.Sent.TheVariants as sent
use Rattle.flow_input.specs.Input.{InputState, InputCall, after_input, end_by, end_move, has_next, input_move, is_of_net, move_from, next_id, next_value}
use Rattle.flow_input.specs.InputKeeps.{InputLaw, MayMoveInput}
use Rattle.flow_input.specs.Sends.{Told, after_told, is_crossing, is_idle, sends_of, settled, takes_more, tells_back, tells_refused, tells_rest, tells_waiting, told_next}
use Rattle.flow_input.proofs.InputLists.{there}
use Rattle.flow_input.proofs.InputsInOrder.{told_within}
use Rattle.flow_input.proofs.OneProof.{idle_merely}
use Rattle.flow_input.proofs.TellsMay.{inputs_tell}
use Rattle.flow_task.specs.Begun.{begun_input}
use Rattle.flow_task.specs.Entries.{EntryLaw, Says, tells_nothing}
use Rattle.flow_task.specs.Numbers.{is_entry_number}
use Rattle.flow_task.specs.declared.board.Board.{Board}
use Rattle.flow_task.specs.declared.input_task.InputTask.{InputTask}
use Rattle.flow_task.specs.declared.numbered.Entry.{Entry}
use Rattle.flow_task.proofs.EntriesKeep.{ended_link, handed_back, offered, refused_back, told_more}
use Rattle.flow_task.proofs.TakenApart.{known_there}

Views-set : IsSet SendView
Views-set = Prim.hlevel (codes, content.the_row.coded)

-- an input that stays open ends its link in no way
pub open_none : (how : Ending) → is_open how ≡ true → end_by how ≡ None
open_none ending.Open e = refl
open_none _ e = absurd (cc)

-- An entry after a call of its input

module _ {W : Type 0} {w : _} {e : _} (entry : Entry W w e) (new : InputTask W w e) (of : new.of.value ≡ entry.input.of.value)
    (link : new.link ≡ entry.input.link) where
  pub numbered_on : is_entry_number (layout_of new.of.value.rest.plan) new.of.value.opens.items new.link entry.number ≡ true
  numbered_on =
      known_there (λ (b : Board W) (l : ℕ). is_entry_number (layout_of b.rest.plan) b.opens.items l entry.number ≡ true)
      entry.input.of.value new.of.value entry.input.link new.link (sym of) (sym link) entry.numbered

  abbrev pub Begun : InputState
  Begun = begun_input entry.input.of.value entry.input.link

  pub law_on : (ready : List Value) (input : InputState) → new.input ≡ input
      → (InputLaw entry.input.input → EntryLaw Begun entry.input.input entry.ready.items → EntryLaw Begun input ready)
      → ∥ EntryLaw (begun_input new.of.value new.link) new.input ready ∥₁
  law_on ready input is keeps =
      known_there (λ (b : Board W) (l : ℕ). ∥ EntryLaw (begun_input b l) new.input ready ∥₁)
      entry.input.of.value new.of.value entry.input.link new.link (sym of) (sym link)
      (subst (λ (i : InputState). ∥ EntryLaw Begun i ready ∥₁) (sym is)
      (∥∥₁_elim entry.input.law ∥∥₁_prop (λ law. ∥∥₁_map entry.law (keeps law))))

-- What happens at its end leaves what its caller sees

pub unseen : (input : InputState) → ∥ InputLaw input ∥₁ → (call : InputCall) → is_of_net call ≡ true → sends_of (after_input call input) ≡ sends_of input
unseen input law call of_net = ∥∥₁_elim law (Views-set _ _) (λ i. inputs_tell.unseen input call i of_net)

-- a move leaves that too, and whether the target refuses
pub record MovesOn (old new : InputState) : Type 0 where
  pub sends : sends_of new ≡ sends_of old
  pub same_ending : new.ending ≡ old.ending
  pub stands : is_refused new.stage ≡ is_refused old.stage

none_refused : (input : InputState) (stage : SourceStage) (next : Move) → move_from input stage ≡ Some next → is_refused stage ≡ false
none_refused input Refused next e = absurd (cc)
none_refused input _ next e = refl

-- What is told

settled_low : (crossing : Bool) (n : ℕ) → cond crossing (n - 1) n ≤ n
settled_low true n = omega arith
settled_low false n = omega arith

-- where nothing is begun, all that was given was told
pub idle_told : (input : InputState) → ∥ InputLaw input ∥₁ → is_idle input ≡ true → input.told ≡ settled input
idle_told input law idle =
    let so = idle_merely input law idle in
    ∥∥₁_elim law (ℕ_set _ _) (λ i.
    let low = settled_low (is_crossing input.stage) input.sent in omega (arith, so.all_told, i.told, low))

-- by what is told
module _ (input : InputState) (Q : Told → Type 0)
    (accepted : input.told < settled input → Q (record { answer = sent.Accepted; call = Some InputCall.tell }))
    (declined : (value : Value) → takes_more input ≡ true → Q (record { answer = sent.Declined value; call = Some InputCall.hand_back }))
    (returned : (value : Value) → takes_more input ≡ false → Q (record { answer = sent.Permanently value; call = Some InputCall.hand_back }))
    (refused : (value : Value) → settled input ≤ input.told → is_refused input.stage ≡ true → next_value input ≡ Some value
    → Q (record { answer = sent.Permanently value; call = Some InputCall.refuse_back }))
    (nothing : settled input ≤ input.told → Q (record { answer = sent.Idle; call = None }))
    (waits : settled input ≤ input.told → is_refused input.stage ≡ false → (is_crossing input.stage || has_next input) ≡ true
    → Q (record { answer = sent.Waiting; call = None })) where
  by_back : (value : Value) (more : Bool) → takes_more input ≡ more → Q (tells_back more value)
  by_back value true is = declined value is
  by_back value false is = returned value is

  by_refused : is_refused input.stage ≡ true → settled input ≤ input.told → (found : Option Value) → next_value input ≡ found
      → Q (tells_refused found)
  by_refused is late (Some value) found = refused value late is found
  by_refused is late None found = nothing late

  by_waiting : is_refused input.stage ≡ false → settled input ≤ input.told → (more : Bool) → (is_crossing input.stage || has_next input) ≡ more
      → Q (tells_waiting more)
  by_waiting is late true more = waits late is more
  by_waiting is late false more = nothing late

  abbrev cased : Bool → Type 0
  cased refusing = Q (cond refusing (tells_refused (next_value input)) (tells_waiting (is_crossing input.stage || has_next input)))

  by_stage : settled input ≤ input.told → (refusing : Bool) → is_refused input.stage ≡ refusing → cased (is_refused input.stage)
  by_stage late true is = subst cased (sym is) (by_refused is late (next_value input) refl)
  by_stage late false is = subst cased (sym is) (by_waiting is late (is_crossing input.stage || has_next input) refl)

  by_rest : settled input ≤ input.told → (back : Option Value) → Q (tells_rest input back)
  by_rest late (Some value) = by_back value (takes_more input) refl
  by_rest late None = by_stage late (is_refused input.stage) refl

  by_due : (due : Bool) → ltb input.told (settled input) ≡ due
      → Q (cond due (record { answer = sent.Accepted; call = Some InputCall.tell }) (tells_rest input input.back))
  by_due true is = accepted (ltb-true input.told (settled input) is)
  by_due false is = by_rest (let late = ltb-false input.told (settled input) is in omega (arith, late)) input.back

  pub told_cases : Q (told_next input)
  told_cases = by_due (ltb input.told (settled input)) refl

-- nothing is told, and all that was given was told before
pub record TellsNothing (input : InputState) (told : Told) : Type 0 where
  pub same : after_told told.call input ≡ input
  pub all : input.told ≡ settled input

pub told_nothing : (input : InputState) → ∥ InputLaw input ∥₁ → tells_nothing (told_next input).answer ≡ true
    → TellsNothing input (told_next input)
told_nothing input law =
    told_cases input (λ told. tells_nothing told.answer ≡ true → TellsNothing input told)
    (λ more e. absurd (cc)) (λ value more e. absurd (cc)) (λ value more e. absurd (cc)) (λ value late is found e. absurd (cc))
    (λ late e. record { same = refl; all = all late })
    (λ late is more e. record { same = refl; all = all late })
  where
    all : settled input ≤ input.told → input.told ≡ settled input
    all late = ∥∥₁_elim law (ℕ_set _ _) (λ i. omega (arith, late, i.told))

-- What an answer says of what comes next

says_prop : (answer : Sent) (input : InputState) → IsProp (Says answer input)
says_prop sent.Idle input = hlevel
says_prop sent.Waiting input = hlevel (Bool-set)
says_prop sent.Accepted input = hlevel
says_prop (sent.Declined value) input = Bool-set _ _
says_prop (sent.Permanently value) input = Bool-set _ _

refused_more : (stage : SourceStage) (how : Bool) → is_refused stage ≡ true → (is_free stage && how) ≡ false
refused_more Refused how e = refl
refused_more _ how e = absurd (cc)

crossing_low : (crossing : Bool) (told sent : ℕ) (more : Bool) → crossing ≡ true → 1 ≤ sent → told ≤ cond crossing (sent - 1) sent → told < sent
crossing_low true told sent more e one low = omega (arith, one, low)
crossing_low false told sent more e one low = absurd (cc)

-- what is under way is not all
under_way : (input : InputState) → InputLaw input → (is_crossing input.stage || has_next input) ≡ true → input.told < length input.posted
under_way input law e = by_crossing (is_crossing input.stage) refl e
  where
    by_crossing : (crossing : Bool) → is_crossing input.stage ≡ crossing → (crossing || has_next input) ≡ true → input.told < length input.posted
    by_crossing true is e =
        let one = law.crossing is in
        let low = crossing_low (is_crossing input.stage) input.told input.sent true is one law.told in
        omega (arith, low, law.within)
    by_crossing false is e =
        let small = ltb-true input.sent (length input.posted) e in
        let low = told_within input law in
        omega (arith, small, low)

is_true_unless : (b : Bool) → (b ≡ false → ⊥) → b ≡ true
is_true_unless true never = refl
is_true_unless false never = absurd (never refl)

pub says_told : (begun input : InputState) (ready : List Value) → ∥ InputLaw input ∥₁ → ∥ EntryLaw begun input ready ∥₁
    → Says (told_next input).answer (after_told (told_next input).call input)
says_told begun input ready law entry =
    ∥∥₁_elim law (says_prop (told_next input).answer (after_told (told_next input).call input)) (λ i.
    ∥∥₁_elim entry (says_prop (told_next input).answer (after_told (told_next input).call input)) (λ kept.
    told_cases input (λ told. Says told.answer (after_told told.call input))
    (λ more. tt) (λ value more. more) (λ value more. more)
    (λ value late is found. refused_more input.stage (is_none (end_by input.ending)) is)
    (λ late. tt)
    (λ late is more. (
      is,
      is_true_unless (is_none (end_by input.ending)) (λ ends.
          let all = kept.ended ends in
          let low = under_way input i more in
          omega (arith, all, low)),
    ))))

-- and it says so still after a move, where nothing was told
pub says_on : (answer : Sent) (old new : InputState) → tells_nothing answer ≡ true → Says answer old → MovesOn old new → Says answer new
says_on sent.Idle old new e says on = tt
says_on sent.Waiting old new e says on =
    (on.stands ∙ says.0, ap (λ (how : Ending). is_none (end_by how)) on.same_ending ∙ says.1)
says_on sent.Accepted old new e says on = tt
says_on (sent.Declined value) old new e says on = absurd (cc)
says_on (sent.Permanently value) old new e says on = absurd (cc)

-- What an entry keeps of what is told, and of a move

refused_settled : (stage : SourceStage) → is_refused stage ≡ true → is_crossing stage ≡ false
refused_settled Refused e = refl
refused_settled _ e = absurd (cc)

pub all_given : (input : InputState) → is_crossing input.stage ≡ false → settled input ≡ input.sent
all_given input none = ap (λ (crosses : Bool). cond crosses (input.sent - 1) input.sent) none

module _ (begun input : InputState) (ready : List Value) (law : InputLaw input) (entry : EntryLaw begun input ready) where
  pub entry_told : EntryLaw begun (after_told (told_next input).call input) ready
  entry_told =
      told_cases input (λ told. EntryLaw begun (after_told told.call input) ready)
      (λ more. told_more begun input ready entry law more)
      (λ value more. handed_back begun input ready entry)
      (λ value more. handed_back begun input ready entry)
      (λ value late is found. refused_back begun input ready entry law (record {
        refused = is;
        all_told = told_all late is;
        there = lt-ltb input.sent (length input.posted) (there input.posted input.sent value found);
      }))
      (λ late. entry)
      (λ late is more. entry)
    where
      told_all : settled input ≤ input.told → is_refused input.stage ≡ true → input.told ≡ input.sent
      told_all late is =
          let all = all_given input (refused_settled input.stage is) in
          let low = told_within input law in
          omega (arith, late, all, low)

  pub entry_moved : (next : Move) → MayMoveInput input next → (next ≡ move.Give → ⊥)
      → EntryLaw begun (input_after (input_call next) input) ready
  entry_moved (move.Offer i) may other = offered begun input ready entry may.1
  entry_moved move.Give may other = absurd (other refl)
  entry_moved (move.End how) may other = ended_link begun input ready entry how may
  entry_moved _ may other = absurd may

-- a value that is wanted is given when all before it were told
pub record GivesNext (input : InputState) : Type 0 where
  pub stands : is_refused input.stage ≡ false
  pub all : settled input ≡ input.sent

gives_by : (input : InputState) (stage : SourceStage) → move_from input stage ≡ Some move.Give
    → (is_refused stage ≡ false) × (is_crossing stage ≡ false)
gives_by input (Accepted i) e = (refl, refl)
gives_by input (Wished i) e = (refl, refl)
gives_by input Free e = absurd (no_give (has_next input) (end_by input.ending) e)
  where
    no_give : (more : Bool) (how : Option LinkEnd) → cond more (Some (move.Offer (next_id input))) (end_move how) ≡ Some move.Give → ⊥
    no_give true how e = cc
    no_give false (Some how) e = cc
    no_give false None e = cc
gives_by input _ e = absurd (cc)

pub gives_next : (input : InputState) → input_move input ≡ Some move.Give → GivesNext input
gives_next input peek =
    let so = gives_by input input.stage peek in
    record { stands = so.0; all = all_given input so.1 }

pub stands_so : (input : InputState) (next : Move) → input_move input ≡ Some next → is_refused input.stage ≡ false
stands_so input next peek = none_refused input input.stage next peek

-- and how it is to end
pub ending_told : (input : InputState) → (after_told (told_next input).call input).ending ≡ input.ending
ending_told input =
    told_cases input (λ told. (after_told told.call input).ending ≡ input.ending)
    (λ more. refl) (λ value more. refl) (λ value more. refl) (λ value late is found. refl) (λ late. refl) (λ late is more. refl)
