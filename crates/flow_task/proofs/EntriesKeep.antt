-- Each call at an entry leaves what the entry keeps.
use Rattle.std.proofs.Common.{◌≡◌, ℕ, zero, suc, ◌+◌, ◌-◌, ◌<◌, ◌≤◌, cond, Bool, true, false, List, [], ◌∷◌, ◌++◌, length, take, drop, None, is_none, is_some, refl, ap, sym, ◌∙◌, subst, arith}
use Rattle.std.proofs.lemmas.Bool.{and_parts, ltb-true}
use Rattle.std.proofs.lemmas.List.{drop_all, length-append, length-take-le, take-append-le}
use Rattle.flow_value.specs.declared.value.Value.{Value}
use Rattle.flow_link.specs.declared.phase.LinkEnd.{LinkEnd}
use Rattle.flow_link.specs.declared.phase.Phase.{Phase}
use Rattle.flow_link.specs.declared.stage.SourceStage.{SourceStage}
use Rattle.flow_link.specs.declared.stage.SourceStage.TheVariants.{Free, Posted, Refused}
use Rattle.flow_link.specs.declared.trace.Ending.{Ending}
use Rattle.flow_link.specs.declared.trace.Ending.TheVariants.{Open}
use Rattle.flow_link.specs.Stage.{source_looks}
use Rattle.flow_link.specs.Lists.{is_front}
use Rattle.flow_link.proofs.ListTests.{front_refl}
use Rattle.flow_outlet.specs.End.{is_free}
use Rattle.flow_outlet.specs.Law.{is_posted, is_refused}
use Rattle.flow_input.specs.Input.{InputState, InputCall, after_input, end_by, has_next, is_turned_down, stands_at, takes_back}
use Rattle.flow_input.specs.InputKeeps.{InputLaw, MayBegin, MayEndLink, MayFinish, MayOfferNext, MayRefuse, is_at_home}
use Rattle.flow_input.specs.Sends.{is_crossing, settled, takes_more}
use Rattle.flow_input.proofs.InputLists.{front_taken, front_through, none_is, not_so, take_less}
use Rattle.flow_input.proofs.InputLooks.{down_posted, look_finds}
use Rattle.flow_input.proofs.InputsInOrder.{told_within}
use Rattle.flow_moves.proofs.MovesPrepared.{next_is_there}
use Rattle.flow_task.specs.Entries.{EntryLaw, took_at, with_parcel}
use Rattle.flow_task.specs.Inputs.{is_open_ending, stays_open}
use Rattle.flow_task.proofs.TakenApart.{first_here}

-- what refuses goes on refusing, and what is posted is not refused
refused_home : (stage : SourceStage) → is_refused stage ≡ true → is_at_home stage ≡ true
refused_home Refused e = refl
refused_home _ e = absurd (cc)

refused_before : (stage : SourceStage) (phase : Phase) → is_refused (source_looks stage phase) ≡ false → is_refused stage ≡ false
refused_before stage phase e =
    not_so (is_refused stage) (λ r.
    let same = ap is_refused ((look_finds stage phase).home (refused_home stage r)) in
    let both = sym e ∙ same ∙ r in
    absurd (cc))

posted_stands : (stage : SourceStage) → is_posted stage ≡ true → is_refused stage ≡ false
posted_stands (Posted i) e = refl
posted_stands _ e = absurd (cc)

pub free_stands : (stage : SourceStage) → is_free stage ≡ true → is_refused stage ≡ false
free_stands Free e = refl
free_stands _ e = absurd (cc)

-- where a value may go, the input is free, and is not to end
pub record MayTake (input : InputState) : Type 0 where
  pub free : is_refused input.stage ≡ false
  pub stays_open : end_by input.ending ≡ None

pub may_take : (input : InputState) → takes_more input ≡ true → MayTake input
may_take input so =
    let both = and_parts (is_free input.stage) (is_none (end_by input.ending)) so in
    record { free = free_stands input.stage both.0; stays_open = none_is (end_by input.ending) both.1 }

-- nothing is left behind a place
pub none_left : (n : ℕ) (values : List Value) → drop n values ≡ [] → length values ≤ n
none_left n [] e = omega arith
none_left zero (v ∷ vs) e = absurd (cc)
none_left (suc n) (v ∷ vs) e = let less = none_left n vs e in omega (arith, less)

never_ended : {A : Type 0} (input : InputState) → end_by input.ending ≡ None → is_none (end_by input.ending) ≡ false → A
never_ended input none some = absurd (let both = sym some ∙ ap is_none none in cc)

settled_low : (crossing : Bool) (n : ℕ) → cond crossing (n - 1) n ≤ n
settled_low true n = omega arith
settled_low false n = omega arith

module _ (begun input : InputState) (ready : List Value) (entry : EntryLaw begun input ready) where
  -- its end looks
  looked_by : InputLaw input → (phase : Phase) (down : Bool) → is_turned_down input.stage phase ≡ down
      → EntryLaw begun (cond down (takes_back input) (stands_at (source_looks input.stage phase) input)) ready
  looked_by law phase true is =
      let posted = down_posted input.stage phase is in
      let alone = law.posts posted in
      let long = length-take-le input.sent input.posted law.within in
      let low = told_within input law in
      record {
        first = λ home next. absurd
            (let small = ltb-true input.sent (length (take input.sent input.posted)) next in omega (arith, small, long));
        rest = λ home. entry.rest (posted_stands input.stage posted)
            ∙ drop_all (input.sent + 1) input.posted (omega (arith, alone.last))
            ∙ sym (drop_all (input.sent + 1) (take input.sent input.posted) (omega (arith, long)));
        goes_on = subst (λ (told : List Value). is_front (took_at begun) told ≡ true)
            (sym (take_less input.posted input.told input.sent low)) entry.goes_on;
        one_more = entry.one_more;
        ended = λ how. never_ended input alone.stays_open how;
      }
  looked_by law phase false is = record {
    first = λ home. entry.first (refused_before input.stage phase home);
    rest = λ home. entry.rest (refused_before input.stage phase home);
    goes_on = entry.goes_on;
    one_more = entry.one_more;
    ended = entry.ended;
  }

  pub looked : (phase : Phase) → InputLaw input → EntryLaw begun (after_input (InputCall.look phase) input) ready
  looked phase law = looked_by law phase (is_turned_down input.stage phase) refl

  -- it offers the next value, gives it, or ends
  pub offered : MayOfferNext input → EntryLaw begun (after_input InputCall.offer input) ready
  offered may = record {
    first = λ home next. next_is_there input.sent input.posted next;
    rest = λ home. entry.rest (free_stands input.stage may.is_at_home);
    goes_on = entry.goes_on;
    one_more = entry.one_more;
    ended = entry.ended;
  }

  pub gave_next : (parcel : Value) (others : List Value) → is_refused input.stage ≡ false → input.told ≡ input.sent → ready ≡ parcel ∷ others
      → EntryLaw begun (with_parcel (after_input InputCall.give input)) others
  gave_next parcel others stands told is = record {
    first = λ home next. next_is_there (input.sent + 1) input.posted next;
    rest = λ home. first_here input.posted others (input.sent + 1) parcel (sym is ∙ entry.rest stands);
    goes_on = entry.goes_on;
    one_more = omega (arith, told);
    ended = entry.ended;
  }

  pub gave_last : is_refused input.stage ≡ false → input.told ≡ input.sent → ready ≡ [] → EntryLaw begun (after_input InputCall.give input) ready
  gave_last stands told is =
      let none : drop (input.sent + 1) input.posted ≡ [] = sym (entry.rest stands) ∙ is in
      let short = none_left (input.sent + 1) input.posted none in
      record {
        first = λ home next. absurd (let small = ltb-true (input.sent + 1) (length input.posted) next in omega (arith, small, short));
        rest = λ home. is ∙ sym (drop_all (input.sent + 1 + 1) input.posted (omega (arith, short)));
        goes_on = entry.goes_on;
        one_more = omega (arith, told);
        ended = entry.ended;
      }

  pub ended_link : (how : LinkEnd) → MayEndLink how input → EntryLaw begun (after_input (InputCall.end_link how) input) ready
  ended_link how may = record {
    first = λ home next. absurd (let both = sym next ∙ may.all in cc);
    rest = λ home. entry.rest (free_stands input.stage may.is_at_home);
    goes_on = entry.goes_on;
    one_more = entry.one_more;
    ended = entry.ended;
  }

  -- its caller is told what became of a value
  pub told_more : InputLaw input → input.told < settled input → EntryLaw begun (after_input InputCall.tell input) ready
  told_more law more =
      let low = told_within input law in
      let next = take (input.told + 1) input.posted in
      let front = subst (λ (told : List Value). is_front told next ≡ true) (take_less input.posted input.told (input.told + 1) (omega arith))
      (front_taken next input.told) in
      let within = settled_low (is_crossing input.stage) input.sent in
      record {
        first = entry.first;
        rest = entry.rest;
        goes_on = front_through (took_at begun) (take input.told input.posted) next entry.goes_on front;
        one_more = let one = entry.one_more in omega (arith, one);
        ended = λ how. absurd (let all = entry.ended how in omega (arith, all, more, within, law.within));
      }

  pub handed_back : EntryLaw begun (after_input InputCall.hand_back input) ready
  handed_back = record { first = entry.first; rest = entry.rest; goes_on = entry.goes_on; one_more = entry.one_more; ended = entry.ended }

  pub refused_back : InputLaw input → MayRefuse input → EntryLaw begun (after_input InputCall.refuse_back input) ready
  refused_back law may =
      let long = length-take-le input.sent input.posted law.within in
      let small = ltb-true input.sent (length input.posted) may.there in
      let front = take input.sent input.posted in
      let same : take input.told (front ++ drop (input.sent + 1) input.posted) ≡ take input.told input.posted =
      take-append-le input.told front (drop (input.sent + 1) input.posted) (omega (arith, long, may.all_told))
      ∙ take_less input.posted input.told input.sent (omega (arith, may.all_told)) in
      record {
        first = λ home. absurd (let both = sym home ∙ may.refused in cc);
        rest = λ home. absurd (let both = sym home ∙ may.refused in cc);
        goes_on = subst (λ (told : List Value). is_front (took_at begun) told ≡ true) (sym same) entry.goes_on;
        one_more = entry.one_more;
        ended = λ how. absurd (let all = entry.ended how in omega (arith, all, may.all_told, small));
      }

  -- its caller begins a value, or says that none comes any more
  module _ (value : Value) (may : MayBegin true input) where
    behind : drop (input.sent + 1) (input.posted ++ value ∷ []) ≡ ready
    behind =
        let long = length-append input.posted (value ∷ []) in
        drop_all (input.sent + 1) (input.posted ++ value ∷ []) (omega (arith, long, may.idle.all))
        ∙ sym (drop_all (input.sent + 1) input.posted (omega (arith, may.idle.all)))
        ∙ sym (entry.rest (may_take input may.so).free)

    same_told : take input.told (input.posted ++ value ∷ []) ≡ take input.told input.posted
    same_told = take-append-le input.told input.posted (value ∷ []) (omega (arith, may.idle.all, may.idle.all_told))

    goes_on_so : is_front (took_at begun) (take input.told (input.posted ++ value ∷ [])) ≡ true
    goes_on_so = subst (λ (told : List Value). is_front (took_at begun) told ≡ true) (sym same_told) entry.goes_on

    pub posted_so : EntryLaw begun (after_input (InputCall.post value) input) ready
    posted_so = record {
      first = λ home next. refl;
      rest = λ home. sym behind;
      goes_on = goes_on_so;
      one_more = entry.one_more;
      ended = λ how. never_ended input (may_take input may.so).stays_open how;
    }

    pub begun_so : EntryLaw begun (with_parcel (after_input (InputCall.begin value) input)) ready
    begun_so = record {
      first = λ home next. next_is_there input.sent (input.posted ++ value ∷ []) next;
      rest = λ home. sym behind;
      goes_on = goes_on_so;
      one_more = entry.one_more;
      ended = λ how. never_ended input (may_take input may.so).stays_open how;
    }

  pub sent_back : (value : Value) (at_once : Bool) → EntryLaw begun (after_input (InputCall.send_back value at_once) input) ready
  sent_back value at_once =
      record { first = entry.first; rest = entry.rest; goes_on = entry.goes_on; one_more = entry.one_more; ended = entry.ended }

  pub finished : (how : Ending) → MayFinish how input → EntryLaw begun (after_input (InputCall.finish how) input) ready
  finished how may = record {
    first = entry.first;
    rest = entry.rest;
    goes_on = entry.goes_on;
    one_more = entry.one_more;
    ended = λ some. may.idle.all_told ∙ sym may.idle.all;
  }

-- When it is made

open_never : {A : Type 0} (how : Ending) → is_open_ending how ≡ true → is_none (end_by how) ≡ false → A
open_never Open e some = absurd (cc)
open_never _ e some = absurd (cc)

settled_near : (crossing : Bool) (n : ℕ) → n ≤ cond crossing (n - 1) n + 1
settled_near true n = omega arith
settled_near false n = omega arith

module _ (input : InputState) (open_so : stays_open input ≡ true) where
  abbrev pub passed : InputState
  passed = record input { told = settled input }

  pub made_so : (new : InputState) (ready : List Value) → with_parcel new ≡ with_parcel passed
      → (has_next new ≡ true → is_some new.parcel ≡ true) → ready ≡ drop (input.sent + 1) input.posted → EntryLaw input new ready
  made_so new ready same first rest = record {
    first = λ home. first;
    rest = λ home. rest ∙ sym (ap (λ (state : InputState). drop (state.sent + 1) state.posted) same);
    goes_on = subst (λ (told : List Value). is_front (took_at input) told ≡ true)
        (sym (ap (λ (state : InputState). take state.told state.posted) same)) (front_refl (took_at input));
    one_more = subst (λ (state : InputState). state.sent ≤ state.told + 1) (sym same) (settled_near (is_crossing input.stage) input.sent);
    ended = λ some. open_never new.ending (ap stays_open same ∙ open_so) some;
  }
