-- Each call keeps an input in order.
use Rattle.std.proofs.Common.{◌≡◌, ◌+◌, ◌-◌, ◌<◌, ◌≤◌, cond, Bool, true, false, ◌&&◌, List, [], ◌∷◌, ◌++◌, length, take, drop, Some, None, is_none, refl, ap, sym, ◌∙◌, subst, arith}
use Rattle.std.proofs.lemmas.Bool.{ltb-true, ltb-false, lt-ltb, and_parts}
use Rattle.std.proofs.lemmas.List.{length-take-le, length-append, length-drop, drop_at}
use Rattle.flow_value.specs.declared.value.Value.{Value}
use Rattle.flow_link.specs.declared.phase.LinkEnd.{LinkEnd}
use Rattle.flow_link.specs.declared.phase.Phase.{Phase}
use Rattle.flow_link.specs.declared.stage.SourceStage.{SourceStage}
use Rattle.flow_link.specs.declared.trace.Ending.{Ending}
use Rattle.flow_link.specs.Stage.{source_looks}
use Rattle.flow_intake.specs.Calls.{first_of}
use Rattle.flow_outlet.specs.End.{id_of, is_free}
use Rattle.flow_outlet.proofs.LookTells.{look_tells}
use Rattle.flow_link.proofs.StagesKept.{none_kept_by_looks}
use Rattle.flow_input.specs.Input.{InputState, InputCall, after_input, end_by, has_next, is_turned_down, is_wanted, next_id, stands_at, takes_back, without_next}
use Rattle.flow_input.specs.InputKeeps.{InputLaw, IsIdle, MayCallInput, is_at_home}
use Rattle.flow_input.specs.Sends.{is_crossing, settled, takes_more}
use Rattle.flow_input.proofs.InputLists.{none_is, none_there, not_so}
use Rattle.flow_input.proofs.InputLooks.{at_once_still, down_posted, free_waits, home_where, look_finds, refused_open, refused_posted, refused_silent, settled_then, settled_within, silent_where, wanted_id}

-- where a value may go, the input is free, and is not to end
record MayTake (input : InputState) : Type 0 where
  free : is_free input.stage ≡ true
  stays_open : end_by input.ending ≡ None

may_take : (input : InputState) → takes_more input ≡ true → MayTake input
may_take input so =
    let both = and_parts (is_free input.stage) (is_none (end_by input.ending)) so in
    record { free = both.0; stays_open = none_is (end_by input.ending) both.1 }

module _ (input : InputState) (law : InputLaw input) where
  pub told_within : input.told ≤ input.sent
  told_within = let within = settled_within (is_crossing input.stage) input.sent in omega (arith, law.told, within)

  length_taken : length (take input.sent input.posted) ≡ input.sent
  length_taken = length-take-le input.sent input.posted law.within

  -- a value waits to be given where one is wanted
  pub wanted_next : is_wanted input.stage ≡ true → input.sent < length input.posted
  wanted_next wanted =
      let id = wanted_id input.stage wanted in
      ltb-true input.sent (length input.posted) (law.speaks id.0 id.1).1

  -- where nothing is begun, nothing comes next
  module _ (idle : IsIdle input) where
    none_next : has_next input ≡ true → ⊥
    none_next e = let small = ltb-true input.sent (length input.posted) e in omega (arith, small, idle.all)

    idle_home : is_at_home input.stage ≡ true
    idle_home = home_where input.stage
        (silent_where (id_of input.stage) (λ i e. none_next (law.speaks i e).1))
        (not_so (is_crossing input.stage) crosses)
      where
        crosses : is_crossing input.stage ≡ true → ⊥
        crosses e =
            let one = law.crossing e in
            let low = subst (λ (c : Bool). input.told ≤ cond c (input.sent - 1) input.sent) e law.told in
            omega (arith, one, low, idle.all_told)

  look_keeps : (phase : Phase) (down : Bool) → is_turned_down input.stage phase ≡ down
      → InputLaw (cond down (takes_back input) (stands_at (source_looks input.stage phase) input))
  look_keeps phase true is =
      let alone = law.posts (down_posted input.stage phase is) in
      record {
        within = omega (arith, length_taken);
        speaks = λ i e. absurd (cc);
        posts = λ e. absurd (cc);
        none_kept = refl;
        by_number = law.by_number;
        ended = λ how e. absurd (cc);
        told = told_within;
        crossing = λ e. absurd (cc);
        back = λ e. record { all = length_taken; all_told = alone.all_told; home = refl; turned_down = λ t. alone.at_once };
        directly = λ a n. absurd
            (let small = ltb-true input.sent (length (take input.sent input.posted)) n in omega (arith, small, length_taken));
      }
  look_keeps phase false is =
      let tells = look_tells input.stage phase in
      let finds = look_finds input.stage phase in
      record {
        within = law.within;
        speaks = λ i e. law.speaks i (tells.same_id i e);
        posts = λ e. let alone = law.posts (finds.posted e) in
            record {
              last = alone.last;
              all_told = alone.all_told;
              none_back = alone.none_back;
              at_once = alone.at_once;
              stays_open = alone.stays_open;
            };
        none_kept = none_kept_by_looks input.stage phase law.none_kept;
        by_number = law.by_number;
        ended = λ how e. law.ended how (tells.ended how e);
        told = settled_then (is_crossing input.stage) (is_crossing (source_looks input.stage phase)) input.told input.sent finds.crossing law.told;
        crossing = λ e. law.crossing (finds.crossing e);
        back = λ e.
            let low = law.back e in
            let same = finds.home low.home in
            record {
              all = low.all;
              all_told = low.all_told;
              home = ap is_at_home same ∙ low.home;
              turned_down = λ t.
                  let P : SourceStage → Type 0 = λ stage. is_free stage && is_none (end_by input.ending) ≡ true in
                  low.turned_down (subst P same t);
            };
        directly = λ a n. let direct = law.directly a n in
            record { stands = at_once_still input.stage phase is direct.stands; last = direct.last };
      }

  give_keeps : is_wanted input.stage ≡ true → InputLaw (after_input InputCall.give input)
  give_keeps may =
      let small = wanted_next may in
      let low = told_within in
      record {
        within = omega (arith, small);
        speaks = λ i e. absurd (cc);
        posts = λ e. absurd (cc);
        none_kept = refl;
        by_number = law.by_number;
        ended = λ how e. absurd (cc);
        told = omega (arith, low);
        crossing = λ e. omega arith;
        back = λ e. absurd (let back = law.back e in omega (arith, back.all, small));
        directly = λ a n. absurd
            (let last = (law.directly a (lt-ltb input.sent (length input.posted) small)).last in
            let more = ltb-true (input.sent + 1) (length input.posted) n in
            omega (arith, last, more));
      }

  -- a value is put at the end, where nothing was begun
  module _ (value : Value) (idle : IsIdle input) where
    abbrev Longer : List Value
    Longer = input.posted ++ value ∷ []

    longer : length Longer ≡ input.sent + 1
    longer = let all = length-append input.posted (value ∷ []) in omega (arith, all, idle.all)

    post_keeps : end_by input.ending ≡ None → InputLaw (after_input (InputCall.post value) input)
    post_keeps stays_open = record {
      within = omega (arith, longer);
      speaks = λ i e.
          let same : i ≡ next_id input = cc in
          let next : drop input.sent Longer ≡ value ∷ [] = drop_at input.posted (value ∷ []) input.sent idle.all in
          (same, lt-ltb input.sent (length Longer) (omega (arith, longer)), sym (ap first_of next));
      posts = λ e.
          record { last = longer; all_told = idle.all_told; none_back = idle.none_back; at_once = refl; stays_open = stays_open };
      none_kept = refl;
      by_number = law.by_number;
      ended = λ how e. absurd (cc);
      told = told_within;
      crossing = λ e. absurd (cc);
      back = λ e. absurd (none_there input.back idle.none_back e);
      directly = λ a n. record { stands = refl; last = longer };
    }

    begin_keeps : end_by input.ending ≡ None → InputLaw (after_input (InputCall.begin value) input)
    begin_keeps stays_open = record {
      within = omega (arith, longer);
      speaks = λ i e. absurd (none_next idle (law.speaks i e).1);
      posts = λ e. absurd (let alone = law.posts e in omega (arith, alone.last, idle.all));
      none_kept = law.none_kept;
      by_number = law.by_number;
      ended = λ how e. absurd (let both = sym stays_open ∙ (law.ended how e).0 in cc);
      told = law.told;
      crossing = law.crossing;
      back = λ e. absurd (none_there input.back idle.none_back e);
      directly = λ a n. absurd (cc);
    }

    back_keeps : (at_once : Bool) → takes_more input ≡ false → InputLaw (after_input (InputCall.send_back value at_once) input)
    back_keeps at_once none = record {
      within = law.within;
      speaks = law.speaks;
      posts = λ e. absurd (let alone = law.posts e in omega (arith, alone.last, idle.all));
      none_kept = law.none_kept;
      by_number = law.by_number;
      ended = law.ended;
      told = law.told;
      crossing = law.crossing;
      back = λ e. record {
        all = idle.all;
        all_told = idle.all_told;
        home = idle_home idle;
        turned_down = λ t. absurd (let both = sym none ∙ t in cc);
      };
      directly = λ a n. absurd (none_next idle n);
    }

  finish_keeps : (how : Ending) → MayCallInput (InputCall.finish how) input → InputLaw (after_input (InputCall.finish how) input)
  finish_keeps how may =
      let idle = may.idle in
      record {
        within = law.within;
        speaks = law.speaks;
        posts = λ e. absurd (let alone = law.posts e in omega (arith, alone.last, idle.all));
        none_kept = law.none_kept;
        by_number = may.numbered;
        ended = λ other e. absurd (let both = sym may.stays_open ∙ (law.ended other e).0 in cc);
        told = law.told;
        crossing = law.crossing;
        back = λ e. absurd (none_there input.back idle.none_back e);
        directly = λ a n. absurd (none_next idle n);
      }

  refuse_keeps : MayCallInput InputCall.refuse_back input → InputLaw (after_input InputCall.refuse_back input)
  refuse_keeps may =
      let all = length-append (take input.sent input.posted) (drop (input.sent + 1) input.posted) in
      let left = length-drop (input.sent + 1) input.posted in
      let small = ltb-true input.sent (length input.posted) may.there in
      record {
        within = omega (arith, all, length_taken);
        speaks = λ i e. absurd (refused_silent input.stage i may.refused e);
        posts = λ e. absurd (refused_posted input.stage may.refused e);
        none_kept = law.none_kept;
        by_number = law.by_number;
        ended = λ how e. absurd (refused_open input.stage how may.refused e);
        told = law.told;
        crossing = law.crossing;
        back = λ e. absurd (let back = law.back e in omega (arith, back.all, small));
        directly = λ a n. absurd
            (let last = (law.directly a may.there).last in
            let more = ltb-true input.sent (length (without_next input)) n in
            omega (arith, last, more, all, left, length_taken));
      }

  tell_keeps : input.told < settled input → InputLaw (after_input InputCall.tell input)
  tell_keeps may =
      let within = settled_within (is_crossing input.stage) input.sent in
      record {
        within = law.within;
        speaks = law.speaks;
        posts = λ e. absurd (let alone = law.posts e in omega (arith, alone.all_told, may, within));
        none_kept = law.none_kept;
        by_number = law.by_number;
        ended = law.ended;
        told = omega (arith, may);
        crossing = law.crossing;
        back = λ e. absurd (let back = law.back e in omega (arith, back.all_told, may, within));
        directly = λ a n. let direct = law.directly a n in record { stands = direct.stands; last = direct.last };
      }

  hand_keeps : InputLaw (after_input InputCall.hand_back input)
  hand_keeps = record {
    within = law.within;
    speaks = law.speaks;
    posts = λ e. let alone = law.posts e in
        record {
          last = alone.last;
          all_told = alone.all_told;
          none_back = refl;
          at_once = alone.at_once;
          stays_open = alone.stays_open;
        };
    none_kept = law.none_kept;
    by_number = law.by_number;
    ended = law.ended;
    told = law.told;
    crossing = law.crossing;
    back = λ e. absurd (cc);
    directly = λ a n. let direct = law.directly a n in record { stands = direct.stands; last = direct.last };
  }

  pub call_keeps : (call : InputCall) → MayCallInput call input → InputLaw (after_input call input)
  call_keeps InputCall.offer may = record {
    within = law.within;
    speaks = λ i e. let same : i ≡ next_id input = cc in (same, may.there, refl);
    posts = λ e. absurd (cc);
    none_kept = refl;
    by_number = law.by_number;
    ended = λ how e. absurd (cc);
    told = told_within;
    crossing = λ e. absurd (cc);
    back = λ e. absurd (let small = ltb-true input.sent (length input.posted) may.there in
        let back = law.back e in omega (arith, back.all, small));
    directly = λ a n. absurd (free_waits input.stage may.is_at_home (law.directly a may.there).stands);
  }
  call_keeps InputCall.give may = give_keeps may
  call_keeps (InputCall.end_link how) may = record {
    within = law.within;
    speaks = λ i e. absurd (cc);
    posts = λ e. absurd (cc);
    none_kept = refl;
    by_number = law.by_number;
    ended = λ other e.
        let same : how ≡ other = cc in
        let all = ltb-false input.sent (length input.posted) may.all in
        let within = law.within in
        (may.as_told ∙ ap (λ (end : LinkEnd). Some end) same, omega (arith, all, within));
    told = told_within;
    crossing = λ e. absurd (cc);
    back = λ e. let back = law.back e in
        record { all = back.all; all_told = back.all_told; home = refl; turned_down = λ t. absurd (cc) };
    directly = λ a n. absurd (let both = sym n ∙ may.all in cc);
  }
  call_keeps (InputCall.look phase) may = look_keeps phase (is_turned_down input.stage phase) refl
  call_keeps (InputCall.post value) may = post_keeps value may.idle (may_take input may.so).stays_open
  call_keeps (InputCall.begin value) may = begin_keeps value may.idle (may_take input may.so).stays_open
  call_keeps (InputCall.send_back value at_once) may = back_keeps value may.idle at_once may.so
  call_keeps InputCall.tell may = tell_keeps may
  call_keeps InputCall.hand_back may = hand_keeps
  call_keeps InputCall.refuse_back may = refuse_keeps may
  call_keeps (InputCall.finish how) may = finish_keeps how may
