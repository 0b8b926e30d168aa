-- Each call keeps an exit in order.
use Rattle.std.proofs.Common.{◌≡◌, Bool, true, false, Option, Some, None, is_none, refl, sym, ◌∙◌, subst}
use Rattle.std.proofs.lemmas.Bool.{and_parts}
use Rattle.flow_value.specs.declared.value.Value.{Value}
use Rattle.flow_link.specs.declared.phase.Move.{Move}
use Rattle.flow_link.specs.declared.phase.Move.TheVariants as move
use Rattle.flow_link.specs.declared.stage.TargetStage.{TargetStage}
use Rattle.flow_link.specs.declared.stage.TargetStage.TheVariants as target
use Rattle.flow_exit.specs.Exit.{ExitState, ExitCall, exit_move, exit_move_at, after_exit, wants_one}
use Rattle.flow_intake.specs.Calls.{is_offered, is_posted, is_postponed, is_arrived}
use Rattle.flow_intake.specs.Port.{is_offer, is_hand}
use Rattle.flow_exit.specs.ExitKeeps.{ExitLaw, MayCallExit, MayMoveExit, comes}
use Rattle.flow_exit.proofs.ExitLooks.{looks_plain}

-- nothing is in hand where a message is offered, posted, postponed or arrived
off_hand_want : (stage : TargetStage) → is_offer stage ≡ true → is_hand stage ≡ false
off_hand_want (target.Offered i) e = refl
off_hand_want (target.Posted i) e = refl
off_hand_want _ e = absurd (cc)

off_hand_posted : (stage : TargetStage) → is_posted stage ≡ true → is_hand stage ≡ false
off_hand_posted (target.Posted i) e = refl
off_hand_posted _ e = absurd (cc)

off_hand_offered : (stage : TargetStage) → is_offered stage ≡ true → is_hand stage ≡ false
off_hand_offered (target.Offered i) e = refl
off_hand_offered _ e = absurd (cc)

off_hand_postponed : (stage : TargetStage) → is_postponed stage ≡ true → is_hand stage ≡ false
off_hand_postponed (target.Postponed i) e = refl
off_hand_postponed _ e = absurd (cc)

arrived_comes : (stage : TargetStage) → is_arrived stage ≡ true → comes stage ≡ true
arrived_comes (target.Arrived i) e = refl
arrived_comes _ e = absurd (cc)

pub call_keeps : (exit : ExitState) (call : ExitCall) → ExitLaw exit → MayCallExit call exit → ExitLaw (after_exit call exit)
call_keeps exit ExitCall.want law may = record {
  plain = refl;
  in_hand = law.in_hand ∙ off_hand_want exit.stage may.there;
  one = λ e. may.none_kept;
}
call_keeps exit ExitCall.turn_down law may = record {
  plain = refl;
  in_hand = law.in_hand ∙ off_hand_posted exit.stage may;
  one = λ e. absurd (cc);
}
call_keeps exit ExitCall.postpone law may = record {
  plain = refl;
  in_hand = law.in_hand ∙ off_hand_offered exit.stage may;
  one = λ e. absurd (cc);
}
call_keeps exit ExitCall.consume law may = record {
  plain = refl;
  in_hand = law.in_hand ∙ off_hand_postponed exit.stage may.there;
  one = λ e. may.none_kept;
}
call_keeps exit (ExitCall.open_with value) law may = record {
  plain = refl;
  in_hand = refl;
  one = λ e. law.one (arrived_comes exit.stage may);
}
call_keeps exit ExitCall.close law may = record {
  plain = refl;
  in_hand = refl;
  one = λ e. absurd (cc);
}
call_keeps exit (ExitCall.look phase) law may =
    let looked = looks_plain exit.stage phase law.plain in
    record {
      plain = looked.plain;
      in_hand = law.in_hand ∙ sym looked.in_hand;
      one = λ e. law.one (looked.comes_before e);
    }
call_keeps exit (ExitCall.ask waits) law may = record { plain = law.plain; in_hand = law.in_hand; one = law.one }
call_keeps exit ExitCall.receive law may = record { plain = law.plain; in_hand = law.in_hand; one = λ e. refl }

none_there : (kept : Option Value) → is_none kept ≡ true → kept ≡ None
none_there None e = refl
none_there (Some value) e = absurd (cc)

-- what it would do next is a call that it may make
module _ (exit : ExitState) where
  abbrev MayNext : TargetStage → Move → Type 0
  MayNext stage next = MayMoveExit (record exit { stage = stage }) next

  may_next : (wants : Bool) → (wants ≡ true → exit.kept ≡ None) → (stage : TargetStage) (next : Move)
      → exit_move_at wants stage ≡ Some next → MayNext stage next
  may_next true none (target.Offered i) next e =
      let same : move.Want ≡ next = cc in subst (MayNext (target.Offered i)) same (record { there = refl; none_kept = none refl })
  may_next false none (target.Offered i) next e =
      let same : move.Postpone ≡ next = cc in subst (MayNext (target.Offered i)) same refl
  may_next true none (target.Posted i) next e =
      let same : move.Want ≡ next = cc in subst (MayNext (target.Posted i)) same (record { there = refl; none_kept = none refl })
  may_next false none (target.Posted i) next e =
      let same : move.TurnDown ≡ next = cc in subst (MayNext (target.Posted i)) same refl
  may_next true none (target.Postponed i) next e =
      let same : move.Consume ≡ next = cc in subst (MayNext (target.Postponed i)) same (record { there = refl; none_kept = none refl })
  may_next false none (target.Postponed i) next e = absurd (cc)
  may_next wants none (target.Arrived i) next e =
      let same : move.Open ≡ next = cc in subst (MayNext (target.Arrived i)) same (λ value. refl)
  may_next wants none (target.Hand i) next e =
      let same : move.Close ≡ next = cc in subst (MayNext (target.Hand i)) same refl
  may_next wants none _ next e = absurd (cc)

pub next_may : (exit : ExitState) (next : Move) → exit_move exit ≡ Some next → MayMoveExit exit next
next_may exit next e =
    may_next exit (wants_one exit) (λ wants. none_there exit.kept (and_parts exit.asked (is_none exit.kept) wants).1) exit.stage next e
