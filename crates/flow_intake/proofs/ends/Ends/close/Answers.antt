use Rattle.std.proofs.Common.{◌≡◌, ◌<◌, true, length, arith, refl, ◌∙◌, sym}
use Rattle.flow_link.specs.declared.stage.TargetStage.TheVariants.{Free}
use Rattle.flow_intake.specs.Port.{is_coming, is_owed, stage_in, fresh_end}
use Rattle.flow_intake.specs.Ended.{is_completion, has_seen_fault}
use Rattle.flow_intake.proofs.CountsOfEnds.{count_same, count_less, coming_is_owed, hand_comes}
use Rattle.flow_intake.proofs.EndingsCounted.{coming_has_not_completed, coming_has_not_faulted}
use Rattle.flow_intake.proofs.ends.Ends.close.Goals as goal

pub overflow_sub-self : goal.overflow_sub-self
overflow_sub-self c =
    let known : c.args.place < length c.self.inside.ends.items = rw (← c.self.view_is) at c.requires.place in
    let comes : is_coming (stage_in c.args.place c.self.inside.ends.items) ≡ true = hand_comes _ (rw c.self.view_is c.requires.before) in
    let less = count_less is_coming c.self.inside.ends.items c.args.place (fresh_end 0) known comes refl in
    omega (arith, c.self.invariant.0)

pub overflow_sub-self-2 : goal.overflow_sub-self-2
overflow_sub-self-2 c =
    let known : c.args.place < length c.self.inside.ends.items = rw (← c.self.view_is) at c.requires.place in
    let comes : is_coming (stage_in c.args.place c.self.inside.ends.items) ≡ true = hand_comes _ (rw c.self.view_is c.requires.before) in
    let less = count_less is_owed c.self.inside.ends.items c.args.place (fresh_end 0) known (coming_is_owed _ comes) refl in
    omega (arith, c.self.invariant.1)

pub invariant_of-self : goal.invariant_of-self
invariant_of-self c =
    let known : c.args.place < length c.self.inside.ends.items = rw (← c.self.view_is) at c.requires.place in
    let comes : is_coming (stage_in c.args.place c.self.inside.ends.items) ≡ true = hand_comes _ (rw c.self.view_is c.requires.before) in
    let free : c.close.new.self.stage ≡ Free = rw c.close.ensures.closed refl in
    let one = count_less is_coming c.self.inside.ends.items c.args.place c.close.new.self known comes (rw free refl) in
    let other = count_less is_owed c.self.inside.ends.items c.args.place c.close.new.self known (coming_is_owed _ comes) (rw free refl) in
    let ends = c.self.inside.ends.items in
    let not_completed = coming_has_not_completed _ comes in
    let not_faulted = coming_has_not_faulted _ comes in
    let completed = count_same is_completion ends c.args.place c.close.new.self known (rw free not_completed) in
    let faulted = count_same has_seen_fault ends c.args.place c.close.new.self known (rw free not_faulted) in (
      omega (arith, c.self.invariant.0),
      omega (arith, c.self.invariant.1),
      c.self.invariant.2 ∙ sym completed,
      c.self.invariant.3 ∙ sym faulted,
    )

pub returns-clause-coming : goal.returns-clause-coming
returns-clause-coming c =
    let known : c.args.place < length c.self.inside.ends.items = rw (← c.self.view_is) at c.requires.place in
    let comes : is_coming (stage_in c.args.place c.self.inside.ends.items) ≡ true = hand_comes _ (rw c.self.view_is c.requires.before) in
    let free : c.close.new.self.stage ≡ Free = rw c.close.ensures.closed refl in
    rw (← c.self.view_is) (count_less is_coming c.self.inside.ends.items c.args.place c.close.new.self known comes (rw free refl))

pub returns-clause-owed : goal.returns-clause-owed
returns-clause-owed c =
    let known : c.args.place < length c.self.inside.ends.items = rw (← c.self.view_is) at c.requires.place in
    let comes : is_coming (stage_in c.args.place c.self.inside.ends.items) ≡ true = hand_comes _ (rw c.self.view_is c.requires.before) in
    let free : c.close.new.self.stage ≡ Free = rw c.close.ensures.closed refl in
    rw (← c.self.view_is) (count_less is_owed c.self.inside.ends.items c.args.place c.close.new.self known (coming_is_owed _ comes) (rw free refl))
