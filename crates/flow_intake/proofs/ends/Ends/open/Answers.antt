use Rattle.std.proofs.Common.{◌≡◌, ◌<◌, true, length, refl, ◌∙◌, sym}
use Rattle.flow_link.specs.declared.stage.TargetStage.TheVariants.{Hand}
use Rattle.flow_intake.specs.Port.{is_coming, is_owed, stage_in}
use Rattle.flow_intake.specs.Ended.{is_completion, has_seen_fault}
use Rattle.flow_intake.proofs.CountsOfEnds.{count_same, coming_is_owed}
use Rattle.flow_intake.proofs.EndingsCounted.{coming_has_not_completed, coming_has_not_faulted}
use Rattle.flow_intake.proofs.ends.Ends.open.Goals as goal

pub invariant_of-self : goal.invariant_of-self
invariant_of-self c =
    let known : c.args.place < length c.self.inside.ends.items = rw (← c.self.view_is) at c.requires.place in
    let comes : is_coming (stage_in c.args.place c.self.inside.ends.items) ≡ true = rw (← c.self.view_is) at c.requires.before in
    let in_hand : c.open.new.self.stage ≡ Hand c.args.header = rw c.open.ensures refl in
    let one = count_same is_coming c.self.inside.ends.items c.args.place c.open.new.self known (rw in_hand comes) in
    let other = count_same is_owed c.self.inside.ends.items c.args.place c.open.new.self known (rw in_hand (coming_is_owed _ comes)) in
    let ends = c.self.inside.ends.items in
    let not_completed = coming_has_not_completed _ comes in
    let not_faulted = coming_has_not_faulted _ comes in
    let completed = count_same is_completion ends c.args.place c.open.new.self known (rw in_hand not_completed) in
    let faulted = count_same has_seen_fault ends c.args.place c.open.new.self known (rw in_hand not_faulted) in (
      c.self.invariant.0 ∙ sym one,
      c.self.invariant.1 ∙ sym other,
      c.self.invariant.2 ∙ sym completed,
      c.self.invariant.3 ∙ sym faulted,
    )

pub returns-clause-coming : goal.returns-clause-coming
returns-clause-coming c =
    let known : c.args.place < length c.self.inside.ends.items = rw (← c.self.view_is) at c.requires.place in
    let comes : is_coming (stage_in c.args.place c.self.inside.ends.items) ≡ true = rw (← c.self.view_is) at c.requires.before in
    let in_hand : c.open.new.self.stage ≡ Hand c.args.header = rw c.open.ensures refl in
    rw (← c.self.view_is) (count_same is_coming c.self.inside.ends.items c.args.place c.open.new.self known (rw in_hand comes))

pub returns-clause-owed : goal.returns-clause-owed
returns-clause-owed c =
    let known : c.args.place < length c.self.inside.ends.items = rw (← c.self.view_is) at c.requires.place in
    let comes : is_coming (stage_in c.args.place c.self.inside.ends.items) ≡ true = rw (← c.self.view_is) at c.requires.before in
    let in_hand : c.open.new.self.stage ≡ Hand c.args.header = rw c.open.ensures refl in
    rw (← c.self.view_is) (count_same is_owed c.self.inside.ends.items c.args.place c.open.new.self known (rw in_hand (coming_is_owed _ comes)))
