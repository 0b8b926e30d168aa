use Rattle.std.proofs.Common.{refl, ◌∙◌, sym}
use Rattle.flow_intake.specs.Port.{is_coming, is_owed}
use Rattle.flow_intake.specs.Ended.{is_completion, has_seen_fault}
use Rattle.flow_intake.proofs.CountsOfEnds.{count_added}
use Rattle.flow_intake.proofs.ends.Ends.add.Goals as goal

pub invariant_of-self-2 : goal.invariant_of-self-2
invariant_of-self-2 c =
    let ends = c.self.inside.ends.items in
    rw (c.in_ok-push.ensures.items, c.new.ensures) (
      c.self.invariant.0 ∙ sym (count_added is_coming ends c.args.link refl),
      c.self.invariant.1 ∙ sym (count_added is_owed ends c.args.link refl),
      c.self.invariant.2 ∙ sym (count_added is_completion ends c.args.link refl),
      c.self.invariant.3 ∙ sym (count_added has_seen_fault ends c.args.link refl),
    )

pub returns-clause-coming : goal.returns-clause-coming
returns-clause-coming c =
    rw (c.in_ok-push.ensures.items, c.new.ensures, ← c.self.view_is) (count_added is_coming c.self.inside.ends.items c.args.link refl)

pub returns-clause-owed : goal.returns-clause-owed
returns-clause-owed c =
    rw (c.in_ok-push.ensures.items, c.new.ensures, ← c.self.view_is) (count_added is_owed c.self.inside.ends.items c.args.link refl)
