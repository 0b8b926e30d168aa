use Rattle.std.proofs.Common.{◌==◌, ◌∙◌, length, take, true, ap, arith, length-append}
use Rattle.flow_link.specs.Trace.{took, gave_over}
use Rattle.flow_report.proofs.ListsGrow.{taken-next, given-next}
use Rattle.flow_report.proofs.same.gave_as_many.Goals as goal

pub loop-mark-preserved : goal.loop-mark-preserved
loop-mark-preserved c =
    let before = take c.loop-mark.mark-index c.args.journal.now in
    let taken = ap length (taken-next c.args.journal.now c.loop-mark.mark-index c.mark-item.result c.loop-mark-test.true c.mark-item.is (λ port link. true))
    ∙ length-append (took before) _ in
    let given = ap length (given-next c.args.journal.now c.loop-mark.mark-index c.mark-item.result c.loop-mark-test.true c.mark-item.is (λ link. link == c.args.link))
    ∙ length-append (gave_over c.args.link before) _ in
    record {
      taken = omega (arith, taken, c.loop-mark.invariant.taken, c.taken_by-taken.ensures.count);
      given = omega (arith, given, c.loop-mark.invariant.given, c.given_by-given.ensures.count);
      few_taken = omega (arith, c.loop-mark.invariant.few_taken, c.taken_by-taken.ensures.few);
      few_given = omega (arith, c.loop-mark.invariant.few_given, c.given_by-given.ensures.few);
    }
