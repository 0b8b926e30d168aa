use Rattle.std.proofs.Common.{arith}
use Rattle.flow_value.proofs.WrittenOneWay.{too_many, no_step, one_more_step}
use Rattle.flow_value.proofs.steps.Steps.read.Goals as goal

pub returns-then-place-ge-MOST_STEPS : goal.returns-then-place-ge-MOST_STEPS
returns-then-place-ge-MOST_STEPS c =
    too_many c.args.texts.now c.loop-place.steps.items c.loop-place.place c.loop-place-test.true
    c.loop-place.invariant.few c.loop-place.invariant.all_spelled c.if-place-ge-MOST_STEPS.true

pub returns-in-None : goal.returns-in-None
returns-in-None c =
    no_step c.args.texts.now c.loop-place.steps.items c.loop-place.place c.loop-place-test.true
    c.loop-place.invariant.few c.loop-place.invariant.all_spelled _ c.in-None.ensures

pub loop-place-preserved : goal.loop-place-preserved
loop-place-preserved c =
    let more = one_more_step c.args.texts.now c.loop-place.steps.items c.loop-place.place c.loop-place-test.true
    c.loop-place.invariant.few c.loop-place.invariant.all_spelled _ c.in-Some.step c.in-Some.ensures in
    record {
      few = omega arith;
      all_spelled = rw c.in_ok-push-in-Some.ensures.items more;
    }
