use Rattle.std.proofs.Common.{arith}
use Rattle.flow_crew.proofs.RunsOn.{runs_further, runs_itself}
use Rattle.flow_pace.proofs.hand_over.hand_over.Goals as goal

pub loop-id-init : goal.loop-id-init
loop-id-init g c =
    (omega arith, runs_itself c.args.net.now)

pub loop-id-preserved : goal.loop-id-preserved
loop-id-preserved g c =
    let low = c.loop-id.invariant.0 in
    let few = c.finish-done.ensures.within in (
      omega (arith, low, few),
      runs_further c.args.net.now c.loop-id.net c.finish-done.new.net c.loop-id.invariant.1 c.finish-done.ensures.runs_on,
    )
