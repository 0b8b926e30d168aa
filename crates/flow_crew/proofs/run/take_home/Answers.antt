use Rattle.std.proofs.Common.{arith}
use Rattle.flow_crew.proofs.RunsOn.{runs_further, runs_itself}
use Rattle.flow_crew.proofs.run.take_home.Goals as goal

pub loop-id-init : goal.loop-id-init
loop-id-init g c =
    (omega arith, runs_itself c.args.net.now)

pub returns-in_err-done-clause-runs_on : goal.returns-in_err-done-clause-runs_on
returns-in_err-done-clause-runs_on g c =
    runs_further c.args.net.now c.loop-id.net c.take_over.new.net c.loop-id.invariant.1 c.take_over.ensures.runs_on

pub loop-id-preserved : goal.loop-id-preserved
loop-id-preserved g c =
    let low = c.loop-id.invariant.0 in
    let few = c.in_ok-done.ensures.within in (
      omega (arith, low, few),
      runs_further c.args.net.now c.loop-id.net c.take_over.new.net c.loop-id.invariant.1 c.take_over.ensures.runs_on,
    )
