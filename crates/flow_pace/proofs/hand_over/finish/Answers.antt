use Rattle.std.proofs.Common.{arith}
use Rattle.flow_crew.proofs.RunsOn.{runs_further, runs_itself}
use Rattle.flow_pace.proofs.hand_over.finish.Goals as goal

pub loop-done-init : goal.loop-done-init
loop-done-init g c =
    (omega arith, runs_itself c.args.net.now)

pub loop-done-preserved : goal.loop-done-preserved
loop-done-preserved g c =
    let low = c.loop-done-test.true in (
      omega (arith, low),
      runs_further c.args.net.now c.loop-done.net c.go_on.new.net c.loop-done.invariant.1 c.go_on.ensures.runs_on,
    )

pub returns-then-not-go_on-clause-runs_on : goal.returns-then-not-go_on-clause-runs_on
returns-then-not-go_on-clause-runs_on g c =
    runs_further c.args.net.now c.loop-done.net c.go_on.new.net c.loop-done.invariant.1 c.go_on.ensures.runs_on
