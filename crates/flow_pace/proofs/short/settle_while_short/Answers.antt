use Rattle.std.proofs.Common.{arith}
use Rattle.flow_crew.proofs.RunsOn.{runs_further, runs_itself, runs_settled}
use Rattle.flow_pace.proofs.short.settle_while_short.Goals as goal

pub loop-left-init : goal.loop-left-init
loop-left-init g c =
    (omega arith, runs_itself c.args.net.now)

pub returns-in-Ok-Quiet-clause-runs_on : goal.returns-in-Ok-Quiet-clause-runs_on
returns-in-Ok-Quiet-clause-runs_on g c =
    runs_further c.args.net.now c.loop-left.net c.settle.new.self c.loop-left.invariant.1
    (runs_settled g.W.Runs.meaning _ c.loop-left.net c.settle.new.self c.settle.ensures.same_plan c.settle.ensures.inputs_stay
    c.settle.ensures.goes_on)

pub returns-in-Err-clause-runs_on : goal.returns-in-Err-clause-runs_on
returns-in-Err-clause-runs_on g c =
    runs_further c.args.net.now c.loop-left.net c.settle.new.self c.loop-left.invariant.1
    (runs_settled g.W.Runs.meaning _ c.loop-left.net c.settle.new.self c.settle.ensures.same_plan c.settle.ensures.inputs_stay
    c.settle.ensures.goes_on)

pub loop-left-preserved : goal.loop-left-preserved
loop-left-preserved g c =
    let low = c.loop-left.invariant.0 in (
      omega (arith, low),
      runs_further c.args.net.now c.settle.new.self c.hand_over.new.net
          (runs_further c.args.net.now c.loop-left.net c.settle.new.self c.loop-left.invariant.1
          (runs_settled g.W.Runs.meaning _ c.loop-left.net c.settle.new.self c.settle.ensures.same_plan c.settle.ensures.inputs_stay
          c.settle.ensures.goes_on))
          c.hand_over.ensures.runs_on,
    )

pub returns-then-is_long-clause-runs_on : goal.returns-then-is_long-clause-runs_on
returns-then-is_long-clause-runs_on g c =
    runs_further c.args.net.now c.settle.new.self c.hand_over.new.net
    (runs_further c.args.net.now c.loop-left.net c.settle.new.self c.loop-left.invariant.1
    (runs_settled g.W.Runs.meaning _ c.loop-left.net c.settle.new.self c.settle.ensures.same_plan c.settle.ensures.inputs_stay
    c.settle.ensures.goes_on))
    c.hand_over.ensures.runs_on
