use Rattle.std.proofs.Common.{refl}
use Rattle.flow_net.proofs.EventsCount.{rounds_more}
use Rattle.flow_net.proofs.engine.Engine.copy_more.Goals as goal

pub loop-rest-preserved : goal.loop-rest-preserved
loop-rest-preserved g c =
    let first = c.args.self.now in
    let before = c.loop-rest.self in
    let last = c.work_round.new.self in
    rounds_more g.W.Runs.meaning first.plan before.plan before.plan last.plan first.parts before.parts before.parts last.parts
    c.args.limit c.loop-rest.rest c.work_round.result c.loop-rest.invariant refl refl c.work_round.ensures.same_plan
    c.work_round.ensures.within c.work_round.ensures.happened
