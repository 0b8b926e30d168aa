use Rattle.std.proofs.Common.{refl}
use Rattle.flow_net.proofs.EventsCount.{rounds_more}
use Rattle.flow_net.proofs.engine.Engine.work_more.Goals as goal

pub loop-rest-preserved : goal.loop-rest-preserved
loop-rest-preserved g c =
    let first = c.args.self.now in
    let before = c.loop-rest.self in
    let last = c.work_once.new.self in
    rounds_more g.W.Runs.meaning first.plan before.plan before.plan last.plan first.parts before.parts before.parts last.parts
    c.args.limit c.loop-rest.rest c.in-Ok.count c.loop-rest.invariant refl refl c.work_once.ensures.same_plan
    c.in-Ok.ensures.within c.in-Ok.ensures.happened
