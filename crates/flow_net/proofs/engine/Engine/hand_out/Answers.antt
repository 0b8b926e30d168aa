use Rattle.std.proofs.Common.{refl}
use Rattle.flow_net.proofs.EventsCount.{rounds_more}
use Rattle.flow_net.proofs.engine.Engine.hand_out.Goals as goal

pub loop-place-preserved : goal.loop-place-preserved
loop-place-preserved g c =
    let first = c.args.self.now in
    let before = c.loop-place.self in
    let last = c.copy_one-rest.new.self in
    rounds_more g.W.Runs.meaning first.plan before.plan before.plan last.plan first.parts before.parts before.parts last.parts
    c.args.limit c.loop-place.rest c.copy_one-rest.result c.loop-place.invariant refl refl c.copy_one-rest.ensures.same_plan
    c.copy_one-rest.ensures.within c.copy_one-rest.ensures.happened
