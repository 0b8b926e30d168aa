use Rattle.std.proofs.Common.{refl}
use Rattle.flow_net.proofs.EventsCount.{rounds_more}
use Rattle.flow_net.proofs.engine.Engine.drive.Goals as goal

pub loop-preserved-in-Ok : goal.loop-preserved-in-Ok
loop-preserved-in-Ok g c =
    let first = c.args.self.now in
    let before = c.loop.self in
    let last = c.go_on.new.self in
    let so_far = c.loop.invariant in
    let more = rounds_more g.W.Work.meaning first.plan before.plan before.plan last.plan first.parts before.parts before.parts last.parts
    c.args.limit c.loop.rest c.in-Ok.count (so_far.0, so_far.1, so_far.2, so_far.3) refl refl c.go_on.ensures.same_plan
    c.in-Ok.ensures.within c.in-Ok.ensures.happened in
    (more.0, more.1, more.2, more.3, tt, tt)
