use Rattle.flow_net.proofs.KeptOn.{kept_by_plan}
use Rattle.flow_net.proofs.RunsGoOn.{happened_by_plan}
use Rattle.flow_net.proofs.engine.Engine.drive_with.Goals as goal

pub drive_beside-beside-requires-clause-kept : goal.drive_beside-beside-requires-clause-kept
drive_beside-beside-requires-clause-kept g c κs within =
    let start = c.args.self.now in
    let mid = c.drive-alone.new.self in
    kept_by_plan g.W.Work.meaning start.plan mid.plan c.drive-alone.result start.parts mid.parts c.drive-alone.ensures.same_plan
    c.drive-alone.ensures.happened c.requires.kept

pub returns-clause-happened : goal.returns-clause-happened
returns-clause-happened g c =
    let start = c.args.self.now in
    let mid = c.drive-alone.new.self in
    happened_by_plan g.W.Work.meaning start.plan mid.plan c.drive-alone.ensures.same_plan c.args.limit c.drive-alone.result start.parts
    mid.parts c.drive_beside-beside.new.engine.parts c.drive-alone.ensures.within c.drive-alone.ensures.happened
    c.drive_beside-beside.result c.drive_beside-beside.ensures.happened
