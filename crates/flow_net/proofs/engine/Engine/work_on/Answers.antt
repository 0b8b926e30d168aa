use Rattle.flow_net.proofs.KeptOn.{kept_by_plan}
use Rattle.flow_net.proofs.RunsGoOn.{happened_by_plan}
use Rattle.flow_net.proofs.engine.Engine.work_on.Goals as goal

pub work_run-requires-clause-kept : goal.work_run-requires-clause-kept
work_run-requires-clause-kept g c =
    let start = c.args.self.now in
    let mid = c.work_once.new.self in
    kept_by_plan g.W.Runs.meaning start.plan mid.plan c.in_ok-first.first start.parts mid.parts c.work_once.ensures.same_plan
    c.in_ok-first.ensures.happened c.requires.kept

pub returns-clause-happened : goal.returns-clause-happened
returns-clause-happened g c =
    let start = c.args.self.now in
    let mid = c.work_once.new.self in
    happened_by_plan g.W.Runs.meaning start.plan mid.plan c.work_once.ensures.same_plan c.args.most c.in_ok-first.first start.parts
    mid.parts c.work_run.new.self.parts c.in_ok-first.ensures.within c.in_ok-first.ensures.happened
    c.work_run.result c.work_run.ensures.happened
