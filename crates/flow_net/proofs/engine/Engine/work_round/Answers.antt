use Rattle.flow_net.proofs.KeptOn.{kept_by_plan}
use Rattle.flow_net.proofs.RunsGoOn.{happened_by_plan}
use Rattle.flow_net.proofs.engine.Engine.work_round.Goals as goal

pub work_once-requires-clause-kept : goal.work_once-requires-clause-kept
work_once-requires-clause-kept g c =
    let start = c.args.self.now in
    let mid = c.hand_out-given.new.self in
    kept_by_plan g.W.Runs.meaning start.plan mid.plan c.hand_out-given.result start.parts mid.parts c.hand_out-given.ensures.same_plan
    c.hand_out-given.ensures.happened c.requires.kept

pub returns-in-Ok-clause-happened : goal.returns-in-Ok-clause-happened
returns-in-Ok-clause-happened g c =
    let start = c.args.self.now in
    let mid = c.hand_out-given.new.self in
    happened_by_plan g.W.Runs.meaning start.plan mid.plan c.hand_out-given.ensures.same_plan c.args.most c.hand_out-given.result
    start.parts mid.parts c.work_once.new.self.parts c.hand_out-given.ensures.within c.hand_out-given.ensures.happened
    c.in-Ok.count c.in-Ok.ensures.happened
