use Rattle.flow_net.proofs.KeptOn.{kept_by_plan}
use Rattle.flow_net.proofs.RunsGoOn.{goes_on_by_plan, settled_by_plan}
use Rattle.flow_net.proofs.engine.Engine.settle_with.Goals as goal

pub settle-requires : goal.settle-requires
settle-requires g c =
    let start = c.args.self.now in
    let mid = c.work_with-done.new.self in
    record {
      kept = kept_by_plan g.W.Work.meaning start.plan mid.plan c.work_with-done.result start.parts mid.parts
          c.work_with-done.ensures.same_plan c.work_with-done.ensures.happened c.requires.kept;
    }

pub returns-clause-settled : goal.returns-clause-settled
returns-clause-settled g c =
    let start = c.args.self.now in
    let mid = c.work_with-done.new.self in
    settled_by_plan g.W.Work.meaning start.plan mid.plan c.work_with-done.ensures.same_plan c.args.limit c.work_with-done.result start.parts
    mid.parts c.settle.new.self.parts c.work_with-done.ensures.within c.work_with-done.ensures.happened c.settle.result
    c.settle.ensures.settled

pub returns-clause-goes_on : goal.returns-clause-goes_on
returns-clause-goes_on g c =
    let start = c.args.self.now in
    let mid = c.work_with-done.new.self in
    goes_on_by_plan g.W.Work.meaning start.plan mid.plan c.work_with-done.ensures.same_plan c.args.limit c.work_with-done.result start.parts
    mid.parts c.settle.new.self.parts c.work_with-done.ensures.within c.work_with-done.ensures.happened c.settle.ensures.goes_on
