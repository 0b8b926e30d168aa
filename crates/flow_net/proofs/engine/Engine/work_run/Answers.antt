use Rattle.std.proofs.Common.{subst, sym}
use Rattle.flow_link.specs.Planned.{layout_of}
use Rattle.flow_core.specs.State.{NetState}
use Rattle.flow_exec.specs.Works.{works_of}
use Rattle.flow_net.specs.Happened.{Happened}
use Rattle.flow_net.proofs.engine.Engine.work_run.Goals as goal

pub returns-clause-happened : goal.returns-clause-happened
returns-clause-happened g c =
    let start = c.args.self.now in
    let layout = layout_of start.plan in
    subst (λ (parts : NetState). Happened layout (works_of g.W.Runs.meaning layout) c.work_rest-more.result start.parts parts)
    (sym c.list_worked.ensures.same_parts) c.work_rest-more.ensures.happened
