use Rattle.std.proofs.Common.{rules, ◌+◌, subst, sym}
use Rattle.flow_link.specs.Planned.{layout_of}
use Rattle.flow_core.specs.State.{NetState}
use Rattle.flow_exec.specs.Works.{works_of}
use Rattle.flow_net.specs.Happened.{Happened}
use Rattle.flow_net.proofs.KeptOn.{kept_by_plan}
use Rattle.flow_net.proofs.RunsGoOn.{happened_by_plan}
use Rattle.flow_net.proofs.engine.Engine.pass.Goals as goal

pub pass_more-more-requires-clause-kept : goal.pass_more-more-requires-clause-kept
pass_more-more-requires-clause-kept g c =
    let start = c.args.self.now in
    let mid = c.pass_one.new.self in
    kept_by_plan g.W.Runs.meaning start.plan mid.plan c.in_ok-first.first start.parts mid.parts c.pass_one.ensures.same_plan
    c.in_ok-first.ensures.happened c.requires.kept

pub returns-clause-happened : goal.returns-clause-happened
returns-clause-happened g c =
    let start = c.args.self.now in
    let layout = layout_of start.plan in
    let mid = c.pass_one.new.self in
    let count = c.in_ok-first.first + c.pass_more-more.result in
    subst (λ (parts : NetState). Happened layout (works_of g.W.Runs.meaning layout) count start.parts parts)
    (sym c.list_passed.ensures.same_parts)
    (happened_by_plan g.W.Runs.meaning start.plan mid.plan c.pass_one.ensures.same_plan c.args.most c.in_ok-first.first start.parts
    mid.parts c.pass_more-more.new.self.parts (search rules) c.in_ok-first.ensures.happened
    c.pass_more-more.result c.pass_more-more.ensures.happened)
