use Rattle.std.proofs.Common.{◌∙◌, ap, sym}
use Rattle.flow_value.specs.Function.{meaning_of}
use Rattle.flow_link.specs.declared.plan.Link.{Link}
use Rattle.flow_link.specs.Plan.{no_link}
use Rattle.flow_exec.specs.Works.{works_of}
use Rattle.flow_moves.proofs.MerelyKept.{lawful_merely}
use Rattle.flow_moves.proofs.PlansRun.{plan_runs}
use Rattle.flow_net.specs.Net.{layout_in, parts_of}
use Rattle.flow_report.specs.Report.{run_in}
use Rattle.flow_report.proofs.ListsAgree.{port_took}
use Rattle.flow_report.proofs.same.link_of_port.Goals as goal

pub returns-in-Block : goal.returns-in-Block
returns-in-Block c =
    let net = c.args.net.now in
    let layout = layout_in net in
    let lawful = lawful_merely layout (works_of meaning_of layout) (parts_of net) net.kept (plan_runs net.engine.plan) in
    port_took (run_in net) c.args.block c.args.port _ _ (c.requires.taken c.if-not-all_taken.false) lawful c.requires.known c.in_ok-link.ensures
    (sym (ap (λ (link : Link). link.source) (c.link_at.ensures no_link)) ∙ c.in-Block.is)
