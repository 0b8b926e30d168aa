use Rattle.std.proofs.Common.{◌≡◌, ◌∙◌, ap, sym, true, subst, rules}
use Rattle.flow_link.specs.declared.draft.BlockDef.{BlockDef}
use Rattle.flow_link.specs.Plan.{no_block}
use Rattle.flow_link.specs.Trace.{block_of}
use Rattle.flow_value.specs.Function.{meaning_of}
use Rattle.flow_exec.specs.Works.{works_of}
use Rattle.flow_moves.proofs.MerelyKept.{lawful_merely}
use Rattle.flow_moves.proofs.PlansRun.{plan_runs}
use Rattle.flow_net.specs.Net.{layout_in, parts_of}
use Rattle.flow_report.specs.Report.{run_in}
use Rattle.flow_report.specs.SameLists.{LeadsAlone, ends_with_ports}
use Rattle.flow_report.proofs.PostedTaken.{all_posted_taken}
use Rattle.flow_report.proofs.same.took_all_posted.Goals as goal

pub returns-in-Some : goal.returns-in-Some
returns-in-Some c = λ same.
    let net = c.args.net.now in
    let layout = layout_in net in
    let run = run_in net in
    let lawful = lawful_merely layout (works_of meaning_of layout) (parts_of net) net.kept (plan_runs net.engine.plan) in
    let kind : ends_with_ports (block_of run c.args.block).kind ≡ true =
    ap (λ (block : BlockDef _). ends_with_ports block.kind) (sym (c.block_at.ensures no_block)) ∙ sym c.ends_with_ports.ensures ∙ c.if-not-ends_with_ports.false in
    let only : LeadsAlone run c.args.block 0 c.args.link = subst (LeadsAlone run c.args.block 0) (search rules) c.in-Some.ensures in
    all_posted_taken run c.args.block lawful net.engine.plan.well_formed c.requires.known c.args.link (c.is_done.ensures c.if-not-is_done.false) kind only c.requires.leads
