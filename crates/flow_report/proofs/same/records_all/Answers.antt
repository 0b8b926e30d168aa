use Rattle.std.proofs.Common.{◌∙◌, ap, sym}
use Rattle.flow_link.specs.declared.draft.BlockDef.{BlockDef}
use Rattle.flow_link.specs.Plan.{no_block}
use Rattle.flow_value.specs.Function.{meaning_of}
use Rattle.flow_exec.specs.Works.{works_of, worked_by}
use Rattle.flow_moves.proofs.MerelyKept.{lawful_merely}
use Rattle.flow_moves.proofs.PlansRun.{plan_runs}
use Rattle.flow_net.specs.Net.{layout_in, parts_of}
use Rattle.flow_report.specs.Report.{run_in}
use Rattle.flow_report.proofs.ListsAgree.{recorded_all}
use Rattle.flow_report.proofs.same.records_all.Goals as goal

pub returns-then-gives_back : goal.returns-then-gives_back
returns-then-gives_back c = λ none_held.
    let net = c.args.net.now in
    let layout = layout_in net in
    let run = run_in net in
    let lawful = lawful_merely layout (works_of meaning_of layout) (parts_of net) net.kept (plan_runs net.engine.plan) in
    recorded_all run c.args.block lawful net.engine.plan.well_formed c.requires.known c.requires.action
    (λ value. ap (λ (block : BlockDef _). worked_by meaning_of block.work value) (sym (c.block_at.ensures no_block)) ∙ c.gives_back.ensures c.if-gives_back.true value)
    (c.holds_nothing.ensures none_held)
