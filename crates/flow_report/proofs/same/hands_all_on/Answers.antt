use Rattle.std.proofs.Common.{◌≡◌, ◌∙◌, ap, sym, true}
use Rattle.flow_link.specs.declared.draft.BlockDef.{BlockDef}
use Rattle.flow_link.specs.Plan.{no_block}
use Rattle.flow_link.specs.Trace.{block_of}
use Rattle.flow_value.specs.Function.{meaning_of}
use Rattle.flow_exec.specs.Works.{works_of}
use Rattle.flow_moves.proofs.MerelyKept.{lawful_merely}
use Rattle.flow_moves.proofs.PlansRun.{plan_runs}
use Rattle.flow_net.specs.Net.{layout_in, parts_of}
use Rattle.flow_report.specs.Report.{run_in}
use Rattle.flow_report.specs.SameLists.{hands_on}
use Rattle.flow_report.proofs.ListsAgree.{handed_on}
use Rattle.flow_report.proofs.same.hands_all_on.Goals as goal

pub returns-then-hands_on : goal.returns-then-hands_on
returns-then-hands_on c = λ as_many.
    let net = c.args.net.now in
    let layout = layout_in net in
    let run = run_in net in
    let lawful = lawful_merely layout (works_of meaning_of layout) (parts_of net) net.kept (plan_runs net.engine.plan) in
    let kind : hands_on (block_of run c.args.block).kind ≡ true =
    ap (λ (block : BlockDef _). hands_on block.kind) (sym (c.block_at.ensures no_block)) ∙ sym c.hands_on.ensures ∙ c.if-hands_on.true in
    handed_on run c.args.block lawful net.engine.plan.well_formed c.requires.known c.args.link c.requires.link c.requires.from kind
    (rw c.journal.ensures at (c.gave_as_many.ensures.0 as_many))
