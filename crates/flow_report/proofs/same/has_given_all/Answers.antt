use Rattle.std.proofs.Common.{◌≡◌, ◌∙◌, ap, sym}
use Rattle.flow_link.specs.declared.draft.BlockDef.{BlockDef}
use Rattle.flow_link.specs.declared.draft.BlockKind.TheVariants.{Buffer, Broadcast}
use Rattle.flow_link.specs.Plan.{no_block}
use Rattle.flow_link.specs.Trace.{block_of}
use Rattle.flow_value.specs.Function.{meaning_of}
use Rattle.flow_exec.specs.Works.{works_of}
use Rattle.flow_moves.proofs.MerelyKept.{lawful_merely}
use Rattle.flow_moves.proofs.PlansRun.{plan_runs}
use Rattle.flow_net.specs.Net.{layout_in, parts_of}
use Rattle.flow_report.specs.Report.{run_in}
use Rattle.flow_report.proofs.ListsAgree.{buffer_gave, broadcast_gave}
use Rattle.flow_report.proofs.same.has_given_all.Goals as goal
use Rattle.flow_report.proofs.same.has_given_all.Goals.{in-Buffer, in_default, in-Broadcast, in_default-matches}

pub returns-then-leaves_alone : goal.returns-then-leaves_alone
returns-then-leaves_alone c = λ nothing.
    let net = c.args.net.now in
    let layout = layout_in net in
    let run = run_in net in
    let lawful = lawful_merely layout (works_of meaning_of layout) (parts_of net) net.kept (plan_runs net.engine.plan) in
    let here : c.block_at.result.now.kind ≡ Buffer =
    elim c.match-matches.branch [ in-Buffer w ↦ w.in-Buffer.is | in_default w ↦ let none = w.matches-is in let some = c.if-matches.true in absurd (cc) ] in
    let kind : (block_of run c.args.block).kind ≡ Buffer =
    ap (λ (block : BlockDef _). block.kind) (sym (c.block_at.ensures no_block)) ∙ here in
    buffer_gave run c.args.block lawful net.engine.plan.well_formed c.requires.known c.args.link kind (c.leaves_alone.ensures c.if-leaves_alone.true)
    (c.has_nothing.ensures.left nothing) (c.has_nothing.ensures.held nothing)

pub returns-then-carries_each : goal.returns-then-carries_each
returns-then-carries_each c = λ nothing.
    let net = c.args.net.now in
    let layout = layout_in net in
    let run = run_in net in
    let lawful = lawful_merely layout (works_of meaning_of layout) (parts_of net) net.kept (plan_runs net.engine.plan) in
    let here : c.block_at.result.now.kind ≡ Broadcast =
    elim c.match-matches-2.branch [ in-Broadcast w ↦ w.in-Broadcast.is | in_default-matches w ↦ let none = w.matches-is in let some = c.if-matches-2.true in absurd (cc) ] in
    let kind : (block_of run c.args.block).kind ≡ Broadcast =
    ap (λ (block : BlockDef _). block.kind) (sym (c.block_at.ensures no_block)) ∙ here in
    broadcast_gave run c.args.block lawful net.engine.plan.well_formed c.requires.known c.args.link kind c.requires.link c.requires.from
    (c.carries_each.ensures c.if-carries_each.true) (c.has_nothing-then-carries_each.ensures.left nothing) (c.has_nothing-then-carries_each.ensures.held nothing)
