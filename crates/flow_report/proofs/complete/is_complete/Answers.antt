use Rattle.std.proofs.Common.{◌<◌, ◌∙◌, arith, length, sym}
use Rattle.flow_report.specs.Complete.{has_gone_through}
use Rattle.flow_report.specs.Report.{run_in}
use Rattle.flow_report.proofs.AllGoneThrough.{one_more_passes, one_fails}
use Rattle.flow_report.proofs.complete.is_complete.Goals as goal

pub returns-then-not-has_gone_through : goal.returns-then-not-has_gone_through
returns-then-not-has_gone_through c =
    let run = run_in c.args.net.now in
    let within : c.loop-block.block < length run.layout.blocks = omega (arith, c.loop-block-test.true, c.block_count-block-end.ensures) in
    one_fails (has_gone_through run) (length run.layout.blocks) c.loop-block.block within (sym c.if-not-has_gone_through.true ∙ c.has_gone_through.ensures)

pub loop-block-preserved : goal.loop-block-preserved
loop-block-preserved c =
    one_more_passes (has_gone_through (run_in c.args.net.now)) c.loop-block.block c.loop-block.invariant (sym c.if-not-has_gone_through.false ∙ c.has_gone_through.ensures)
