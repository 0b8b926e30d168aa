use Rattle.flow_value.specs.Function.{meaning_of}
use Rattle.flow_exec.specs.Works.{works_of}
use Rattle.flow_moves.proofs.PlansRun.{plan_runs}
use Rattle.flow_net.specs.Net.{layout_in, parts_of}
use Rattle.flow_report.specs.Report.{block_report, run_in}
use Rattle.flow_report.proofs.LinksAgree.{links_agree}
use Rattle.flow_report.proofs.ReportGrows.{lines-more}
use Rattle.flow_report.proofs.WritesAddUp.{appends-none}
use Rattle.flow_report.proofs.report.write_lines.Goals as goal

pub loop-block-init : goal.loop-block-init
loop-block-init g c =
    let net = c.args.net.now in
    let layout = layout_in net in
    record {
      written = appends-none (g.W.Write.contents c.args.writer.now);
      fits = c.new-kept.ensures (run_in net)
          (λ quiet. links_agree layout (works_of meaning_of layout) (plan_runs net.engine.plan) (parts_of net) (c.is_quiet.ensures.at_rest quiet) net.kept);
      kept = λ front begins. begins;
    }

pub returns-in_err-write_block-clause-kept : goal.returns-in_err-write_block-clause-kept
returns-in_err-write_block-clause-kept g c = λ front begins. c.in_err-write_block.ensures.kept front (c.loop-block.invariant.kept front begins)

pub loop-block-preserved : goal.loop-block-preserved
loop-block-preserved g c = record {
  written = lines-more (block_report (run_in c.args.net.now)) c.loop-block.block _ _ _ c.loop-block.invariant.written c.in_ok-write_block.ensures.written;
  fits = c.in_ok-write_block.ensures.fits;
  kept = λ front begins. c.in_ok-write_block.ensures.kept front (c.loop-block.invariant.kept front begins);
}
