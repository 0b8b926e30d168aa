use Rattle.std.proofs.Common.{◌≡◌, ◌∙◌, ap, arith, map, subst, ℕ}
use Rattle.std.specs.List.{concat}
use Rattle.std.specs.Io.KnownBytes.{Appends}
use Rattle.flow_link.specs.Lists.{below}
use Rattle.flow_link.specs.declared.draft.BlockDef.{BlockDef}
use Rattle.flow_link.specs.Plan.{no_block, port_count}
use Rattle.flow_link.specs.Trace.{block_of}
use Rattle.flow_report.specs.Report.{port_lines, run_in}
use Rattle.flow_report.proofs.PrintedGrows.{appends-both}
use Rattle.flow_report.proofs.ReportGrows.{lines-more}
use Rattle.flow_report.proofs.report.write_ports.Goals as goal

pub loop-port-preserved : goal.loop-port-preserved
loop-port-preserved g c =
    let run = run_in c.args.net.now in
    let held = rw c.held_at.ensures at c.in_ok-write_held_line.ensures.written in
    record {
      written = lines-more (port_lines run c.args.block) c.loop-port.port _ _ _ c.loop-port.invariant.written (appends-both _ _ _ _ _ c.in_ok-write_port.ensures.written held);
      fits = c.in_ok-write_port.ensures.fits;
      kept = λ front begins. c.in_ok-write_held_line.ensures.kept front (c.in_ok-write_port.ensures.kept front (c.loop-port.invariant.kept front begins));
    }

pub returns-clause-written : goal.returns-clause-written
returns-clause-written g c =
    let run = run_in c.args.net.now in
    let last : c.loop-port.port ≡ c.ports_of-port-end.result = omega (arith, c.loop-port.auto.port-end, c.loop-port-test.false) in
    let all : c.loop-port.port ≡ port_count (block_of run c.args.block) =
    last ∙ c.ports_of-port-end.ensures ∙ ap (λ (block : BlockDef _). port_count block) (c.block_at.ensures no_block) in
    subst (λ (count : ℕ). Appends (g.W.Write.contents c.args.writer.now) (g.W.Write.contents c.loop-port.writer)
    (concat (map (port_lines run c.args.block) (below count)))) all c.loop-port.invariant.written
