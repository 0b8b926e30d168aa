use Rattle.std.proofs.Common.{◌++◌}
use Rattle.std.proofs.lemmas.Result.{on_ok_weaker}
use Rattle.flow_link.specs.Plan.{no_block}
use Rattle.flow_link.specs.Trace.{block_of}
use Rattle.flow_report.specs.Report.{block_line, state_of, input_part, all_ports, all_links, exit_part, last_part, run_in}
use Rattle.flow_report.proofs.PrintedGrows.{appends-both}
use Rattle.flow_report.proofs.report.write_block.Goals as goal

pub returns-clause-written : goal.returns-clause-written
returns-clause-written g c =
    let run = run_in c.args.net.now in
    let b = c.args.block in
    let line = block_line (block_of run b).name (state_of run b) in
    let first = rw (c.as_str.ensures, c.block_at.ensures no_block, c.state.ensures) at c.in_ok-write_block_line.ensures.written in
    let second = appends-both _ _ _ line (input_part run b) first c.in_ok-write_input.ensures.written in
    let third = appends-both _ _ _ (line ++ input_part run b) (all_ports run b) second c.in_ok-write_ports.ensures.written in
    let fourth = appends-both _ _ _ (line ++ input_part run b ++ all_ports run b) (all_links run b) third c.in_ok-write_links.ensures.written in
    let fifth = appends-both _ _ _ (line ++ input_part run b ++ all_ports run b ++ all_links run b) (exit_part run b) fourth c.in_ok-write_exit.ensures.written in
    on_ok_weaker c.write_last.result
    (λ last. appends-both _ _ _ (line ++ input_part run b ++ all_ports run b ++ all_links run b ++ exit_part run b) (last_part run b) fifth last)
    c.write_last.ensures.written
