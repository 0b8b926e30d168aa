use Rattle.std.proofs.Common.{◌≡◌, ◌∙◌, count_by, arith}
use Rattle.flow_report.specs.Report.{is_input, is_output, run_in}
use Rattle.flow_report.proofs.ReportGrows.{count-all, length-outer}
use Rattle.flow_report.proofs.report.links_between.Goals as goal

pub returns : goal.returns
returns c =
    let blocks = (run_in c.args.net.now).layout.blocks in
    let inputs : c.inputs_before.result ≡ count_by is_input blocks = c.inputs_before.ensures ∙ count-all is_input blocks c.block_count-blocks.result c.block_count-blocks.ensures in
    let exits : c.exits_before.result ≡ count_by is_output blocks = c.exits_before.ensures ∙ count-all is_output blocks c.block_count-blocks.result c.block_count-blocks.ensures in
    omega (arith, inputs, exits, length-outer blocks, c.requires)
