use Rattle.std.proofs.Common.{◌≡◌, ◌∙◌, count_by, arith}
use Rattle.flow_report.specs.Report.{is_input, is_output, run_in}
use Rattle.flow_report.proofs.ReportGrows.{count-few, count-all, length-outer, outer-fit}
use Rattle.flow_report.proofs.report.exit_link_of.Goals as goal

pub overflow_add-place-2 : goal.overflow_add-place-2
overflow_add-place-2 c =
    let blocks = (run_in c.args.net.now).layout.blocks in
    let inputs : c.inputs_before-inputs.result ≡ count_by is_input blocks = c.inputs_before-inputs.ensures ∙ count-all is_input blocks c.block_count.result c.block_count.ensures in
    let exits : c.exits_before.result ≡ count_by is_output blocks = c.exits_before.ensures ∙ count-all is_output blocks c.block_count-2.result c.block_count-2.ensures in
    omega (
      arith,
      inputs,
      exits,
      c.exits_before-2.ensures,
      outer-fit blocks (run_in c.args.net.now).layout.links c.link_count-links.ensures.laid_out,
      c.link_count-links.ensures.count,
      length-outer blocks,
      count-few is_output blocks c.args.block,
      c.link_count-links.type_inv,
    )

pub overflow_cast-result : goal.overflow_cast-result
overflow_cast-result c =
    let blocks = (run_in c.args.net.now).layout.blocks in
    let inputs : c.inputs_before-inputs.result ≡ count_by is_input blocks = c.inputs_before-inputs.ensures ∙ count-all is_input blocks c.block_count.result c.block_count.ensures in
    let exits : c.exits_before.result ≡ count_by is_output blocks = c.exits_before.ensures ∙ count-all is_output blocks c.block_count-2.result c.block_count-2.ensures in
    omega (
      arith,
      inputs,
      exits,
      c.exits_before-2.ensures,
      outer-fit blocks (run_in c.args.net.now).layout.links c.link_count-links.ensures.laid_out,
      c.link_count-links.ensures.count,
      length-outer blocks,
      count-few is_output blocks c.args.block,
      c.link_count-links.type_inv,
    )

pub returns : goal.returns
returns c =
    let blocks = (run_in c.args.net.now).layout.blocks in
    let inputs : c.inputs_before-inputs.result ≡ count_by is_input blocks = c.inputs_before-inputs.ensures ∙ count-all is_input blocks c.block_count.result c.block_count.ensures in
    let exits : c.exits_before.result ≡ count_by is_output blocks = c.exits_before.ensures ∙ count-all is_output blocks c.block_count-2.result c.block_count-2.ensures in
    omega (arith, inputs, exits, c.exits_before-2.ensures, c.link_count-links.ensures.count, length-outer blocks)
