use Rattle.std.proofs.Common.{◌≡◌, ◌+◌, ap, ◌∙◌, arith}
use Rattle.flow_link.specs.Trace.{link_of}
use Rattle.flow_report.specs.Report.{is_input, input_link_number, run_in}
use Rattle.flow_report.proofs.ReportGrows.{count-few, length-outer, outer-fit, laid-out_input}
use Rattle.flow_report.proofs.report.input_link_of.Goals as goal

pub overflow_add-place : goal.overflow_add-place
overflow_add-place c =
    let blocks = (run_in c.args.net.now).layout.blocks in
    omega (
      arith,
      c.links_between.ensures,
      c.inputs_before.ensures,
      outer-fit blocks (run_in c.args.net.now).layout.links c.link_count-links.ensures.laid_out,
      c.link_count-links.ensures.count,
      length-outer blocks,
      count-few is_input blocks c.args.block,
      c.link_count-links.type_inv,
    )

pub overflow_cast-result : goal.overflow_cast-result
overflow_cast-result c =
    let blocks = (run_in c.args.net.now).layout.blocks in
    omega (
      arith,
      c.links_between.ensures,
      c.inputs_before.ensures,
      outer-fit blocks (run_in c.args.net.now).layout.links c.link_count-links.ensures.laid_out,
      c.link_count-links.ensures.count,
      length-outer blocks,
      count-few is_input blocks c.args.block,
      c.link_count-links.type_inv,
    )

pub returns-clause-leads : goal.returns-clause-leads
returns-clause-leads c = λ on.
    let run = run_in c.args.net.now in
    let number : c.links_between.result + c.inputs_before.result ≡ input_link_number run c.args.block = omega (arith, c.links_between.ensures, c.inputs_before.ensures) in
    ap (link_of run) number ∙ laid-out_input run.layout.blocks run.layout.links c.args.block c.link_count-links.ensures.laid_out c.requires on
