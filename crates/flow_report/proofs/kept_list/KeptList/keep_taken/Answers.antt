use Rattle.std.proofs.Common.{◌≡◌, ◌∙◌, ap, rules}
use Rattle.flow_link.specs.Trace.{took_at}
use Rattle.flow_report.specs.Printed.{list_text}
use Rattle.flow_report.proofs.KeptFits.{none_fits}
use Rattle.flow_report.proofs.kept_list.KeptList.keep_taken.Goals as goal

pub returns-then-is_err-clause-fits : goal.returns-then-is_err-clause-fits
returns-then-is_err-clause-fits c = λ run before same. none_fits run _ _ before c.forget.ensures.same c.forget.ensures.port c.forget.ensures.links

pub returns-clause-fits : goal.returns-clause-fits
returns-clause-fits c = λ run before same.
    let text : c.write_taken.new.writer.items ≡ list_text (took_at c.args.port c.args.journal.now) = search rules in
    c.add_port.ensures.fits run (none_fits run _ _ before c.forget.ensures.same c.forget.ensures.port c.forget.ensures.links) (text ∙ ap (λ marks. list_text (took_at c.args.port marks)) same)
