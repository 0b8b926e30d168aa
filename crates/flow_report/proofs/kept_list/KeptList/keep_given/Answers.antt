use Rattle.std.proofs.Common.{◌≡◌, ◌∙◌, ap, rules}
use Rattle.flow_link.specs.Trace.{gave_over}
use Rattle.flow_report.specs.Printed.{list_text}
use Rattle.flow_report.proofs.KeptFits.{none_fits}
use Rattle.flow_report.proofs.kept_list.KeptList.keep_given.Goals as goal

pub returns-then-is_err-clause-fits : goal.returns-then-is_err-clause-fits
returns-then-is_err-clause-fits c = λ run before same. none_fits run _ _ before c.forget.ensures.same c.forget.ensures.port c.forget.ensures.links

pub returns-clause-fits : goal.returns-clause-fits
returns-clause-fits c = λ run before same.
    let text : c.write_given.new.writer.items ≡ list_text (gave_over c.args.link c.args.journal.now) = search rules in
    c.add_link.ensures.fits run (none_fits run _ _ before c.forget.ensures.same c.forget.ensures.port c.forget.ensures.links) (text ∙ ap list_text same)
