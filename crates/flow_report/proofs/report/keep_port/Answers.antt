use Rattle.std.proofs.Common.{◌∙◌, ap}
use Rattle.flow_link.specs.Trace.{took_at}
use Rattle.flow_report.specs.Printed.{list_text}
use Rattle.flow_report.specs.Report.{run_in}
use Rattle.flow_report.proofs.report.keep_port.Goals as goal

pub returns-then-is_kept_of_port-clause-fits : goal.returns-then-is_kept_of_port-clause-fits
returns-then-is_kept_of_port-clause-fits c =
    c.add_port.ensures.fits (run_in c.args.net.now) c.requires.fits (c.is_kept_of_port.ensures c.if-is_kept_of_port.true)

pub returns-then-is_kept_of_port-clause-text : goal.returns-then-is_kept_of_port-clause-text
returns-then-is_kept_of_port-clause-text c = λ kept. c.add_port.ensures.same ∙ c.is_kept_of_port.ensures c.if-is_kept_of_port.true

pub returns-then-may_show_again-clause-fits : goal.returns-then-may_show_again-clause-fits
returns-then-may_show_again-clause-fits c = c.keep_taken.ensures.fits (run_in c.args.net.now) c.requires.fits c.journal.ensures

pub returns-then-may_show_again-clause-text : goal.returns-then-may_show_again-clause-text
returns-then-may_show_again-clause-text c = λ kept.
    c.keep_taken.ensures.text kept ∙ ap (λ marks. list_text (took_at c.args.port marks)) c.journal.ensures
