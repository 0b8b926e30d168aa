use Rattle.std.proofs.Common.{◌∙◌, ap}
use Rattle.flow_report.specs.Printed.{list_text}
use Rattle.flow_report.specs.Report.{run_in}
use Rattle.flow_report.proofs.report.is_kept_of_port.Goals as goal

pub link_of_port-requires-clause-taken : goal.link_of_port-requires-clause-taken
link_of_port-requires-clause-taken c = λ all. c.all_taken.ensures (run_in c.args.net.now) c.requires.fits all

pub returns-in-Some : goal.returns-in-Some
returns-in-Some c = λ known. c.is_of_link.ensures (run_in c.args.net.now) c.requires.fits known ∙ ap list_text c.in-Some.ensures
