use Rattle.flow_cli.proofs.ReportBehindCut.{unwritten}
use Rattle.flow_cli.proofs.input.run_whole.Goals as goal

pub returns-clause-refused : goal.returns-clause-refused
returns-clause-refused g c = unwritten c.in-Ok.ensures.reported
