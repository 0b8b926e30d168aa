use Rattle.flow_report.proofs.SortedGiven.{sorted_whole}
use Rattle.flow_report.proofs.report.sort_for_many.Goals as goal

pub returns-in-Ok : goal.returns-in-Ok
returns-in-Ok c = sorted_whole c.in-Ok.sorted.items c.args.links c.args.journal.now c.in-Ok.ensures
