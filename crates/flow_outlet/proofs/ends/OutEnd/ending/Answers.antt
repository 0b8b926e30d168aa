use Rattle.std.proofs.Common.{rules}
use Rattle.flow_outlet.proofs.ends.OutEnd.ending.Goals as goal

pub returns-in-true-Done : goal.returns-in-true-Done
returns-in-true-Done c =
    search rules
