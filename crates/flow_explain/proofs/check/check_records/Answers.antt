-- The verdict is that of the answer, which is one to the records.
use Rattle.flow_explain.proofs.check.check_records.Goals as goal

pub returns : goal.returns
returns g c = c.verdict_of.ensures.of_records _ _ c.in-Ok.ensures
