use Rattle.flow_run.proofs.CutInTwo.{split_at_cut}
use Rattle.flow_run.proofs.split.split_input.Goals as goal

pub returns-in-Some : goal.returns-in-Some
returns-in-Some c = split_at_cut _ _ _ _ _ c.in-Some.ensures c.split_at.ensures.front c.split_at.ensures.back c.after_line.ensures
