use Rattle.flow_link.proofs.StagesKept.{stages_are_kept}
use Rattle.flow_law.proofs.laws.stages_are_kept.Goals as goal

pub returns : goal.returns
returns c = stages_are_kept
