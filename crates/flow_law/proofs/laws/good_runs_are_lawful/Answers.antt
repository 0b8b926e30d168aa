use Rattle.flow_law.proofs.ExamplesDecided.{good_runs}
use Rattle.flow_law.proofs.laws.good_runs_are_lawful.Goals as goal

pub returns : goal.returns
returns c = good_runs
