use Rattle.flow_law.proofs.ExamplesDecided.{wrong_runs, unfinished_runs}
use Rattle.flow_law.proofs.WrongPartsRefused.{wrong_parts}
use Rattle.flow_law.proofs.laws.wrong_runs_are_refused.Goals as goal

pub returns-clause-not_lawful : goal.returns-clause-not_lawful
returns-clause-not_lawful c = wrong_runs

pub returns-clause-not_quiet : goal.returns-clause-not_quiet
returns-clause-not_quiet c = unfinished_runs

pub returns-clause-not_kept : goal.returns-clause-not_kept
returns-clause-not_kept c = wrong_parts
