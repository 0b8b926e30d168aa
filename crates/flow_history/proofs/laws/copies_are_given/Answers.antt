use Rattle.flow_history.proofs.CopiesByRule as given
use Rattle.flow_history.proofs.laws.copies_are_given.Goals as goal

pub returns : goal.returns
returns g = given.copies_are_given
