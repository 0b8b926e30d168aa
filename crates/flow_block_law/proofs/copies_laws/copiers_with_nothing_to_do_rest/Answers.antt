use Rattle.flow_block_law.proofs.CopiesRest.{copiers_are_still, copiers_rest}
use Rattle.flow_block_law.proofs.copies_laws.copiers_with_nothing_to_do_rest.Goals as goal

pub returns-clause-still : goal.returns-clause-still
returns-clause-still g c = copiers_are_still _

pub returns-clause-rest : goal.returns-clause-rest
returns-clause-rest g c = copiers_rest _
