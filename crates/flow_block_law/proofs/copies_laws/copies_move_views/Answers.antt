use Rattle.flow_block_law.proofs.CopiesMove.{copies_move_views, puts_move_none}
use Rattle.flow_block_law.proofs.copies_laws.copies_move_views.Goals as goal

pub returns-clause-calls : goal.returns-clause-calls
returns-clause-calls g c = copies_move_views _

pub returns-clause-puts : goal.returns-clause-puts
returns-clause-puts g c = puts_move_none
