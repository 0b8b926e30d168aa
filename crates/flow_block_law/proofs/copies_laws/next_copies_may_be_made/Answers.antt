use Rattle.flow_block_law.proofs.CopiesGoOn.{next_copies_may}
use Rattle.flow_block_law.proofs.copies_laws.next_copies_may_be_made.Goals as goal

pub returns : goal.returns
returns g c = next_copies_may _
