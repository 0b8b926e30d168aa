use Rattle.flow_block_law.proofs.CopiesGoOn.{next_copies_have_causes}
use Rattle.flow_block_law.proofs.copies_laws.next_copies_have_causes.Goals as goal

pub returns : goal.returns
returns g c = next_copies_have_causes _
