use Rattle.flow_block_law.proofs.CopiesSeen.{copiers_are_parts}
use Rattle.flow_block_law.proofs.copies_laws.copiers_are_parts.Goals as goal

pub returns : goal.returns
returns g c = copiers_are_parts _
