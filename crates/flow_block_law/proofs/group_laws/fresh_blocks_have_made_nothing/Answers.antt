use Rattle.flow_block_law.proofs.FreshGroups.{fresh_groups}
use Rattle.flow_block_law.proofs.group_laws.fresh_blocks_have_made_nothing.Goals as goal

pub returns : goal.returns
returns g c = fresh_groups _
