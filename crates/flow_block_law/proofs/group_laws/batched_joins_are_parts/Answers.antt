use Rattle.flow_block_law.proofs.GroupsSeen.{batched_joins_are_parts}
use Rattle.flow_block_law.proofs.group_laws.batched_joins_are_parts.Goals as goal

pub returns : goal.returns
returns g c = batched_joins_are_parts _
