use Rattle.flow_block_law.proofs.GroupsRest.{groups_begin}
use Rattle.flow_block_law.proofs.group_laws.fresh_batched_joins_are_in_order.Goals as goal

pub returns : goal.returns
returns g c = groups_begin _
