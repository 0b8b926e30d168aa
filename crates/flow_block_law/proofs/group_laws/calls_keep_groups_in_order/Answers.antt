use Rattle.flow_block_law.proofs.GroupsOrdered.{groups_ordered}
use Rattle.flow_block_law.proofs.group_laws.calls_keep_groups_in_order.Goals as goal

pub returns : goal.returns
returns g c = groups_ordered _
