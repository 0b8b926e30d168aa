use Rattle.flow_block_law.proofs.GroupsStand.{groups_stand}
use Rattle.flow_block_law.proofs.group_laws.calls_keep_groups.Goals as goal

pub returns : goal.returns
returns g c = groups_stand _
