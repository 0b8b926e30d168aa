use Rattle.flow_block_law.proofs.GroupsLoad.{groups_keep_load}
use Rattle.flow_block_law.proofs.group_laws.calls_keep_group_loads.Goals as goal

pub returns : goal.returns
returns g c = groups_keep_load _
