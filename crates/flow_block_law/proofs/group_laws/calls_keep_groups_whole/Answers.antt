use Rattle.flow_block_law.proofs.GroupsSeen.{whole_stand}
use Rattle.flow_block_law.proofs.group_laws.calls_keep_groups_whole.Goals as goal

pub returns : goal.returns
returns g c = whole_stand _
