use Rattle.flow_block_law.proofs.GroupsRest.{groups_rest}
use Rattle.flow_block_law.proofs.group_laws.batched_joins_rest.Goals as goal

pub returns : goal.returns
returns g c = groups_rest _
