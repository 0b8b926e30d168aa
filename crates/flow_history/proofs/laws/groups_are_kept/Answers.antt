use Rattle.flow_history.proofs.GroupsKept as kept
use Rattle.flow_history.proofs.laws.groups_are_kept.Goals as goal

pub returns : goal.returns
returns g = kept.groups_are_kept
