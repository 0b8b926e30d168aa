use Rattle.flow_history.proofs.WorkKept as kept
use Rattle.flow_history.proofs.laws.work_is_kept.Goals as goal

pub returns : goal.returns
returns g c = kept.work_is_kept _
