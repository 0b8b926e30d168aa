use Rattle.flow_history.proofs.OnceInPlans.{takes_one}
use Rattle.flow_history.proofs.laws.write_once_takes_one.Goals as goal

pub returns : goal.returns
returns g c = takes_one _
