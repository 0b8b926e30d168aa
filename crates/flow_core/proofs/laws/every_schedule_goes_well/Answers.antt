use Rattle.flow_core.proofs.NetworksInOrder.{all_schedules_go_well}
use Rattle.flow_core.proofs.laws.every_schedule_goes_well.Goals as goal

pub returns : goal.returns
returns g c = all_schedules_go_well _
