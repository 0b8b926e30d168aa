use Rattle.flow_core.proofs.StillRests.{still_nets_rest}
use Rattle.flow_core.proofs.laws.quiet_networks_are_at_rest.Goals as goal

pub returns : goal.returns
returns g c = still_nets_rest _
