use Rattle.flow_history.proofs.NewPorts as ports
use Rattle.flow_history.proofs.laws.new_ports_took_nothing.Goals as goal

pub returns : goal.returns
returns g = ports.new_ports_took_nothing
