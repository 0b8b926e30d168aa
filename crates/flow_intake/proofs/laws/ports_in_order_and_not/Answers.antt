use Rattle.flow_intake.proofs.ProfileHolds.{port_examples}
use Rattle.flow_intake.proofs.laws.ports_in_order_and_not.Goals as goal

pub returns : goal.returns
returns c = port_examples
