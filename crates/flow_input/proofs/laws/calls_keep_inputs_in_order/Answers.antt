use Rattle.flow_input.proofs.InputsMove.{inputs_keep}
use Rattle.flow_input.proofs.laws.calls_keep_inputs_in_order.Goals as goal

pub returns : goal.returns
returns c = inputs_keep
