use Rattle.flow_input.proofs.InputsAreParts.{inputs_are_parts}
use Rattle.flow_input.proofs.laws.inputs_are_parts.Goals as goal

pub returns : goal.returns
returns g c = inputs_are_parts _
