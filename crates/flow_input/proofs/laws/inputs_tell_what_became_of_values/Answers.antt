use Rattle.flow_input.proofs.TellsMay.{inputs_tell}
use Rattle.flow_input.proofs.laws.inputs_tell_what_became_of_values.Goals as goal

pub returns : goal.returns
returns c = inputs_tell
