use Rattle.flow_law.proofs.KeptAtRest.{two_wait_at_rest}
use Rattle.flow_law.proofs.laws.parts_rest_while_messages_wait.Goals as goal

pub returns : goal.returns
returns c = two_wait_at_rest
