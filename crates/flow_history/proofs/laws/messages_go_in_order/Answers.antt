use Rattle.flow_history.proofs.OrderAlways.{messages_in_order}
use Rattle.flow_history.proofs.laws.messages_go_in_order.Goals as goal

pub returns : goal.returns
returns g c = messages_in_order _
