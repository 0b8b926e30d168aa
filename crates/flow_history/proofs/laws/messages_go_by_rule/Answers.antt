use Rattle.flow_history.proofs.OrderAlways.{messages_go}
use Rattle.flow_history.proofs.laws.messages_go_by_rule.Goals as goal

pub returns : goal.returns
returns g c = messages_go _
