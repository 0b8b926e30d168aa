use Rattle.flow_history.proofs.MessagesKept.{messages_kept}
use Rattle.flow_history.proofs.laws.messages_are_kept.Goals as goal

pub returns : goal.returns
returns g = messages_kept
