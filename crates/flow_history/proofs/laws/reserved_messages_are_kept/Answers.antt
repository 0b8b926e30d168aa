use Rattle.flow_history.proofs.ReservedKept.{reserved_kept}
use Rattle.flow_history.proofs.laws.reserved_messages_are_kept.Goals as goal

pub returns : goal.returns
returns g = reserved_kept
