use Rattle.flow_core.proofs.ExitsEnded.{ended_exits_stay as no_event_changes_them}
use Rattle.flow_core.proofs.laws.ended_exits_stay.Goals as goal

pub returns : goal.returns
returns g c = no_event_changes_them
