use Rattle.flow_core.proofs.InputsChange.{event_changes, posted_lists_stay}
use Rattle.flow_core.proofs.laws.events_leave_what_is_posted.Goals as goal

pub returns-clause-calls : goal.returns-clause-calls
returns-clause-calls g c = λ layout meaning net event. event_changes layout meaning net event

pub returns-clause-posted : goal.returns-clause-posted
returns-clause-posted g c = posted_lists_stay
