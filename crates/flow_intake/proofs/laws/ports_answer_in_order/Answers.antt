use Rattle.flow_intake.proofs.ProfileHolds.{answers_tell, oldest_first, room_adds_up}
use Rattle.flow_intake.proofs.laws.ports_answer_in_order.Goals as goal

pub returns-clause-answers : goal.returns-clause-answers
returns-clause-answers c = answers_tell

pub returns-clause-oldest_first : goal.returns-clause-oldest_first
returns-clause-oldest_first c = oldest_first

pub returns-clause-room : goal.returns-clause-room
returns-clause-room c = room_adds_up
