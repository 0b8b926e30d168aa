use Rattle.std.proofs.Common.{rules, ◌∙◌, sym}
use Rattle.flow_intake.proofs.AnswersTell.{accepted_has_room, room_with_link}
use Rattle.flow_intake.proofs.intake.Intake.answer.Goals as goal

pub accept-requires-clause-room : goal.accept-requires-clause-room
accept-requires-clause-room c =
    rw c.in_ok-place-in-Accepted.ensures.done
    (room_with_link c.args.link c.args.self.now ∙ accepted_has_room c.args.may_postpone c.args.self.now (sym c.answer_to-status.ensures ∙ c.in-Accepted.is))

pub returns-in-Declined-clause-status : goal.returns-in-Declined-clause-status
returns-in-Declined-clause-status c =
    search rules
