use Rattle.std.proofs.Common.{rules}
use Rattle.flow_intake.proofs.intake.Intake.next_place.Goals as goal

pub returns-then-has_room : goal.returns-then-has_room
returns-then-has_room c =
    search rules
