use Rattle.std.proofs.Common.{rules}
use Rattle.flow_group.proofs.round.Round.held_move.Goals as goal

pub returns-in-Asks : goal.returns-in-Asks
returns-in-Asks c =
    search rules
