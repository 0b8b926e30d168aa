use Rattle.std.proofs.Common.{rules}
use Rattle.flow_spread.proofs.spread.Spread.reserve_message.Goals as goal

pub returns-clause-kept : goal.returns-clause-kept
returns-clause-kept c =
    search rules
