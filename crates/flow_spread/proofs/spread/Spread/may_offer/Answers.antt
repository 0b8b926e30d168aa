use Rattle.std.proofs.Common.{rules}
use Rattle.flow_spread.proofs.spread.Spread.may_offer.Goals as goal

pub returns-else-is_some : goal.returns-else-is_some
returns-else-is_some c =
    search rules
