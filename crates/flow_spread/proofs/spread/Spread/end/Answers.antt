use Rattle.std.proofs.Common.{rules}
use Rattle.flow_spread.proofs.spread.Spread.end.Goals as goal

pub returns : goal.returns
returns c =
    search rules
