use Rattle.std.proofs.Common.{arith}
use Rattle.flow_spread.proofs.SpreadFits.{fits_put}
use Rattle.flow_spread.proofs.spread.Spread.put.Goals as goal

pub invariant_of-self : goal.invariant_of-self
invariant_of-self c =
    rw c.take_up.ensures (fits_put c.self.invariant c.args.value (omega (arith, c.if-self-ge-MAX_ID.false)))
