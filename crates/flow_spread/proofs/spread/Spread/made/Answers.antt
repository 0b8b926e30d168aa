use Rattle.std.proofs.Common.{◌<◌, ◌^◌, length, arith}
use Rattle.flow_spread.proofs.SpreadFits.{fits_fresh}
use Rattle.flow_spread.proofs.spread.Spread.made.Goals as goal

pub invariant_of-result : goal.invariant_of-result
invariant_of-result c =
    let few : length c.args.rules.items < 2 ^ 63 = omega (arith, c.args.rules.small, c.args.rules.ok) in
    rw (c.in-Ok.ensures.ends, c.deref.ensures.value)
    (fits_fresh c.args.rules.items _ few (omega (arith, c.id.ensures.value, c.id.ensures.low, c.id.ensures.high)))
