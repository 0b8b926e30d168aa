use Rattle.std.proofs.Common.{◌<◌, ◌^◌, length, arith}
use Rattle.flow_outlet.proofs.OutletFits.{fits_fresh}
use Rattle.flow_outlet.proofs.outlet.Outlet.new.Goals as goal

pub invariant_of-result : goal.invariant_of-result
invariant_of-result c =
    let few : length c.args.rules.items < 2 ^ 63 = omega (arith, c.args.rules.small, c.args.rules.ok) in
    rw (
      c.first_from-cursor.ensures,
      c.deref-2.ensures.value,
      c.in-Ok.ensures,
      c.deref.ensures.value,
      c.new.ensures.items,
      c.new-2.ensures.items,
      c.id.ensures.value,
      c.id-2.ensures.value,
    ) (fits_fresh c.args.rules.items c.args.first _ _ few c.id.ensures.low c.id.ensures.high)
