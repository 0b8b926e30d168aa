use Rattle.std.proofs.Common.{◌<◌, ◌+◌, ◌^◌, length, subst, sym, arith}
use Rattle.flow_outlet.specs.Fits.{weight_of}
use Rattle.flow_outlet.specs.Outlet.{OutletState}
use Rattle.flow_outlet.proofs.OutletFits.{fits_put_one}
use Rattle.flow_outlet.proofs.outlet.Outlet.put_one.Goals as goal

pub invariant_of-self-2 : goal.invariant_of-self-2
invariant_of-self-2 c =
    let small = subst (λ (o : OutletState). o.room + weight_of o.groups + c.args.weight < 2 ^ 32) (sym c.self.view_is) c.requires in
    let ids : c.self.inside.next + length c.self.inside.left.items + c.self.inside.spare < 2 ^ 59 =
    grind (arith, c.if-start-self-gt-MAX_ID.false, c.left_count.ensures) in
    rw (
      c.cursor_with-self-inside.ensures,
      c.front-head.ensures,
      c.deref.ensures.value,
      c.push_back_reserved.ensures.items,
      c.is_empty-was_empty.ensures,
      c.add_group.ensures.groups,
      c.left_count.ensures,
      c.make_room.ensures.left,
      c.make_room.ensures.groups,
    )
    (fits_put_one c.self.invariant c.args.value c.args.weight _ _ ids small
    (omega (arith, c.in-Ok.ensures.space, c.push_back_reserved.ensures.capacity))
    (omega (arith, c.in-Ok.ensures.slots, c.add_group.ensures.capacity)))
