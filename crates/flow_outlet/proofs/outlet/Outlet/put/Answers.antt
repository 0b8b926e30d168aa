use Rattle.std.proofs.Common.{◌≡◌, ◌<◌, ◌+◌, ◌^◌, false, subst, sym, arith}
use Rattle.flow_outlet.specs.Fits.{weight_of}
use Rattle.flow_outlet.specs.Outlet.{OutletState, lacks_ids}
use Rattle.flow_outlet.proofs.OutletFits.{fits_put, ids_there}
use Rattle.flow_outlet.proofs.outlet.Outlet.put.Goals as goal

pub invariant_of-self-2 : goal.invariant_of-self-2
invariant_of-self-2 c =
    let small = subst (λ (o : OutletState). o.room + weight_of o.groups + c.args.weight < 2 ^ 32) (sym c.self.view_is) c.requires in
    let enough = subst (λ (o : OutletState). lacks_ids c.args.values.items o ≡ false) (sym c.self.view_is)
    (rw c.lacks_ids_of.ensures at c.if-lacks_ids_of.false) in
    let ids = ids_there c.args.values.items c.self.inside.left.items c.self.inside.next c.self.inside.spare c.self.invariant.ids_fit enough in
    rw (
      c.cursor_with-self-inside.ensures,
      c.front-head.ensures,
      c.deref-2.ensures.value,
      c.append.ensures.items,
      c.is_empty-was_empty.ensures,
      c.add_group.ensures.groups,
      c.weight_at_once.ensures,
      c.left_count.ensures,
      c.count-count.ensures.count,
      c.deref.ensures.value,
      c.make_room.ensures.left,
      c.make_room.ensures.groups,
    )
    (fits_put c.self.invariant c.args.values.items c.args.weight c.self.inside.spare 1 _ _ (λ _. omega arith) (omega (arith, ids)) small
    (omega (arith, c.in-Ok.ensures.space, c.append.ensures.capacity, c.count-count.ensures.count))
    (omega (arith, c.in-Ok.ensures.slots, c.add_group.ensures.capacity)))
