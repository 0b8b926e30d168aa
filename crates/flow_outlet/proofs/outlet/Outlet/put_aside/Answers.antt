use Rattle.std.proofs.Common.{◌<◌, ◌≤◌, ◌+◌, ◌-◌, ◌^◌, length, subst, sym, arith}
use Rattle.flow_outlet.specs.Fits.{weight_of}
use Rattle.flow_outlet.specs.Outlet.{OutletState}
use Rattle.flow_outlet.proofs.OutletFits.{fits_put, has_some}
use Rattle.flow_outlet.proofs.outlet.Outlet.put_aside.Goals as goal

pub invariant_of-self : goal.invariant_of-self
invariant_of-self c =
    let small = subst (λ (o : OutletState). o.room + weight_of o.groups + c.args.weight < 2 ^ 32) (sym c.self.view_is) c.requires.weight in
    let aside = subst (λ (o : OutletState). length c.args.values.items ≤ o.spare) (sym c.self.view_is) c.requires.aside in
    let count = length c.args.values.items in
    rw (
      c.cursor_with-self-inside.ensures,
      c.front-head.ensures,
      c.deref-2.ensures.value,
      c.append.ensures.items,
      c.is_empty-was_empty.ensures,
      c.add_group.ensures.groups,
      c.weight_at_once.ensures,
      c.left_count.ensures,
      c.count-count.ensures.count,
      c.deref.ensures.value,
    )
    (fits_put c.self.invariant c.args.values.items c.args.weight (c.self.inside.spare - count) count _ _ (has_some count)
    (omega (arith, aside, c.self.invariant.ids_fit)) small
    (omega (arith, aside, c.self.invariant.values_fit, c.append.ensures.capacity))
    (omega (arith, aside, c.self.invariant.groups_fit, c.add_group.ensures.capacity)))
