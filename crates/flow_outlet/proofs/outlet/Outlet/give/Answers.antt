use Rattle.std.proofs.Common.{◌<◌, length, subst, sym, arith}
use Rattle.flow_outlet.specs.Outlet.{OutletState}
use Rattle.flow_outlet.proofs.OutletFits.{away_counted, away_below, waiting_below, fits_given, weight_stays}
use Rattle.flow_outlet.proofs.outlet.Outlet.give.Goals as goal

pub recounted-self-inside-requires-clause-counted :
    goal.recounted-self-inside-requires-clause-counted
recounted-self-inside-requires-clause-counted c =
    let here = subst (λ (o : OutletState). c.args.place < length o.ends) (sym c.self.view_is) c.requires.there in
    rw c.is_away.ensures (away_counted c.self.invariant c.args.place here _ c.index.ensures)

pub recounted-self-inside-requires-clause-fits : goal.recounted-self-inside-requires-clause-fits
recounted-self-inside-requires-clause-fits c =
    let here = subst (λ (o : OutletState). c.args.place < length o.ends) (sym c.self.view_is) c.requires.there in
    away_below c.self.invariant c.args.place here _ c.index.ensures

pub recounted-self-inside-requires-2-clause-fits :
    goal.recounted-self-inside-requires-2-clause-fits
recounted-self-inside-requires-2-clause-fits c =
    let here = subst (λ (o : OutletState). c.args.place < length o.ends) (sym c.self.view_is) c.requires.there in
    waiting_below c.self.invariant c.args.place here _ c.index.ensures

pub overflow_add-self : goal.overflow_add-self
overflow_add-self c =
    rw c.end_group.ensures.weight (omega (arith, c.self.invariant.room_fits, weight_stays c.self.inside.next c.self.inside.groups.items))

pub invariant_of-self : goal.invariant_of-self
invariant_of-self c =
    let here = subst (λ (o : OutletState). c.args.place < length o.ends) (sym c.self.view_is) c.requires.there in
    rw (
      c.first_from-self-inside.ensures,
      c.front.ensures,
      c.deref.ensures.value,
      c.recounted-self-inside.ensures,
      c.recounted-self-inside-2.ensures,
      c.is_away.ensures,
      c.is_waiting.ensures,
      c.end_group.ensures.rest,
      c.end_group.ensures.weight,
      c.taken-head.ensures.none,
      c.taken-head.ensures.capacity,
      c.end_group.ensures.capacity,
      c.gave.ensures,
    )
    (fits_given c.self.invariant c.args.place here _ c.index.ensures _ _ c.taken-head.ensures.oldest)
