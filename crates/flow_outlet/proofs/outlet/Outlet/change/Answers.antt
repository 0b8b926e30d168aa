use Rattle.std.proofs.Common.{◌<◌, length, subst, sym}
use Rattle.flow_outlet.specs.Outlet.{OutletState}
use Rattle.flow_outlet.proofs.OutletFits.{away_counted, away_below, waiting_counted, waiting_below, fits_changed}
use Rattle.flow_outlet.proofs.outlet.Outlet.change.Goals as goal

pub recounted-self-inside-requires-clause-counted :
    goal.recounted-self-inside-requires-clause-counted
recounted-self-inside-requires-clause-counted c =
    let here = subst (λ (o : OutletState). c.args.place < length o.ends) (sym c.self.view_is) c.requires in
    rw c.is_away.ensures (away_counted c.self.invariant c.args.place here _ c.index.ensures)

pub recounted-self-inside-requires-clause-fits : goal.recounted-self-inside-requires-clause-fits
recounted-self-inside-requires-clause-fits c =
    let here = subst (λ (o : OutletState). c.args.place < length o.ends) (sym c.self.view_is) c.requires in
    away_below c.self.invariant c.args.place here _ c.index.ensures

pub recounted-self-inside-requires-2-clause-counted :
    goal.recounted-self-inside-requires-2-clause-counted
recounted-self-inside-requires-2-clause-counted c =
    let here = subst (λ (o : OutletState). c.args.place < length o.ends) (sym c.self.view_is) c.requires in
    rw c.is_waiting.ensures (waiting_counted c.self.invariant c.args.place here _ c.index.ensures)

pub recounted-self-inside-requires-2-clause-fits :
    goal.recounted-self-inside-requires-2-clause-fits
recounted-self-inside-requires-2-clause-fits c =
    let here = subst (λ (o : OutletState). c.args.place < length o.ends) (sym c.self.view_is) c.requires in
    waiting_below c.self.invariant c.args.place here _ c.index.ensures

pub invariant_of-self : goal.invariant_of-self
invariant_of-self c =
    let here = subst (λ (o : OutletState). c.args.place < length o.ends) (sym c.self.view_is) c.requires in
    rw (
      c.cursor_after-self-inside.ensures,
      c.front-head.ensures,
      c.deref.ensures.value,
      c.recounted-self-inside.ensures,
      c.recounted-self-inside-2.ensures,
      c.is_away.ensures,
      c.is_away-2.ensures,
      c.is_waiting.ensures,
      c.is_waiting-2.ensures,
    )
    (fits_changed c.self.invariant c.args.place here _ c.index.ensures _)
