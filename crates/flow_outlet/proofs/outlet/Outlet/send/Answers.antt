use Rattle.std.proofs.Common.{◌≡◌, None, subst, sym, ◌∙◌, ap, rules}
use Rattle.flow_outlet.specs.Order.{IsNextOffer}
use Rattle.flow_outlet.specs.Outlet.{OutletState}
use Rattle.flow_outlet.specs.Sends.{sends}
use Rattle.flow_outlet.specs.contracts.outlet.Outlet.{the_view}
use Rattle.flow_outlet.proofs.OffersInOrder.{named_is}
use Rattle.flow_outlet.proofs.SendsOver.{fits_sent, is_sent}
use Rattle.flow_outlet.proofs.outlet.Outlet.send.Goals as goal

pub invariant_of-self : goal.invariant_of-self
invariant_of-self c =
    let taken : c.parcel_to_send.new.self ≡ record c.args.self.now { parcel = None } = search rules in
    let may = named_is (record c.args.self.now { parcel = None }) c.args.place c.requires.may in
    let next = subst (λ (o : OutletState). IsNextOffer o c.args.place) (sym (c.self.view_is ∙ taken)) may in
    rw (
      c.first_from-self-inside.ensures,
      c.front.ensures,
      c.deref.ensures.value,
      c.end_group.ensures.rest,
      c.end_group.ensures.weight,
      ap (λ (o : OutletState). o.parcel) (c.self.view_is ∙ taken),
      c.pop_head-head.ensures.capacity,
      c.end_group.ensures.capacity,
      c.note_sent.ensures,
    )
    (fits_sent c.self.invariant c.args.place next.there next.free _ c.index_mut.ensures.value
    _ _ c.pop_head-head.ensures.oldest)

pub returns-clause-sent : goal.returns-clause-sent
returns-clause-sent c =
    let taken : c.parcel_to_send.new.self ≡ record c.args.self.now { parcel = None } = search rules in
    let may = named_is (record c.args.self.now { parcel = None }) c.args.place c.requires.may in
    let next = subst (λ (o : OutletState). IsNextOffer o c.args.place) (sym (c.self.view_is ∙ taken)) may in
    is_sent (the_view c.self.inside) c.args.place next _ _ c.index_mut.ensures.value c.note_sent.ensures
    _ _ c.pop_head-head.ensures.oldest _ (ap (λ (o : OutletState). o.parcel) (c.self.view_is ∙ taken)) _ c.end_group.ensures.rest _ c.end_group.ensures.weight
    ∙ ap (λ (o : OutletState). sends c.args.place o) (c.self.view_is ∙ taken)
