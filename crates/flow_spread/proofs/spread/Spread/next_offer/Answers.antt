use Rattle.std.proofs.Common.{◌≡◌, ◌∙◌, Some, sym}
use Rattle.flow_spread.specs.Spread.{next_place}
use Rattle.flow_spread.proofs.NextOffer.{next_is, prepared_may}
use Rattle.flow_spread.proofs.spread.Spread.next_offer.Goals as goal

pub offer-header-requires-clause-may : goal.offer-header-requires-clause-may
offer-header-requires-clause-may c =
    let s = c.args.self.now in
    let named : next_place s ≡ Some c.in-Some.place = sym c.next_place.ensures.place ∙ c.in-Some.is in
    let next = next_is s c.in-Some.place named in
    rw (c.in_ok-prepare_offer.ensures.done, c.next_place.ensures.kept) (prepared_may s c.in-Some.place next.there next.may)
