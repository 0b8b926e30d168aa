use Rattle.std.proofs.Common.{◌≡◌, ◌<◌, true, is_some, length, subst, sym, ap}
use Rattle.flow_spread.specs.End.{end_in}
use Rattle.flow_spread.specs.Spread.{SpreadState, prepares}
use Rattle.flow_spread.specs.contracts.spread.Spread.{the_view}
use Rattle.flow_spread.proofs.SpreadFits.{fits_tried, still_made, stays_made}
use Rattle.flow_spread.proofs.spread.Spread.prepare_offer.Goals as goal

pub returns-then-is_some-clause-done : goal.returns-then-is_some-clause-done
returns-then-is_some-clause-done c =
    let s = c.self.inside in
    let made : is_some (end_in s.ends c.args.place).share ≡ true = rw (c.is_some.ensures, c.at.ensures) at c.if-is_some.true in
    let same = stays_made s.ends s.element c.args.place (still_made c.self.invariant c.args.place made) in
    subst (λ (now : SpreadState). now ≡ prepares c.args.place now) c.self.view_is
    (ap (λ ends. record (the_view s) { ends = ends }) same)

pub invariant_of-self : goal.invariant_of-self
invariant_of-self c =
    let here = subst (λ (s : SpreadState). c.args.place < length s.ends) (sym c.self.view_is) c.requires in
    fits_tried c.self.invariant c.args.place here c.in-Some.value c.in-Some.is c.prepare.result c.prepare.new.self
    c.prepare.ensures.done c.prepare.ensures.kept
