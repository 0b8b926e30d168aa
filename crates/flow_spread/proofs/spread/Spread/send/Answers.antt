use Rattle.std.proofs.Common.{◌<◌, false, length, sym, subst, refl, arith}
use Rattle.flow_spread.specs.Spread.{SpreadState}
use Rattle.flow_spread.specs.Sends.{sent_link}
use Rattle.flow_spread.specs.End.{end_in}
use Rattle.flow_spread.specs.contracts.spread.Spread.{the_view}
use Rattle.flow_spread.proofs.SendsOver.{sends_is}
use Rattle.flow_spread.proofs.SpreadFits.{fits_moved}
use Rattle.flow_spread.proofs.spread.Spread.send.Goals as goal

pub invariant_of-self : goal.invariant_of-self
invariant_of-self c =
    let there = subst (λ (s : SpreadState). c.args.place < length s.ends) (sym c.self.view_is) c.requires.there in
    rw c.send.ensures.sent
    (fits_moved c.self.invariant c.args.place there (sent_link c.self.inside.id (end_in c.self.inside.ends c.args.place).link) false
    c.self.inside.cursor (omega arith) (λ _. refl))

pub returns-clause-sent : goal.returns-clause-sent
returns-clause-sent c =
    let there = subst (λ (s : SpreadState). c.args.place < length s.ends) (sym c.self.view_is) c.requires.there in
    rw (c.send.ensures.sent, ← c.self.view_is) (sym (sends_is (the_view c.self.inside) c.args.place there))
