use Rattle.std.proofs.Common.{◌≡◌, ◌<◌, false, length, subst, sym, arith}
use Rattle.std.proofs.lemmas.List.{get_or-set_same}
use Rattle.flow_spread.specs.End.{end_in, no_end, is_open, moved}
use Rattle.flow_spread.specs.Spread.{SpreadState}
use Rattle.flow_spread.proofs.SpreadFits.{fits_moved}
use Rattle.flow_spread.proofs.spread.Spread.go_to.Goals as goal

pub invariant_of-self-else-is_open : goal.invariant_of-self-else-is_open
invariant_of-self-else-is_open c =
    let ends = c.self.inside.ends in
    let here = subst (λ (s : SpreadState). c.args.place < length s.ends) (sym c.self.view_is) c.requires in
    let after = moved c.args.link c.args.owes (end_in ends c.args.place) in
    let shut : is_open c.self.inside.id after ≡ false =
    rw (c.is_open.ensures, c.at.ensures, c.go_to.ensures, get_or-set_same ends c.args.place after no_end here) at c.if-is_open.false in
    rw c.go_to.ensures (fits_moved c.self.invariant c.args.place here c.args.link c.args.owes c.self.inside.cursor (omega arith) (λ _. shut))

pub invariant_of-self-else-place-self : goal.invariant_of-self-else-place-self
invariant_of-self-else-place-self c =
    let here = subst (λ (s : SpreadState). c.args.place < length s.ends) (sym c.self.view_is) c.requires in
    rw c.go_to.ensures (fits_moved c.self.invariant c.args.place here c.args.link c.args.owes c.self.inside.cursor (omega arith)
    (λ before. absurd (omega (arith, before, c.if-place-self.false))))
