use Rattle.std.proofs.Common.{List, ap}
use Rattle.flow_spread.specs.contracts.spread.Spread.{the_view}
use Rattle.flow_spread.specs.declared.end.CopyEnd.{CopyEnd}
use Rattle.flow_spread.proofs.SpreadFits.{set_twice}
use Rattle.flow_spread.proofs.spread.Spread.hand_over.Goals as goal

pub returns-clause-over : goal.returns-clause-over
returns-clause-over c =
    rw (c.go_to.ensures, c.take_share.ensures.taken, ← c.self.view_is, c.requires.done)
    (ap (λ (ends : List CopyEnd). record (the_view c.self.inside) { ends = ends }) (set_twice c.self.inside.ends c.args.place _ _))
