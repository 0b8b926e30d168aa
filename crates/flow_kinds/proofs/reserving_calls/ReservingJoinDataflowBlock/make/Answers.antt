use Rattle.flow_kinds.proofs.JoinFits.{make_fits}
use Rattle.flow_kinds.proofs.reserving_calls.ReservingJoinDataflowBlock.make.Goals as goal

pub invariant_of-self : goal.invariant_of-self
invariant_of-self c =
    make_fits c.self.inside.block c.make.new.self c.self.inside.round c.self.invariant c.make.result c.make.ensures.acts
