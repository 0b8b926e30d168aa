use Rattle.flow_link.specs.BlockCalls.{BlockCall}
use Rattle.flow_kinds.proofs.KindsStay.{acts_stay, stays_of}
use Rattle.flow_kinds.proofs.block_calls.TypedBlockDataflowBlock.complete.Goals as goal

pub invariant_of-self : goal.invariant_of-self
invariant_of-self g c =
    stays_of g.K.Kind.kind c.self.inside.block c.complete.new.self
    (acts_stay c.self.inside.block c.complete.new.self (BlockCall.completed c.args.port) c.complete.ensures.acts) c.self.invariant
