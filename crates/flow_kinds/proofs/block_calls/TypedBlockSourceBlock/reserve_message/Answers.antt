use Rattle.flow_link.specs.SourceCalls.{SourceCall}
use Rattle.flow_kinds.proofs.KindsStay.{gives_stay, stays_of}
use Rattle.flow_kinds.proofs.block_calls.TypedBlockSourceBlock.reserve_message.Goals as goal

pub invariant_of-self : goal.invariant_of-self
invariant_of-self g c =
    stays_of g.K.Kind.kind c.self.inside.block c.reserve_message.new.self
    (gives_stay c.self.inside.block c.reserve_message.new.self (SourceCall.reserved c.args.link c.args.header c.reserve_message.result) c.reserve_message.ensures.gives) c.self.invariant
