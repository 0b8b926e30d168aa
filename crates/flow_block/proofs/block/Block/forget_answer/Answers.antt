use Rattle.std.proofs.Common.{◌<◌, length, subst, sym}
use Rattle.flow_block.specs.Block.{BlockState}
use Rattle.flow_block.proofs.RoomFits.{fits_port}
use Rattle.flow_block.proofs.block.Block.forget_answer.Goals as goal

pub invariant_of-self : goal.invariant_of-self
invariant_of-self c =
    let here = subst (λ (block : BlockState). c.args.port < length block.ports) (sym c.self.view_is) c.requires in
    rw c.forget_answer.ensures (fits_port c.self.invariant c.args.port c.index_mut.result.now _ here c.index_mut.ensures.value (λ out. out))
