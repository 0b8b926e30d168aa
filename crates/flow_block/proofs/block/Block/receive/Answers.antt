use Rattle.std.proofs.Common.{◌<◌, length, subst, sym}
use Rattle.flow_link.specs.declared.phase.Phase.TheVariants.{Offered, Given}
use Rattle.flow_intake.specs.Calls.{wants, opens, looks}
use Rattle.flow_block.specs.Block.{BlockState}
use Rattle.flow_block.proofs.RoomFits.{fits_port, out_closed}
use Rattle.flow_block.proofs.block.Block.receive.Goals as goal

pub invariant_of-self : goal.invariant_of-self
invariant_of-self c =
    let here = subst (λ (block : BlockState). c.args.port < length block.ports) (sym c.self.view_is) c.requires.port in
    let place = c.args.place in
    let value = c.receive.result in
    rw (c.receive.ensures.received 0)
    (fits_port c.self.invariant c.args.port c.index_mut.result.now _ here c.index_mut.ensures.value
    (out_closed _ place value (opens place value (looks place (Given 0) (wants place (looks place (Offered 0) c.index_mut.result.now))))))
