use Rattle.std.proofs.Common.{◌≡◌, ◌<◌, ◌≤◌, length, subst, sym, ap, arith}
use Rattle.flow_block.specs.Block.{BlockState, held_by, port_in}
use Rattle.flow_block.proofs.JobsOut.{aside_fits}
use Rattle.flow_block.proofs.RoomFits.{fits_put_out}
use Rattle.flow_block.proofs.block.Block.put_front.Goals as goal

pub invariant_of-self-2 : goal.invariant_of-self-2
invariant_of-self-2 c =
    let alone = subst (λ (block : BlockState). length block.ports ≡ 1) (sym c.self.view_is) c.requires.alone in
    let held = subst (λ (block : BlockState). length block.jobs.slots ≤ length (held_by block)) (sym c.self.view_is) c.requires.held in
    let waits : 0 < length (port_in c.self.inside.ports.items 0).waiting = omega (arith, held, ap length c.in-Some.ensures.first) in
    rw (c.drop_next.ensures, c.put_aside.ensures, c.unit_weight-weight.ensures.weight)
    (aside_fits (fits_put_out c.self.invariant c.index.result.now c.index_mut.result.now c.index.ensures c.index_mut.ensures.value alone waits c.unit_weight-weight.ensures.small c.in-Some.values.items) _)
