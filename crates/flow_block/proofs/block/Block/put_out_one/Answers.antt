use Rattle.std.proofs.Common.{◌≡◌, ◌<◌, ◌∷◌, [], length, subst, sym}
use Rattle.flow_block.specs.Block.{BlockState, held_by}
use Rattle.flow_block.proofs.RoomFits.{fits_put_out}
use Rattle.flow_block.proofs.block.Block.put_out_one.Goals as goal

pub invariant_of-self-2 : goal.invariant_of-self-2
invariant_of-self-2 c =
    let alone = subst (λ (block : BlockState). length block.ports ≡ 1) (sym c.self.view_is) c.requires.alone in
    let waits = subst (λ (block : BlockState). 0 < length (held_by block)) (sym c.self.view_is) c.requires.waits in
    rw (c.take_next-message.ensures.taken, c.in_ok-put_one.ensures.done, c.unit_weight-weight.ensures.weight)
    (fits_put_out c.self.invariant c.index.result.now c.index_mut.result.now c.index.ensures c.index_mut.ensures.value alone waits c.unit_weight-weight.ensures.small (c.args.value ∷ []))
