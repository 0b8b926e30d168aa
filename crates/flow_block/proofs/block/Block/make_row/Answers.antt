use Rattle.std.proofs.Common.{◌≡◌, length, subst, sym}
use Rattle.flow_value.specs.declared.value.Value.TheVariants.{Row}
use Rattle.flow_block.specs.Block.{BlockState}
use Rattle.flow_block.proofs.RoomFits.{row_fits, fits_row}
use Rattle.flow_block.proofs.block.Block.make_row.Goals as goal

pub put_group-requires : goal.put_group-requires
put_group-requires c =
    let alone = subst (λ (block : BlockState). length block.ports ≡ 1) (sym c.self.view_is) c.requires.alone in
    record {
      fits = rw c.group_weight-weight.ensures.weight
          (row_fits c.self.invariant c.index-2.result.now c.index-2.ensures alone c.group_weight-weight.ensures.small c.self.inside.size);
    }

pub invariant_of-self-2 : goal.invariant_of-self-2
invariant_of-self-2 c =
    let alone = subst (λ (block : BlockState). length block.ports ≡ 1) (sym c.self.view_is) c.requires.alone in
    rw (c.in_ok-put_group.ensures.taken, c.in_ok-put_group.ensures.there, c.group_weight-weight.ensures.weight)
    (fits_row c.self.invariant c.index-2.result.now c.index_mut.result.now c.index-2.ensures c.index_mut.ensures.value alone
    c.group_weight-weight.ensures.small c.self.inside.size (Row c.in-Ok-new.row))
