use Rattle.std.proofs.Common.{◌≡◌, ◌<◌, true, length, subst, sym}
use Rattle.flow_group.specs.Tuple.{has_tuple}
use Rattle.flow_block.specs.Block.{BlockState}
use Rattle.flow_block.proofs.TuplesFit.{tuple_fits, fits_tuple}
use Rattle.flow_block.proofs.block.Block.make_tuple.Goals as goal

pub put_tuple-requires : goal.put_tuple-requires
put_tuple-requires c =
    let some = subst (λ (block : BlockState). 0 < length block.ports) (sym c.self.view_is) c.requires.ports in
    let waits = subst (λ (block : BlockState). has_tuple block.ports ≡ true) (sym c.self.view_is) c.requires.waits in
    record {
      waits = waits;
      fits = rw c.unit_weight-weight.ensures.weight
          (tuple_fits c.self.invariant some waits c.index.result.now c.index.ensures c.unit_weight-weight.ensures.small);
    }

pub invariant_of-self-2 : goal.invariant_of-self-2
invariant_of-self-2 c =
    let some = subst (λ (block : BlockState). 0 < length block.ports) (sym c.self.view_is) c.requires.ports in
    let waits = subst (λ (block : BlockState). has_tuple block.ports ≡ true) (sym c.self.view_is) c.requires.waits in
    rw (c.in_ok-put_tuple.ensures.taken, c.in_ok-put_tuple.ensures.there, c.unit_weight-weight.ensures.weight)
    (fits_tuple c.self.invariant some waits c.index.result.now c.index.ensures c.unit_weight-weight.ensures.small c.in-Ok.row)
