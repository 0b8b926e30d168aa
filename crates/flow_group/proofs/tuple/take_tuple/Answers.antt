use Rattle.std.proofs.Common.{◌<◌, length, arith}
use Rattle.std.proofs.lemmas.List.Edits.{map_over_more}
use Rattle.flow_intake.specs.Calls.{takes_next}
use Rattle.flow_group.proofs.tuple.take_tuple.Goals as goal

pub loop-place-preserved : goal.loop-place-preserved
loop-place-preserved c =
    let here : c.loop-place.place < length c.args.ports.now = omega (arith, c.loop-place-test.true) in
    rw (c.drop_next.ensures, ← c.index-ports-place.is) (map_over_more takes_next c.args.ports.now c.loop-place.ports c.loop-place.place _ here c.loop-place.invariant c.index-ports-place.is)
