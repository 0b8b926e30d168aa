use Rattle.std.proofs.Common.{◌<◌, length, arith}
use Rattle.std.proofs.lemmas.List.Edits.{map_over_more}
use Rattle.flow_outlet.specs.ByLink.{forgotten_for}
use Rattle.flow_outlet.proofs.ends.forget_answers.Goals as goal

pub loop-place-preserved : goal.loop-place-preserved
loop-place-preserved c =
    let here : c.loop-place.place < length c.args.ends.now.items = omega (arith, c.loop-place-test.true, c.len-place-end.ensures, c.args.ends.now.ok) in
    rw c.forgotten_for-end.ensures (map_over_more (forgotten_for c.args.id) c.args.ends.now.items c.loop-place.ends.items c.loop-place.place _ here c.loop-place.invariant c.index.ensures)
