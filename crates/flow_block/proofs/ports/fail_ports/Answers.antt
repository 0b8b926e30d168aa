use Rattle.std.proofs.Common.{◌<◌, length, arith}
use Rattle.std.proofs.lemmas.List.Edits.{map_over_more}
use Rattle.flow_intake.specs.Calls.{port_fails}
use Rattle.flow_block.proofs.ports.fail_ports.Goals as goal

pub loop-place-preserved : goal.loop-place-preserved
loop-place-preserved c =
    let here : c.loop-place.place < length c.args.ports.now.items = omega (arith, c.loop-place-test.true, c.len-place-end.ensures, c.args.ports.now.ok) in
    rw c.fail_port.ensures (map_over_more port_fails c.args.ports.now.items c.loop-place.ports.items c.loop-place.place _ here c.loop-place.invariant c.index_mut.ensures.value)
