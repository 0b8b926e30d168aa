use Rattle.std.proofs.Common.{◌<◌, false, length, arith}
use Rattle.std.proofs.lemmas.List.Edits.{map_over_more}
use Rattle.flow_exit.specs.Exit.{ExitCall, after_exit}
use Rattle.flow_board.proofs.gathering.ask_no_more.Goals as goal

pub loop-place-preserved : goal.loop-place-preserved
loop-place-preserved c =
    let here : c.loop-place.place < length c.args.exits.now.items = omega (arith, c.loop-place-test.true, c.len-place-end.ensures, c.args.exits.now.ok) in
    rw c.ask_no_more.ensures (map_over_more (after_exit (ExitCall.ask false)) c.args.exits.now.items c.loop-place.exits.items c.loop-place.place _ here c.loop-place.invariant c.index_mut.ensures.value)
