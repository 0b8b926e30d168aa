use Rattle.std.proofs.Common.{◌≡◌, ◌++◌, false, take, drop, map}
use Rattle.flow_exit.specs.Exit.{ExitCall, after_exit}
use Rattle.flow_board.proofs.gathering.ask_no_more.Given as goal

abbrev pub invariant-loop-place : goal.invariant-loop-place
invariant-loop-place l =
    l.exits.items ≡ map (after_exit (ExitCall.ask false)) (take l.place l.initial.exits.items) ++ drop l.place l.initial.exits.items
