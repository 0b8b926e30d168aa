use Rattle.std.proofs.Common.{◌≡◌, replicate}
use Rattle.flow_core.specs.State.{fresh_line}
use Rattle.flow_moves.proofs.fresh.lines_of.Given as goal

abbrev pub invariant-loop-made : goal.invariant-loop-made
invariant-loop-made l = l.lines.items ≡ replicate l._made fresh_line
