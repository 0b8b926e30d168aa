use Rattle.std.proofs.Common.{◌≡◌}
use Rattle.flow_low_rows.proofs.hand_over.send.Given as goal

abbrev pub invariant-loop-turn : goal.invariant-loop-turn
invariant-loop-turn l = (l.sender.end.table ≡ l.wire) × (l.sender.end.table ≡ l.initial.sender.end.table)
