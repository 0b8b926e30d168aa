use Rattle.std.proofs.Common.{◌≡◌}
use Rattle.flow_low_rows.proofs.hand_over.receive.Given as goal

abbrev pub invariant-loop-turn : goal.invariant-loop-turn
invariant-loop-turn l = (l.receiver.end.table ≡ l.wire) × (l.receiver.end.table ≡ l.initial.receiver.end.table)
