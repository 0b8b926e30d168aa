use Rattle.std.proofs.Common.{◌≡◌}
use Rattle.flow_block_rows.proofs.two_threads.work_off.Given as goal

abbrev pub invariant-loop-place : goal.invariant-loop-place
invariant-loop-place l = (l.side.table ≡ l.lane) × (l.side.table ≡ l.initial.side.table)
