use Rattle.std.proofs.Common.{◌≡◌}
use Rattle.flow_block_rows.proofs.two_threads.wait_for_job.Given as goal

abbrev pub invariant-loop-looks : goal.invariant-loop-looks
invariant-loop-looks l = (l.side.table ≡ l.lane) × (l.side.table ≡ l.initial.side.table)
