use Rattle.std.proofs.Common.{◌≡◌}
use Rattle.flow_block_rows.proofs.two_threads.wait_for_result.Given as goal

abbrev pub invariant-loop-looks : goal.invariant-loop-looks
invariant-loop-looks l = (l.block.table ≡ l.lane) × (l.block.table ≡ l.initial.block.table)
