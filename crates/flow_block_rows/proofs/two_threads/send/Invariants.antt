use Rattle.std.proofs.Common.{◌≡◌}
use Rattle.flow_block_rows.proofs.two_threads.send.Given as goal

abbrev pub invariant-loop-ticket : goal.invariant-loop-ticket
invariant-loop-ticket l = (l.block.table ≡ l.lane) × (l.block.table ≡ l.initial.block.table)
