use Rattle.std.proofs.Common.{◌≡◌, ◌≤◌, vec_len, vec_capacity}
use Rattle.flow_task.proofs.frame.empty_cells.Given as goal

abbrev pub invariant-loop-place : goal.invariant-loop-place
invariant-loop-place l = (vec_len l.cells ≡ l.place) × (l.fn.count ≤ vec_capacity l.cells)
