use Rattle.std.proofs.Common.{◌+◌, ◌-◌, ◌≤◌, length}
use Rattle.flow_block.proofs.GroupNoted.{Noted}
use Rattle.flow_block.proofs.groups.note_first.Given as goal

abbrev pub invariant-loop-place : goal.invariant-loop-place
invariant-loop-place l =
    Noted l.journal l.from l.count l.order.ports l.place × (l.count ≤ length l.order.ports + l.order.room)

abbrev pub decreases-loop-place : goal.decreases-loop-place
decreases-loop-place l = length l.journal - l.place
