use Rattle.std.proofs.Common.{◌≡◌, ◌≤◌, ◌++◌, length, drop, take, vec_capacity}
use Rattle.std.specs.Vec.Iter.{into_iter_items}
use Rattle.flow_task.specs.Makes.{InputsMade}
use Rattle.flow_task.proofs.board.Board.make_inputs.Given as goal

-- the first inputs are made, and the ends of the others are left
abbrev pub invariant-loop-input : goal.invariant-loop-input
invariant-loop-input g l =
    (l.fn.inputs.items ≡ l.yielded ++ into_iter_items l.input-iterator)
    × ((l.place ≡ length l.yielded)
    × (((l.ends.items ≡ drop l.place l.fn.ends.items) × (l.waiting.items ≡ drop l.place l.fn.waiting.items))
    × (InputsMade l.fn.self l.place l.tasks.items l.entries.items
    × ((take (length l.fn.tasks.items) l.tasks.items ≡ l.fn.tasks.items)
    × ((length l.fn.tasks.items ≤ length l.tasks.items)
    × ((vec_capacity l.tasks ≡ vec_capacity l.fn.tasks) × (vec_capacity l.entries ≡ vec_capacity l.fn.entries)))))))
