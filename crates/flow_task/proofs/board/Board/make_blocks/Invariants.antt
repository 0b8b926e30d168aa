use Rattle.std.proofs.Common.{◌≡◌, ◌++◌, length, map, drop, vec_len, vec_capacity}
use Rattle.std.specs.Vec.Iter.{into_iter_items}
use Rattle.flow_link.specs.Lists.{below}
use Rattle.flow_task.specs.Parts.{AllTasksOf, marks_in, task_number}
use Rattle.flow_task.proofs.board.Board.make_blocks.Given as goal

-- the first blocks have their tasks, and the ends and lanes of the others are left
abbrev pub invariant-loop-node : goal.invariant-loop-node
invariant-loop-node g l =
    (l.fn.nodes.items ≡ l.yielded ++ into_iter_items l.node-iterator)
    × ((l.number ≡ length l.yielded)
    × ((l.outs.items ≡ drop l.number l.fn.outs.items)
    × (((l.ins.items ≡ drop l.number l.fn.ins.items) × (l.rows.items ≡ drop l.number l.fn.rows.items))
    × (AllTasksOf l.fn.self l.tasks.items
    × ((map task_number l.tasks.items ≡ below l.number)
    × ((map marks_in l.tasks.items ≡ map (λ node. node.journal) l.yielded)
    × ((vec_len l.tasks ≡ l.number) × (vec_capacity l.tasks ≡ vec_capacity l.fn.tasks))))))))
