use Rattle.std.proofs.Common.{◌≡◌, ◌≤◌, ◌-◌, length, map, vec_capacity}
use Rattle.flow_link.specs.Lists.{numbers_from}
use Rattle.flow_link.specs.Planned.{layout_of}
use Rattle.flow_exec.specs.Works.{works_of}
use Rattle.flow_task.specs.Known.{in_known, out_known}
use Rattle.flow_task.specs.Numbers.{task_count}
use Rattle.flow_task.specs.Parts.{AllTasksOf, node_in, task_number}
use Rattle.flow_task.proofs.BlocksApart.{BlocksTaken}
use Rattle.flow_task.proofs.apart.Blocks.take.Given as goal

-- so many blocks are taken, and there is room for the rest
abbrev pub invariant-loop : goal.invariant-loop
invariant-loop g l =
    let layout = layout_of l.board.rest.plan in
    BlocksTaken layout (works_of g.W.Runs.meaning layout) l.board.wires.items (λ row. map out_known row.items)
    (λ ports. map (λ row. map in_known row.items) ports.items) node_in l.fn.tasks.items l.counter l.self.nodes.items l.self.outs.items
    l.self.ins.items l.tasks.items
    × (AllTasksOf l.board l.tasks.items
    × ((map task_number l.tasks.items ≡ numbers_from l.counter (task_count layout l.board.opens.items - l.counter))
    × ((length layout.blocks ≤ vec_capacity l.self.nodes)
    × ((length layout.blocks ≤ vec_capacity l.self.outs)
    × (length layout.blocks ≤ vec_capacity l.self.ins)))))
