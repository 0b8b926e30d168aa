use Rattle.std.proofs.Common.{rules, ◌≡◌, ℕ, ◌≤◌, ◌+◌, ◌-◌, length, map, get_or, take, refl, sym, ap, ◌∙◌, subst, arith}
use Rattle.flow_link.specs.Lists.{numbers_from}
use Rattle.flow_link.specs.Planned.{layout_of}
use Rattle.flow_block_law.specs.NodeLaw.{NodeLaw}
use Rattle.flow_core.specs.State.{no_node}
use Rattle.flow_exec.specs.Works.{works_of}
use Rattle.flow_task.specs.Known.{in_known, ins_due, out_known, outs_due}
use Rattle.flow_task.specs.Numbers.{task_count}
use Rattle.flow_task.specs.Parts.{AllTasksOf, node_by, node_in, task_number}
use Rattle.flow_task.specs.declared.board.Board.{Board}
use Rattle.flow_task.proofs.LanesTaken.{nodes_mark, tickets_out}
use Rattle.flow_task.proofs.Places.{count_is}
use Rattle.flow_task.proofs.TakenApart.{count_left, known_there, number_here}
use Rattle.flow_task.proofs.BlocksApart.{BlocksTaken, block_more}
use Rattle.flow_task.proofs.TasksApart.{block_board, block_number, no_block}
use Rattle.flow_task.proofs.apart.Blocks.take.Goals as goal

pub unreachable-requires : goal.unreachable-requires
unreachable-requires g c =
    let i = c.loop.invariant in
    let board = c.args.board.now in
    let left = task_count (layout_of board.rest.plan) board.opens.items - c.loop.counter in
    let many = count_left task_number c.loop.tasks.items c.loop.counter left i.1.1.0 in
    omega (arith, many, c.loop.tasks.ok.0, c.in_default.ensures.cases.0)

pub unreachable-requires-in_default-kind : goal.unreachable-requires-in_default-kind
unreachable-requires-in_default-kind g c =
    let i = c.loop.invariant in
    let board = c.args.board.now in
    let task = c.in-Some.field-0 in
    let rest = c.pop_front.new.self.items in
    let of = subst (AllTasksOf board) c.in-Some.ensures.items i.1.0 in
    let left = task_count (layout_of board.rest.plan) board.opens.items - c.loop.counter in
    let here = number_here task_number rest task c.loop.counter left (ap (map task_number) (sym c.in-Some.ensures.items) ∙ i.1.1.0) in
    let later = no_block board task.kind task.number of.0 task.numbered task.kind refl c.in_default-kind.not-Block in
    omega (arith, here.0, later)

pub push_reserved-requires-in-loop : goal.push_reserved-requires-in-loop
push_reserved-requires-in-loop g c =
    let i = c.loop.invariant in
    let board = c.args.board.now in
    let due = λ (b : ℕ). outs_due (layout_of board.rest.plan) board.wires.items b (get_or c.loop.self.nodes.items b no_node) in
    let many = count_is (λ row. map out_known row.items) due c.loop.counter c.loop.self.outs.items i.0.outs_know in
    omega (arith, many, c.loop.self.outs.ok.0, i.1.1.1.1.0)

pub push_reserved-requires-in-loop-2 : goal.push_reserved-requires-in-loop-2
push_reserved-requires-in-loop-2 g c =
    let i = c.loop.invariant in
    let board = c.args.board.now in
    let due = λ (b : ℕ). ins_due (layout_of board.rest.plan) board.wires.items b (get_or c.loop.self.nodes.items b no_node) in
    let many = count_is (λ ports. map (λ row. map in_known row.items) ports.items) due c.loop.counter c.loop.self.ins.items i.0.ins_know in
    omega (arith, many, c.loop.self.ins.ok.0, i.1.1.1.1.1)

pub loop-preserved : goal.loop-preserved
loop-preserved g c =
    let i = c.loop.invariant in
    let board = c.args.board.now in
    let layout = layout_of board.rest.plan in
    let works = works_of g.W.Runs.meaning layout in
    let wires = board.wires.items in
    let n = c.loop.counter in
    let task = c.in-Some.field-0 in
    let whole = c.in-Block.task in
    let block = whole.block in
    let rest = c.pop_front.new.self.items in
    let split = c.in-Some.ensures.items in
    let of = subst (AllTasksOf board) split i.1.0 in
    let left = task_count layout board.opens.items - n in
    let here = number_here task_number rest task n left (ap (map task_number) (sym split) ∙ i.1.1.0) in
    let its = block_board board task.kind task.number of.0 task.numbered whole c.in-Block.is in
    let number = block_number board task.kind task.number of.0 task.numbered whole c.in-Block.is ∙ here.0 in
    let law = known_there
    (λ (b : Board _) (k : ℕ). ∥ NodeLaw (layout_of b.rest.plan) (works_of g.W.Runs.meaning (layout_of b.rest.plan)) k block.node ∥₁)
    block.of.value board block.number n its number block.law in
    let outs = known_there
    (λ (b : Board _) (k : ℕ). map out_known block.outs.items ≡ outs_due (layout_of b.rest.plan) b.wires.items k block.node)
    block.of.value board block.number n its number block.outs_know in
    let ins = known_there
    (λ (b : Board _) (k : ℕ). map (λ port. map in_known port.items) block.ins.items ≡ ins_due (layout_of b.rest.plan) b.wires.items k block.node)
    block.of.value board block.number n its number block.ins_know in
    let less : left - 1 ≡ task_count layout board.opens.items - (n + 1) = omega arith in
    let taken = subst (λ tasks. BlocksTaken layout works wires (λ row. map out_known row.items)
    (λ ports. map (λ row. map in_known row.items) ports.items) node_in c.args.tasks.now.items n c.loop.self.nodes.items c.loop.self.outs.items
    c.loop.self.ins.items tasks) split i.0 in (
      block_more layout works wires (λ row. map out_known row.items)
          (λ ports. map (λ row. map in_known row.items) ports.items) node_in c.args.tasks.now.items n c.loop.self.nodes.items c.loop.self.outs.items
          c.loop.self.ins.items task rest taken block.node block.outs block.ins c.push_reserved.new.self.items c.push_reserved-in-loop.new.self.items
          c.push_reserved-in-loop-2.new.self.items
          c.push_reserved.ensures.items c.push_reserved-in-loop.ensures.items c.push_reserved-in-loop-2.ensures.items law outs ins
          (sym (ap node_by c.in-Block.is)),
      (
        of.1,
        (
          here.1 ∙ ap (numbers_from (n + 1)) less,
          (
            subst (λ (cap : ℕ). length layout.blocks ≤ cap) (sym c.push_reserved.ensures.capacity) i.1.1.1.0,
            (
              subst (λ (cap : ℕ). length layout.blocks ≤ cap) (sym c.push_reserved-in-loop.ensures.capacity) i.1.1.1.1.0,
              subst (λ (cap : ℕ). length layout.blocks ≤ cap) (sym c.push_reserved-in-loop-2.ensures.capacity) i.1.1.1.1.1,
            ),
          ),
        ),
      ),
    )

pub returns-clause-journals : goal.returns-clause-journals
returns-clause-journals g c =
    let tasks = c.args.tasks.now.items in
    let blocks = length (layout_of c.args.board.now.rest.plan).blocks in
    let all : c.loop.counter ≡ blocks = search rules in
    nodes_mark tasks blocks c.loop.self.nodes.items (c.loop.invariant.0.nodes_are ∙ ap (λ (n : ℕ). map node_in (take n tasks)) all)

pub returns-clause-out : goal.returns-clause-out
returns-clause-out g c =
    let board = c.args.board.now in
    let tasks = c.args.tasks.now.items in
    let all : c.loop.counter ≡ length (layout_of board.rest.plan).blocks = search rules in
    tickets_out board tasks c.requires.of _ c.requires.numbers c.loop.self.nodes.items
    (c.loop.invariant.0.nodes_are ∙ ap (λ (n : ℕ). map node_in (take n tasks)) all)
