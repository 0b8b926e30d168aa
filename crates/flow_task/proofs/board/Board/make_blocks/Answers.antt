use Rattle.std.proofs.Common.{rules, ◌≡◌, ℕ, ◌+◌, ◌++◌, ◌∷◌, [], List, length, map, get_or, sym, ap, ◌∙◌, subst, arith, length-append, append_assoc}
use Rattle.std.specs.Vec.Iter.{into_iter_items}
use Rattle.flow_link.specs.Planned.{layout_of}
use Rattle.flow_block.specs.Node.{NodeState}
use Rattle.flow_block_law.specs.NodeLaw.{NodeLaw}
use Rattle.flow_core.specs.State.{no_node}
use Rattle.flow_exec.specs.Works.{works_of}
use Rattle.flow_task.specs.Known.{in_known, ins_due, out_known, outs_due}
use Rattle.flow_task.specs.Parts.{AllTasksOf, marks_in, task_number}
use Rattle.flow_task.proofs.Makes.{dropped, some_left, next_there, numbers_on, map_on, tasks_on}
use Rattle.flow_task.proofs.Places.{at_place, count_is}
use Rattle.flow_task.proofs.board.Board.make_blocks.Goals as goal

pub unreachable-requires : goal.unreachable-requires
unreachable-requires g c =
    let i = c.loop-node.invariant in
    let layout = layout_of c.args.self.now.rest.plan in
    let all = i.0 ∙ ap (λ (rest : List NodeState). c.loop-node.yielded ++ rest) c.in-Some.ensures.steps.0 in
    let long = ap length all ∙ length-append c.loop-node.yielded (c.in-Some.node ∷ into_iter_items c.next.new.self) in
    let many = count_is (λ row. map out_known row.items) (λ b. outs_due layout c.args.self.now.wires.items b (get_or c.args.nodes.items b no_node)) (length (layout_of c.args.self.now.rest.plan).blocks) c.args.outs.items c.requires.outs in
    let none : c.loop-node.outs.items ≡ [] = search rules in
    some_left c.loop-node.number c.args.outs.items (omega (arith, many, long, i.1.0, c.requires.count)) (sym i.1.1.0 ∙ none)

pub unreachable-requires-in_default-pop_front : goal.unreachable-requires-in_default-pop_front
unreachable-requires-in_default-pop_front g c =
    let i = c.loop-node.invariant in
    let layout = layout_of c.args.self.now.rest.plan in
    let all = i.0 ∙ ap (λ (rest : List NodeState). c.loop-node.yielded ++ rest) c.in-Some.ensures.steps.0 in
    let long = ap length all ∙ length-append c.loop-node.yielded (c.in-Some.node ∷ into_iter_items c.next.new.self) in
    let many = count_is (λ ports. map (λ row. map in_known row.items) ports.items) (λ b. ins_due layout c.args.self.now.wires.items b (get_or c.args.nodes.items b no_node)) (length (layout_of c.args.self.now.rest.plan).blocks) c.args.ins.items c.requires.ins in
    let none : c.loop-node.ins.items ≡ [] = search rules in
    some_left c.loop-node.number c.args.ins.items (omega (arith, many, long, i.1.0, c.requires.count)) (sym i.1.1.1.0.0 ∙ none)

pub unreachable-requires-in_default-pop_front-2 : goal.unreachable-requires-in_default-pop_front-2
unreachable-requires-in_default-pop_front-2 g c =
    let i = c.loop-node.invariant in
    let all = i.0 ∙ ap (λ (rest : List NodeState). c.loop-node.yielded ++ rest) c.in-Some.ensures.steps.0 in
    let long = ap length all ∙ length-append c.loop-node.yielded (c.in-Some.node ∷ into_iter_items c.next.new.self) in
    let many = c.requires.rows in
    let none : c.loop-node.rows.items ≡ [] = search rules in
    some_left c.loop-node.number c.args.rows.items (omega (arith, many, long, i.1.0, c.requires.count)) (sym i.1.1.1.0.1 ∙ none)

pub make_block-requires-clause-law : goal.make_block-requires-clause-law
make_block-requires-clause-law g c =
    let i = c.loop-node.invariant in
    let layout = layout_of c.args.self.now.rest.plan in
    let all = i.0 ∙ ap (λ (rest : List NodeState). c.loop-node.yielded ++ rest) c.in-Some.ensures.steps.0 in
    let long = ap length all ∙ length-append c.loop-node.yielded (c.in-Some.node ∷ into_iter_items c.next.new.self) in
    let node = ap (λ (n : ℕ). get_or c.args.nodes.items n no_node) i.1.0
    ∙ next_there c.args.nodes.items c.loop-node.yielded (into_iter_items c.next.new.self) c.in-Some.node no_node all in
    subst (λ (it : NodeState). ∥ NodeLaw layout (works_of g.W.Runs.meaning layout) c.loop-node.number it ∥₁) node
    (c.requires.laws c.loop-node.number (omega (arith, long, i.1.0, c.requires.count)))

pub make_block-requires-clause-outs : goal.make_block-requires-clause-outs
make_block-requires-clause-outs g c =
    let i = c.loop-node.invariant in
    let layout = layout_of c.args.self.now.rest.plan in
    let wires = c.args.self.now.wires.items in
    let k = c.loop-node.number in
    let all = i.0 ∙ ap (λ (rest : List NodeState). c.loop-node.yielded ++ rest) c.in-Some.ensures.steps.0 in
    let long = ap length all ∙ length-append c.loop-node.yielded (c.in-Some.node ∷ into_iter_items c.next.new.self) in
    let node = ap (λ (n : ℕ). get_or c.args.nodes.items n no_node) i.1.0
    ∙ next_there c.args.nodes.items c.loop-node.yielded (into_iter_items c.next.new.self) c.in-Some.node no_node all in
    let row = c.in-Some-pop_front.outs in
    let left = dropped k c.args.outs.items row c.pop_front.new.self.items (sym i.1.1.0 ∙ c.in-Some-pop_front.ensures.items) in
    ap (λ r. map out_known r.items) (sym (left.first row))
    ∙ at_place (λ r. map out_known r.items) (λ b. outs_due layout wires b (get_or c.args.nodes.items b no_node)) (length (layout_of c.args.self.now.rest.plan).blocks) c.args.outs.items k row c.requires.outs
    (omega (arith, long, i.1.0, c.requires.count))
    ∙ ap (outs_due layout wires k) node

pub make_block-requires-clause-ins : goal.make_block-requires-clause-ins
make_block-requires-clause-ins g c =
    let i = c.loop-node.invariant in
    let layout = layout_of c.args.self.now.rest.plan in
    let wires = c.args.self.now.wires.items in
    let k = c.loop-node.number in
    let all = i.0 ∙ ap (λ (rest : List NodeState). c.loop-node.yielded ++ rest) c.in-Some.ensures.steps.0 in
    let long = ap length all ∙ length-append c.loop-node.yielded (c.in-Some.node ∷ into_iter_items c.next.new.self) in
    let node = ap (λ (n : ℕ). get_or c.args.nodes.items n no_node) i.1.0
    ∙ next_there c.args.nodes.items c.loop-node.yielded (into_iter_items c.next.new.self) c.in-Some.node no_node all in
    let ports = c.in-Some-pop_front-2.ins in
    let left = dropped k c.args.ins.items ports c.pop_front-in-loop-node.new.self.items (sym i.1.1.1.0.0 ∙ c.in-Some-pop_front-2.ensures.items) in
    ap (λ b. map (λ r. map in_known r.items) b.items) (sym (left.first ports))
    ∙ at_place (λ b. map (λ r. map in_known r.items) b.items) (λ b. ins_due layout wires b (get_or c.args.nodes.items b no_node)) (length (layout_of c.args.self.now.rest.plan).blocks) c.args.ins.items k ports c.requires.ins
    (omega (arith, long, i.1.0, c.requires.count))
    ∙ ap (ins_due layout wires k) node

pub make_block-requires-clause-begun : goal.make_block-requires-clause-begun
make_block-requires-clause-begun g c =
    let i = c.loop-node.invariant in
    let all = i.0 ∙ ap (λ (rest : List NodeState). c.loop-node.yielded ++ rest) c.in-Some.ensures.steps.0 in
    let node = ap (λ (n : ℕ). get_or c.args.nodes.items n no_node) i.1.0
    ∙ next_there c.args.nodes.items c.loop-node.yielded (into_iter_items c.next.new.self) c.in-Some.node no_node all in
    sym node ∙ ap (λ (nodes : List NodeState). get_or nodes c.loop-node.number no_node) c.requires.begun

pub loop-node-preserved : goal.loop-node-preserved
loop-node-preserved g c =
    let i = c.loop-node.invariant in
    let k = c.loop-node.number in
    let yielded = c.loop-node.yielded in
    let node = c.in-Some.node in
    let rest = into_iter_items c.next.new.self in
    let all = i.0 ∙ ap (λ (left : List NodeState). yielded ++ left) c.in-Some.ensures.steps.0 in
    let grown = c.push_reserved.ensures.items in
    let tasks = c.loop-node.tasks.items in
    let out = dropped k c.args.outs.items c.in-Some-pop_front.outs c.pop_front.new.self.items (sym i.1.1.0 ∙ c.in-Some-pop_front.ensures.items) in
    let into = dropped k c.args.ins.items c.in-Some-pop_front-2.ins c.pop_front-in-loop-node.new.self.items (sym i.1.1.1.0.0 ∙ c.in-Some-pop_front-2.ensures.items) in
    let row = dropped k c.args.rows.items c.in-Some-pop_front-3.lanes c.pop_front-in-loop-node-2.new.self.items (sym i.1.1.1.0.1 ∙ c.in-Some-pop_front-3.ensures.items) in
    let first : task_number c.make_block.result ≡ 0 + k = (let is = c.make_block.ensures.number in omega (arith, is)) in (
      all ∙ sym (append_assoc yielded (node ∷ []) rest),
      (
        omega (arith, i.1.0, length-append yielded (node ∷ [])),
        (
          out.others,
          (
            (into.others, row.others),
            (
              subst (AllTasksOf c.args.self.now) (sym grown) (tasks_on c.args.self.now tasks c.make_block.result i.1.1.1.1.0 c.make_block.ensures.of),
              (
                ap (map task_number) grown ∙ numbers_on task_number 0 k tasks c.make_block.result i.1.1.1.1.1.0 first,
                (
                  ap (map marks_in) grown
                      ∙ map_on marks_in (λ (it : NodeState). it.journal) tasks yielded c.make_block.result node i.1.1.1.1.1.1.0 c.make_block.ensures.journal,
                  search rules,
                ),
              ),
            ),
          ),
        ),
      ),
    )
