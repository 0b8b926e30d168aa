use Rattle.std.proofs.Common.{rules, ◌≡◌, ◌+◌, ◌++◌, ◌∷◌, [], length, map, take, sym, ap, ◌∙◌, subst, arith, length-append, append_assoc}
use Rattle.std.specs.Vec.Iter.{into_iter_items}
use Rattle.std.proofs.lemmas.List.{append-nil, length-map, nil_from_length, take-append-le}
use Rattle.flow_link.specs.Lists.{below}
use Rattle.flow_link.proofs.ListTests.{length_numbers}
use Rattle.flow_link.specs.Planned.{layout_of}
use Rattle.flow_task.specs.Numbers.{task_count, turned_count}
use Rattle.flow_task.specs.Parts.{AllTasksOf, task_number}
use Rattle.flow_task.proofs.FewParts.{lane_numbered}
use Rattle.flow_task.proofs.Makes.{front_long, numbers_on, tasks_on}
use Rattle.flow_task.proofs.board.Board.make_lanes.Goals as goal

pub make_lane-requires : goal.make_lane-requires
make_lane-requires g c =
    let i = c.loop-lane.invariant in
    let board = c.args.self.now in
    let layout = layout_of board.rest.plan in
    let opens = board.opens.items in
    let tasks = c.loop-lane.tasks in
    let yielded = c.loop-lane.yielded in
    let all = i.parts ∙ ap (λ rest. yielded ++ rest) c.in-Some.ensures.steps.0 in
    let long = ap length all ∙ length-append yielded (c.in-Some.lane ∷ into_iter_items c.next.new.self) in
    let many : length tasks.items ≡ turned_count layout opens + length yielded =
    sym (length-map tasks.items task_number) ∙ ap length i.numbers ∙ length_numbers 0 (turned_count layout opens + length yielded) in
    let here : c.len.result ≡ length tasks.items = search rules in
    lane_numbered layout opens c.len.result (omega (arith, here, many)) (omega (arith, here, many, long, c.requires.count))

pub push_reserved-requires : goal.push_reserved-requires
push_reserved-requires g c =
    let i = c.loop-lane.invariant in
    let board = c.args.self.now in
    let layout = layout_of board.rest.plan in
    let opens = board.opens.items in
    let tasks = c.loop-lane.tasks in
    let yielded = c.loop-lane.yielded in
    let all = i.parts ∙ ap (λ rest. yielded ++ rest) c.in-Some.ensures.steps.0 in
    let long = ap length all ∙ length-append yielded (c.in-Some.lane ∷ into_iter_items c.next.new.self) in
    let many : length tasks.items ≡ turned_count layout opens + length yielded =
    sym (length-map tasks.items task_number) ∙ ap length i.numbers ∙ length_numbers 0 (turned_count layout opens + length yielded) in
    let room = c.requires.room in
    let same = i.room in
    omega (arith, tasks.ok.0, many, long, room, same, c.requires.count)

pub loop-lane-preserved : goal.loop-lane-preserved
loop-lane-preserved g c =
    let i = c.loop-lane.invariant in
    let board = c.args.self.now in
    let layout = layout_of board.rest.plan in
    let opens = board.opens.items in
    let old = c.args.tasks.now.items in
    let tasks = c.loop-lane.tasks.items in
    let yielded = c.loop-lane.yielded in
    let lane = c.in-Some.lane in
    let grown = c.push_reserved.ensures.items in
    let all = i.parts ∙ ap (λ rest. yielded ++ rest) c.in-Some.ensures.steps.0 in
    let count = turned_count layout opens + length yielded in
    let many : length tasks ≡ count = sym (length-map tasks task_number) ∙ ap length i.numbers ∙ length_numbers 0 count in
    let here : c.len.result ≡ length tasks = search rules in
    let number = c.make_lane.ensures.number in
    let first : task_number c.make_lane.result ≡ 0 + count = omega (arith, number, here, many) in
    let more = length-append yielded (lane ∷ []) in
    let next : count + 1 ≡ turned_count layout opens + length (yielded ++ lane ∷ []) = omega (arith, more) in
    record {
      parts = all ∙ sym (append_assoc yielded (lane ∷ []) (into_iter_items c.next.new.self));
      of = subst (AllTasksOf board) (sym grown) (tasks_on board tasks c.make_lane.result i.of c.make_lane.ensures.of);
      numbers = ap (map task_number) grown ∙ numbers_on task_number 0 count tasks c.make_lane.result i.numbers first ∙ ap below next;
      others = ap (take (length old)) grown
          ∙ take-append-le (length old) tasks (c.make_lane.result ∷ []) (front_long old tasks i.others) ∙ i.others;
      room = search rules;
    }

pub returns-clause-numbers : goal.returns-clause-numbers
returns-clause-numbers g c =
    let i = c.loop-lane.invariant in
    let board = c.args.self.now in
    let layout = layout_of board.rest.plan in
    let opens = board.opens.items in
    let yielded = c.loop-lane.yielded in
    let left : into_iter_items c.loop-lane.lane-iterator ≡ [] =
    nil_from_length (into_iter_items c.loop-lane.lane-iterator) (sym c.loop-lane.lane-iterator.rest.ok.0 ∙ c.in-None.ensures.steps.0) in
    let all = ap length (i.parts ∙ ap (λ rest. yielded ++ rest) left ∙ append-nil yielded) in
    let count = c.requires.count in
    let last : turned_count layout opens + length yielded ≡ task_count layout opens = omega (arith, all, count) in
    i.numbers ∙ ap below last
