use Rattle.std.proofs.Common.{◌≡◌, ℕ, length, map, get_or, take, sym, ap, ◌∙◌, arith}
use Rattle.std.proofs.lemmas.List.{length-map}
use Rattle.flow_link.specs.Lists.{below}
use Rattle.flow_link.proofs.ListTests.{length_numbers}
use Rattle.flow_link.specs.Planned.{layout_of}
use Rattle.flow_input.specs.Input.{no_input}
use Rattle.flow_task.specs.Inputs.{input_due, links_of_inputs}
use Rattle.flow_task.specs.Numbers.{is_closed, is_open}
use Rattle.flow_task.specs.Parts.{marks_in, task_number}
use Rattle.flow_task.proofs.FewParts.{few_parts, passing}
use Rattle.flow_task.proofs.Makes.{front_of_front}
use Rattle.flow_task.proofs.board.Board.make_parts.Goals as goal

pub overflow_add-first : goal.overflow_add-first
overflow_add-first g c =
    let board = c.args.self in
    let few = few_parts (layout_of board.rest.plan) board.rest.plan.well_formed board.rest.plan.laid_out board.opens.items
    (board.told ∙ ap length board.inputs_are) in
    let blocks = c.block_count.ensures in
    let closed = c.closed_count.ensures in
    omega (arith, few, blocks, closed)

pub overflow_add-first-2 : goal.overflow_add-first-2
overflow_add-first-2 g c =
    let board = c.args.self in
    let few = few_parts (layout_of board.rest.plan) board.rest.plan.well_formed board.rest.plan.laid_out board.opens.items
    (board.told ∙ ap length board.inputs_are) in
    let blocks = c.block_count.ensures in
    let closed = c.closed_count.ensures in
    let lanes = c.lane_count.ensures in
    omega (arith, few, blocks, closed, lanes)

pub overflow_add-last : goal.overflow_add-last
overflow_add-last g c =
    let board = c.args.self in
    let few = few_parts (layout_of board.rest.plan) board.rest.plan.well_formed board.rest.plan.laid_out board.opens.items
    (board.told ∙ ap length board.inputs_are) in
    let blocks = c.block_count.ensures in
    let closed = c.closed_count.ensures in
    let lanes = c.lane_count.ensures in
    let open_ones = c.open_count.ensures in
    omega (arith, few, blocks, closed, lanes, open_ones)

pub make_inputs-requires-clause-laws : goal.make_inputs-requires-clause-laws
make_inputs-requires-clause-laws g c = λ q small.
    let board = c.args.self in
    let told = board.told ∙ ap length board.inputs_are in
    c.requires.in_order.inputs_law q (omega (arith, small, told))

pub make_inputs-requires-clause-ends : goal.make_inputs-requires-clause-ends
make_inputs-requires-clause-ends g c =
    let board = c.args.self in
    let told = board.told ∙ ap length board.inputs_are in
    c.requires.inputs
    ∙ ap (λ (n : ℕ). map (λ q. input_due (layout_of board.rest.plan) board.wires.items
    (get_or (links_of_inputs (layout_of board.rest.plan)) q 0) (get_or c.args.lists.inputs.items q no_input)) (below n)) (sym told)

pub make_inputs-requires-clause-room : goal.make_inputs-requires-clause-room
make_inputs-requires-clause-room g c =
    let board = c.args.self in
    let told = board.told ∙ ap length board.inputs_are in
    let closed = passing (is_closed (layout_of board.rest.plan) board.opens.items) (length board.opens.items) in
    let room = c.make_blocks.ensures.room in
    let before = c.requires.tasks_room in
    omega (arith, told, closed, room, before, c.requires.in_order.node_count, c.requires.in_order.input_count)

pub make_inputs-requires-clause-entries_room : goal.make_inputs-requires-clause-entries_room
make_inputs-requires-clause-entries_room g c =
    let board = c.args.self in
    let told = board.told ∙ ap length board.inputs_are in
    let opened = passing (is_open (layout_of board.rest.plan) board.opens.items) (length board.opens.items) in
    let before = c.requires.entries_room in
    omega (arith, told, opened, before, c.requires.in_order.input_count)

pub make_lanes-requires-clause-room : goal.make_lanes-requires-clause-room
make_lanes-requires-clause-room g c =
    let board = c.args.self in
    let told = board.told ∙ ap length board.inputs_are in
    let closed = passing (is_closed (layout_of board.rest.plan) board.opens.items) (length board.opens.items) in
    let room = c.make_inputs.ensures.room ∙ c.make_blocks.ensures.room in
    let before = c.requires.tasks_room in
    omega (arith, told, closed, room, before, c.requires.in_order.node_count, c.requires.in_order.input_count)

pub returns-clause-journals : goal.returns-clause-journals
returns-clause-journals g c =
    let tasks = c.make_blocks.new.tasks.items in
    let many : length tasks ≡ length c.args.lists.nodes.items =
    sym (length-map tasks task_number) ∙ ap length c.make_blocks.ensures.numbers
    ∙ length_numbers 0 (length (layout_of c.args.self.rest.plan).blocks) ∙ sym c.requires.in_order.node_count in
    let front = front_of_front tasks c.make_inputs.new.tasks.items c.make_lanes.new.tasks.items c.make_inputs.ensures.blocks c.make_lanes.ensures.others in
    ap (map marks_in) (ap (λ (n : ℕ). take n c.make_lanes.new.tasks.items) (sym many) ∙ front) ∙ c.make_blocks.ensures.journals
