use Rattle.std.proofs.Common.{rules, ◌≡◌, ℕ, ◌+◌, ◌<◌, Bool, [], cond, drop, get_or, not, true, false, length, sym, ap, ◌∙◌, subst, arith}
use Rattle.std.proofs.lemmas.List.{get_or_default, length-map}
use Rattle.flow_link.proofs.ListTests.{length_numbers}
use Rattle.flow_link.proofs.PlacesOfNumbers.{place_below, stands_below}
use Rattle.flow_link.specs.Planned.{layout_of}
use Rattle.flow_core.specs.Inputs.{input_of}
use Rattle.flow_input.specs.Input.{InputState}
use Rattle.flow_task.specs.Begun.{begun_in, begun_input}
use Rattle.flow_task.specs.Inputs.{begins_at_input, links_of_inputs, stays_open}
use Rattle.flow_task.specs.Makes.{InputsMade}
use Rattle.flow_task.specs.Numbers.{closed_before, is_closed, is_entry_number, is_input_number, is_open, open_before, task_count}
use Rattle.flow_task.specs.Parts.{entry_number, task_number}
use Rattle.flow_task.proofs.FewParts.{entry_numbered, input_numbered}
use Rattle.flow_task.specs.declared.board.Board.{Board}
use Rattle.flow_task.proofs.InputsMore.{entry_more, turned_more}
use Rattle.flow_task.proofs.InputsStayed.{opens_tell}
use Rattle.flow_task.proofs.board.Board.put_input.Goals as goal

pub make_entry-requires-clause-number : goal.make_entry-requires-clause-number
make_entry-requires-clause-number g c =
    let board = c.args.self.now in
    let opens = board.opens.items in
    let place = c.args.place in
    let entries = c.args.entries.now in
    let opened : is_open (layout_of board.rest.plan) opens place ≡ true =
    get_or_default opens place false c.index.result.now c.requires.there ∙ sym c.index.ensures ∙ c.if-index.true in
    let many : length entries.items ≡ open_before (layout_of board.rest.plan) opens place =
    sym (length-map entries.items entry_number) ∙ ap length c.requires.made.entry_numbers ∙ length_numbers (task_count (layout_of board.rest.plan) opens) (open_before (layout_of board.rest.plan) opens place) in
    let long : c.len.result ≡ length entries.items = search rules in
    let small : place < length board.inputs.items = (let told = board.told in let low = c.requires.there in omega (arith, told, low)) in
    let there = subst (λ ls. place < length ls) board.inputs_are small in
    let first = c.requires.first in
    ap (λ (l : ℕ). is_entry_number (layout_of board.rest.plan) opens l (c.args.first + c.len.result)) c.requires.link
    ∙ entry_numbered (layout_of board.rest.plan) opens place (c.args.first + c.len.result) there opened (omega (arith, first, long, many))

pub push_reserved-requires : goal.push_reserved-requires
push_reserved-requires g c =
    let board = c.args.self.now in
    let opens = board.opens.items in
    let place = c.args.place in
    let entries = c.args.entries.now in
    let opened : is_open (layout_of board.rest.plan) opens place ≡ true =
    get_or_default opens place false c.index.result.now c.requires.there ∙ sym c.index.ensures ∙ c.if-index.true in
    let many : length entries.items ≡ open_before (layout_of board.rest.plan) opens place =
    sym (length-map entries.items entry_number) ∙ ap length c.requires.made.entry_numbers ∙ length_numbers (task_count (layout_of board.rest.plan) opens) (open_before (layout_of board.rest.plan) opens place) in
    let below_all = (place_below (is_open (layout_of board.rest.plan) opens) (length opens) place c.requires.there opened).there in
    let room = c.requires.entries_room in
    omega (arith, entries.ok.0, many, below_all, room)

pub make_turned-requires-clause-number : goal.make_turned-requires-clause-number
make_turned-requires-clause-number g c =
    let board = c.args.self.now in
    let opens = board.opens.items in
    let place = c.args.place in
    let tasks = c.args.tasks.now in
    let shut : is_open (layout_of board.rest.plan) opens place ≡ false =
    get_or_default opens place false c.index.result.now c.requires.there ∙ sym c.index.ensures ∙ c.if-index.false in
    let count = length (layout_of board.rest.plan).blocks + closed_before (layout_of board.rest.plan) opens place in
    let many : length tasks.items ≡ count =
    sym (length-map tasks.items task_number) ∙ ap length c.requires.made.numbers ∙ length_numbers 0 count in
    let long : c.len-else-index.result ≡ length tasks.items = search rules in
    let small : place < length board.inputs.items = (let told = board.told in let low = c.requires.there in omega (arith, told, low)) in
    let there = subst (λ ls. place < length ls) board.inputs_are small in
    ap (λ (l : ℕ). is_input_number (layout_of board.rest.plan) opens l c.len-else-index.result) c.requires.link
    ∙ input_numbered (layout_of board.rest.plan) opens place c.len-else-index.result there shut (omega (arith, long, many))

pub push_reserved-requires-else-index : goal.push_reserved-requires-else-index
push_reserved-requires-else-index g c =
    let board = c.args.self.now in
    let opens = board.opens.items in
    let place = c.args.place in
    let tasks = c.args.tasks.now in
    let shut : is_open (layout_of board.rest.plan) opens place ≡ false =
    get_or_default opens place false c.index.result.now c.requires.there ∙ sym c.index.ensures ∙ c.if-index.false in
    let count = length (layout_of board.rest.plan).blocks + closed_before (layout_of board.rest.plan) opens place in
    let many : length tasks.items ≡ count =
    sym (length-map tasks.items task_number) ∙ ap length c.requires.made.numbers ∙ length_numbers 0 count in
    let below_all = (place_below (is_closed (layout_of board.rest.plan) opens) (length opens) place c.requires.there (ap not shut)).there in
    let room = c.requires.room in
    omega (arith, tasks.ok.0, many, below_all, room)

pub returns-then-index-clause-made : goal.returns-then-index-clause-made
returns-then-index-clause-made g c =
    let board = c.args.self.now in
    let opens = board.opens.items in
    let place = c.args.place in
    let entries = c.args.entries.now in
    let opened : is_open (layout_of board.rest.plan) opens place ≡ true =
    get_or_default opens place false c.index.result.now c.requires.there ∙ sym c.index.ensures ∙ c.if-index.true in
    let many : length entries.items ≡ open_before (layout_of board.rest.plan) opens place =
    sym (length-map entries.items entry_number) ∙ ap length c.requires.made.entry_numbers ∙ length_numbers (task_count (layout_of board.rest.plan) opens) (open_before (layout_of board.rest.plan) opens place) in
    let long : c.len.result ≡ length entries.items = search rules in
    let first = c.requires.first in
    let number = c.make_entry.ensures.number in
    subst (InputsMade board (place + 1) c.args.tasks.now.items) (sym c.push_reserved.ensures.items)
    (entry_more board place c.args.tasks.now.items entries.items c.requires.made opened c.make_entry.result c.make_entry.ensures.of
    (omega (arith, number, first, long, many)) c.make_entry.ensures.untouched)

pub returns-else-index-clause-made : goal.returns-else-index-clause-made
returns-else-index-clause-made g c =
    let board = c.args.self.now in
    let opens = board.opens.items in
    let place = c.args.place in
    let tasks = c.args.tasks.now in
    let shut : is_open (layout_of board.rest.plan) opens place ≡ false =
    get_or_default opens place false c.index.result.now c.requires.there ∙ sym c.index.ensures ∙ c.if-index.false in
    let count = length (layout_of board.rest.plan).blocks + closed_before (layout_of board.rest.plan) opens place in
    let many : length tasks.items ≡ count =
    sym (length-map tasks.items task_number) ∙ ap length c.requires.made.numbers ∙ length_numbers 0 count in
    let long : c.len-else-index.result ≡ length tasks.items = search rules in
    let number = c.make_turned.ensures.number in
    subst (λ after. InputsMade board (place + 1) after c.args.entries.now.items) (sym c.push_reserved-else-index.ensures.items)
    (turned_more board place tasks.items c.args.entries.now.items c.requires.made shut c.make_turned.result c.make_turned.ensures.of
    (omega (arith, number, long, many)))

begun_so : {W : Type 0} (board : Board W) (place link : ℕ) (input : InputState) → place < length board.opens.items
    → link ≡ get_or (links_of_inputs (layout_of board.rest.plan)) place 0 → input ≡ input_of (begun_in board) place → input ≡ begun_input board link
begun_so board place link input low at is =
    let layout = layout_of board.rest.plan in
    let small : place < length board.inputs.items = (let told = board.told in omega (arith, told, low)) in
    let there = subst (λ ls. place < length ls) board.inputs_are small in
    let stands = (stands_below (begins_at_input layout) (length layout.links) place there).before in
    is ∙ ap (input_of (begun_in board)) (sym stands) ∙ ap (begun_input board) (sym at)

pub make_entry-requires-clause-begun : goal.make_entry-requires-clause-begun
make_entry-requires-clause-begun g c =
    begun_so c.args.self.now c.args.place c.args.part.link c.args.part.input c.requires.there c.requires.link c.requires.begun

pub make_turned-requires-clause-begun : goal.make_turned-requires-clause-begun
make_turned-requires-clause-begun g c =
    begun_so c.args.self.now c.args.place c.args.part.link c.args.part.input c.requires.there c.requires.link c.requires.begun

pub make_entry-requires-clause-stays_open : goal.make_entry-requires-clause-stays_open
make_entry-requires-clause-stays_open g c =
    let board = c.args.self.now in
    let opens = board.opens.items in
    let place = c.args.place in
    let opened : is_open (layout_of board.rest.plan) opens place ≡ true =
    get_or_default opens place false c.index.result.now c.requires.there ∙ sym c.index.ensures ∙ c.if-index.true in
    ap stays_open c.requires.begun ∙ opens_tell board place c.requires.there ∙ opened

pub make_entry-requires-clause-waiting : goal.make_entry-requires-clause-waiting
make_entry-requires-clause-waiting g c =
    let board = c.args.self.now in
    let opens = board.opens.items in
    let place = c.args.place in
    let input = c.args.part.input in
    let opened : is_open (layout_of board.rest.plan) opens place ≡ true =
    get_or_default opens place false c.index.result.now c.requires.there ∙ sym c.index.ensures ∙ c.if-index.true in
    let so : stays_open input ≡ true = ap stays_open c.requires.begun ∙ opens_tell board place c.requires.there ∙ opened in
    c.requires.waiting ∙ ap (λ (open_so : Bool). cond open_so (drop input.sent input.posted) []) so
