use Rattle.std.proofs.Common.{◌≡◌, ℕ, ◌+◌, ◌-◌, ◌<◌, ◌≤◌, List, length, get_or, sym, ap, ◌∙◌, subst, arith}
use Rattle.flow_link.specs.Planned.{layout_of}
use Rattle.flow_link.proofs.PlacesOfNumbers.{stands_below}
use Rattle.flow_core.specs.Inputs.{input_of}
use Rattle.flow_input.specs.Input.{InputState, no_input}
use Rattle.flow_input.specs.InputKeeps.{PostedStays}
use Rattle.flow_task.specs.Begun.{begun_in}
use Rattle.flow_task.specs.Inputs.{begins_at_input, input_due, links_of_inputs}
use Rattle.flow_task.specs.Known.{out_known}
use Rattle.flow_task.specs.Lefts.{StaysAt}
use Rattle.flow_task.specs.declared.board.Board.{Board}
use Rattle.flow_task.specs.Numbers.{entry_count, is_open, open_before, place_in}
use Rattle.flow_task.specs.Parts.{entry_number}
use Rattle.flow_task.proofs.InputsTaken.{due_at, input_more}
use Rattle.flow_task.proofs.PartsTaken.{all_taken, no_left, stays_from, taken_more}
use Rattle.flow_task.proofs.Places.{count_is}
use Rattle.flow_task.proofs.TakenApart.{holds_more, known_there}
use Rattle.flow_task.proofs.apart.Inputs.take.Goals as goal

pub push_reserved-requires-in-loop-place : goal.push_reserved-requires-in-loop-place
push_reserved-requires-in-loop-place g c =
    let i = c.loop-place.invariant in
    let board = c.args.board.now in
    let due = λ (k : ℕ). due_at (layout_of board.rest.plan) board.wires.items (get_or c.loop-place.self.inputs.items k no_input) k in
    let many = count_is out_known due c.loop-place.place c.loop-place.self.ends.items i.0.ends_know in
    omega (arith, many, c.loop-place.self.ends.ok.0, i.1.1.1.0, c.loop-place-test.true, c.len-place-end.ensures, board.opens.ok.0)

pub loop-place-preserved : goal.loop-place-preserved
loop-place-preserved g c =
    let i = c.loop-place.invariant in
    let board = c.args.board.now in
    let part = c.next_input-part.result in
    let knows = known_there
    (λ (b : Board _) (l : ℕ). out_known part.out ≡ input_due (layout_of b.rest.plan) b.wires.items l part.input)
    part.of.value board part.link (get_or (links_of_inputs (layout_of board.rest.plan)) c.loop-place.place 0) c.next_input-part.ensures.of c.next_input-part.ensures.link part.knows in
    let k = c.loop-place.place in
    let layout = layout_of board.rest.plan in
    let told = board.told ∙ ap length board.inputs_are in
    let small : k < length (links_of_inputs layout) =
    omega (arith, told, c.loop-place-test.true, c.len-place-end.ensures, board.opens.ok.0) in
    let place = (stands_below (begins_at_input layout) (length layout.links) k small).before in
    let at : place_in layout part.link ≡ k = ap (place_in layout) c.next_input-part.ensures.link ∙ place in
    let its = c.next_input-part.ensures.of in
    let entries = c.args.entries.now.items in
    let posted = λ (stays : StaysAt board entries k).
    subst (λ (q : ℕ). ∥ PostedStays (input_of (begun_in board) q) part.input ∥₁) at
    (stays_from board (is_open layout board.opens.items k) part entries k c.loop-place.self.inputs.items c.loop-place.entries.items
    c.next_input-part.new.entries.items i.1.1.1.1.1 c.next_input-part.ensures.from its stays) in (
      input_more (layout_of board.rest.plan) board.wires.items c.loop-place.place c.loop-place.self.inputs.items c.loop-place.self.ends.items i.0
          part.input part.out c.push_reserved.new.self.items c.push_reserved-in-loop-place.new.self.items c.push_reserved.ensures.items
          c.push_reserved-in-loop-place.ensures.items part.law knows,
      (
        c.next_input-part.ensures.left,
        (
          subst (λ (cap : ℕ). length board.opens.items ≤ cap) (sym c.push_reserved.ensures.capacity) i.1.1.0,
          (
            subst (λ (cap : ℕ). length board.opens.items ≤ cap) (sym c.push_reserved-in-loop-place.ensures.capacity) i.1.1.1.0,
            (
              subst
                  (λ (inputs : List InputState). (q : ℕ) → q < k + 1 → StaysAt board entries q
                  → ∥ PostedStays (input_of (begun_in board) q) (get_or inputs q no_input) ∥₁)
                  (sym c.push_reserved.ensures.items)
                  (holds_more (λ q input. StaysAt board entries q → ∥ PostedStays (input_of (begun_in board) q) input ∥₁) k
                  c.loop-place.self.inputs.items part.input no_input i.0.count i.1.1.1.1.0 posted),
              taken_more board (is_open layout board.opens.items k) part c.args.entries.now.items k c.loop-place.self.inputs.items
                  c.push_reserved.new.self.items c.loop-place.entries.items c.next_input-part.new.entries.items i.1.1.1.1.1
                  c.next_input-part.ensures.from i.0.count at c.push_reserved.ensures.items,
            ),
          ),
        ),
      ),
    )

pub returns-clause-entries : goal.returns-clause-entries
returns-clause-entries g c =
    let i = c.loop-place.invariant in
    let board = c.args.board.now in
    let layout = layout_of board.rest.plan in
    let opens = board.opens.items in
    let all : c.loop-place.place ≡ length opens = omega (arith, c.loop-place-test.false, c.len-place-end.ensures, board.opens.ok.0) in
    let none : entry_count layout opens - open_before layout opens c.loop-place.place ≡ 0 =
    (let same = ap (open_before layout opens) all in omega (arith, same)) in
    all_taken board c.args.entries.now.items c.loop-place.place c.loop-place.self.inputs.items c.loop-place.entries.items i.1.1.1.1.1
    (no_left entry_number c.loop-place.entries.items _ _ i.1.0.entry_numbers none)
