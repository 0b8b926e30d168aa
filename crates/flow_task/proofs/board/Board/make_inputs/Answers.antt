use Rattle.std.proofs.Common.{rules, ◌≡◌, ℕ, ◌<◌, ◌≤◌, ◌++◌, ◌∷◌, [], List, length, get_or, take, sym, ap, ◌∙◌, subst, arith, length-append, append_assoc}
use Rattle.std.specs.Vec.Iter.{into_iter_items}
use Rattle.std.proofs.lemmas.List.{get_or_default, length-map, take-take}
use Rattle.flow_link.proofs.PlacesOfNumbers.{stands_below}
use Rattle.flow_link.specs.Planned.{layout_of}
use Rattle.flow_input.specs.Input.{InputState, no_input}
use Rattle.flow_input.specs.InputKeeps.{InputLaw}
use Rattle.flow_task.specs.Entries.{waits_in}
use Rattle.flow_task.specs.Inputs.{begins_at_input, input_due, links_of_inputs}
use Rattle.flow_task.specs.Known.{out_known}
use Rattle.flow_task.proofs.DuesByPlace.{by_places}
use Rattle.flow_task.proofs.Makes.{dropped, front_long, some_left, next_there}
use Rattle.flow_task.proofs.Places.{at_place, count_is}
use Rattle.flow_task.proofs.board.Board.make_inputs.Goals as goal

pub unreachable-requires : goal.unreachable-requires
unreachable-requires g c =
    let i = c.loop-input.invariant in
    let board = c.args.self.now in
    let links = links_of_inputs (layout_of board.rest.plan) in
    let all = i.0 ∙ ap (λ (rest : List InputState). c.loop-input.yielded ++ rest) c.in-Some.ensures.steps.0 in
    let long = ap length all ∙ length-append c.loop-input.yielded (c.in-Some.input ∷ into_iter_items c.next.new.self) in
    let many = count_is out_known (λ q. input_due (layout_of board.rest.plan) board.wires.items (get_or links q 0) (get_or c.args.inputs.items q no_input)) (length board.opens.items) c.args.ends.items c.requires.ends in
    let none : c.loop-input.ends.items ≡ [] = search rules in
    some_left c.loop-input.place c.args.ends.items (omega (arith, many, long, i.1.0, c.requires.count)) (sym i.1.1.0.0 ∙ none)

pub make_input-part-requires-clause-there : goal.make_input-part-requires-clause-there
make_input-part-requires-clause-there g c =
    let i = c.loop-input.invariant in
    let board = c.args.self.now in
    let k = c.loop-input.place in
    let all = i.0 ∙ ap (λ (rest : List InputState). c.loop-input.yielded ++ rest) c.in-Some.ensures.steps.0 in
    let long = ap length all ∙ length-append c.loop-input.yielded (c.in-Some.input ∷ into_iter_items c.next.new.self) in
    let told = board.told in
    let there : k < length board.inputs.items = omega (arith, long, i.1.0, c.requires.count, told) in
    let small = subst (λ (ls : List ℕ). k < length ls) board.inputs_are there in
    let at : c.index.result.now ≡ get_or board.inputs.items k c.index.result.now = search rules in
    let link = at ∙ get_or_default board.inputs.items k c.index.result.now 0 there ∙ ap (λ (ls : List ℕ). get_or ls k 0) board.inputs_are in
    subst (λ (l : ℕ). l < length board.rest.plan.links.items) (sym link)
    (stands_below (begins_at_input (layout_of board.rest.plan)) (length board.rest.plan.links.items) k small).there

pub make_input-part-requires-clause-begins : goal.make_input-part-requires-clause-begins
make_input-part-requires-clause-begins g c =
    let i = c.loop-input.invariant in
    let board = c.args.self.now in
    let k = c.loop-input.place in
    let all = i.0 ∙ ap (λ (rest : List InputState). c.loop-input.yielded ++ rest) c.in-Some.ensures.steps.0 in
    let long = ap length all ∙ length-append c.loop-input.yielded (c.in-Some.input ∷ into_iter_items c.next.new.self) in
    let told = board.told in
    let there : k < length board.inputs.items = omega (arith, long, i.1.0, c.requires.count, told) in
    let small = subst (λ (ls : List ℕ). k < length ls) board.inputs_are there in
    let at : c.index.result.now ≡ get_or board.inputs.items k c.index.result.now = search rules in
    let link = at ∙ get_or_default board.inputs.items k c.index.result.now 0 there ∙ ap (λ (ls : List ℕ). get_or ls k 0) board.inputs_are in
    ap (begins_at_input (layout_of board.rest.plan)) link
    ∙ (stands_below (begins_at_input (layout_of board.rest.plan)) (length board.rest.plan.links.items) k small).passes

pub make_input-part-requires-clause-law : goal.make_input-part-requires-clause-law
make_input-part-requires-clause-law g c =
    let i = c.loop-input.invariant in
    let all = i.0 ∙ ap (λ (rest : List InputState). c.loop-input.yielded ++ rest) c.in-Some.ensures.steps.0 in
    let long = ap length all ∙ length-append c.loop-input.yielded (c.in-Some.input ∷ into_iter_items c.next.new.self) in
    let input = ap (λ (n : ℕ). get_or c.args.inputs.items n no_input) i.1.0
    ∙ next_there c.args.inputs.items c.loop-input.yielded (into_iter_items c.next.new.self) c.in-Some.input no_input all in
    subst (λ (it : InputState). ∥ InputLaw it ∥₁) input (c.requires.laws c.loop-input.place (omega (arith, long, i.1.0, c.requires.count)))

pub make_input-part-requires-clause-known : goal.make_input-part-requires-clause-known
make_input-part-requires-clause-known g c =
    let i = c.loop-input.invariant in
    let board = c.args.self.now in
    let wires = board.wires.items in
    let links = links_of_inputs (layout_of board.rest.plan) in
    let k = c.loop-input.place in
    let all = i.0 ∙ ap (λ (rest : List InputState). c.loop-input.yielded ++ rest) c.in-Some.ensures.steps.0 in
    let long = ap length all ∙ length-append c.loop-input.yielded (c.in-Some.input ∷ into_iter_items c.next.new.self) in
    let told = board.told in
    let there : k < length board.inputs.items = omega (arith, long, i.1.0, c.requires.count, told) in
    let at : c.index.result.now ≡ get_or board.inputs.items k c.index.result.now = search rules in
    let link = at ∙ get_or_default board.inputs.items k c.index.result.now 0 there ∙ ap (λ (ls : List ℕ). get_or ls k 0) board.inputs_are in
    let input = ap (λ (n : ℕ). get_or c.args.inputs.items n no_input) i.1.0
    ∙ next_there c.args.inputs.items c.loop-input.yielded (into_iter_items c.next.new.self) c.in-Some.input no_input all in
    let end = c.in-Some-pop_front.end in
    let left = dropped k c.args.ends.items end c.pop_front.new.self.items (sym i.1.1.0.0 ∙ c.in-Some-pop_front.ensures.items) in
    ap out_known (sym (left.first end))
    ∙ at_place out_known (λ q. input_due (layout_of board.rest.plan) wires (get_or links q 0) (get_or c.args.inputs.items q no_input)) (length board.opens.items) c.args.ends.items k end c.requires.ends
    (omega (arith, long, i.1.0, c.requires.count))
    ∙ ap (input_due (layout_of board.rest.plan) wires (get_or links k 0)) input
    ∙ ap (λ (l : ℕ). input_due (layout_of board.rest.plan) wires l c.in-Some.input) (sym link)

pub unreachable-requires-in_default-pop_front : goal.unreachable-requires-in_default-pop_front
unreachable-requires-in_default-pop_front g c =
    let i = c.loop-input.invariant in
    let all = i.0 ∙ ap (λ (rest : List InputState). c.loop-input.yielded ++ rest) c.in-Some.ensures.steps.0 in
    let long = ap length all ∙ length-append c.loop-input.yielded (c.in-Some.input ∷ into_iter_items c.next.new.self) in
    let many = sym (length-map c.args.waiting.items (λ row. row.items)) ∙ ap length c.requires.waiting ∙ length-map c.args.inputs.items waits_in in
    let none : c.loop-input.waiting.items ≡ [] = search rules in
    some_left c.loop-input.place c.args.waiting.items (omega (arith, many, long, i.1.0)) (sym i.1.1.0.1 ∙ none)

pub put_input-requires-clause-begun : goal.put_input-requires-clause-begun
put_input-requires-clause-begun g c =
    let i = c.loop-input.invariant in
    let all = i.0 ∙ ap (λ (rest : List InputState). c.loop-input.yielded ++ rest) c.in-Some.ensures.steps.0 in
    let input = ap (λ (n : ℕ). get_or c.args.inputs.items n no_input) i.1.0
    ∙ next_there c.args.inputs.items c.loop-input.yielded (into_iter_items c.next.new.self) c.in-Some.input no_input all in
    c.make_input-part.ensures.input ∙ sym input
    ∙ ap (λ (inputs : List InputState). get_or inputs c.loop-input.place no_input) c.requires.begun

pub put_input-requires-clause-waiting : goal.put_input-requires-clause-waiting
put_input-requires-clause-waiting g c =
    let i = c.loop-input.invariant in
    let k = c.loop-input.place in
    let inputs = c.args.inputs.items in
    let all = i.0 ∙ ap (λ (rest : List InputState). c.loop-input.yielded ++ rest) c.in-Some.ensures.steps.0 in
    let long = ap length all ∙ length-append c.loop-input.yielded (c.in-Some.input ∷ into_iter_items c.next.new.self) in
    let input = ap (λ (n : ℕ). get_or inputs n no_input) i.1.0
    ∙ next_there inputs c.loop-input.yielded (into_iter_items c.next.new.self) c.in-Some.input no_input all in
    let ready = c.in-Some-pop_front-2.ready in
    let left = dropped k c.args.waiting.items ready c.pop_front-in-loop-input.new.self.items (sym i.1.1.0.1 ∙ c.in-Some-pop_front-2.ensures.items) in
    ap (λ row. row.items) (sym (left.first ready))
    ∙ at_place (λ row. row.items) (λ q. waits_in (get_or inputs q no_input)) (length inputs) c.args.waiting.items k ready
    (c.requires.waiting ∙ by_places waits_in inputs no_input) (omega (arith, long, i.1.0))
    ∙ ap waits_in (input ∙ sym c.make_input-part.ensures.input)

pub loop-input-preserved : goal.loop-input-preserved
loop-input-preserved g c =
    let i = c.loop-input.invariant in
    let k = c.loop-input.place in
    let yielded = c.loop-input.yielded in
    let input = c.in-Some.input in
    let all = i.0 ∙ ap (λ (rest : List InputState). yielded ++ rest) c.in-Some.ensures.steps.0 in
    let left = dropped k c.args.ends.items c.in-Some-pop_front.end c.pop_front.new.self.items (sym i.1.1.0.0 ∙ c.in-Some-pop_front.ensures.items) in
    let ready = c.in-Some-pop_front-2.ready in
    let waits = dropped k c.args.waiting.items ready c.pop_front-in-loop-input.new.self.items (sym i.1.1.0.1 ∙ c.in-Some-pop_front-2.ensures.items) in
    let first = length c.args.tasks.now.items in
    let tasks = c.loop-input.tasks.items in
    let new = c.put_input.new.tasks.items in
    let front = c.put_input.ensures.blocks in
    let shown : take first new ≡ c.args.tasks.now.items =
    sym (take-take first (length tasks) new i.1.1.1.1.1.0) ∙ ap (take first) front ∙ i.1.1.1.1.0 in
    let least : length tasks ≤ length new = front_long tasks new front in (
      all ∙ sym (append_assoc yielded (input ∷ []) (into_iter_items c.next.new.self)),
      (
        omega (arith, i.1.0, length-append yielded (input ∷ [])),
        (
          (left.others, waits.others),
          (
            c.put_input.ensures.made,
            (
              shown,
              (
                omega (arith, least, i.1.1.1.1.1.0),
                search rules,
              ),
            ),
          ),
        ),
      ),
    )
