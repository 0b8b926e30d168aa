use Rattle.std.proofs.Common.{rules, ◌≡◌, ℕ, ◌+◌, ◌<◌, ◌++◌, ◌∷◌, [], List, length, map, get_or, sym, ap, ◌∙◌, subst, arith, length-append, append_assoc}
use Rattle.std.specs.Vec.Iter.{into_iter_items}
use Rattle.std.proofs.lemmas.List.{append-nil, get_or_default, map-append, nil_from_length}
use Rattle.flow_link.proofs.PlacesOfNumbers.{stands_below}
use Rattle.flow_link.specs.Planned.{layout_of}
use Rattle.flow_block.specs.Planned.{leads_out, links_out}
use Rattle.flow_exit.specs.Exit.{ExitState, fresh_exit}
use Rattle.flow_exit.specs.ExitKeeps.{ExitLaw}
use Rattle.flow_task.specs.Exits.{exit_due}
use Rattle.flow_task.specs.Known.{in_known}
use Rattle.flow_task.specs.Numbers.{entry_count, is_exit_number, task_count}
use Rattle.flow_task.specs.Parts.{AllExitsOf, exit_number, exit_state}
use Rattle.flow_task.proofs.Makes.{dropped, some_left, next_there, numbers_on, exits_on}
use Rattle.flow_task.proofs.Places.{at_place, count_is}
use Rattle.flow_task.proofs.FewParts.{exit_numbered, few_parts}
use Rattle.flow_task.proofs.board.Board.make_exits.Goals as goal

pub unreachable-requires : goal.unreachable-requires
unreachable-requires g c =
    let i = c.loop-state.invariant in
    let layout = layout_of c.args.self.now.rest.plan in
    let wires = c.args.self.now.wires.items in
    let all = i.0 ∙ ap (λ (rest : List ExitState). c.loop-state.yielded ++ rest) c.in-Some.ensures.steps.0 in
    let long = ap length all ∙ length-append c.loop-state.yielded (c.in-Some.state ∷ into_iter_items c.next.new.self) in
    let many = count_is in_known (λ k. exit_due layout wires (get_or (links_out layout) k 0) (get_or c.args.states.items k fresh_exit)) (length (links_out layout)) c.args.ends.items c.requires.ends in
    let none : c.loop-state.ends.items ≡ [] = search rules in
    some_left c.loop-state.place c.args.ends.items (omega (arith, many, long, i.1.0, c.requires.count)) (sym i.1.1.0 ∙ none)

pub overflow_add-first : goal.overflow_add-first
overflow_add-first g c =
    let i = c.loop-state.invariant in
    let board = c.args.self.now in
    let layout = layout_of board.rest.plan in
    let all = i.0 ∙ ap (λ (rest : List ExitState). c.loop-state.yielded ++ rest) c.in-Some.ensures.steps.0 in
    let long = ap length all ∙ length-append c.loop-state.yielded (c.in-Some.state ∷ into_iter_items c.next.new.self) in
    let few = few_parts (layout_of board.rest.plan) board.rest.plan.well_formed board.rest.plan.laid_out board.opens.items
    (board.told ∙ ap length board.inputs_are) in
    omega (arith, long, i.1.0, c.requires.count, c.requires.first, few)

pub make_exit-requires-clause-there : goal.make_exit-requires-clause-there
make_exit-requires-clause-there g c =
    let i = c.loop-state.invariant in
    let board = c.args.self.now in
    let layout = layout_of board.rest.plan in
    let all = i.0 ∙ ap (λ (rest : List ExitState). c.loop-state.yielded ++ rest) c.in-Some.ensures.steps.0 in
    let long = ap length all ∙ length-append c.loop-state.yielded (c.in-Some.state ∷ into_iter_items c.next.new.self) in
    let small : c.loop-state.place < length (links_out layout) = omega (arith, long, i.1.0, c.requires.count) in
    let at : c.index.result.now ≡ get_or board.exits.items c.loop-state.place c.index.result.now = search rules in
    let there : c.loop-state.place < length board.exits.items = (let are = ap length board.exits_are in omega (arith, are, small)) in
    let link = at ∙ get_or_default board.exits.items c.loop-state.place c.index.result.now 0 there
    ∙ ap (λ (ls : List ℕ). get_or ls c.loop-state.place 0) board.exits_are in
    subst (λ (l : ℕ). l < length board.rest.plan.links.items) (sym link) (stands_below (leads_out layout) (length board.rest.plan.links.items) c.loop-state.place small).there

pub make_exit-requires-clause-leads : goal.make_exit-requires-clause-leads
make_exit-requires-clause-leads g c =
    let i = c.loop-state.invariant in
    let board = c.args.self.now in
    let layout = layout_of board.rest.plan in
    let all = i.0 ∙ ap (λ (rest : List ExitState). c.loop-state.yielded ++ rest) c.in-Some.ensures.steps.0 in
    let long = ap length all ∙ length-append c.loop-state.yielded (c.in-Some.state ∷ into_iter_items c.next.new.self) in
    let small : c.loop-state.place < length (links_out layout) = omega (arith, long, i.1.0, c.requires.count) in
    let at : c.index.result.now ≡ get_or board.exits.items c.loop-state.place c.index.result.now = search rules in
    let there : c.loop-state.place < length board.exits.items = (let are = ap length board.exits_are in omega (arith, are, small)) in
    let link = at ∙ get_or_default board.exits.items c.loop-state.place c.index.result.now 0 there
    ∙ ap (λ (ls : List ℕ). get_or ls c.loop-state.place 0) board.exits_are in
    ap (leads_out layout) link ∙ (stands_below (leads_out layout) (length board.rest.plan.links.items) c.loop-state.place small).passes

pub make_exit-requires-clause-law : goal.make_exit-requires-clause-law
make_exit-requires-clause-law g c =
    let i = c.loop-state.invariant in
    let all = i.0 ∙ ap (λ (rest : List ExitState). c.loop-state.yielded ++ rest) c.in-Some.ensures.steps.0 in
    let long = ap length all ∙ length-append c.loop-state.yielded (c.in-Some.state ∷ into_iter_items c.next.new.self) in
    let state = ap (λ (n : ℕ). get_or c.args.states.items n fresh_exit) i.1.0
    ∙ next_there c.args.states.items c.loop-state.yielded (into_iter_items c.next.new.self) c.in-Some.state fresh_exit all in
    subst (λ (it : ExitState). ∥ ExitLaw it ∥₁) state (c.requires.laws c.loop-state.place (omega (arith, long, i.1.0, c.requires.count)))

pub make_exit-requires-clause-known : goal.make_exit-requires-clause-known
make_exit-requires-clause-known g c =
    let i = c.loop-state.invariant in
    let board = c.args.self.now in
    let layout = layout_of board.rest.plan in
    let wires = board.wires.items in
    let k = c.loop-state.place in
    let all = i.0 ∙ ap (λ (rest : List ExitState). c.loop-state.yielded ++ rest) c.in-Some.ensures.steps.0 in
    let long = ap length all ∙ length-append c.loop-state.yielded (c.in-Some.state ∷ into_iter_items c.next.new.self) in
    let small : k < length (links_out layout) = omega (arith, long, i.1.0, c.requires.count) in
    let at : c.index.result.now ≡ get_or board.exits.items k c.index.result.now = search rules in
    let there : k < length board.exits.items = (let are = ap length board.exits_are in omega (arith, are, small)) in
    let link = at ∙ get_or_default board.exits.items k c.index.result.now 0 there ∙ ap (λ (ls : List ℕ). get_or ls k 0) board.exits_are in
    let state = ap (λ (n : ℕ). get_or c.args.states.items n fresh_exit) i.1.0
    ∙ next_there c.args.states.items c.loop-state.yielded (into_iter_items c.next.new.self) c.in-Some.state fresh_exit all in
    let end = c.in-Some-pop_front.end in
    let left = dropped k c.args.ends.items end c.pop_front.new.self.items (sym i.1.1.0 ∙ c.in-Some-pop_front.ensures.items) in
    ap in_known (sym (left.first end))
    ∙ at_place in_known (λ n. exit_due layout wires (get_or (links_out layout) n 0) (get_or c.args.states.items n fresh_exit)) (length (links_out layout)) c.args.ends.items k end c.requires.ends small
    ∙ ap (exit_due layout wires (get_or (links_out layout) k 0)) state ∙ ap (λ (l : ℕ). exit_due layout wires l c.in-Some.state) (sym link)

pub make_exit-requires-clause-number : goal.make_exit-requires-clause-number
make_exit-requires-clause-number g c =
    let i = c.loop-state.invariant in
    let board = c.args.self.now in
    let layout = layout_of board.rest.plan in
    let k = c.loop-state.place in
    let all = i.0 ∙ ap (λ (rest : List ExitState). c.loop-state.yielded ++ rest) c.in-Some.ensures.steps.0 in
    let long = ap length all ∙ length-append c.loop-state.yielded (c.in-Some.state ∷ into_iter_items c.next.new.self) in
    let small : k < length (links_out layout) = omega (arith, long, i.1.0, c.requires.count) in
    let at : c.index.result.now ≡ get_or board.exits.items k c.index.result.now = search rules in
    let there : k < length board.exits.items = (let are = ap length board.exits_are in omega (arith, are, small)) in
    let link = at ∙ get_or_default board.exits.items k c.index.result.now 0 there ∙ ap (λ (ls : List ℕ). get_or ls k 0) board.exits_are in
    let first = c.requires.first in
    ap (λ (l : ℕ). is_exit_number layout board.opens.items l (c.args.first + k)) link
    ∙ exit_numbered layout board.opens.items k (c.args.first + k) small (omega (arith, first))

pub loop-state-preserved : goal.loop-state-preserved
loop-state-preserved g c =
    let i = c.loop-state.invariant in
    let k = c.loop-state.place in
    let yielded = c.loop-state.yielded in
    let state = c.in-Some.state in
    let all = i.0 ∙ ap (λ (rest : List ExitState). yielded ++ rest) c.in-Some.ensures.steps.0 in
    let grown = c.push_reserved.ensures.items in
    let exits = c.loop-state.exits.items in
    let first = c.requires.first in
    let board = c.args.self.now in
    let from = task_count (layout_of board.rest.plan) board.opens.items + entry_count (layout_of board.rest.plan) board.opens.items in
    let left = dropped k c.args.ends.items c.in-Some-pop_front.end c.pop_front.new.self.items (sym i.1.1.0 ∙ c.in-Some-pop_front.ensures.items) in
    let number : exit_number c.make_exit.result ≡ from + k = (let is = c.make_exit.ensures.number in omega (arith, is, first)) in (
      all ∙ sym (append_assoc yielded (state ∷ []) (into_iter_items c.next.new.self)),
      (
        omega (arith, i.1.0, length-append yielded (state ∷ [])),
        (
          left.others,
          (
            subst (AllExitsOf board) (sym grown) (exits_on board exits c.make_exit.result i.1.1.1.0 c.make_exit.ensures.of),
            (
              ap (map exit_number) grown ∙ numbers_on exit_number from k exits c.make_exit.result i.1.1.1.1.0 number,
              (
                search rules,
                (
                  search rules,
                  ap (map exit_state) grown ∙ map-append exit_state exits (c.make_exit.result ∷ [])
                      ∙ ap (λ (states : List ExitState). states ++ exit_state c.make_exit.result ∷ []) i.1.1.1.1.1.1.1
                      ∙ ap (λ (last : ExitState). yielded ++ last ∷ []) c.make_exit.ensures.state,
                ),
              ),
            ),
          ),
        ),
      ),
    )

pub returns-clause-states : goal.returns-clause-states
returns-clause-states g c =
    let i = c.loop-state.invariant in
    let left : into_iter_items c.loop-state.state-iterator ≡ [] =
    nil_from_length (into_iter_items c.loop-state.state-iterator) (sym c.loop-state.state-iterator.rest.ok.0 ∙ c.in-None.ensures.steps.0) in
    i.1.1.1.1.1.1.1 ∙ sym (i.0 ∙ ap (λ (more : List ExitState). c.loop-state.yielded ++ more) left ∙ append-nil c.loop-state.yielded)
