use Rattle.std.proofs.Common.{◌≡◌, ℕ, ◌+◌, ◌<◌, ◌≤◌, true, List, [], ◌∷◌, ◌++◌, length, map, get_or, sym, ap, ◌∙◌, subst, length-append, append_assoc, arith}
use Rattle.std.specs.Vec.Iter.{into_iter_items}
use Rattle.std.proofs.lemmas.List.{append-nil, length_push, nil_from_length}
use Rattle.flow_link.specs.Lists.{below}
use Rattle.flow_link.specs.Planned.{layout_of}
use Rattle.flow_block.specs.Planned.{leads_out, links_out}
use Rattle.flow_exit.specs.Exit.{fresh_exit}
use Rattle.flow_task.specs.Exits.{exit_due}
use Rattle.flow_task.specs.Known.{in_known}
use Rattle.flow_task.specs.Numbers.{entry_count, is_exit_number, task_count}
use Rattle.flow_task.specs.Parts.{AllExitsOf, exit_number}
use Rattle.flow_task.specs.declared.board.Board.{Board}
use Rattle.flow_task.specs.declared.numbered.Exit.{Exit}
use Rattle.flow_task.proofs.AllExits.{its_board}
use Rattle.flow_task.proofs.ExitsApart.{ExitsTaken, due_at, exit_at_place, exit_link, exit_more, number_there}
use Rattle.flow_task.proofs.PartsTaken.{ExitsBelow, all_exits_taken, exits_more}
use Rattle.flow_task.proofs.Places.{count_is}
use Rattle.flow_task.proofs.TakenApart.{count_left, known_there}
use Rattle.flow_task.proofs.apart.Exits.take.Goals as goal

pub push_reserved-requires-in-loop-exit : goal.push_reserved-requires-in-loop-exit
push_reserved-requires-in-loop-exit g c =
    let i = c.loop-exit.invariant in
    let board = c.args.board.now in
    let before = c.loop-exit.yielded in
    let after = into_iter_items c.next.new.self in
    let exit = c.in-Some.field-0 in
    let parts = i.parts ∙ ap (λ (left : List (Exit _ _ _)). before ++ left) c.in-Some.ensures.steps.0 in
    let wide = ap length parts ∙ length-append before (exit ∷ after) in
    let due = λ (j : ℕ). due_at (layout_of board.rest.plan) board.wires.items (get_or c.loop-exit.self.exits.items j fresh_exit) j in
    let many = count_is in_known due (length before) c.loop-exit.self.ends.items i.taken.ends_know in
    omega (arith, wide, many, c.loop-exit.self.ends.ok.0, i.ends_room)

pub loop-exit-preserved : goal.loop-exit-preserved
loop-exit-preserved g c =
    let i = c.loop-exit.invariant in
    let board = c.args.board.now in
    let layout = layout_of board.rest.plan in
    let wires = board.wires.items in
    let opens = board.opens.items in
    let before = c.loop-exit.yielded in
    let after = into_iter_items c.next.new.self in
    let exit = c.in-Some.field-0 in
    let k = length before in
    let first = task_count layout opens + entry_count layout opens in
    let parts = i.parts ∙ ap (λ (left : List (Exit _ _ _)). before ++ left) c.in-Some.ensures.steps.0 in
    let its = its_board board before after exit (subst (AllExitsOf board) parts c.requires.of) in
    let number = number_there exit_number before after exit first (length (links_out layout)) (ap (map exit_number) (sym parts) ∙ c.requires.numbers) in
    let link = exit_link layout opens exit.link exit.number k
    (subst (λ (b : Board _). exit.link < length (layout_of b.rest.plan).links) its exit.there)
    (subst (λ (b : Board _). leads_out (layout_of b.rest.plan) exit.link ≡ true) its exit.leads) number
    (subst (λ (b : Board _). is_exit_number (layout_of b.rest.plan) b.opens.items exit.link exit.number ≡ true) its exit.numbered) in
    let knows = known_there (λ (b : Board _) (l : ℕ). in_known exit.end ≡ exit_due (layout_of b.rest.plan) b.wires.items l exit.exit)
    exit.of.value board exit.link (get_or (links_out layout) k 0) its link exit.knows in
    record {
      parts = parts ∙ sym (append_assoc before (exit ∷ []) after);
      taken = subst (λ (n : ℕ). ExitsTaken layout wires n c.push_reserved.new.self.items c.push_reserved-in-loop-exit.new.self.items)
          (sym (length_push before exit))
          (exit_more layout wires k c.loop-exit.self.exits.items c.loop-exit.self.ends.items i.taken exit.exit exit.end
          c.push_reserved.new.self.items c.push_reserved-in-loop-exit.new.self.items c.push_reserved.ensures.items
          c.push_reserved-in-loop-exit.ensures.items exit.law knows);
      at = subst (λ (n : ℕ). ExitsBelow board n c.push_reserved.new.self.items (before ++ exit ∷ [])) (sym (length_push before exit))
          (exits_more board k c.loop-exit.self.exits.items c.push_reserved.new.self.items before exit i.at i.taken.count
          (exit_at_place layout opens exit.link exit.number k number
          (subst (λ (b : Board _). is_exit_number (layout_of b.rest.plan) b.opens.items exit.link exit.number ≡ true) its exit.numbered))
          c.push_reserved.ensures.items);
      room = subst (λ (cap : ℕ). length c.args.exits.items ≤ cap) (sym c.push_reserved.ensures.capacity) i.room;
      ends_room = subst (λ (cap : ℕ). length c.args.exits.items ≤ cap) (sym c.push_reserved-in-loop-exit.ensures.capacity) i.ends_room;
    }

pub returns-clause-count : goal.returns-clause-count
returns-clause-count g c =
    let i = c.loop-exit.invariant in
    let board = c.args.board.now in
    let layout = layout_of board.rest.plan in
    let opens = board.opens.items in
    let left : into_iter_items c.loop-exit.exit-iterator ≡ [] =
    nil_from_length (into_iter_items c.loop-exit.exit-iterator) (sym c.loop-exit.exit-iterator.rest.ok.0 ∙ c.in-None.ensures.steps.0) in
    let all = i.parts ∙ ap (λ (more : List (Exit _ _ _)). c.loop-exit.yielded ++ more) left ∙ append-nil c.loop-exit.yielded in
    i.taken.count ∙ sym (ap length all)
    ∙ count_left exit_number c.args.exits.items (task_count layout opens + entry_count layout opens) (length (links_out layout)) c.requires.numbers

pub returns-clause-ends : goal.returns-clause-ends
returns-clause-ends g c =
    let i = c.loop-exit.invariant in
    let board = c.args.board.now in
    let layout = layout_of board.rest.plan in
    let opens = board.opens.items in
    let left : into_iter_items c.loop-exit.exit-iterator ≡ [] =
    nil_from_length (into_iter_items c.loop-exit.exit-iterator) (sym c.loop-exit.exit-iterator.rest.ok.0 ∙ c.in-None.ensures.steps.0) in
    let all = i.parts ∙ ap (λ (more : List (Exit _ _ _)). c.loop-exit.yielded ++ more) left ∙ append-nil c.loop-exit.yielded in
    let many = sym (ap length all)
    ∙ count_left exit_number c.args.exits.items (task_count layout opens + entry_count layout opens) (length (links_out layout)) c.requires.numbers in
    i.taken.ends_know
    ∙ ap (λ (n : ℕ). map (λ j. due_at layout board.wires.items (get_or c.loop-exit.self.exits.items j fresh_exit) j) (below n)) many

pub returns-clause-exits : goal.returns-clause-exits
returns-clause-exits g c =
    let i = c.loop-exit.invariant in
    let left : into_iter_items c.loop-exit.exit-iterator ≡ [] =
    nil_from_length (into_iter_items c.loop-exit.exit-iterator) (sym c.loop-exit.exit-iterator.rest.ok.0 ∙ c.in-None.ensures.steps.0) in
    let all = i.parts ∙ ap (λ (more : List (Exit _ _ _)). c.loop-exit.yielded ++ more) left ∙ append-nil c.loop-exit.yielded in
    all_exits_taken c.args.board.now (length c.loop-exit.yielded) c.loop-exit.self.exits.items c.args.exits.items c.loop-exit.yielded all i.at
