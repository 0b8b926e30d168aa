-- The blocks that are taken from tasks are those of these tasks, and what stands in their lanes is out.
use Rattle.std.proofs.Common.{◌≡◌, ℕ, zero, suc, ◌+◌, ◌-◌, ◌<◌, true, All, List, [], ◌∷◌, length, map, get_or, slice_index_or, take, Option, Some, None, refl, sym, ap, ◌∙◌, subst, arith}
use Rattle.std.specs.Option.{ForSome}
use Rattle.std.proofs.lemmas.List.{get_or-map, get_or-take}
use Rattle.flow_link.specs.Lists.{below, numbers_from}
use Rattle.flow_link.specs.Planned.{layout_of}
use Rattle.flow_link.specs.declared.trace.Mark.{Mark}
use Rattle.flow_block.specs.Jobs.{is_out}
use Rattle.flow_block.specs.Node.{NodeState}
use Rattle.flow_core.specs.State.{no_node}
use Rattle.flow_lane.specs.BlockLanes.{LanesState}
use Rattle.flow_task.specs.Laned.{LanesAreOut, stands_in}
use Rattle.flow_task.specs.Lefts.{TicketsAreOut}
use Rattle.flow_task.specs.Parts.{AllTasksOf, marks_by, marks_in, node_by, node_in, stands_by, task_number}
use Rattle.flow_task.specs.declared.board.Board.{Board}
use Rattle.flow_task.specs.declared.numbered.Kind.{Kind}
use Rattle.flow_task.specs.declared.numbered.Kind.TheVariants as kind
use Rattle.flow_task.specs.declared.numbered.Task.{Task}
use Rattle.flow_task.proofs.Reordered.{each_task}
use Rattle.flow_task.proofs.TakenApart.{number_here}
use Rattle.flow_task.proofs.TasksApart.{block_board, block_number}

abbrev its_journal : NodeState → List Mark
its_journal node = node.journal

taken_low : {A : Type 0} (n : ℕ) (xs : List A) (k : ℕ) → k < n → k < length xs → k < length (take n xs)
taken_low zero xs k few low = absurd (omega (arith, few))
taken_low (suc n) [] k few low = absurd (omega (arith, low))
taken_low (suc n) (x ∷ xs) zero few low = omega arith
taken_low (suc n) (x ∷ xs) (suc k) few low = let rest = taken_low n xs k (omega (arith, few)) (omega (arith, low)) in omega (arith, rest)

-- the number at a place
number_at : {A : Type 0} (number : A → ℕ) (first n : ℕ) (xs : List A) (k : ℕ) (d : A) → map number xs ≡ numbers_from first n → k < length xs
    → number (slice_index_or xs k d) ≡ first + k
number_at number first n [] k d are low = absurd (omega (arith, low))
number_at number first n (x ∷ xs) zero d are low = let here = number_here number xs x first n are in omega (arith, here.0)
number_at number first n (x ∷ xs) (suc k) d are low =
    let here = number_here number xs x first n are in
    let rest = number_at number (first + 1) (n - 1) xs k d here.1 (omega (arith, low)) in
    omega (arith, rest)

lanes_out : {W : Type 0} (ticket : ℕ) (node : NodeState) (lanes : Option (LanesState W)) → ForSome lanes (λ its. LanesAreOut node its)
    → stands_in ticket lanes ≡ true → is_out ticket node.block.jobs ≡ true
lanes_out ticket node None out stands = absurd (cc)
lanes_out ticket node (Some lanes) out stands = out lanes refl ticket stands

module _ {W : Type 0} {w : _} {e : _} where
  node_marks : (it : Kind W w e) → (node_by it).journal ≡ marks_by it
  node_marks (kind.Block task) = refl
  node_marks (kind.Input task) = refl
  node_marks (kind.Lane task) = refl

  all_mark : (tasks : List (Task W w e)) → map its_journal (map node_in tasks) ≡ map marks_in tasks
  all_mark [] = refl
  all_mark (task ∷ tasks) =
      ap (λ (first : List Mark). first ∷ map its_journal (map node_in tasks)) (node_marks task.kind)
      ∙ ap (λ (rest : List (List Mark)). marks_in task ∷ rest) (all_mark tasks)

  -- their marks are those of the tasks
  pub nodes_mark : (tasks : List (Task W w e)) (count : ℕ) (nodes : List NodeState) → nodes ≡ map node_in (take count tasks)
      → map its_journal nodes ≡ map marks_in (take count tasks)
  nodes_mark tasks count nodes are = ap (map its_journal) are ∙ all_mark (take count tasks)

  module _ (board : Board W) (tasks : List (Task W w e)) (of : AllTasksOf board tasks) (count : ℕ) (numbers : map task_number tasks ≡ below count)
      (nodes : List NodeState) (are : nodes ≡ map node_in (take (length (layout_of board.rest.plan).blocks) tasks)) where
    out_by : (k : ℕ) (d : Task W w e) → k < length tasks → (it : Kind W w e) → (slice_index_or tasks k d).kind ≡ it
        → TicketsAreOut nodes (slice_index_or tasks k d)
    out_by k d low (kind.Block task) is ticket stands =
        let one = slice_index_or tasks k d in
        let blocks = length (layout_of board.rest.plan).blocks in
        let its = each_task board tasks of k d low in
        let number : task_number one ≡ 0 + k = number_at task_number 0 count tasks k d numbers low in
        let own = block_number board one.kind one.number its one.numbered task is in
        let there = subst (λ (b : Board W). task.block.number < length (layout_of b.rest.plan).blocks)
        (block_board board one.kind one.number its one.numbered task is) task.block.there in
        let small : k < blocks = omega (arith, own, number, there) in
        let same : 0 + k ≡ k = omega arith in
        let here : get_or nodes (task_number one) no_node ≡ task.block.node =
        ap (λ (n : ℕ). get_or nodes n no_node) (number ∙ same) ∙ ap (λ (xs : List NodeState). get_or xs k no_node) are
        ∙ get_or-map node_in (take blocks tasks) k d no_node (taken_low blocks tasks k small low)
        ∙ ap node_in (get_or-take blocks tasks k d small) ∙ ap node_by is in
        subst (λ (node : NodeState). is_out ticket node.block.jobs ≡ true) (sym here)
        (lanes_out ticket task.block.node task.lanes task.out (ap (stands_by ticket) (sym is) ∙ stands))
    out_by k d low (kind.Input task) is ticket stands = absurd (let never = ap (stands_by ticket) (sym is) ∙ stands in cc)
    out_by k d low (kind.Lane task) is ticket stands = absurd (let never = ap (stands_by ticket) (sym is) ∙ stands in cc)

    -- each ticket that stands in a lane is out
    pub tickets_out : All (λ task. TicketsAreOut nodes task) tasks
    tickets_out = λ k d low. out_by k d low (slice_index_or tasks k d).kind refl
