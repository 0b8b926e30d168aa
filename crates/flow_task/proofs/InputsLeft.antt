-- The next input is taken from what is left of a network's parts.
use Rattle.std.proofs.Common.{◌≡◌, ℕ, ◌+◌, ◌-◌, ◌<◌, ◌≤◌, true, false, List, ◌∷◌, length, map, get_or, ap, ◌∙◌, subst, arith}
use Rattle.flow_link.specs.Lists.{numbers_from}
use Rattle.flow_link.specs.Planned.{layout_of}
use Rattle.flow_task.specs.Inputs.{begins_at_input, links_of_inputs}
use Rattle.flow_task.specs.Lanes.{lane_count}
use Rattle.flow_task.specs.Lefts.{InputsLeft}
use Rattle.flow_task.specs.Numbers.{closed_before, entry_count, is_closed, is_entry_number, is_open, open_before, task_count, turned_count}
use Rattle.flow_task.specs.Parts.{entry_number, task_number}
use Rattle.flow_task.specs.declared.board.Board.{Board}
use Rattle.flow_task.specs.declared.input_task.InputTask.{InputTask}
use Rattle.flow_task.specs.declared.lane_task.LaneTask.{LaneTask}
use Rattle.flow_task.specs.declared.laned.LanedTask.{LanedTask}
use Rattle.flow_task.specs.declared.numbered.Entry.{Entry}
use Rattle.flow_task.specs.declared.numbered.Kind.{Kind}
use Rattle.flow_task.specs.declared.numbered.Kind.TheVariants as kind
use Rattle.flow_task.specs.declared.numbered.Task.{Task}
use Rattle.flow_task.proofs.InputsApart.{closed_left, closed_more, closed_stays, entry_link, input_link, open_left, open_more, open_stays}
use Rattle.flow_task.proofs.TakenApart.{count_left, number_here}
use Rattle.flow_task.proofs.TasksApart.{block_board, block_number, input_board, input_number, lane_later}

-- the same numbers, told otherwise
same_numbers : (a b m n : ℕ) → a ≡ b → m ≡ n → numbers_from a m ≡ numbers_from b n
same_numbers a b m n same is = ap (λ (k : ℕ). numbers_from k m) same ∙ ap (numbers_from b) is

module _ {W : Type 0} {w : _} {e : _} (board : Board W) (q : ℕ) (tasks : List (Task W w e)) (entries : List (Entry W w e)) where
  -- an entry
  module _ (opened : is_open (layout_of board.rest.plan) board.opens.items q ≡ true) where
    pub entry_there : InputsLeft board q tasks entries → q < length board.opens.items → 0 < length entries
    entry_there left low =
        let layout = layout_of board.rest.plan in
        let opens = board.opens.items in
        let some = open_left layout opens q low opened in
        let many = count_left entry_number entries (task_count layout opens + open_before layout opens q)
        (entry_count layout opens - open_before layout opens q) left.entry_numbers in
        omega (arith, some, many)

    module _ (entry : Entry W w e) (left : InputsLeft board q tasks (entry ∷ entries)) where
      entry_number_is : (entry.number ≡ task_count (layout_of board.rest.plan) board.opens.items + open_before (layout_of board.rest.plan) board.opens.items q)
          × (map entry_number entries
          ≡ numbers_from (task_count (layout_of board.rest.plan) board.opens.items + open_before (layout_of board.rest.plan) board.opens.items q + 1)
          (entry_count (layout_of board.rest.plan) board.opens.items - open_before (layout_of board.rest.plan) board.opens.items q - 1))
      entry_number_is =
          let layout = layout_of board.rest.plan in
          let opens = board.opens.items in
          number_here entry_number entries entry (task_count layout opens + open_before layout opens q)
          (entry_count layout opens - open_before layout opens q) left.entry_numbers

      pub entry_is : entry.input.link ≡ get_or (links_of_inputs (layout_of board.rest.plan)) q 0
      entry_is =
          let layout = layout_of board.rest.plan in
          let opens = board.opens.items in
          let its = left.entries_of.0 in
          let link = entry.input.link in
          entry_link layout opens link entry.number q
          (subst (λ (b : Board W). link < length (layout_of b.rest.plan).links) its entry.input.there)
          (subst (λ (b : Board W). begins_at_input (layout_of b.rest.plan) link ≡ true) its entry.input.begins)
          opened entry_number_is.0
          (subst (λ (b : Board W). is_entry_number (layout_of b.rest.plan) b.opens.items link entry.number ≡ true) its entry.numbered)

      pub entry_taken : InputsLeft board (q + 1) tasks entries
      entry_taken =
          let layout = layout_of board.rest.plan in
          let opens = board.opens.items in
          let more = open_more layout opens q opened in
          let stays = closed_stays layout opens q opened in
          record {
            of = left.of;
            entries_of = left.entries_of.1;
            numbers = left.numbers ∙ ap
                (λ (k : ℕ). numbers_from (length layout.blocks + k) (closed_before layout opens (length opens) - k + lane_count layout)) stays;
            entry_numbers = entry_number_is.1 ∙ same_numbers (task_count layout opens + open_before layout opens q + 1)
                (task_count layout opens + open_before layout opens (q + 1)) (entry_count layout opens - open_before layout opens q - 1)
                (entry_count layout opens - open_before layout opens (q + 1)) (omega (arith, more)) (omega (arith, more));
          }

  -- an input that is turned
  module _ (closed : is_closed (layout_of board.rest.plan) board.opens.items q ≡ true) where
    pub task_there : InputsLeft board q tasks entries → q < length board.opens.items → 0 < length tasks
    task_there left low =
        let layout = layout_of board.rest.plan in
        let opens = board.opens.items in
        let some = closed_left layout opens q low closed in
        let many = count_left task_number tasks (length layout.blocks + closed_before layout opens q)
        (closed_before layout opens (length opens) - closed_before layout opens q + lane_count layout) left.numbers in
        omega (arith, some, many)

    module _ (task : Task W w e) (left : InputsLeft board q (task ∷ tasks) entries) where
      task_number_is : (task.number ≡ length (layout_of board.rest.plan).blocks + closed_before (layout_of board.rest.plan) board.opens.items q)
          × (map task_number tasks
          ≡ numbers_from (length (layout_of board.rest.plan).blocks + closed_before (layout_of board.rest.plan) board.opens.items q + 1)
          (closed_before (layout_of board.rest.plan) board.opens.items (length board.opens.items)
          - closed_before (layout_of board.rest.plan) board.opens.items q + lane_count (layout_of board.rest.plan) - 1))
      task_number_is =
          let layout = layout_of board.rest.plan in
          let opens = board.opens.items in
          number_here task_number tasks task (length layout.blocks + closed_before layout opens q)
          (closed_before layout opens (length opens) - closed_before layout opens q + lane_count layout) left.numbers

      -- no block
      never_block : (block : LanedTask W w e) → task.kind ≡ kind.Block block → ⊥
      never_block block is =
          let its = block_board board task.kind task.number left.of.0 task.numbered block is in
          let same = block_number board task.kind task.number left.of.0 task.numbered block is in
          let low = subst (λ (b : Board W). block.block.number < length (layout_of b.rest.plan).blocks) its block.block.there in
          omega (arith, task_number_is.0, same, low)

      -- nor a lane
      never_lane : q < length board.opens.items → (lane : LaneTask W) → task.kind ≡ kind.Lane lane → ⊥
      never_lane there lane is =
          let layout = layout_of board.rest.plan in
          let opens = board.opens.items in
          let some = closed_left layout opens q there closed in
          let later : turned_count layout opens ≤ task.number = lane_later board task.kind task.number left.of.0 task.numbered lane is in
          omega (arith, task_number_is.0, some, later)

      -- so it is an input
      pub never_other : q < length board.opens.items → (k : Kind W w e) → task.kind ≡ k
          → ((input : InputTask W w e) → task.kind ≡ kind.Input input → ⊥) → ⊥
      never_other there (kind.Block block) is other = never_block block is
      never_other there (kind.Input input) is other = other input is
      never_other there (kind.Lane lane) is other = never_lane there lane is

      pub task_is : (input : InputTask W w e) → task.kind ≡ kind.Input input → input.link ≡ get_or (links_of_inputs (layout_of board.rest.plan)) q 0
      task_is input is =
          let its = input_board board task.kind task.number left.of.0 task.numbered input is in
          input_link (layout_of board.rest.plan) board.opens.items input.link task.number q
          (subst (λ (b : Board W). input.link < length (layout_of b.rest.plan).links) its input.there)
          (subst (λ (b : Board W). begins_at_input (layout_of b.rest.plan) input.link ≡ true) its input.begins)
          closed task_number_is.0 (input_number board task.kind task.number left.of.0 task.numbered input is)

      pub task_taken : is_open (layout_of board.rest.plan) board.opens.items q ≡ false → q < length board.opens.items
          → InputsLeft board (q + 1) tasks entries
      task_taken shut there =
          let layout = layout_of board.rest.plan in
          let opens = board.opens.items in
          let more = closed_more layout opens q closed in
          let some = closed_left layout opens q there closed in
          let stays = open_stays layout opens q shut in
          record {
            of = left.of.1;
            entries_of = left.entries_of;
            numbers = task_number_is.1 ∙ same_numbers (length layout.blocks + closed_before layout opens q + 1)
                (length layout.blocks + closed_before layout opens (q + 1))
                (closed_before layout opens (length opens) - closed_before layout opens q + lane_count layout - 1)
                (closed_before layout opens (length opens) - closed_before layout opens (q + 1) + lane_count layout) (omega (arith, more))
                (omega (arith, more, some));
            entry_numbers = left.entry_numbers ∙ ap
                (λ (k : ℕ). numbers_from (task_count layout opens + k) (entry_count layout opens - k)) stays;
          }
