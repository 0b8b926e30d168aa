-- What is left of the parts of a scattered network when the inputs before a place are taken, and where those stand that are.
use Rattle.std.specs.Prelude.{◌≡◌, ℕ, ◌+◌, ◌-◌, Bool, true, false, List, ◌∷◌, get_or, length, map}
use Rattle.flow_link.specs.Lists.{numbers_from}
use Rattle.flow_link.specs.Planned.{layout_of}
use Rattle.flow_block.specs.Jobs.{is_out}
use Rattle.flow_block.specs.Node.{NodeState}
use Rattle.flow_block.specs.Planned.{exit_place}
use Rattle.flow_core.specs.State.{no_node}
use Rattle.flow_exit.specs.Exit.{ExitState, fresh_exit}
use Rattle.flow_input.specs.Input.{InputState, no_input}
use Rattle.flow_input.specs.InputKeeps.{PostedStays}
use Rattle.flow_task.specs.Begun.{begun_input}
use Rattle.flow_task.specs.Lanes.{lane_count}
use Rattle.flow_task.specs.Numbers.{closed_before, entry_count, is_open, open_before, place_in, task_count}
use Rattle.flow_task.specs.Parts.{AllEntriesOf, AllTasksOf, board_layout, entry_link, entry_number, entry_state, exit_link, exit_state, stands_in_lane, task_number}
use Rattle.flow_task.specs.Untouched.{AllUntouched}
use Rattle.flow_task.specs.declared.board.Board.{Board}
use Rattle.flow_task.specs.declared.input_task.InputTask.{InputTask}
use Rattle.flow_task.specs.declared.numbered.Entry.{Entry}
use Rattle.flow_task.specs.declared.numbered.Exit.{Exit}
use Rattle.flow_task.specs.declared.numbered.Task.{Task}

module _ {W : Type 0} (board : Board W) (q : ℕ) where
  -- the numbers of the inputs that are turned from this place on, and of the lanes behind them, and those of the entries
  abbrev pub turned_from : List ℕ
  turned_from =
      let layout = layout_of board.rest.plan in
      let opens = board.opens.items in
      numbers_from (length layout.blocks + closed_before layout opens q)
      (closed_before layout opens (length opens) - closed_before layout opens q + lane_count layout)

  abbrev pub entries_from : List ℕ
  entries_from =
      let layout = layout_of board.rest.plan in
      let opens = board.opens.items in
      numbers_from (task_count layout opens + open_before layout opens q) (entry_count layout opens - open_before layout opens q)

  pub record InputsLeft {w : _} {e : _} (tasks : List (Task W w e)) (entries : List (Entry W w e)) : Type 0 where
    pub of : AllTasksOf board tasks
    pub entries_of : AllEntriesOf board entries
    pub numbers : map task_number tasks ≡ turned_from
    pub entry_numbers : map entry_number entries ≡ entries_from

module _ {W : Type 0} {w : _} {e : _} where
  -- an input comes from the first entry that is left, or from a task, whose values stayed
  abbrev pub IsTakenFrom : Bool → InputTask W w e → List (Entry W w e) → List (Entry W w e) → Type 0
  IsTakenFrom true part old new = (entry : Entry W w e) × ((old ≡ entry ∷ new) × (entry.input ≡ part))
  IsTakenFrom false part old new = (new ≡ old) × ∥ PostedStays (begun_input part.of.value part.link) part.input ∥₁

  -- the input at this place is no entry, or no call was made to any entry
  abbrev pub StaysAt : Board W → List (Entry W w e) → ℕ → Type 0
  StaysAt board entries q = is_open (board_layout board) board.opens.items q ≡ true → AllUntouched board entries

  -- each ticket that stands in a lane of a block's task is out in the block with the task's number
  abbrev pub TicketsAreOut : List NodeState → Task W w e → Type 0
  TicketsAreOut nodes task =
      (ticket : ℕ) → stands_in_lane ticket task ≡ true → is_out ticket (get_or nodes (task_number task) no_node).block.jobs ≡ true

  -- the input of an entry, and the end of an exit, stand at their places
  abbrev pub EntryIsAt : Board W → List InputState → Entry W w e → Type 0
  EntryIsAt board inputs entry = get_or inputs (place_in (board_layout board) (entry_link entry)) no_input ≡ entry_state entry

  abbrev pub ExitIsAt : Board W → List ExitState → Exit W w e → Type 0
  ExitIsAt board exits exit = get_or exits (exit_place (board_layout board) (exit_link exit)) fresh_exit ≡ exit_state exit
