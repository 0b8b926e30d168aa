-- What gathering makes of parts, and why it does not.
use Rattle.std.specs.Prelude.{◌≡◌, ℕ, ◌+◌, ◌<◌, ◌≤◌, true, false, List, Option, Some, None, Result, length, map, take}
use Rattle.std.specs.List.Sorted.{IsPermutation}
use Rattle.flow_value.specs.declared.value.Value.{Value}
use Rattle.flow_value.specs.declared.work.WorkFault.{WorkFault}
use Rattle.flow_link.specs.Lists.{below, is_front}
use Rattle.flow_link.specs.Layout.{Layout}
use Rattle.flow_link.specs.Plan.{link_in}
use Rattle.flow_link.specs.Trace.{gave_over, marks_of, took_over}
use Rattle.flow_link.specs.declared.plan.LinkSource.TheVariants.{Block, Input}
use Rattle.flow_link.specs.declared.plan.LinkTarget.TheVariants.{Port}
use Rattle.flow_core.specs.Inputs.{input_of}
use Rattle.flow_core.specs.State.{NetState, exit_at}
use Rattle.flow_core.specs.Statements.{IsReceivedOf}
use Rattle.flow_input.specs.Sends.{sends_of}
use Rattle.flow_net.specs.Net.{run_with}
use Rattle.flow_task.specs.Begun.{begun_input}
use Rattle.flow_task.specs.Entries.{took_at}
use Rattle.flow_link.specs.declared.trace.Mark.{Mark}
use Rattle.flow_task.specs.Absent.{AllThere, IsAbsent, IsThere, NoTwoAlike, part_count}
use Rattle.flow_task.specs.Numbers.{place_in, task_count}
use Rattle.flow_task.specs.Parts.{board_layout, entry_link, entry_state, exit_link, exit_state, marks_in, task_number}
use Rattle.flow_task.specs.declared.board.Board.{Board}
use Rattle.flow_board.specs.declared.gathering.GatherFault.{GatherFault}
use Rattle.flow_board.specs.declared.gathering.GatherFault.TheVariants.{Missing, Memory}
use Rattle.flow_task.specs.declared.numbered.Entry.{Entry}
use Rattle.flow_task.specs.declared.numbered.Exit.{Exit}
use Rattle.flow_task.specs.declared.numbered.Parts.{Parts}
use Rattle.flow_task.specs.declared.numbered.Task.{Task}

-- the number of a fault, and none for out of memory
abbrev pub gather_fault_number : GatherFault → Option ℕ
gather_fault_number (Missing n) = Some 1
gather_fault_number Memory = None

module _ {W : Type 0} {w : _} {e : _} where
  -- these are the journals of the tasks, in the order of their numbers
  abbrev pub GathersFrom : Board W → List (Task W w e) → List (List Mark) → Type 0
  GathersFrom board tasks journals =
      ∥ ((ordered : List (Task W w e)) × (IsPermutation tasks ordered
      × ((map task_number ordered ≡ below (task_count (board_layout board) board.opens.items))
      × (journals ≡ map marks_in (take (length (board_layout board).blocks) ordered))))) ∥₁

  -- the parts before this one are there; where no two are alike, which holds since each is moved, it is one of the board's, and not there
  pub record IsFirstAbsent (parts : Parts W w e) (n : ℕ) : Type 0 where
    pub before : (k : ℕ) → k < n → IsThere parts.board parts.tasks.items parts.entries.items parts.exits.items k
    pub within : NoTwoAlike parts.board parts.tasks.items parts.entries.items parts.exits.items → n < part_count parts.board
    pub absent : NoTwoAlike parts.board parts.tasks.items parts.entries.items parts.exits.items
        → IsAbsent parts.board parts.tasks.items parts.entries.items parts.exits.items n

  -- the part that is told as missing is the first that is not there; where memory is out, all are there, in the order of their numbers
  abbrev pub IsWhyNot : Parts W w e → GatherFault → Type 0
  IsWhyNot parts (Missing n) = IsFirstAbsent parts n
  IsWhyNot parts Memory = AllThere parts.board parts.tasks.items parts.entries.items parts.exits.items

  -- all come back
  pub record AreBack (old new : Parts W w e) : Type 0 where
    pub board : new.board ≡ old.board
    pub tasks : IsPermutation old.tasks.items new.tasks.items
    pub entries : IsPermutation old.entries.items new.entries.items
    pub exits : IsPermutation old.exits.items new.exits.items

-- what was told as accepted is what was taken over the link, in order, and at most one value more was taken
pub record IsToldOf (told taken : List Value) : Type 0 where
  pub front : is_front told taken ≡ true
  pub one_more : length taken ≤ length told + 1

-- what was taken over the link of each input is what the input knows to be taken
abbrev pub KnowsTaken : {W : Type 0} → (W → Value → Result (List Value) WorkFault) → Layout W → NetState → Type 0
KnowsTaken meaning layout net =
    (l b t p : ℕ) → l < length layout.links → (link_in layout.links l).source ≡ Input b → (link_in layout.links l).target ≡ Port t p
    → took_over l (marks_of (run_with meaning layout net) t) ≡ took_at (input_of net (place_in layout l))

module _ {W : Type 0} {w : _} {e : _} (meaning : W → Value → Result (List Value) WorkFault) (board : Board W) (net : NetState) where
  -- the input of an entry has what its callers know of it; what it told goes on from what was taken when the network was scattered
  pub record EntryIsKept (entry : Entry W w e) : Type 0 where
    pub sends : sends_of (input_of net (place_in (board_layout board) (entry_link entry))) ≡ sends_of (entry_state entry)
    pub same_ending : (input_of net (place_in (board_layout board) (entry_link entry))).ending ≡ (entry_state entry).ending
    pub goes_on : is_front (took_at (begun_input board (entry_link entry))) (sends_of (entry_state entry)).accepted ≡ true
    pub taken : (t p : ℕ) → (link_in (board_layout board).links (entry_link entry)).target ≡ Port t p
        → IsToldOf (sends_of (entry_state entry)).accepted (took_over (entry_link entry) (marks_of (run_with meaning (board_layout board) net) t))

  -- the end of an exit has what was received there, and no receive waits any more
  pub record ExitIsKept (exit : Exit W w e) : Type 0 where
    pub not_asked : (exit_at (board_layout board) net (exit_link exit)).asked ≡ false
    pub received : (exit_at (board_layout board) net (exit_link exit)).received ≡ (exit_state exit).received
    pub given : (b : ℕ) → (link_in (board_layout board).links (exit_link exit)).source ≡ Block b
        → IsReceivedOf (exit_state exit).received (gave_over (exit_link exit) (marks_of (run_with meaning (board_layout board) net) b))
