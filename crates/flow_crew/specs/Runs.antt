-- What a network is after a crew has run it, and what there is of it where the crew could not go on.
use Rattle.std.specs.Prelude.{◌≡◌, true, All, List, Result, length}
use Rattle.flow_value.specs.declared.value.Value.{Value}
use Rattle.flow_value.specs.declared.work.WorkFault.{WorkFault}
use Rattle.flow_lawful.specs.Lawful.{Lawful}
use Rattle.flow_core.specs.Inputs.{InputsStay}
use Rattle.flow_core.specs.State.{callers_in, exit_at}
use Rattle.flow_exit.specs.Exit.{caller_of}
use Rattle.flow_net.specs.Asked.{none_asked}
use Rattle.flow_net.specs.Net.{NetNeedsId, layout_in, parts_of, run_of}
use Rattle.flow_net.specs.declared.net.Net.{Net}
use Rattle.flow_board.specs.Begun.{JournalsExtend, begun_in}
use Rattle.flow_board.specs.Parts.{AllEntriesOf, AllExitsOf, AllTasksOf, board_layout, exit_link, exit_state}
use Rattle.flow_board.specs.Untouched.{AllUntouched}
use Rattle.flow_task.specs.Absent.{AllThere}
use Rattle.flow_task.specs.declared.board.Board.{Board}
use Rattle.flow_task.specs.declared.numbered.Exit.{Exit}
use Rattle.flow_task.specs.declared.numbered.Parts.{Parts}
use Rattle.flow_crew.specs.declared.run.RunFault.{RunFault}
use Rattle.flow_crew.specs.declared.run.RunFault.TheVariants as fault

module _ {W : Type 0} {w : _} {e : _} where
  -- it has the plan and the inputs of the old one, each journal goes on, and at exits nothing was received or asked for
  pub record RunsOn (old new : Net W w e) : Type 0 where
    pub same_layout : layout_in new ≡ layout_in old
    pub inputs_stay : InputsStay (parts_of old) (parts_of new)
    pub journals : JournalsExtend (layout_in old) (parts_of old) (parts_of new)
    pub callers : callers_in (parts_of new) ≡ callers_in (parts_of old)

  -- the same of a board on which a network was scattered, and of a network that was gathered from one
  pub record IsScatteredOf (old : Net W w e) (board : Board W) : Type 0 where
    pub same_layout : board_layout board ≡ layout_in old
    pub inputs_stay : InputsStay (parts_of old) (begun_in board)
    pub journals : JournalsExtend (layout_in old) (parts_of old) (begun_in board)
    pub callers : callers_in (begun_in board) ≡ callers_in (parts_of old)

  pub record IsGatheredOf (board : Board W) (new : Net W w e) : Type 0 where
    pub same_layout : layout_in new ≡ board_layout board
    pub inputs_stay : InputsStay (begun_in board) (parts_of new)
    pub journals : JournalsExtend (board_layout board) (begun_in board) (parts_of new)
    pub callers : callers_in (parts_of new) ≡ callers_in (begun_in board)

  -- what was received at an exit, and whether a receive waits there, is as it was when the network was scattered
  abbrev pub IsUncalled : Board W → Exit W w e → Type 0
  IsUncalled board exit = caller_of (exit_state exit) ≡ caller_of (exit_at (board_layout board) (begun_in board) (exit_link exit))

  -- all parts are of their board, each of its parts is there, and no call was made to an entry or an exit
  pub record MayBeGathered (parts : Parts W w e) : Type 0 where
    pub tasks : AllTasksOf parts.board parts.tasks.items
    pub entries : AllEntriesOf parts.board parts.entries.items
    pub exits : AllExitsOf parts.board parts.exits.items
    pub there : AllThere parts.board parts.tasks.items parts.entries.items parts.exits.items
    pub untouched : AllUntouched parts.board parts.entries.items
    pub unasked : none_asked (begun_in parts.board) ≡ true
    pub exit_count : length (begun_in parts.board).exits ≡ length parts.exits.items
    pub uncalled : All (IsUncalled parts.board) parts.exits.items

module _ {W : Type 0} {w : _} {e : _} (meaning : W → Value → Result (List Value) WorkFault) where
  -- the network that comes back is lawful and goes on from the old one; parts are of a board on which it was scattered
  abbrev pub IsLeft : Net W w e → RunFault W w e → Type 0
  IsLeft old (fault.Ids net) = RunsOn old net × (Lawful (run_of meaning net) × NetNeedsId meaning net)
  IsLeft old (fault.Net net) = RunsOn old net × Lawful (run_of meaning net)
  IsLeft old (fault.Parts parts) = IsScatteredOf old parts.board × MayBeGathered parts

  abbrev pub IsLeftOf : Board W → RunFault W w e → Type 0
  IsLeftOf board (fault.Ids net) = ⊥
  IsLeftOf board (fault.Net net) = IsGatheredOf board net × Lawful (run_of meaning net)
  IsLeftOf board (fault.Parts parts) = (parts.board ≡ board) × MayBeGathered parts
