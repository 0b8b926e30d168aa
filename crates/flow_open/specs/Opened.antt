-- What a network is after it was run open, with its senders and receivers, and what comes back where memory is out.
use Rattle.std.specs.Prelude.{◌≡◌, ◌≢◌, ◌↔◌, All, List, Option, Result, length, map}
use Rattle.flow_value.specs.declared.value.Value.{Value}
use Rattle.flow_value.specs.declared.work.WorkFault.{WorkFault}
use Rattle.flow_lawful.specs.Lawful.{Lawful}
use Rattle.flow_net.specs.Net.{layout_in, parts_of, run_of}
use Rattle.flow_net.specs.declared.net.Net.{Net}
use Rattle.flow_board.specs.Begun.{ClosedInputsStay, JournalsGoOn, begun_in}
use Rattle.flow_board.specs.Gathers.{AreBack, EntryIsKept, ExitIsKept}
use Rattle.flow_board.specs.Parts.{AllEntriesOf, AllExitsOf, AllTasksOf, board_layout, entry_number, exit_number, exit_state}
use Rattle.flow_board.specs.Untouched.{AllUntouched}
use Rattle.flow_task.specs.Absent.{AllThere}
use Rattle.flow_task.specs.declared.board.Board.{Board}
use Rattle.flow_task.specs.declared.numbered.Entry.{Entry}
use Rattle.flow_task.specs.declared.numbered.Exit.{Exit}
use Rattle.flow_task.specs.declared.numbered.Parts.{Parts}
use Rattle.flow_crew.specs.Rounds.{ComeBack}
use Rattle.flow_crew.specs.Runs.{IsScatteredOf, RunsOn}
use Rattle.flow_open.specs.declared.fault.Ended.TheVariants.{Unmatched}
use Rattle.flow_open.specs.declared.fault.OpenFault.{OpenFault}
use Rattle.flow_open.specs.declared.fault.OpenFault.TheVariants as fault
use Rattle.flow_open.specs.declared.fault.Opened.{Opened}
use Rattle.flow_open.specs.declared.sender.Sender.{Sender}
use Rattle.flow_open.specs.Sends.{EachSends}
use Rattle.flow_open.specs.Takes.{EachTakes}

module _ {W : Type 0} {w : _} {e : _} where
  -- all parts of a board, in the order of their numbers
  pub record AreWhole (parts : Parts W w e) : Type 0 where
    pub tasks : AllTasksOf parts.board parts.tasks.items
    pub entries : AllEntriesOf parts.board parts.entries.items
    pub exits : AllExitsOf parts.board parts.exits.items
    pub there : AllThere parts.board parts.tasks.items parts.entries.items parts.exits.items

  -- a network was scattered into these parts: what was under way over its links may have been taken, no call was made at an entry, and
  -- at exits nothing was received since
  pub record IsScattered (net : Net W w e) (parts : Parts W w e) : Type 0 where
    pub whole : AreWhole parts
    pub of : IsScatteredOf net parts.board
    pub untouched : AllUntouched parts.board parts.entries.items
    pub received : map exit_state parts.exits.items ≡ (begun_in parts.board).exits

module _ {W : Type 0} {w : _} {e : _} {S F : Type 0} where
  -- as many senders as entries, and as many receivers as exits
  abbrev pub AreMatched : List (Entry W w e) → List (Sender S) → List (Exit W w e) → List F → Type 0
  AreMatched entries senders exits receivers = (length senders ≡ length entries) × (length receivers ≡ length exits)

module _ {W : Type 0} {w : _} {e : _} {S F : Type 0} (gives : S → Option Value → S → Type 0) (takes : F → Value → F → Type 0) where
  -- parts were run: they are there yet, senders have sent at their entries, and receivers were given what came at their exits; where
  -- these were not as many, nothing was sent or received
  pub record HaveRun (before : Parts W w e) (senders : List (Sender S)) (receivers : List F)
      (after : Parts W w e) (senders_then : List (Sender S)) (receivers_then : List F) : Type 0 where
    pub board : after.board ≡ before.board
    pub tasks : ComeBack before.board before.tasks.items after.tasks.items
    pub entries : AllEntriesOf before.board after.entries.items
    pub exits : AllExitsOf before.board after.exits.items
    pub entries_are : map entry_number after.entries.items ≡ map entry_number before.entries.items
    pub exits_are : map exit_number after.exits.items ≡ map exit_number before.exits.items
    pub sends : EachSends gives before.entries.items senders after.entries.items senders_then
    pub takes_in : EachTakes takes before.exits.items receivers after.exits.items receivers_then
    pub unmatched : (AreMatched before.entries.items senders before.exits.items receivers → ⊥)
        → (after.entries.items ≡ before.entries.items) × (senders_then ≡ senders)
        × (after.exits.items ≡ before.exits.items) × (receivers_then ≡ receivers)

  -- parts were run, and come back in the order of their numbers
  pub record AreLeft (before : Parts W w e) (senders : List (Sender S)) (receivers : List F)
      (parts : Parts W w e) (senders_then : List (Sender S)) (receivers_then : List F) : Type 0 where
    pub after : Parts W w e
    pub ran : HaveRun before senders receivers after senders_then receivers_then
    pub back : AreBack after parts
    pub whole : AreWhole parts

  -- what comes back of parts is such
  abbrev pub IsLeftOf : Parts W w e → List (Sender S) → List F → OpenFault W S F w e → Type 0
  IsLeftOf before senders receivers (fault.Net net senders_then receivers_then) = ⊥
  IsLeftOf before senders receivers (fault.Parts parts senders_then receivers_then) =
      AreLeft before senders receivers parts senders_then.items receivers_then.items

module _ {W : Type 0} {w : _} {e : _} (meaning : W → Value → Result (List Value) WorkFault) where
  -- a network was gathered over this board: each journal goes on, an input without an entry has what was posted to it, each other what was
  -- sent at its entry, and what was received at an exit was given over its link
  pub record IsGathered (board : Board W) (entries : List (Entry W w e)) (exits : List (Exit W w e)) (net : Net W w e) : Type 0 where
    pub same_layout : layout_in net ≡ board_layout board
    pub lawful : Lawful (run_of meaning net)
    pub journals : JournalsGoOn board (parts_of net)
    pub posted : ClosedInputsStay board (parts_of net)
    pub sent : All (λ entry. EntryIsKept meaning board (parts_of net) entry) entries
    pub given : All (λ exit. ExitIsKept meaning board (parts_of net) exit) exits

module _ {W : Type 0} {w : _} {e : _} {S F : Type 0} (meaning : W → Value → Result (List Value) WorkFault) (gives : S → Option Value → S → Type 0)
    (takes : F → Value → F → Type 0) where
  -- parts were run and gathered, and it is told where senders and receivers were not as many as entries and exits
  pub record IsRunOf (before : Parts W w e) (senders : List (Sender S)) (receivers : List F) (opened : Opened W S F w e) : Type 0 where
    pub after : Parts W w e
    pub ran : HaveRun gives takes before senders receivers after opened.senders.items opened.receivers.items
    pub gathered : IsGathered meaning before.board after.entries.items after.exits.items opened.net
    pub matched : (opened.ended ≢ Unmatched) ↔ AreMatched before.entries.items senders before.exits.items receivers

  -- the same of a network, which was scattered before
  pub record IsOpened (net : Net W w e) (senders : List (Sender S)) (receivers : List F) (opened : Opened W S F w e) : Type 0 where
    pub before : Parts W w e
    pub scattered : IsScattered net before
    pub ran : IsRunOf before senders receivers opened

  -- the network comes back lawful, and nothing was sent or received; or it was scattered and run, and its parts come back
  abbrev pub IsBack : Net W w e → List (Sender S) → List F → OpenFault W S F w e → Type 0
  IsBack old senders receivers (fault.Net net senders_then receivers_then) =
      RunsOn old net × (Lawful (run_of meaning net) × ((senders_then.items ≡ senders) × (receivers_then.items ≡ receivers)))
  IsBack old senders receivers (fault.Parts parts senders_then receivers_then) =
      (before : Parts W w e) × (IsScattered old before × AreLeft gives takes before senders receivers parts senders_then.items receivers_then.items)
