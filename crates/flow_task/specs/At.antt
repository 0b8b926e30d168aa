-- What a contract sees of a task, a watch, an entry or an exit beside its board, and what the turns of a task come to.
use Rattle.std.specs.Prelude.{◌≡◌, ℕ, ◌<◌, List, [], Result, refl}
use Rattle.std.proofs.Common.{◌∙◌, subst}
use Rattle.flow_value.specs.declared.value.Value.{Value}
use Rattle.flow_value.specs.declared.work.WorkFault.{WorkFault}
use Rattle.flow_poll.specs.Receives.{Sight, StaysOver}
use Rattle.flow_poll.specs.declared.actor.Turned.{Turned}
use Rattle.flow_poll.specs.declared.actor.TurnState.TheVariants.{Moved, Ended}
use Rattle.flow_moves.specs.Sights.{sight_of}
use Rattle.flow_task.specs.Ended.{HasEnded}
use Rattle.flow_task.specs.Parts.{entry_number, exit_number, exit_state, task_number, watched_block}
use Rattle.flow_task.specs.Rests.{HasState, Rests}
use Rattle.flow_task.specs.TaskTurns.{HasLookedAll, HasTurned, LanesOnlyEnd}
use Rattle.flow_task.specs.declared.board.Board.{Board}
use Rattle.flow_task.specs.declared.numbered.Task.{Task}
use Rattle.flow_task.specs.declared.numbered.Entry.{Entry}
use Rattle.flow_task.specs.declared.numbered.Exit.{Exit}
use Rattle.flow_task.specs.declared.numbered.Watch.{Watch}
use Rattle.flow_task.specs.declared.at.TaskAt.{TaskAt}
use Rattle.flow_task.specs.declared.at.WatchAt.{WatchAt}
use Rattle.flow_task.specs.declared.at.EntryAt.{EntryAt}
use Rattle.flow_task.specs.declared.at.ExitAt.{ExitAt}

-- what is over stays over, and over several steps
pub over_stays : (sight : Sight) → StaysOver sight sight
over_stays Sight.nothing = tt
over_stays Sight.message = tt
over_stays (Sight.over how) = refl

pub over_goes_further : (first mid last : Sight) → StaysOver first mid → StaysOver mid last → StaysOver first last
over_goes_further Sight.nothing mid last head tail = tt
over_goes_further Sight.message mid last head tail = tt
over_goes_further (Sight.over how) mid last head tail = subst (λ (sight : Sight). StaysOver sight last) head tail

module _ {W : Type 0} {w : _} {e : _} where
  -- the task, and its board
  abbrev pub task_at : TaskAt W w e → Task W w e
  task_at at = at.task

  abbrev pub board_at : TaskAt W w e → Board W
  board_at at = at.board.now

  -- the watch, and its board
  abbrev pub watch_at : WatchAt W w e → Watch W w e
  watch_at at = at.watch

  abbrev pub watching_board : WatchAt W w e → Board W
  watching_board at = at.board.now

  -- it watches the same block of the same board
  pub record IsSameWatch (old new : WatchAt W w e) : Type 0 where
    pub board : watching_board new ≡ watching_board old
    pub block : watched_block (watch_at new) ≡ watched_block (watch_at old)

  -- the entry, and its board
  abbrev pub entry_in : EntryAt W w e → Entry W w e
  entry_in at = at.way_in

  abbrev pub sending_board : EntryAt W w e → Board W
  sending_board at = at.board.now

  -- it is the same entry of the same board
  pub record IsSameEntry (old new : EntryAt W w e) : Type 0 where
    pub board : sending_board new ≡ sending_board old
    pub number : entry_number (entry_in new) ≡ entry_number (entry_in old)

  pub entry_same : (at : EntryAt W w e) → IsSameEntry at at
  entry_same at = record { board = refl; number = refl }

  pub entry_further : (first mid last : EntryAt W w e) → IsSameEntry first mid → IsSameEntry mid last → IsSameEntry first last
  entry_further first mid last head tail = record {
    board = tail.board ∙ head.board;
    number = tail.number ∙ head.number;
  }

  -- the exit, and its board
  abbrev pub exit_in : ExitAt W w e → Exit W w e
  exit_in at = at.exit

  abbrev pub receiving_board : ExitAt W w e → Board W
  receiving_board at = at.board.now

  -- it is the same exit of the same board, and what was over there is over
  pub record IsSameExit (old new : ExitAt W w e) : Type 0 where
    pub board : receiving_board new ≡ receiving_board old
    pub number : exit_number (exit_in new) ≡ exit_number (exit_in old)
    pub over : StaysOver (sight_of (exit_state (exit_in old))) (sight_of (exit_state (exit_in new)))

  pub exit_same : (at : ExitAt W w e) → IsSameExit at at
  exit_same at = record { board = refl; number = refl; over = over_stays (sight_of (exit_state (exit_in at))) }

  pub exit_further : (first mid last : ExitAt W w e) → IsSameExit first mid → IsSameExit mid last → IsSameExit first last
  exit_further first mid last head tail = record {
    board = tail.board ∙ head.board;
    number = tail.number ∙ head.number;
    over = over_goes_further (sight_of (exit_state (exit_in first))) (sight_of (exit_state (exit_in mid))) (sight_of (exit_state (exit_in last)))
        head.over tail.over;
  }

  -- it is the same part of the same board
  pub record IsSame (old new : TaskAt W w e) : Type 0 where
    pub board : board_at new ≡ board_at old
    pub number : task_number (task_at new) ≡ task_number (task_at old)

  pub stays_same : (at : TaskAt W w e) → IsSame at at
  stays_same at = record { board = refl; number = refl }

  pub same_further : (first mid last : TaskAt W w e) → IsSame first mid → IsSame mid last → IsSame first last
  same_further first mid last head tail = record {
    board = tail.board ∙ head.board;
    number = tail.number ∙ head.number;
  }

  -- what a turn tells of the task before it and after it: as many events happened as it counts, it moved where something was done, it
  -- has ended where it says so, and there is nothing to do where nothing was done
  pub record Tells (meaning : W → Value → Result (List Value) WorkFault) (old : Task W w e) (budget : ℕ) (turned : Turned) (task : Task W w e)
      : Type 0 where
    pub happens : HasTurned meaning turned.events old task
    pub state : HasState turned.events turned.state old task
    pub lanes : budget ≡ 0 → LanesOnlyEnd old task
    pub looked : turned.events ≡ 0 → HasLookedAll old task
    pub moved : 0 < turned.events → turned.state ≡ Moved
    pub ended : turned.state ≡ Ended → HasEnded task
    pub rests : 0 < budget → turned.events ≡ 0 → Rests meaning task
