-- What an entry is to which no call was made.
use Rattle.std.specs.Prelude.{◌≡◌, All, List}
use Rattle.flow_input.specs.Input.{InputState}
use Rattle.flow_input.specs.Sends.{settled}
use Rattle.flow_task.specs.Begun.{begun_input}
use Rattle.flow_task.specs.Entries.{with_parcel}
use Rattle.flow_task.specs.Parts.{entry_link, entry_state}
use Rattle.flow_task.specs.declared.board.Board.{Board}
use Rattle.flow_task.specs.declared.numbered.Entry.{Entry}

-- what was taken up to now is told no more
abbrev pub passed : InputState → InputState
passed input = record input { told = settled input }

module _ {W : Type 0} {w : _} {e : _} (board : Board W) where
  -- its input is as the network had it, but for that and for the parcel of the next value
  abbrev pub IsUntouched : Entry W w e → Type 0
  IsUntouched entry = with_parcel (entry_state entry) ≡ with_parcel (passed (begun_input board (entry_link entry)))

  abbrev pub AllUntouched : List (Entry W w e) → Type 0
  AllUntouched entries = All IsUntouched entries
