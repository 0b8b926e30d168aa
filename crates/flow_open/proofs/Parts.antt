-- Entries and exits of one board, of which one changes.
use Rattle.std.proofs.Common.{◌≡◌, ℕ, zero, suc, ◌<◌, List, [], ◌∷◌, length, map, get_or, set, ap, ◌∙◌, arith}
use Rattle.std.proofs.Math.Seq.{map-set_same}
use Rattle.flow_board.specs.Parts.{AllEntriesOf, AllExitsOf, entry_board, entry_number, exit_board, exit_number}
use Rattle.flow_task.specs.declared.board.Board.{Board}
use Rattle.flow_task.specs.declared.numbered.Entry.{Entry}
use Rattle.flow_task.specs.declared.numbered.Exit.{Exit}

module _ {W : Type 0} {w : _} {e : _} (board : Board W) where
  pub entry_of : (entries : List (Entry W w e)) (k : ℕ) (entry : Entry W w e) → AllEntriesOf board entries → k < length entries
      → entry ≡ get_or entries k entry → entry_board entry ≡ board
  entry_of [] k entry all low is = absurd (omega (arith, low))
  entry_of (first ∷ entries) zero entry all low is = ap entry_board is ∙ all.0
  entry_of (first ∷ entries) (suc k) entry all low is = entry_of entries k entry all.1 (omega (arith, low)) is

  pub entries_set : (entries : List (Entry W w e)) (k : ℕ) (entry : Entry W w e) → AllEntriesOf board entries → entry_board entry ≡ board
      → AllEntriesOf board (set entries k entry)
  entries_set [] k entry all its = tt
  entries_set (first ∷ entries) zero entry all its = (its, all.1)
  entries_set (first ∷ entries) (suc k) entry all its = (all.0, entries_set entries k entry all.1 its)

  pub exit_of : (exits : List (Exit W w e)) (k : ℕ) (exit : Exit W w e) → AllExitsOf board exits → k < length exits
      → exit ≡ get_or exits k exit → exit_board exit ≡ board
  exit_of [] k exit all low is = absurd (omega (arith, low))
  exit_of (first ∷ exits) zero exit all low is = ap exit_board is ∙ all.0
  exit_of (first ∷ exits) (suc k) exit all low is = exit_of exits k exit all.1 (omega (arith, low)) is

  pub exits_set : (exits : List (Exit W w e)) (k : ℕ) (exit : Exit W w e) → AllExitsOf board exits → exit_board exit ≡ board
      → AllExitsOf board (set exits k exit)
  exits_set [] k exit all its = tt
  exits_set (first ∷ exits) zero exit all its = (its, all.1)
  exits_set (first ∷ exits) (suc k) exit all its = (all.0, exits_set exits k exit all.1 its)

module _ {W : Type 0} {w : _} {e : _} where
  pub entry_numbers_set : (entries : List (Entry W w e)) (k : ℕ) (old new : Entry W w e) → old ≡ get_or entries k old
      → entry_number new ≡ entry_number old → map entry_number (set entries k new) ≡ map entry_number entries
  entry_numbers_set entries k old new is same = map-set_same entry_number entries k new old (same ∙ ap entry_number is)

  pub exit_numbers_set : (exits : List (Exit W w e)) (k : ℕ) (old new : Exit W w e) → old ≡ get_or exits k old
      → exit_number new ≡ exit_number old → map exit_number (set exits k new) ≡ map exit_number exits
  exit_numbers_set exits k old new is same = map-set_same exit_number exits k new old (same ∙ ap exit_number is)
