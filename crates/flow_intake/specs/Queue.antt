-- The order in which offers wait: a list of places, of which each stands in it once at most.
--
-- The program keeps the entries of places that have left for a while. Each entry has a number, each place the number of its
-- entry that stands, or 0.
use Rattle.std.specs.Prelude.{◌≡◌, ℕ, ◌<◌, ◌≤◌, Bool, not, ◌==◌, cond, List, [], ◌∷◌, filter, get_or}
use Rattle.flow_intake.specs.declared.queue.Entry.{Entry}

-- a queue of places below a number, and whether room is set aside for one more
pub record PlaceQueue : Type 0 where
  pub places : List ℕ
  pub count : ℕ
  pub has_room : Bool

-- the queue when this place has left it
abbrev pub without : ℕ → List ℕ → List ℕ
without place queue = filter (λ other. not (other == place)) queue

-- the entry stands: its place has this turn
abbrev pub stands : List ℕ → Entry → Bool
stands turns entry = get_or turns entry.place 0 == entry.number

-- the places of the entries that stand
abbrev pub standing : List ℕ → List Entry → List ℕ
standing turns [] = []
standing turns (entry ∷ entries) =
    cond (stands turns entry) (entry.place ∷ standing turns entries) (standing turns entries)

-- each entry is of a place below this number
abbrev pub ArePlaced : ℕ → List Entry → Type 0
ArePlaced count [] = Unit {0}
ArePlaced count (entry ∷ entries) = (entry.place < count) × ArePlaced count entries

-- each entry has a number that was drawn, from 1 to the last
abbrev pub AreNumbered : ℕ → List Entry → Type 0
AreNumbered last [] = Unit {0}
AreNumbered last (entry ∷ entries) = ((1 ≤ entry.number) × (entry.number ≤ last)) × AreNumbered last entries

-- the entry in front stands
abbrev pub FirstStands : List ℕ → List Entry → Type 0
FirstStands turns [] = Unit {0}
FirstStands turns (entry ∷ _) = get_or turns entry.place 0 ≡ entry.number
