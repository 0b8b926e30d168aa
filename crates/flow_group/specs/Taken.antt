-- What a tuple and a group take from each port, and what is held where there is none.
use Rattle.std.specs.Prelude.{◌≡◌, ℕ, ◌+◌, ◌<◌, Bool, true, false, List, [], length, get_or, take, drop, None}
use Rattle.flow_intake.specs.Port.{PortState, fresh_port}
use Rattle.flow_group.specs.Group.{came_at, has_group, takes_group}
use Rattle.flow_group.specs.Tuple.{held_at, has_tuple, takes_tuple}

abbrev pub port_in : List PortState → ℕ → PortState
port_in ports p = get_or ports p (fresh_port None)

-- of a port so many messages are taken that waited longest, and nothing else changes: its room does not come back by that
pub record IsTaken (count : ℕ) (old new : PortState) : Type 0 where
  pub only : new ≡ record old { waiting = drop count old.waiting }
  pub were_there : length old.waiting ≡ count + length new.waiting

pub record PortsTaken : Type 0 where
  -- one message of each port
  pub tuple : (ports : List PortState) → has_tuple ports ≡ true → (p : ℕ) → p < length ports
      → IsTaken 1 (port_in ports p) (port_in (takes_tuple ports) p)
  -- of each port those of the group, where arrivals are noted as messages wait
  pub group : (size : ℕ) (order : List ℕ) (ports : List PortState) → ((p : ℕ) → p < length ports → came_at p order ≡ length (held_at ports p))
      → (p : ℕ) → p < length ports
      → IsTaken (came_at p (take size order)) (port_in ports p) (port_in (takes_group size order ports) p)

-- a port that holds nothing
pub record HasEmptyPort (ports : List PortState) : Type 0 where
  pub port : ℕ
  pub there : port < length ports
  pub empty : held_at ports port ≡ []

-- fewer messages than a group has, and none where all ports are completed
pub record HoldsLess (size : ℕ) (ended : Bool) (order : List ℕ) : Type 0 where
  pub fewer : length order < size
  pub none : ended ≡ true → order ≡ []

pub record NothingMore : Type 0 where
  pub no_tuple : (ports : List PortState) → has_tuple ports ≡ false → HasEmptyPort ports
  pub no_group : (size : ℕ) (ended : Bool) (order : List ℕ) → 0 < size → has_group size ended order ≡ false → HoldsLess size ended order
