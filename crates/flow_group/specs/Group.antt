-- A group of a batched join: the messages that came in first, whatever their ports.
use Rattle.std.specs.Prelude.{ℕ, suc, ◌+◌, ◌==◌, leb, cond, Bool, ◌&&◌, ◌||◌, not, List, [], ◌∷◌, length, take, drop}
use Rattle.flow_value.specs.View.{items_from}
use Rattle.flow_value.specs.declared.value.Value.{Value}
use Rattle.flow_value.specs.declared.value.Value.TheVariants.{Row}
use Rattle.flow_link.specs.Lists.{is_empty}
use Rattle.flow_intake.specs.Port.{PortState}

-- the order in which messages came in
pub record ArrivalsState : Type 0 where
  -- the ports of the messages that are in no group yet, oldest first
  pub ports : List ℕ
  -- for how many more memory is set aside
  pub room : ℕ

-- how many of these messages came in at a port
abbrev pub came_at : ℕ → List ℕ → ℕ
came_at p [] = 0
came_at p (q ∷ order) = cond (q == p) 1 0 + came_at p order

-- there is a next group: as many messages as a group has, or the rest where all ports are completed
abbrev pub has_group : ℕ → Bool → List ℕ → Bool
has_group size ended order = not (is_empty order) && (leb size (length order) || ended)

abbrev pub row_of : List Value → Value
row_of values = Row (items_from values)

-- of a group whose messages came in so: at each port, from this one on, a row of its first messages, as many as the
-- group has from there
abbrev pub rows_from : ℕ → List ℕ → List PortState → List Value
rows_from p group [] = []
rows_from p group (port ∷ ports) = row_of (take (came_at p group) port.waiting) ∷ rows_from (suc p) group ports

abbrev pub group_of : ℕ → List ℕ → List PortState → Value
group_of size order ports = row_of (rows_from 0 (take size order) ports)

-- these messages are taken from all ports
abbrev pub takes_first : ℕ → PortState → PortState
takes_first count port = record port { waiting = drop count port.waiting }

abbrev pub takes_from : ℕ → List ℕ → List PortState → List PortState
takes_from p group [] = []
takes_from p group (port ∷ ports) = takes_first (came_at p group) port ∷ takes_from (suc p) group ports

abbrev pub takes_group : ℕ → List ℕ → List PortState → List PortState
takes_group size order ports = takes_from 0 (take size order) ports

abbrev pub drops_group : ℕ → ArrivalsState → ArrivalsState
drops_group size arrivals = record arrivals { ports = drop size arrivals.ports }
