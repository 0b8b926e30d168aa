-- What the program's arguments ask for: a network in standard input, or one in a file with the bounds of its run.
use Rattle.std.specs.Prelude.{◌≡◌, ℕ, ◌≤◌, nat_le, ◌&&◌, if◌then◌else◌, List, [], ◌∷◌, ⊤, Option, Some, None, String, string_bytes}
use Rattle.flow_cli.specs.Number.{number_of}
use Rattle.flow_cli.specs.declared.request.Bounds.{Bounds}
use Rattle.flow_cli.specs.declared.request.Request.{Request}
use Rattle.flow_cli.specs.declared.request.Request.TheVariants.{Input, File}

-- as many as may run a network
pub record IsCrew (workers : ℕ) : Type 0 where
  pub least : 1 ≤ workers
  pub most : workers ≤ 64

-- the number of workers that a text names
abbrev pub workers_in : Option ℕ → Option ℕ
workers_in None = None
workers_in (Some n) = if nat_le 1 n && nat_le n 64 then Some n else None

abbrev pub workers_of : List ℕ → Option ℕ
workers_of text = workers_in (number_of text)

-- both bounds, where both are there
abbrev pub both_bounds : Option ℕ → Option ℕ → Option Bounds
both_bounds None limit = None
both_bounds (Some workers) None = None
both_bounds (Some workers) (Some limit) = Some (record { workers = workers; limit = limit })

-- the network in this file is asked for, where there are bounds
abbrev pub AsksFile : List ℕ → Option Bounds → Option Request → Type 0
AsksFile net None request = request ≡ None
AsksFile net (Some bounds) None = ⊥
AsksFile net (Some bounds) (Some Input) = ⊥
AsksFile net (Some bounds) (Some (File path given)) = (path.now ≡ net) × (given ≡ bounds)

-- there are workers, and not too many
abbrev pub HasCrew : Request → Type 0
HasCrew Input = ⊤
HasCrew (File path bounds) = IsCrew bounds.workers

-- how many workers run what stands in standard input
abbrev pub default_workers : ℕ
default_workers = 2

-- the limit of events where none is named
abbrev pub default_limit : ℕ
default_limit = 10000000

module _ {Y : Type 0} where
  -- the bounds that the arguments behind the network name; where there is no limit, it is the default one
  abbrev pub bounds_of : List (String Y) → Option Bounds
  bounds_of [] = None
  bounds_of (workers ∷ []) = both_bounds (workers_of (string_bytes workers)) (Some default_limit)
  bounds_of (workers ∷ limit ∷ []) = both_bounds (workers_of (string_bytes workers)) (number_of (string_bytes limit))
  bounds_of (workers ∷ limit ∷ other ∷ others) = None

  -- what the arguments ask for
  abbrev pub Asks : List (String Y) → Option Request → Type 0
  Asks [] request = request ≡ Some Input
  Asks (net ∷ options) request = AsksFile (string_bytes net) (bounds_of options) request
