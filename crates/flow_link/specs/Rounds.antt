-- How far walks reach: a row says from which blocks a block is reached.
use Rattle.std.specs.Prelude.{◌≡◌, ℕ, ◌==◌, ◌<◌, Bool, false, ◌||◌, ◌&&◌, List, length, get_or}
use Rattle.flow_link.specs.declared.plan.Link.{Link}
use Rattle.flow_link.specs.declared.plan.LinkTarget.{LinkTarget}
use Rattle.flow_link.specs.declared.plan.LinkTarget.TheVariants.{Port, Exit}
use Rattle.flow_link.specs.Lists.{some}
use Rattle.flow_link.specs.Plan.{begins_at}
use Rattle.flow_link.specs.PlanFaults.{walks}

-- the target is the end of the walk, or the row says that the end is reached from it
abbrev pub goes_on : ℕ → List Bool → LinkTarget → Bool
goes_on end row (Port block _) = block == end || get_or row block false
goes_on end row Exit = false

-- some link from this block goes on to the end
abbrev pub sets_out : List Link → ℕ → List Bool → ℕ → Bool
sets_out links end row block = some (λ link. begins_at block link.source && goes_on end row link.target) links

-- the row says from which blocks a walk of at most this many links leads to the end
abbrev pub IsRound : List Link → ℕ → ℕ → List Bool → Type 0
IsRound links steps end row = (block : ℕ) → block < length row → get_or row block false ≡ walks links (length row) steps block end
