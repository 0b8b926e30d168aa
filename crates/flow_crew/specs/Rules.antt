-- The rule of the queue in which tasks wait.
use Rattle.std.specs.Prelude.{◌≡◌, ℕ, ◌+◌, ◌≤◌, List, [], ◌∷◌, length}
use mathlib.Core.Option.{some}
use lib.ListN.{get_elem?}
use Rattle.flow_crew.specs.Numbers.{weigh}
use Rattle.flow_crew.specs.declared.rule.Hand.{Hand}

abbrev pub hand : ℕ → List ℕ → Hand
hand parts holds = record { parts = parts; holds = holds }

-- the parts of all passes together: enough for as many workers
abbrev pub all_parts : ℕ
all_parts = 64

abbrev pub total : (Hand → ℕ) → List Hand → ℕ
total f [] = 0
total f (v ∷ vs) = f v + total f vs

-- a pass with no part holds nothing
abbrev pub IdleIsEmpty : List Hand → Type 0
IdleIsEmpty views = (port : ℕ) (v : Hand) → get_elem? views port ≡ some v → v.parts ≡ 0 → v.holds ≡ []

-- however they are weighed, all tasks are those that the passes hold and those in the queue
abbrev pub Balanced : List ℕ → List ℕ → List Hand → Type 0
Balanced all items views =
    (total (λ v. v.parts) views ≡ all_parts)
    × ((h : ℕ → ℕ) → total (λ v. weigh h v.holds) views + weigh h items ≡ weigh h all)
    × IdleIsEmpty views

-- the pass with every part knows the whole
abbrev pub Tells : List ℕ → Hand → List ℕ → Type 0
Tells all v items = v.parts ≡ all_parts → (h : ℕ → ℕ) → weigh h v.holds + weigh h items ≡ weigh h all

-- what a pass holds and what is in the queue are at most all
abbrev pub HasRoom : List ℕ → Hand → List ℕ → Type 0
HasRoom all v items = length v.holds + length items ≤ length all
