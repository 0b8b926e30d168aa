-- In which order the faults of a draft are looked for: in groups, and in each group from the first block or link on.
use Rattle.std.specs.Prelude.{ℕ, Bool, cond, not, List, [], ◌∷◌, ◌++◌, length, map, find, Option, Some, None}
use Rattle.flow_link.specs.declared.draft.BlockDef.{BlockDef}
use Rattle.flow_link.specs.declared.draft.LinkDef.{LinkDef}
use Rattle.flow_link.specs.declared.plan.Place.TheVariants.{Block, Link as at_link}
use Rattle.flow_link.specs.declared.plan.PlanFault.{PlanFault}
use Rattle.flow_link.specs.declared.plan.PlanFault.TheVariants.{Limit, DuplicateName, UnknownBlock, Port, NoOutput, BadOption, SharedSource, Cycle}
use Rattle.flow_link.specs.declared.plan.Link.{Link}
use Rattle.flow_link.specs.Lists.{some, below}
use Rattle.flow_link.specs.PlanFaults.{stands, options_fit, shares_among, walks}

-- the block has a name or an option that its kind does not have
unfoldable pub is_bad_block : {W : Type 0} → BlockDef W → Bool
is_bad_block block = not (options_fit block)

-- the first of the last two faults, where links lead so
abbrev pub shared_first : Option ℕ → Bool → Option PlanFault
shared_first (Some b) cycle = Some (SharedSource b)
shared_first None cycle = cond cycle (Some Cycle) None

abbrev pub fault_of_ways : {W : Type 0} → List (BlockDef W) → List Link → Option PlanFault
fault_of_ways blocks links =
    shared_first (find (shares_among blocks links) (below (length blocks)))
    (some (λ b. walks links (length blocks) (length blocks) b b) (below (length blocks)))

module _ {W : Type 0} (blocks : List (BlockDef W)) (links : List LinkDef) where
  -- the first place below this number at which a fault of this kind stands
  abbrev pub first_at : (ℕ → PlanFault) → ℕ → Option ℕ
  first_at fault count = find (λ place. stands blocks links (fault place)) (below count)

  -- the faults in three groups, which are looked for one after another
  abbrev pub name_faults : List PlanFault
  name_faults = (Limit ∷ []) ++ map DuplicateName (below (length blocks)) ++ map UnknownBlock (below (length links))

  abbrev pub end_faults : List PlanFault
  end_faults = map Port (below (length links)) ++ map NoOutput (below (length links))

  abbrev pub option_faults : List PlanFault
  option_faults = map (λ b. BadOption (Block b)) (below (length blocks)) ++ map (λ l. BadOption (at_link l)) (below (length links))
