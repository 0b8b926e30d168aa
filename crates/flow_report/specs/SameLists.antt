-- Where lists of a run may have the same values: over a link that alone leads into a port, and in a block that hands its
-- messages on.
use Rattle.std.specs.Prelude.{◌≡◌, ℕ, ◌<◌, Bool, true, false, not, length, None}
use Rattle.flow_link.specs.declared.draft.BlockKind.{BlockKind}
use Rattle.flow_link.specs.declared.kinds.BlockUnit.{BlockUnit}
use Rattle.flow_link.specs.declared.kinds.BlockUnit.TheVariants as unit
use Rattle.flow_link.specs.Kinds.{has_work, unit_of}
use Rattle.flow_link.specs.declared.plan.LinkSource.TheVariants.{Block}
use Rattle.flow_link.specs.declared.plan.LinkTarget.TheVariants.{Port}
use Rattle.flow_link.specs.Plan.{begins_at, ends_at_port, is_steady}
use Rattle.flow_link.specs.Trace.{Run, link_of, given_over, taken_over, is_refused}
use Rattle.flow_value.specs.declared.when.When.TheVariants.{Any}

-- what makes something of one message at a time hands it on unless it has a function, and so does what copies each
abbrev pub hands_on_by : BlockUnit → Bool → Bool
hands_on_by unit.Message works = not works
hands_on_by unit.Row works = false
hands_on_by unit.Tuple works = false
hands_on_by unit.Group works = false
hands_on_by unit.Copy works = true
hands_on_by unit.OneCopy works = false

-- a block of this kind hands its messages on as they are
abbrev pub hands_on : BlockKind → Bool
hands_on kind = hands_on_by (unit_of kind) (has_work kind)

-- what makes rows of one message from each port may end before they have all completed, and so may what copies one message
abbrev pub ends_with_ports_by : BlockUnit → Bool
ends_with_ports_by unit.Message = true
ends_with_ports_by unit.Row = true
ends_with_ports_by unit.Tuple = false
ends_with_ports_by unit.Group = true
ends_with_ports_by unit.Copy = true
ends_with_ports_by unit.OneCopy = false

-- a block of this kind ends only once its ports have completed
abbrev pub ends_with_ports : BlockKind → Bool
ends_with_ports kind = ends_with_ports_by (unit_of kind)

module _ {W : Type 0} (run : Run W) where
  -- the link leads into the port, and no other does
  pub record LeadsAlone (b p l : ℕ) : Type 0 where
    pub there : l < length run.layout.links
    pub leads : ends_at_port b p (link_of run l).target ≡ true
    pub alone : (k : ℕ) → k < length run.layout.links → ends_at_port b p (link_of run k).target ≡ true → k ≡ l

  -- what was given over a link between blocks was taken
  abbrev pub AllTaken : Type 0
  AllTaken = (l s b p : ℕ) → l < length run.layout.links → (link_of run l).source ≡ Block s → (link_of run l).target ≡ Port b p
      → given_over run l ≡ taken_over run l

  -- no other link begins at this block
  abbrev pub LeavesAlone : ℕ → ℕ → Type 0
  LeavesAlone b l = (k : ℕ) → k < length run.layout.links → begins_at b (link_of run k).source ≡ true → k ≡ l

  -- the target takes each message, and did not refuse, and the link lets each cross
  pub record CarriesEach (l : ℕ) : Type 0 where
    pub steady : is_steady run.layout.blocks (link_of run l).target ≡ true
    pub when : (link_of run l).when ≡ Any
    pub max : (link_of run l).max ≡ None
    pub refused : is_refused run l ≡ false
