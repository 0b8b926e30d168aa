-- Which network a text is: the plan of the draft that it is read as; or why it is none.
use Rattle.std.specs.Prelude.{◌≡◌, ◌⊎◌, ℕ, List, None, Some}
use Rattle.flow_value.specs.declared.steps.Steps.{Steps}
use Rattle.flow_link.specs.declared.draft.Draft.{Draft}
use Rattle.flow_link.specs.declared.plan.PlanFault.{PlanFault}
use Rattle.flow_link.specs.declared.check.PlanRefusal.{PlanRefusal}
use Rattle.flow_link.specs.declared.check.PlanRefusal.TheVariants as unplanned
use Rattle.flow_link.specs.Layout.{Layout}
use Rattle.flow_link.specs.PlanFaults.{first_plan_fault}
use Rattle.flow_link.specs.Plan.{planned_links}
use Rattle.flow_plan_text.specs.Read.{IsReadAs, IsRefusedFor}
use Rattle.flow_fault_text.specs.declared.fault.TextFault.TheVariants.{Plan}
use Rattle.flow_fault_text.specs.declared.fault.TextRefusal.{TextRefusal}
use Rattle.flow_fault_text.specs.declared.fault.TextRefusal.TheVariants.{Fault, Memory}

-- the text is read as a draft in which no fault stands, and these are its blocks and links with those of its inputs
pub record IsPlannedAs (text : List ℕ) (layout : Layout Steps) : Type 0 where
  pub draft : Draft Steps
  pub read : IsReadAs text draft
  pub faultless : first_plan_fault draft.blocks.items draft.links.items ≡ None
  pub blocks : layout.blocks ≡ draft.blocks.items
  pub links : layout.links ≡ planned_links draft.blocks.items draft.links.items

-- the text is read as a draft in which this fault is the first that stands
pub record HasPlanFault (text : List ℕ) (fault : PlanFault) : Type 0 where
  pub draft : Draft Steps
  pub read : IsReadAs text draft
  pub first : first_plan_fault draft.blocks.items draft.links.items ≡ Some fault

-- the text is read as a draft that is refused so; of when memory is out nothing is said
abbrev pub IsNoPlanFor : List ℕ → TextRefusal → Type 0
IsNoPlanFor text (Fault (Plan fault)) = HasPlanFault text fault
IsNoPlanFor text (Fault _) = ⊥
IsNoPlanFor text Memory = Unit {0}

-- why there is no network
abbrev pub IsUnplannedFor : List ℕ → TextRefusal → Type 0
IsUnplannedFor text refusal = IsRefusedFor text refusal ⊎ IsNoPlanFor text refusal

-- a refusal of the draft that a text is read as, as one of the text
abbrev pub refusal_of_plan : PlanRefusal → TextRefusal
refusal_of_plan (unplanned.Fault fault) = Fault (Plan fault)
refusal_of_plan unplanned.Memory = Memory
