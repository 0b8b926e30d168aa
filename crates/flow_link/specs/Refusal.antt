-- Why a draft is refused.
use Rattle.std.specs.Prelude.{◌≡◌, Option, Some, None}
use Rattle.flow_link.specs.declared.plan.PlanFault.{PlanFault}
use Rattle.flow_link.specs.declared.check.PlanRefusal.{PlanRefusal}
use Rattle.flow_link.specs.declared.check.PlanRefusal.TheVariants.{Fault, Memory}

-- the refusal names the first fault, and out of memory comes where there is none
abbrev pub IsWhy : Option PlanFault → PlanRefusal → Type 0
IsWhy first (Fault fault) = first ≡ Some fault
IsWhy first Memory = first ≡ None
