-- The number of each fault of a draft, and of each fault of a block that makes outputs.
use Rattle.std.specs.Prelude.{ℕ, Option, Some, None}
use Rattle.flow_link.specs.declared.plan.PlanFault.{PlanFault}
use Rattle.flow_link.specs.declared.plan.PlanFault.TheVariants.{Limit, DuplicateName, UnknownBlock, Port, NoOutput, BadOption, CapacityBelowSize, SharedSource, Cycle}
use Rattle.flow_link.specs.declared.traits.MakeFault.{MakeFault}
use Rattle.flow_link.specs.declared.traits.MakeFault.TheVariants.{Ids, Memory}

abbrev pub fault_number : PlanFault → ℕ
fault_number Limit = 1
fault_number (DuplicateName _) = 2
fault_number (UnknownBlock _) = 3
fault_number (Port _) = 4
fault_number (NoOutput _) = 5
fault_number (BadOption _) = 6
fault_number (CapacityBelowSize _) = 7
fault_number (SharedSource _) = 8
fault_number Cycle = 9

-- out of memory has none
abbrev pub make_fault_number : MakeFault → Option ℕ
make_fault_number Ids = Some 1
make_fault_number Memory = None
