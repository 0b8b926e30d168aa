-- The numbers of faults.
use Rattle.std.specs.Prelude.{ℕ, Option, Some, None}
use Rattle.flow_value.specs.declared.work.WorkFault.{WorkFault}
use Rattle.flow_value.specs.declared.work.WorkFault.TheVariants.{NotInt, NotText, NotRow, NoField, Range, Rejected, Memory}

-- the number by which a report names a fault; out of memory faults no block and has none
abbrev pub number_of : WorkFault → Option ℕ
number_of NotInt = Some 1
number_of NotText = Some 2
number_of NotRow = Some 3
number_of NoField = Some 4
number_of Range = Some 5
number_of Rejected = Some 6
number_of Memory = None
