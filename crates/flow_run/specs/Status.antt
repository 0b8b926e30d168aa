-- The status that each outcome of a run ends the program with.
use Rattle.std.specs.Prelude.{ℕ, true, false, Result, Ok, Err}
use Rattle.flow_net.specs.declared.settled.Settled.TheVariants.{Quiet, Stopped}
use Rattle.flow_fault_text.specs.declared.fault.TextFault.{TextFault}
use Rattle.flow_fault_text.specs.declared.fault.TextFault.TheVariants.{Syntax, UnknownKey, MissingKey, WrongType, BadWork, BadWhen, BadFormat, Plan, Csv, NotUtf8, UnknownInput, Read, Write}
use Rattle.flow_run.specs.declared.outcome.Ran.{Ran}
use Rattle.flow_run.specs.declared.outcome.RunRefusal.{RunRefusal}
use Rattle.flow_run.specs.declared.outcome.RunRefusal.TheVariants.{Text, Ids, Memory}

-- of a run that was reported
abbrev pub run_status : Ran → ℕ
run_status ran = elim ran.settled [ Quiet ↦ elim ran.complete [ true ↦ 0 | false ↦ 1 ] | Stopped ↦ 3 ]

-- of a fault of a text
abbrev pub fault_status : TextFault → ℕ
fault_status Syntax = 2
fault_status (UnknownKey _) = 2
fault_status (MissingKey _) = 2
fault_status (WrongType _) = 2
fault_status (BadWork _) = 2
fault_status (BadWhen _) = 2
fault_status BadFormat = 2
fault_status (Plan _) = 2
fault_status (Csv _) = 2
fault_status (NotUtf8 _) = 2
fault_status (UnknownInput _) = 2
fault_status Read = 5
fault_status Write = 5

-- of every outcome
abbrev pub status_of : Result Ran RunRefusal → ℕ
status_of (Ok ran) = run_status ran
status_of (Err (Text fault)) = fault_status fault
status_of (Err Ids) = 3
status_of (Err Memory) = 4
