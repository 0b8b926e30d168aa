-- How a refusal is told: by a line, and by a status.
use Rattle.std.specs.Prelude.{ℕ, List, codes}
use Rattle.flow_fault_text.specs.FaultText.{fault_text}
use Rattle.flow_fault_text.specs.declared.fault.TextFault.{TextFault}
use Rattle.flow_fault_text.specs.declared.fault.TextFault.TheVariants.{Syntax, UnknownKey, MissingKey, WrongType, BadWork, BadWhen, BadFormat, Plan, Csv, NotUtf8, UnknownInput, Read, Write}
use Rattle.flow_fault_text.specs.declared.fault.TextRefusal.{TextRefusal}
use Rattle.flow_fault_text.specs.declared.fault.TextRefusal.TheVariants as text
use Rattle.bevelrose_c.specs.declared.refusal.Refusal.{Refusal}
use Rattle.bevelrose_c.specs.declared.refusal.Refusal.TheVariants.{Text, Ids, Memory, Closed}

-- a text is refused
abbrev pub refusal_of : TextRefusal → Refusal
refusal_of (text.Fault fault) = Text fault
refusal_of text.Memory = Memory

-- the line that tells of it
abbrev pub refusal_text : Refusal → List ℕ
refusal_text (Text fault) = fault_text fault
refusal_text Ids = codes "ids"
refusal_text Memory = codes "memory"
refusal_text Closed = codes "closed"

abbrev pub fault_status : TextFault → ℕ
fault_status Syntax = 2
fault_status (UnknownKey _) = 2
fault_status (MissingKey _) = 2
fault_status (WrongType _) = 2
fault_status (BadWork _) = 2
fault_status (BadWhen _) = 2
fault_status BadFormat = 2
fault_status (Plan _) = 2
fault_status (Csv _) = 2
fault_status (NotUtf8 _) = 2
fault_status (UnknownInput _) = 2
fault_status Read = 5
fault_status Write = 5

abbrev pub refusal_status : Refusal → ℕ
refusal_status (Text fault) = fault_status fault
refusal_status Ids = 3
refusal_status Memory = 4
refusal_status Closed = 2
