-- How what is wrong with a text is told: its number, its name and its place.
use Rattle.std.specs.Prelude.{ℕ, List, ◌++◌, codes}
use Rattle.std.specs.Fmt.{decimal}
use Rattle.flow_link.specs.declared.plan.Place.{Place}
use Rattle.flow_link.specs.declared.plan.Place.TheVariants as drafted
use Rattle.flow_link.specs.declared.plan.PlanFault.{PlanFault}
use Rattle.flow_link.specs.declared.plan.PlanFault.TheVariants.{Limit, DuplicateName, UnknownBlock, Port, NoOutput, BadOption, CapacityBelowSize, SharedSource, Cycle}
use Rattle.flow_fault_text.specs.declared.fault.TextPlace.{TextPlace}
use Rattle.flow_fault_text.specs.declared.fault.TextPlace.TheVariants.{Top, Block, Link}
use Rattle.flow_fault_text.specs.declared.fault.TextFault.{TextFault}
use Rattle.flow_fault_text.specs.declared.fault.TextFault.TheVariants.{Syntax, UnknownKey, MissingKey, WrongType, BadWork, BadWhen, BadFormat, Plan, Csv, NotUtf8, UnknownInput, Read, Write}

-- where a fault stands
abbrev pub place_text : TextPlace → List ℕ
place_text Top = codes "top"
place_text (Block number) = codes "block " ++ decimal number
place_text (Link number) = codes "link " ++ decimal number

-- the place in the text of a place in the draft that it is read as
abbrev pub place_of : Place → TextPlace
place_of (drafted.Block number) = Block number
place_of (drafted.Link number) = Link number

-- what is wrong with a draft
abbrev pub plan_text : PlanFault → List ℕ
plan_text Limit = codes "1 Limit"
plan_text (DuplicateName block) = codes "2 DuplicateName " ++ place_text (Block block)
plan_text (UnknownBlock link) = codes "3 UnknownBlock " ++ place_text (Link link)
plan_text (Port link) = codes "4 Port " ++ place_text (Link link)
plan_text (NoOutput link) = codes "5 NoOutput " ++ place_text (Link link)
plan_text (BadOption place) = codes "6 BadOption " ++ place_text (place_of place)
plan_text (CapacityBelowSize block) = codes "7 CapacityBelowSize " ++ place_text (Block block)
plan_text (SharedSource block) = codes "8 SharedSource " ++ place_text (Block block)
plan_text Cycle = codes "9 Cycle"

-- what is wrong with a text
abbrev pub fault_text : TextFault → List ℕ
fault_text Syntax = codes "1 Syntax"
fault_text (UnknownKey place) = codes "2 UnknownKey " ++ place_text place
fault_text (MissingKey place) = codes "3 MissingKey " ++ place_text place
fault_text (WrongType place) = codes "4 WrongType " ++ place_text place
fault_text (BadWork place) = codes "5 BadWork " ++ place_text place
fault_text (BadWhen place) = codes "6 BadWhen " ++ place_text place
fault_text BadFormat = codes "7 BadFormat"
fault_text (Plan fault) = codes "8 Plan " ++ plan_text fault
fault_text (Csv record_number) = codes "9 Csv record " ++ decimal record_number
fault_text (NotUtf8 record_number) = codes "10 NotUtf8 record " ++ decimal record_number
fault_text (UnknownInput record_number) = codes "11 UnknownInput record " ++ decimal record_number
fault_text Read = codes "12 Read"
fault_text Write = codes "13 Write"
