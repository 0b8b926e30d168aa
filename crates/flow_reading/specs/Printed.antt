-- What is printed of a report, and of its parts.
use Rattle.std.specs.Prelude.{ℕ, List, [], ◌∷◌, ◌++◌, ◌+◌, codes, Option, option_map}
use Rattle.std.specs.List.{flat_map}
use Rattle.std.specs.Fmt.{decimal}
use Rattle.flow_reading.specs.Line.{line_text, optional_line}
use Rattle.flow_reading.specs.declared.list.PrintedList.{PrintedList}
use Rattle.flow_reading.specs.declared.report.State.{State}
use Rattle.flow_reading.specs.declared.report.State.TheVariants.{Open, Completing, Done, Faulted}
use Rattle.flow_reading.specs.declared.report.Settled.{Settled}
use Rattle.flow_reading.specs.declared.report.Settled.TheVariants.{Quiet, Stopped}
use Rattle.flow_reading.specs.declared.report.PortReport.{PortReport}
use Rattle.flow_reading.specs.declared.report.LinkReport.{LinkReport}
use Rattle.flow_reading.specs.declared.report.Kept.{Kept}
use Rattle.flow_reading.specs.declared.report.Kept.TheVariants.{Record, Left}
use Rattle.flow_reading.specs.declared.report.BlockReport.{BlockReport}
use Rattle.flow_reading.specs.declared.report.Report.{Report}

-- a list, with its brackets
abbrev pub list_text : PrintedList → List ℕ
list_text list = list.text.now

-- a number, and a list behind it
abbrev pub numbered_text : ℕ → PrintedList → List ℕ
numbered_text number list = decimal number ++ 32 ∷ list_text list

abbrev pub state_text : State → List ℕ
state_text Open = codes "open"
state_text Completing = codes "completing"
state_text Done = codes "done"
state_text (Faulted number) = codes "faulted " ++ decimal number

abbrev pub settled_text : Settled → List ℕ
settled_text Quiet = line_text (codes "quiet") []
settled_text Stopped = line_text (codes "stopped") []

-- the two lines of a port with this number
abbrev pub port_text : ℕ → PortReport → List ℕ
port_text number port =
    line_text (codes "port ") (numbered_text number port.taken)
    ++ line_text (codes "held ") (numbered_text number port.held)

-- the lines of ports, of which the first has this number
abbrev pub ports_text : ℕ → List PortReport → List ℕ
ports_text number [] = []
ports_text number (port ∷ ports) = port_text number port ++ ports_text (number + 1) ports

abbrev pub link_text : LinkReport → List ℕ
link_text link = line_text (codes "link ") (numbered_text link.number link.given)

abbrev pub kept_text : Kept → List ℕ
kept_text (Record list) = line_text (codes "record ") (list_text list)
kept_text (Left list) = line_text (codes "left ") (list_text list)

-- the line of a list that not every block has
abbrev pub optional_text : List ℕ → Option PrintedList → List ℕ
optional_text words list = optional_line words (option_map list_text list)

-- the name and the state of a block
abbrev pub title_text : BlockReport → List ℕ
title_text block = block.name.now ++ 32 ∷ state_text block.state

-- the lines of a block behind its first one
abbrev pub body_text : BlockReport → List ℕ
body_text block =
    optional_text (codes "input ") block.input ++ (ports_text 0 block.ports.items
    ++ (flat_map link_text block.links.items
    ++ (optional_text (codes "exit ") block.exit ++ kept_text block.kept)))

abbrev pub block_text : BlockReport → List ℕ
block_text block = line_text (codes "block ") (title_text block) ++ body_text block

abbrev pub report_text : Report → List ℕ
report_text report = flat_map block_text report.blocks.items ++ settled_text report.settled
