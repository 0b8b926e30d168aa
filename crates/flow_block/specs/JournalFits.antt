-- For how many marks a node's journal has room: one for each message that it may take, and one for the head.
use Rattle.std.specs.Prelude.{ℕ, ◌+◌, cond, List, [], ◌∷◌, is_some}
use Rattle.flow_intake.specs.Port.{PortState, count_at, is_owed}
use Rattle.flow_spread.specs.End.{count_of, is_busy_at, is_waiting_at}
use Rattle.flow_spread.specs.Spread.{SpreadState}
use Rattle.flow_block.specs.Block.{BlockState}

abbrev pub port_due : PortState → ℕ
port_due port = count_at is_owed port.ends + cond port.ready 1 0

abbrev pub ports_due : List PortState → ℕ
ports_due [] = 0
ports_due (port ∷ ports) = port_due port + ports_due ports

-- the links that may be given the element
abbrev pub copies_due : SpreadState → ℕ
copies_due copies = count_of is_busy_at copies.ends + count_of is_waiting_at copies.ends

abbrev pub marks_due : BlockState → ℕ
marks_due block = ports_due block.ports + cond (is_some block.exits.parcel) 1 0 + copies_due block.copies
