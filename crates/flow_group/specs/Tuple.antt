-- A tuple of a join: the message that waits longest at each of its ports, taken from all of them together.
use Rattle.std.specs.Prelude.{ℕ, Bool, ◌&&◌, ◌||◌, not, List, get_or, map, None, pos}
use Rattle.flow_value.specs.View.{items_from}
use Rattle.flow_value.specs.declared.value.Value.{Value}
use Rattle.flow_value.specs.declared.value.Value.TheVariants.{Int, Row}
use Rattle.std.specs.List.{list_all, list_any}
use Rattle.flow_link.specs.Lists.{is_empty}
use Rattle.flow_intake.specs.Port.{PortState, fresh_port}
use Rattle.flow_intake.specs.PortLaw.{has_ended}
use Rattle.flow_intake.specs.Calls.{takes_next}

-- what waits at a port
abbrev pub held_at : List PortState → ℕ → List Value
held_at ports p = (get_or ports p (fresh_port None)).waiting

-- a message waits at each port
abbrev pub has_first : PortState → Bool
has_first port = not (is_empty port.waiting)

abbrev pub has_tuple : List PortState → Bool
has_tuple ports = list_all has_first ports

-- the message that waits longest at a port, where one does
abbrev pub first_at : PortState → Value
first_at port = get_or port.waiting 0 (Int (pos 0))

-- the row of these messages, in the order of the ports
abbrev pub tuple_of : List PortState → Value
tuple_of ports = Row (items_from (map first_at ports))

-- they are taken from all ports; their room does not come back by that
abbrev pub takes_tuple : List PortState → List PortState
takes_tuple ports = map takes_next ports

-- no partner comes any more for what is still to come at other ports
abbrev pub has_run_dry : PortState → Bool
has_run_dry port = has_ended port.refusing && is_empty port.waiting

abbrev pub all_ended : List PortState → Bool
all_ended ports = list_all (λ (port : PortState). has_ended port.refusing) ports

-- a join is complete when all its ports are, or when a completed one holds nothing
abbrev pub is_join_complete : List PortState → Bool
is_join_complete ports = all_ended ports || list_any has_run_dry ports
