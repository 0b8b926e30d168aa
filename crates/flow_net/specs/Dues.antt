-- The events that a driver finds, and which of them a block does by itself.
use Rattle.flow_core.specs.Events.{NetEvent}
use Rattle.flow_net.specs.declared.due.Due.{Due}
use Rattle.flow_net.specs.declared.due.Due.TheVariants.{Link, Make, Begin, End, Complete, Fault, Done}

abbrev pub event_of : Due → NetEvent
event_of (Link l next) = NetEvent.at_link l next
event_of (Make b) = NetEvent.make b
event_of (Begin b) = NetEvent.begin b
event_of (End b ticket) = NetEvent.end_job b ticket
event_of (Complete b p) = NetEvent.complete b p
event_of (Fault b) = NetEvent.fault b
event_of (Done b) = NetEvent.finish b

-- a port completes, or the block stops
abbrev pub IsEnd : Due → Type 0
IsEnd (Complete b p) = Unit {0}
IsEnd (Fault b) = Unit {0}
IsEnd (Done b) = Unit {0}
IsEnd _ = ⊥

-- a result comes back
abbrev pub IsEndOfJob : Due → Type 0
IsEndOfJob (End b ticket) = Unit {0}
IsEndOfJob _ = ⊥

-- a block does it by itself
abbrev pub IsOwn : Due → Type 0
IsOwn (Link l next) = ⊥
IsOwn _ = Unit {0}
