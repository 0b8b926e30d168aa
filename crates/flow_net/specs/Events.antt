-- The events of a network's state that the events of the program are, what the answer to one says, and why one is refused.
use Rattle.std.specs.Prelude.{ℕ, Bool, List, Result}
use Rattle.flow_value.specs.declared.value.Value.{Value}
use Rattle.flow_link.specs.Layout.{Layout}
use Rattle.flow_exec.specs.Jobs.{ticket_in}
use Rattle.flow_exec.specs.Results.{job_in}
use Rattle.flow_core.specs.Events.{NetEvent}
use Rattle.flow_core.specs.State.{NetState}
use Rattle.flow_net.specs.OwnJobs.{IsOwnJob, IsNextJob}
use Rattle.flow_net.specs.There.{IsWhyNot}
use Rattle.flow_net.specs.declared.event.Event.{Event}
use Rattle.flow_net.specs.declared.event.Event.TheVariants.{Link, Make, Begin, End, Complete, Fault, Done}
use Rattle.flow_net.specs.declared.event.Stepped.{Stepped}
use Rattle.flow_net.specs.declared.event.Stepped.TheVariants.{Moved, Began}
use Rattle.flow_net.specs.declared.fault.NetFault.{NetFault}
use Rattle.flow_net.specs.declared.fault.NetFault.TheVariants.{NotEnabled}

abbrev pub net_event : {W : Type 0} {w : _} {e : _} → Event W w e → NetEvent
net_event (Link l next) = NetEvent.at_link l next
net_event (Make b) = NetEvent.make b
net_event (Begin b) = NetEvent.begin b
net_event (End b done) = NetEvent.end_job b (ticket_in (job_in done))
net_event (Complete b p) = NetEvent.complete b p
net_event (Fault b) = NetEvent.fault b
net_event (Done b) = NetEvent.finish b

-- a job begins, or its result comes back
abbrev pub IsOfJob : {W : Type 0} {w : _} {e : _} → Event W w e → Type 0
IsOfJob (Begin b) = Unit {0}
IsOfJob (End b done) = Unit {0}
IsOfJob _ = ⊥

-- a result that comes back is that of a job of the block which is out; nothing is asked of any other event
abbrev pub IsOfOwnJob : {W : Type 0} {w : _} {e : _} → (W → W → Bool) → Layout W → NetState → Event W w e → Type 0
IsOfOwnJob equal layout net (End b done) = IsOwnJob equal layout net b (job_in done)
IsOfOwnJob equal layout net _ = Unit {0}

-- a result may be one that the block does not wait for; every other event is refused for what the network's state tells
abbrev pub IsRefused : {W : Type 0} {w : _} {e : _} → (W → W → Bool) → Layout W → (ℕ → Value → Result (List Value) ℕ) → NetState →
    Event W w e → NetFault → Type 0
IsRefused equal layout meaning net (End b done) NotEnabled = IsOwnJob equal layout net b (job_in done) → ⊥
IsRefused equal layout meaning net (End b done) fault =
    IsOwnJob equal layout net b (job_in done) × IsWhyNot layout meaning net (net_event (End b done)) fault
IsRefused equal layout meaning net event fault = IsWhyNot layout meaning net (net_event event) fault

-- the answer to an event that happened: the job of the next message of its block, where one begins, and else that it is done
abbrev pub Answers : {W : Type 0} {w : _} {e : _} → (W → W → Bool) → Layout W → NetState → Event W w e → Stepped W → Type 0
Answers equal layout net (Begin b) (Began job) = IsNextJob equal layout net b job
Answers equal layout net (Begin b) Moved = ⊥
Answers equal layout net event (Began job) = ⊥
Answers equal layout net event Moved = Unit {0}
