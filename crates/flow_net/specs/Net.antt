-- What a contract sees of a network: its layout, its state, its run so far, and the words of a state said of a network.
use Rattle.std.specs.Prelude.{ℕ, Bool, List, Result}
use Rattle.flow_value.specs.declared.value.Value.{Value}
use Rattle.flow_value.specs.declared.work.WorkFault.{WorkFault}
use Rattle.flow_link.specs.Layout.{Layout}
use Rattle.flow_link.specs.Planned.{layout_of}
use Rattle.flow_link.specs.Trace.{Run}
use Rattle.flow_core.specs.Events.{NetEvent, MayHappen, after}
use Rattle.flow_core.specs.State.{NetState, run_of_net}
use Rattle.flow_core.specs.Statements.{IsStill}
use Rattle.flow_exec.specs.Works.{works_of}
use Rattle.flow_net.specs.Events.{IsRefused}
use Rattle.flow_net.specs.Settles.{Settles, GoesOn}
use Rattle.flow_net.specs.There.{NeedsId}
use Rattle.flow_net.specs.declared.event.Event.{Event}
use Rattle.flow_net.specs.declared.fault.NetFault.{NetFault}
use Rattle.flow_net.specs.declared.net.Net.{Net}
use Rattle.flow_net.specs.declared.settled.Settled.{Settled}

abbrev pub layout_in : {W : Type 0} {w : _} {e : _} → Net W w e → Layout W
layout_in net = layout_of net.engine.plan

abbrev pub parts_of : {W : Type 0} {w : _} {e : _} → Net W w e → NetState
parts_of net = net.engine.parts

-- the run of a state, by what the blocks' works mean
abbrev pub run_with : {W : Type 0} → (W → Value → Result (List Value) WorkFault) → Layout W → NetState → Run W
run_with meaning layout parts = run_of_net layout (works_of meaning layout) parts

abbrev pub run_of : {W : Type 0} {w : _} {e : _} → (W → Value → Result (List Value) WorkFault) → Net W w e → Run W
run_of meaning net = run_with meaning (layout_in net) (parts_of net)

module _ {W : Type 0} {w : _} {e : _} (meaning : W → Value → Result (List Value) WorkFault) where
  -- the event may happen, ids included
  abbrev pub NetMayHappen : Net W w e → NetEvent → Type 0
  NetMayHappen net event = MayHappen (layout_in net) (works_of meaning (layout_in net)) event (parts_of net)

  -- the state after the event
  abbrev pub net_after : Net W w e → NetEvent → NetState
  net_after net event = after (layout_in net) (works_of meaning (layout_in net)) event (parts_of net)

  -- something would happen next for which no id is left
  abbrev pub NetNeedsId : Net W w e → Type 0
  NetNeedsId net = NeedsId (layout_in net) (works_of meaning (layout_in net)) (parts_of net)

  -- nothing may happen any more
  abbrev pub NetIsStill : Net W w e → Type 0
  NetIsStill net = IsStill (layout_in net) (works_of meaning (layout_in net)) (parts_of net)

  -- some events have been done, and not more than the limit
  abbrev pub NetGoesOn : ℕ → Net W w e → Net W w e → Type 0
  NetGoesOn limit old new = GoesOn (layout_in old) (works_of meaning (layout_in old)) limit (parts_of old) (parts_of new)

  -- the same, until nothing may happen any more or as many are done as the limit
  abbrev pub NetSettles : ℕ → Net W w e → Net W w e → Settled → Type 0
  NetSettles limit old new how =
      Settles (layout_in old) (works_of meaning (layout_in old)) limit (parts_of old) (parts_of new) how

-- why a network refuses an event that its owner names
abbrev pub NetRefuses : {W : Type 0} {w : _} {e : _} → (W → W → Bool) → (W → Value → Result (List Value) WorkFault) → Net W w e →
    Event W w e → NetFault → Type 0
NetRefuses equal meaning net event fault = IsRefused equal (layout_in net) (works_of meaning (layout_in net)) (parts_of net) event fault
