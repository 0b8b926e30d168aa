-- The words of a network's state, said of an engine: of the layout of its plan, by what the works of its blocks mean.
use Rattle.std.specs.Prelude.{ℕ, List, Result}
use Rattle.flow_value.specs.declared.value.Value.{Value}
use Rattle.flow_value.specs.declared.work.WorkFault.{WorkFault}
use Rattle.flow_link.specs.Planned.{layout_of}
use Rattle.flow_core.specs.Events.{NetEvent, Enabled, HasIds, MayHappen, after}
use Rattle.flow_core.specs.Keeps.{NetKeeps}
use Rattle.flow_core.specs.State.{NetState}
use Rattle.flow_core.specs.Statements.{IsStill}
use Rattle.flow_exec.specs.Works.{works_of}
use Rattle.flow_net.specs.Happened.{Happened}
use Rattle.flow_net.specs.Serves.{Serves}
use Rattle.flow_net.specs.Settles.{Settles, GoesOn}
use Rattle.flow_net.specs.There.{LinkHasId, IsDue, NeedsId, IsWhyNot}
use Rattle.flow_net.specs.declared.engine.Engine.{Engine}
use Rattle.flow_net.specs.declared.fault.NetFault.{NetFault}
use Rattle.flow_net.specs.declared.serve.Caller.{Caller}
use Rattle.flow_net.specs.declared.settled.Settled.{Settled}

-- the event is enabled
abbrev pub EnabledIn : {W : Type 0} → Engine W → NetEvent → Type 0
EnabledIn engine event = Enabled (layout_of engine.plan) engine.parts event

module _ {W : Type 0} (meaning : W → Value → Result (List Value) WorkFault) where
  -- what is known of every network: its blocks, its links and their journals fit together
  abbrev pub InOrder : Engine W → Type 0
  InOrder engine = ∥ NetKeeps (layout_of engine.plan) (works_of meaning (layout_of engine.plan)) engine.parts ∥₁

  -- the event may happen, ids included
  abbrev pub MayHappenIn : Engine W → NetEvent → Type 0
  MayHappenIn engine event = MayHappen (layout_of engine.plan) (works_of meaning (layout_of engine.plan)) event engine.parts

  -- the state after the event
  abbrev pub parts_after : Engine W → NetEvent → NetState
  parts_after engine event = after (layout_of engine.plan) (works_of meaning (layout_of engine.plan)) event engine.parts

  -- there are ids for what the event brings forth
  abbrev pub HasIdsIn : Engine W → NetEvent → Type 0
  HasIdsIn engine event = HasIds (layout_of engine.plan) (works_of meaning (layout_of engine.plan)) event engine.parts

  -- the same of a message that goes over a link, and nothing of any other event
  abbrev pub LinkHasIdIn : Engine W → NetEvent → Type 0
  LinkHasIdIn engine event = LinkHasId (layout_of engine.plan) (works_of meaning (layout_of engine.plan)) engine.parts event

  -- the event may happen, as far as can be told before it does
  abbrev pub IsDueIn : Engine W → NetEvent → Type 0
  IsDueIn engine event = IsDue (layout_of engine.plan) (works_of meaning (layout_of engine.plan)) engine.parts event

  -- why the event is not done
  abbrev pub IsWhyNotIn : Engine W → NetEvent → NetFault → Type 0
  IsWhyNotIn engine event fault =
      IsWhyNot (layout_of engine.plan) (works_of meaning (layout_of engine.plan)) engine.parts event fault

  -- something would happen next for which no id is left
  abbrev pub NeedsIdIn : Engine W → Type 0
  NeedsIdIn engine = NeedsId (layout_of engine.plan) (works_of meaning (layout_of engine.plan)) engine.parts

  -- nothing may happen any more
  abbrev pub IsStillIn : Engine W → Type 0
  IsStillIn engine = IsStill (layout_of engine.plan) (works_of meaning (layout_of engine.plan)) engine.parts

  -- so many events have been done, one after another
  abbrev pub HasDone : ℕ → Engine W → Engine W → Type 0
  HasDone count old new = Happened (layout_of old.plan) (works_of meaning (layout_of old.plan)) count old.parts new.parts

  -- some events have been done, and not more than the limit
  abbrev pub GoesOnIn : ℕ → Engine W → Engine W → Type 0
  GoesOnIn limit old new = GoesOn (layout_of old.plan) (works_of meaning (layout_of old.plan)) limit old.parts new.parts

  -- the same, until nothing may happen any more or as many are done as the limit
  abbrev pub SettlesIn : ℕ → Engine W → Engine W → Settled → Type 0
  SettlesIn limit old new how = Settles (layout_of old.plan) (works_of meaning (layout_of old.plan)) limit old.parts new.parts how

  -- the same, until it has enough for this caller, nothing may happen any more or as many are done as the limit
  abbrev pub ServesIn : Caller → ℕ → Engine W → Engine W → Type 0
  ServesIn caller limit old new =
      Serves (layout_of old.plan) (works_of meaning (layout_of old.plan)) caller limit old.parts new.parts
