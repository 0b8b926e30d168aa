-- Which events may be done, and why one is not.
use Rattle.std.specs.Prelude.{ℕ, ◌<◌, ◌^◌, List, Result}
use Rattle.flow_value.specs.declared.value.Value.{Value}
use Rattle.flow_link.specs.declared.phase.Move.{Move}
use Rattle.flow_link.specs.declared.phase.Move.TheVariants.{Offer}
use Rattle.flow_link.specs.Layout.{Layout}
use Rattle.flow_core.specs.Events.{NetEvent, Enabled, HasIds, MayHappen}
use Rattle.flow_core.specs.State.{NetState}
use Rattle.flow_net.specs.declared.fault.NetFault.{NetFault}
use Rattle.flow_net.specs.declared.fault.NetFault.TheVariants.{NotEnabled, Ids, Memory}

module _ {W : Type 0} (layout : Layout W) (meaning : ℕ → Value → Result (List Value) ℕ) (net : NetState) where
  -- a message that goes over a link has an id; of what a block makes that is known when it is made
  abbrev pub LinkHasId : NetEvent → Type 0
  LinkHasId (NetEvent.at_link l next) = HasIds layout meaning (NetEvent.at_link l next) net
  LinkHasId _ = Unit {0}

  -- the event may happen, as far as can be told before it does
  pub record IsDue (event : NetEvent) : Type 0 where
    pub enabled : Enabled layout net event
    pub id : LinkHasId event

  -- something would happen next for which no id is left
  pub record NeedsId : Type 0 where
    pub event : NetEvent
    pub enabled : Enabled layout net event
    pub none_left : HasIds layout meaning event net → ⊥

  -- the event is enabled, and an id is wanting for what would come out
  pub record LacksIds (event : NetEvent) : Type 0 where
    pub enabled : Enabled layout net event
    pub none_left : HasIds layout meaning event net → ⊥

  -- why an event is not done: it is not enabled; or else ids are wanting; or else it may happen, and memory is out
  abbrev pub IsWhyNot : NetEvent → NetFault → Type 0
  IsWhyNot event NotEnabled = Enabled layout net event → ⊥
  IsWhyNot event Ids = LacksIds event
  IsWhyNot event Memory = MayHappen layout meaning event net

-- what a move offers has an id
abbrev pub OffersAnId : Move → Type 0
OffersAnId (Offer id) = id < 2 ^ 59
OffersAnId _ = Unit {0}
