-- A number of events, one after another, each of which may happen when it does.
use Rattle.std.specs.Prelude.{◌≡◌, ℕ, zero, suc, List, Result}
use Rattle.flow_value.specs.declared.value.Value.{Value}
use Rattle.flow_link.specs.Layout.{Layout}
use Rattle.flow_core.specs.Events.{NetEvent, MayHappen, after}
use Rattle.flow_core.specs.State.{NetState}

module _ {W : Type 0} (layout : Layout W) (meaning : ℕ → Value → Result (List Value) ℕ) where
  -- an event leads from one state to another
  pub record Leads (old new : NetState) : Type 0 where
    pub event : NetEvent
    pub may : MayHappen layout meaning event old
    pub new_is : new ≡ after layout meaning event old

  -- exactly so many events
  abbrev pub Happened : ℕ → NetState → NetState → Type 0
  Happened zero old new = new ≡ old
  Happened (suc n) old new = (mid : NetState) × (Happened n old mid × Leads mid new)
