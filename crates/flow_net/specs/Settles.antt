-- How a run goes on: by events one after another, until nothing may happen any more or as many are done as may be.
use Rattle.std.specs.Prelude.{◌≡◌, ℕ, ◌≤◌, List, Result}
use Rattle.flow_value.specs.declared.value.Value.{Value}
use Rattle.flow_link.specs.Layout.{Layout}
use Rattle.flow_core.specs.State.{NetState}
use Rattle.flow_core.specs.Statements.{IsStill}
use Rattle.flow_net.specs.Happened.{Happened}
use Rattle.flow_net.specs.declared.settled.Settled.{Settled}
use Rattle.flow_net.specs.declared.settled.Settled.TheVariants.{Quiet, Stopped}

module _ {W : Type 0} (layout : Layout W) (meaning : ℕ → Value → Result (List Value) ℕ) (limit : ℕ) (old new : NetState) where
  -- some events have happened, and not more than may
  pub record GoesOn : Type 0 where
    pub count : ℕ
    pub within : count ≤ limit
    pub happened : Happened layout meaning count old new

  -- it is quiet, or just as many events as may have happened and it is not
  pub record Settles (how : Settled) : Type 0 where
    pub count : ℕ
    pub within : count ≤ limit
    pub happened : Happened layout meaning count old new
    pub quiet : how ≡ Quiet → IsStill layout meaning new
    pub all_done : how ≡ Stopped → count ≡ limit
    pub not_quiet : how ≡ Stopped → IsStill layout meaning new → ⊥
