-- A network is brought home: over each link where a message was given, the target opens and closes it, and nothing else happens.
use Rattle.std.specs.Prelude.{◌≡◌, ◌⊎◌, ℕ, zero, suc, List, Option, Some, None, Result}
use Rattle.flow_value.specs.declared.value.Value.{Value}
use Rattle.flow_value.specs.declared.work.WorkFault.{WorkFault}
use Rattle.flow_link.specs.declared.phase.Move.{Move}
use Rattle.flow_link.specs.declared.phase.Move.TheVariants.{Open, Close}
use Rattle.flow_link.specs.declared.phase.Phase.{Phase}
use Rattle.flow_link.specs.declared.phase.Phase.TheVariants.{Given, Opened}
use Rattle.flow_link.specs.Layout.{Layout}
use Rattle.flow_core.specs.Events.{NetEvent, MayHappen, after}
use Rattle.flow_core.specs.State.{NetState, line_at}
use Rattle.flow_exec.specs.Works.{works_of}
use Rattle.flow_task.specs.Orders.{HasLookedAround}

-- the target's next move for a message that was given
abbrev pub next_home : Phase → Option Move
next_home (Given _) = Some Open
next_home (Opened _) = Some Close
next_home _ = None

module _ {W : Type 0} (layout : Layout W) (meaning : ℕ → Value → Result (List Value) ℕ) where
  -- the target of a link makes that move
  pub record TakesHome (old new : NetState) : Type 0 where
    pub link : ℕ
    pub next : Move
    pub is_home : next_home (line_at old link).phase ≡ Some next
    pub may : MayHappen layout meaning (NetEvent.at_link link next) old
    pub new_is : new ≡ after layout meaning (NetEvent.at_link link next) old

  -- exactly so often
  abbrev pub TakenHome : ℕ → NetState → NetState → Type 0
  TakenHome zero old new = new ≡ old
  TakenHome (suc n) old new = (mid : NetState) × (TakenHome n old mid × TakesHome mid new)

module _ {W : Type 0} (meaning : W → Value → Result (List Value) WorkFault) (layout : Layout W) where
  -- some such moves were made, one after another, and nothing else has happened
  abbrev pub HasComeHome : NetState → NetState → Type 0
  HasComeHome old new = ∥ ((count : ℕ) × TakenHome layout (works_of meaning layout) count old new) ∥₁

  -- and then all ends of links may have looked
  abbrev pub HasComeBack : NetState → NetState → Type 0
  HasComeBack old new =
      ∥ ((mid : NetState) × (HasComeHome old mid × ((new ≡ mid) ⊎ HasLookedAround meaning layout mid new))) ∥₁
