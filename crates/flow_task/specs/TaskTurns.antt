-- What a turn of a task comes to.
use Rattle.std.specs.Prelude.{◌≡◌, ℕ, true, List, Result}
use Rattle.flow_value.specs.declared.value.Value.{Value}
use Rattle.flow_value.specs.declared.work.WorkFault.{WorkFault}
use Rattle.flow_task.specs.Events.{AllLook, HasEvent, InputHappens, InputLooks, TurnsBy}
use Rattle.flow_task.specs.Laned.{OnlyEnd}
use Rattle.flow_task.specs.Tasks.{makes_of}
use Rattle.flow_task.specs.declared.numbered.Kind.{Kind}
use Rattle.flow_task.specs.declared.numbered.Kind.TheVariants as kind
use Rattle.flow_task.specs.declared.numbered.Task.{Task}

module _ {W : Type 0} {w : _} {e : _} (meaning : W → Value → Result (List Value) WorkFault) where
  abbrev pub TurnedBy : ℕ → Kind W w e → Kind W w e → Type 0
  TurnedBy n (kind.Block old) (kind.Block new) =
      ∥ TurnsBy AllLook (HasEvent true (makes_of meaning old.block)) n old.block.node new.block.node ∥₁
  TurnedBy n (kind.Input old) (kind.Input new) = ∥ TurnsBy InputLooks InputHappens n old.input new.input ∥₁
  TurnedBy n (kind.Lane old) (kind.Lane new) = n ≡ 0
  TurnedBy n _ _ = ⊥

  -- so many events happened, each of which came next, and its ends looked before, between and behind them; what a lane does is none
  abbrev pub HasTurned : ℕ → Task W w e → Task W w e → Type 0
  HasTurned n old new = TurnedBy n old.kind new.kind

module _ {W : Type 0} {w : _} {e : _} where
  -- all ends of its links looked, and nothing else was done to its block or its input; what a lane did its state tells
  abbrev pub LookedBy : Kind W w e → Kind W w e → Type 0
  LookedBy (kind.Block old) (kind.Block new) = AllLook old.block.node new.block.node
  LookedBy (kind.Input old) (kind.Input new) = InputLooks old.input new.input
  LookedBy (kind.Lane old) (kind.Lane new) = Unit {0}
  LookedBy _ _ = ⊥

  abbrev pub HasLookedAll : Task W w e → Task W w e → Type 0
  HasLookedAll old new = LookedBy old.kind new.kind

  -- nothing was done to the lanes of a block, but that those in which nothing was are ended
  abbrev pub LanesEndBy : Kind W w e → Kind W w e → Type 0
  LanesEndBy (kind.Block old) (kind.Block new) = OnlyEnd old.lanes new.lanes
  LanesEndBy (kind.Input old) (kind.Input new) = Unit {0}
  LanesEndBy (kind.Lane old) (kind.Lane new) = Unit {0}
  LanesEndBy _ _ = ⊥

  abbrev pub LanesOnlyEnd : Task W w e → Task W w e → Type 0
  LanesOnlyEnd old new = LanesEndBy old.kind new.kind
