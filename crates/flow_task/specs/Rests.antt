-- What comes of a turn of a task, and when it has nothing to do.
use Rattle.std.specs.Prelude.{◌≡◌, ℕ, false, is_none, is_some, List, Result}
use Rattle.std.specs.Option.{ForSome}
use Rattle.flow_value.specs.declared.value.Value.{Value}
use Rattle.flow_value.specs.declared.work.WorkFault.{WorkFault}
use Rattle.flow_poll.specs.declared.actor.TurnState.{TurnState}
use Rattle.flow_lane.specs.Views.{is_working}
use Rattle.flow_task.specs.Inputs.{InputIsStill, state_after}
use Rattle.flow_task.specs.Laned.{LanesRest, are_lanes_over, are_more_ended, state_with}
use Rattle.flow_task.specs.LaneTasks.{LaneTurns}
use Rattle.flow_task.specs.Tasks.{makes_of}
use Rattle.flow_task.specs.Turns.{IsStill, has_done, state_of}
use Rattle.flow_task.specs.declared.numbered.Kind.{Kind}
use Rattle.flow_task.specs.declared.numbered.Kind.TheVariants as kind
use Rattle.flow_task.specs.declared.numbered.Task.{Task}

module _ {W : Type 0} {w : _} {e : _} where
  -- the state after a turn in which so many events were done
  abbrev pub StateBy : ℕ → TurnState → Kind W w e → Kind W w e → Type 0
  StateBy events state (kind.Block old) (kind.Block new) =
      state ≡ state_with (are_more_ended old.lanes new.lanes) (are_lanes_over new.lanes)
      (state_of (has_done events (is_some old.block.note.known) new.block.note.known) new.block.note.known new.block.node)
  StateBy events state (kind.Input old) (kind.Input new) = state ≡ state_after events new.input
  StateBy events state (kind.Lane old) (kind.Lane new) = LaneTurns state old.its.lane new.its.lane
  StateBy events state _ _ = ⊥

  abbrev pub HasState : ℕ → TurnState → Task W w e → Task W w e → Type 0
  HasState events state old new = StateBy events state old.kind new.kind

  -- by what its ends know there is nothing to do, but what no message id is left for, and what its lanes have not done
  abbrev pub RestsBy : (W → Value → Result (List Value) WorkFault) → Kind W w e → Type 0
  RestsBy meaning (kind.Block task) =
      IsStill (makes_of meaning task.block) task.block.node (is_none task.lanes) task.block.ins.items task.block.outs.items
      × ForSome task.lanes (λ lanes. LanesRest (makes_of meaning task.block) task.block.node lanes)
  RestsBy meaning (kind.Input task) = InputIsStill task.input
  RestsBy meaning (kind.Lane task) = is_working task.its.lane.side.stage ≡ false

  abbrev pub Rests : (W → Value → Result (List Value) WorkFault) → Task W w e → Type 0
  Rests meaning task = RestsBy meaning task.kind
