-- What an event of a task is: what comes next for a block by itself or for an end of its links, and what comes next for an input; and
-- what a turn comes to: so many events, and looks between them.
use Rattle.std.specs.Prelude.{◌≡◌, ℕ, zero, suc, ◌-◌, ◌<◌, ◌≤◌, Bool, true, false, List, length, Option, Some, Result, Ok, Err}
use Rattle.std.specs.declared.alloc.AllocError.{AllocError}
use Rattle.flow_value.specs.declared.value.Value.{Value}
use Rattle.flow_link.specs.declared.phase.Move.{Move}
use Rattle.flow_link.specs.declared.phase.Phase.{Phase}
use Rattle.flow_block.specs.Node.{NodeState, NodeCall, next_in}
use Rattle.flow_block.specs.Peeks.{may_make, may_begin, may_end, may_complete, next_fault, may_finish}
use Rattle.flow_block_law.specs.JobsEnd.{after_job}
use Rattle.flow_block_law.specs.NextMoves.{next_source}
use Rattle.flow_core.specs.Events.{input_after, input_call, source_call}
use Rattle.flow_core.specs.MovesFit.{out_count, in_count}
use Rattle.flow_input.specs.Input.{InputState, InputCall, after_input, input_move}
use Rattle.flow_moves.specs.Calls.{Calls}
use Rattle.flow_poll.specs.Turns.{Extends}
use Rattle.flow_task.specs.Inputs.{HasId}
use Rattle.flow_task.specs.Turns.{LooksOut, MovesIn, PortsLook}

-- an event of a block: of itself, or a move of an end of its links, by port and place or by place
pub data BlockEvent : Type 0 where
  make : BlockEvent
  begin : BlockEvent
  end_job : ℕ → BlockEvent
  complete : ℕ → BlockEvent
  fault : ℕ → BlockEvent
  finish : BlockEvent
  move_in : ℕ → ℕ → Move → BlockEvent
  move_out : ℕ → Move → BlockEvent

-- it comes next, and leaves this
pub record Follows (next done : Type 0) : Type 0 where
  pub comes : next
  pub leaves : done

-- there is such an end, and this is its move
pub record MovesNext (there : Type 0) (found : Option Move) (next : Move) : Type 0 where
  pub is_there : there
  pub found_is : found ≡ Some next

-- `ends` says whether jobs may end
module _ (ends : Bool) (makes : Value → Result (List Value) ℕ) where
  abbrev pub BlockHappens : BlockEvent → NodeState → NodeState → Type 0
  BlockHappens BlockEvent.make old new = Follows (may_make old.block ≡ true) (Calls (Some NodeCall.make) old new)
  BlockHappens BlockEvent.begin old new = Follows (may_begin old.block ≡ true) (Calls (Some NodeCall.begin) old new)
  BlockHappens (BlockEvent.end_job ticket) old new =
      Follows ((ends ≡ true) × (may_end ticket old.block ≡ true)) (new ≡ after_job makes ticket old)
  BlockHappens (BlockEvent.complete p) old new =
      Follows ((p < length old.block.ports) × (may_complete p old.block ≡ true)) (Calls (Some (NodeCall.complete p)) old new)
  BlockHappens (BlockEvent.fault number) old new =
      Follows (next_fault old.block ≡ Some number) (Calls (Some (NodeCall.fault number)) old new)
  BlockHappens BlockEvent.finish old new = Follows (may_finish old.block ≡ true) (Calls (Some NodeCall.finish) old new)
  BlockHappens (BlockEvent.move_in p k next) old new =
      Follows (MovesNext ((p < length old.block.ports) × (k < in_count p old)) (next_in p k old) next) (MovesIn p k next old new)
  BlockHappens (BlockEvent.move_out k next) old new =
      Follows (MovesNext (k < out_count old) (next_source k old) next) (Calls (source_call old.block.kind k next) old new)

  abbrev pub HasEvent : NodeState → NodeState → Type 0
  HasEvent old new = (event : BlockEvent) × BlockHappens event old new

  -- an event is done; where none is, or memory is out, the node is as it was
  abbrev pub Does : Result Bool AllocError → NodeState → NodeState → Type 0
  Does (Ok true) old new = ∥ HasEvent old new ∥₁
  Does (Ok false) old new = new ≡ old
  Does (Err memory) old new = new ≡ old

-- all ends of a block look
pub record AllLook (old new : NodeState) : Type 0 where
  pub mid : NodeState
  pub ins : PortsLook (length old.block.ports) old mid
  pub outs : LooksOut (out_count mid) mid new

-- an input offers, gives or ends; its end looks
pub record InputHappens (old new : InputState) : Type 0 where
  pub next : Move
  pub comes : input_move old ≡ Some next
  pub id : HasId next
  pub leaves : new ≡ input_after (input_call next) old

pub record InputLooks (old new : InputState) : Type 0 where
  pub phase : Phase
  pub leaves : new ≡ after_input (InputCall.look phase) old

module _ {S : Type 0} (Looks : S → S → Type 0) where
  -- any number of looks
  abbrev pub LooksBy : ℕ → S → S → Type 0
  LooksBy zero old new = new ≡ old
  LooksBy (suc n) old new = (mid : S) × (LooksBy n old mid × Looks mid new)

  abbrev pub HasLooked : S → S → Type 0
  HasLooked old new = (n : ℕ) × LooksBy n old new

  module _ (Happens : S → S → Type 0) where
    -- so many events, with looks before, between and behind them
    abbrev pub TurnsBy : ℕ → S → S → Type 0
    TurnsBy zero old new = HasLooked old new
    TurnsBy (suc n) old new = (mid : S) × (TurnsBy n old mid × ((next : S) × (Happens mid next × HasLooked next new)))

    -- a step: looks, and then one event, if one was done
    abbrev pub StepsBy : Result Bool AllocError → S → S → Type 0
    StepsBy (Ok true) old new = ∥ ((mid : S) × (HasLooked old mid × Happens mid new)) ∥₁
    StepsBy (Ok false) old new = ∥ HasLooked old new ∥₁
    StepsBy (Err memory) old new = ∥ HasLooked old new ∥₁

-- so many events are left after what a block did as before, or fewer: the others were done. Where as many are left, it is as it was
pub record Spends (ends : Bool) (makes : Value → Result (List Value) ℕ) (before after : ℕ) (old new : NodeState) : Type 0 where
  pub less : after ≤ before
  pub happens : ∥ TurnsBy AllLook (HasEvent ends makes) (before - after) old new ∥₁
  pub grows : Extends old.journal new.journal
  pub kept : after ≡ before → new ≡ old
