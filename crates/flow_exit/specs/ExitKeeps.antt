-- When an exit is in order, that its calls keep it so, and how they move what its link knows of it.
use Rattle.std.specs.Prelude.{◌≡◌, Bool, true, false, is_some, Some, None}
use Rattle.flow_value.specs.declared.value.Value.{Value}
use Rattle.flow_link.specs.declared.phase.Move.{Move}
use Rattle.flow_link.specs.declared.phase.Move.TheVariants as move
use Rattle.flow_link.specs.declared.phase.Phase.{Phase}
use Rattle.flow_link.specs.declared.stage.TargetStage.{TargetStage}
use Rattle.flow_link.specs.declared.stage.TargetStage.TheVariants.{Accepted, Consuming, Asking, Holding, Claiming, Arrived, Hand, Refused}
use Rattle.flow_link.specs.Looks.{looking_in}
use Rattle.flow_intake.specs.Calls.{is_offered, is_posted, is_postponed, is_arrived}
use Rattle.flow_intake.specs.Port.{is_offer, is_hand}
use Rattle.flow_exit.specs.Exit.{ExitState, ExitCall, fresh_exit, exit_move, after_exit, exit_view, is_callers, caller_of}

-- a message is on the way in
abbrev pub comes : TargetStage → Bool
comes (Accepted _) = true
comes (Consuming _) = true
comes (Arrived _) = true
comes (Hand _) = true
comes _ = false

-- it neither reserves nor refuses
abbrev pub is_plain : TargetStage → Bool
is_plain (Asking _) = false
is_plain (Holding _) = false
is_plain (Claiming _) = false
is_plain (Refused _) = false
is_plain _ = true

pub record ExitLaw (exit : ExitState) : Type 0 where
  pub plain : is_plain exit.stage ≡ true
  pub in_hand : is_some exit.hand ≡ is_hand exit.stage
  -- what comes has its place
  pub one : comes exit.stage ≡ true → exit.kept ≡ None

-- a message may be wanted where it stands so, and none is kept
pub record MayWant (stands : Bool) (exit : ExitState) : Type 0 where
  pub there : stands ≡ true
  pub none_kept : exit.kept ≡ None

abbrev pub MayCallExit : ExitCall → ExitState → Type 0
MayCallExit ExitCall.want exit = MayWant (is_offer exit.stage) exit
MayCallExit ExitCall.turn_down exit = is_posted exit.stage ≡ true
MayCallExit ExitCall.postpone exit = is_offered exit.stage ≡ true
MayCallExit ExitCall.consume exit = MayWant (is_postponed exit.stage) exit
MayCallExit (ExitCall.open_with value) exit = is_arrived exit.stage ≡ true
MayCallExit ExitCall.close exit = is_hand exit.stage ≡ true
MayCallExit _ exit = Unit {0}

-- what it would do next is a call that it may make
abbrev pub MayMoveExit : ExitState → Move → Type 0
MayMoveExit exit move.Want = MayCallExit ExitCall.want exit
MayMoveExit exit move.TurnDown = MayCallExit ExitCall.turn_down exit
MayMoveExit exit move.Postpone = MayCallExit ExitCall.postpone exit
MayMoveExit exit move.Consume = MayCallExit ExitCall.consume exit
MayMoveExit exit move.Open = (value : Value) → MayCallExit (ExitCall.open_with value) exit
MayMoveExit exit move.Close = MayCallExit ExitCall.close exit
MayMoveExit exit _ = ⊥

pub record ExitsKeep : Type 0 where
  pub fresh : ExitLaw fresh_exit
  pub calls : (exit : ExitState) (call : ExitCall) → ExitLaw exit → MayCallExit call exit → ExitLaw (after_exit call exit)
  pub next : (exit : ExitState) (next : Move) → exit_move exit ≡ Some next → MayMoveExit exit next
  -- a look is the look of its end
  pub looks : (exit : ExitState) (phase : Phase) → exit_view (after_exit (ExitCall.look phase) exit) ≡ looking_in phase (exit_view exit)
  -- what its caller does is nothing to the link, and what it does in the network nothing to its caller
  pub unseen : (exit : ExitState) (call : ExitCall) → is_callers call ≡ true → exit_view (after_exit call exit) ≡ exit_view exit
  pub apart : (exit : ExitState) (call : ExitCall) → is_callers call ≡ false → caller_of (after_exit call exit) ≡ caller_of exit
