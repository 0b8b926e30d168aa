-- The end of a link out of a network, as plain data: it takes a message where a receive waits, and keeps it for that one.
use Rattle.std.specs.Prelude.{Bool, true, false, ◌&&◌, cond, is_none, List, [], ◌++◌, Option, Some, None, option_to_list, option_map}
use Rattle.flow_value.specs.declared.value.Value.{Value}
use Rattle.flow_link.specs.declared.phase.LinkEnd.{LinkEnd}
use Rattle.flow_link.specs.declared.phase.LinkEnd.TheVariants as link_end
use Rattle.flow_link.specs.declared.phase.Move.{Move}
use Rattle.flow_link.specs.declared.phase.Move.TheVariants as move
use Rattle.flow_link.specs.declared.phase.Phase.{Phase}
use Rattle.flow_link.specs.declared.stage.TargetStage.{TargetStage}
use Rattle.flow_link.specs.declared.stage.TargetStage.TheVariants.{Free, Offered, Posted, Postponed, Accepted, Consuming, Arrived, Hand, Ended}
use Rattle.flow_link.specs.declared.trace.Outcome.{Outcome}
use Rattle.flow_link.specs.declared.trace.Outcome.TheVariants.{Done, Faulted}
use Rattle.flow_link.specs.Stage.{target_stage_of, target_looks}
use Rattle.flow_link.specs.Views.{TargetView}
use Rattle.flow_intake.specs.Calls.{message_of}

pub record ExitState : Type 0 where
  pub stage : TargetStage
  pub hand : Option Value
  -- the values that were received, and the one that is kept for the next receive
  pub received : List Value
  pub kept : Option Value
  -- a receive waits
  pub asked : Bool

-- what its caller alone changes
pub record CallerState : Type 0 where
  pub received : List Value
  pub asked : Bool

abbrev pub caller_of : ExitState → CallerState
caller_of exit = record { received = exit.received; asked = exit.asked }

abbrev pub fresh_exit : ExitState
fresh_exit = record { stage = Free; hand = None; received = []; kept = None; asked = false }

-- it wants a message: one is asked for, and none is kept
abbrev pub wants_one : ExitState → Bool
wants_one exit = exit.asked && is_none exit.kept

-- what it does next. Where no receive waits, an offer is postponed and a post turned down
abbrev pub exit_move_at : Bool → TargetStage → Option Move
exit_move_at wants (Offered _) = Some (cond wants move.Want move.Postpone)
exit_move_at wants (Posted _) = Some (cond wants move.Want move.TurnDown)
exit_move_at wants (Postponed _) = cond wants (Some move.Consume) None
exit_move_at wants (Arrived _) = Some move.Open
exit_move_at wants (Hand _) = Some move.Close
exit_move_at wants _ = None

abbrev pub exit_move : ExitState → Option Move
exit_move exit = exit_move_at (wants_one exit) exit.stage

-- its calls in the network, and those of its caller
pub data ExitCall : Type 0 where
  want : ExitCall
  turn_down : ExitCall
  postpone : ExitCall
  consume : ExitCall
  open_with : Value → ExitCall
  close : ExitCall
  look : Phase → ExitCall
  -- a receive begins to wait, or waits no more
  ask : Bool → ExitCall
  -- what is kept is received
  receive : ExitCall

-- it is a call of its caller
abbrev pub is_callers : ExitCall → Bool
is_callers (ExitCall.ask waits) = true
is_callers ExitCall.receive = true
is_callers _ = false

abbrev pub after_exit : ExitCall → ExitState → ExitState
after_exit ExitCall.want exit = record exit { stage = Accepted (message_of exit.stage) }
after_exit ExitCall.turn_down exit = record exit { stage = Free }
after_exit ExitCall.postpone exit = record exit { stage = Postponed (message_of exit.stage) }
after_exit ExitCall.consume exit = record exit { stage = Consuming (message_of exit.stage) }
after_exit (ExitCall.open_with value) exit = record exit { stage = Hand (message_of exit.stage); hand = Some value }
after_exit ExitCall.close exit = record exit { stage = Free; hand = None; kept = exit.hand }
after_exit (ExitCall.look phase) exit = record exit { stage = target_looks exit.stage phase }
after_exit (ExitCall.ask waits) exit = record exit { asked = waits }
after_exit ExitCall.receive exit = record exit { received = exit.received ++ option_to_list exit.kept; kept = None }

-- the call that a move of its link is, with what lies in the slot
abbrev pub exit_call : Option Value → Move → Option ExitCall
exit_call slot move.Want = Some ExitCall.want
exit_call slot move.TurnDown = Some ExitCall.turn_down
exit_call slot move.Postpone = Some ExitCall.postpone
exit_call slot move.Consume = Some ExitCall.consume
exit_call slot move.Open = option_map ExitCall.open_with slot
exit_call slot move.Close = Some ExitCall.close
exit_call slot _ = None

abbrev pub exit_after : Option ExitCall → ExitState → ExitState
exit_after None exit = exit
exit_after (Some call) exit = after_exit call exit

-- what its link knows of it: all that arrived
abbrev pub arrived : ExitState → List Value
arrived exit = exit.received ++ option_to_list exit.kept

abbrev pub exit_view : ExitState → TargetView Value
exit_view exit = record { before = 0; taken = arrived exit; stage = target_stage_of exit.stage exit.hand }

-- how the block ended, by what its link says; such a link never ends plainly
abbrev pub outcome_by : LinkEnd → Outcome
outcome_by (link_end.Fault number) = Faulted number
outcome_by _ = Done

abbrev pub outcome_at : TargetStage → Option Outcome
outcome_at (Ended how) = Some (outcome_by how)
outcome_at _ = None

abbrev pub exit_outcome : ExitState → Option Outcome
exit_outcome exit = outcome_at exit.stage

-- how it ended, where nothing is kept for a receive any more
abbrev pub over_by : ExitState → Option Outcome
over_by exit = cond (is_none exit.kept) (exit_outcome exit) None
