-- What the end of an exit's link is, and what its steps are.
use Rattle.std.specs.Prelude.{◌≡◌, ℕ, Bool, true, false, List, Option, Some, slice_get}
use Rattle.atomic_table.specs.Seated.{TableId}
use Rattle.flow_link.specs.Facts.{facts_in}
use Rattle.flow_link.specs.Layout.{Layout}
use Rattle.flow_value.specs.declared.value.Value.{Value}
use Rattle.flow_link.specs.declared.phase.Move.{Move}
use Rattle.flow_link.specs.declared.phase.Move.TheVariants as move
use Rattle.flow_poll.specs.Receives.{StaysOver}
use Rattle.flow_moves.specs.Sights.{sight_of}
use Rattle.flow_exit.specs.Exit.{ExitState, exit_after, exit_call, exit_move, exit_view}
use Rattle.flow_task.specs.Known.{InKnown}

-- what it is to be, where the exit knows this
abbrev pub exit_due : {W : Type 0} → Layout W → List TableId → ℕ → ExitState → InKnown
exit_due layout wires l exit = record { table = slice_get wires l; facts = facts_in layout l; view = exit_view exit }

-- a move that the source cannot forestall, and that opens nothing
abbrev pub answers_plainly : Move → Bool
answers_plainly move.Want = true
answers_plainly move.TurnDown = true
answers_plainly move.Postpone = true
answers_plainly move.Close = true
answers_plainly _ = false

-- its end makes the move that comes next there, and finds this in the slot
pub record ExitMoves (old new : ExitState) : Type 0 where
  pub next : Move
  pub slot : Option Value
  pub comes : exit_move old ≡ Some next
  pub leaves : new ≡ exit_after (exit_call slot next) old

abbrev pub StepsBy : Bool → ExitState → ExitState → Type 0
StepsBy true old new = ExitMoves old new
StepsBy false old new = new ≡ old

-- what was received stays, and what was over is over
pub record ExitGoes (old new : ExitState) : Type 0 where
  pub received : new.received ≡ old.received
  pub over : StaysOver (sight_of old) (sight_of new)
