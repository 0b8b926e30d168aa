-- How a network goes on for one caller: until it has enough for that caller, nothing may happen any more, or as many events are done
-- as may be.
use Rattle.std.specs.Prelude.{◌≡◌, ℕ, ◌<◌, ◌≤◌, Bool, false, not, ◌&&◌, ◌||◌, is_some, List, Result}
use Rattle.flow_value.specs.declared.value.Value.{Value}
use Rattle.flow_link.specs.Layout.{Layout}
use Rattle.flow_exit.specs.Exit.{ExitState, exit_outcome}
use Rattle.flow_core.specs.State.{NetState}
use Rattle.flow_core.specs.Statements.{IsStill}
use Rattle.flow_input.specs.Sends.{has_answer}
use Rattle.flow_moves.specs.Ways.{exit_in, input_in}
use Rattle.flow_net.specs.Happened.{Happened}
use Rattle.flow_moves.specs.Sights.{comes_near}
use Rattle.flow_net.specs.declared.serve.Caller.{Caller}
use Rattle.flow_net.specs.declared.serve.Caller.TheVariants as caller

-- a message is kept there, the block has ended, or, where no receive waits, a message is offered or comes
abbrev pub has_enough : Bool → ExitState → Bool
has_enough waits exit = is_some exit.kept || is_some (exit_outcome exit) || (not waits && comes_near exit.stage)

-- that of an exit, or of an input, at its place
abbrev pub has_enough_for : Caller → NetState → Bool
has_enough_for (caller.Exit place waits) net = has_enough waits (exit_in net place)
has_enough_for (caller.Input place) net = has_answer (input_in net place)

module _ {W : Type 0} (layout : Layout W) (meaning : ℕ → Value → Result (List Value) ℕ) (caller : Caller) (limit : ℕ)
    (old new : NetState) where
  pub record Serves : Type 0 where
    pub count : ℕ
    pub within : count ≤ limit
    pub happened : Happened layout meaning count old new
    pub still : has_enough_for caller new ≡ false → count < limit → IsStill layout meaning new
