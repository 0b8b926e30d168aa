-- When a run has gone through: every block is done, and nothing waits at an input.
use Rattle.std.specs.Prelude.{ℕ, Bool, true, false, not, ◌&&◌, ◌||◌}
use Rattle.flow_link.specs.Lists.{every, is_empty}
use Rattle.flow_link.specs.Trace.{Run, block_of, waits_over, block_numbers}
use Rattle.flow_net.specs.declared.settled.State.{State}
use Rattle.flow_net.specs.declared.settled.State.TheVariants as state
use Rattle.flow_report.specs.Report.{is_input, state_of, input_link_number}

abbrev pub is_done_state : State → Bool
is_done_state state.Done = true
is_done_state _ = false

module _ {W : Type 0} (run : Run W) where
  -- the block is no input, or what was posted there was taken
  abbrev pub nothing_waits : ℕ → Bool
  nothing_waits b = not (is_input (block_of run b)) || is_empty (waits_over run b (input_link_number run b))

  abbrev pub has_gone_through : ℕ → Bool
  has_gone_through b = is_done_state (state_of run b) && nothing_waits b

  abbrev pub is_complete : Bool
  is_complete = every has_gone_through (block_numbers run)
