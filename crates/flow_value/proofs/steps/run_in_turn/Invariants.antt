use Rattle.std.proofs.Common.{◌≡◌, drop}
use Rattle.flow_value.specs.Function.{meaning_of}
use Rattle.flow_value.proofs.steps.run_in_turn.Given as goal

-- what is left to do makes of the value so far what all steps make of the first
abbrev pub invariant-loop-step : goal.invariant-loop-step
invariant-loop-step l = meaning_of l.fn.steps l.fn.value ≡ meaning_of (drop l.step-index l.steps) l.made
