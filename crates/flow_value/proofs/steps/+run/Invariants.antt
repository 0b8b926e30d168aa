use Rattle.std.proofs.Common.{◌≡◌, ◌+◌, ◌*◌, ◌≤◌, ◌++◌, length, replicate, Ok}
use Rattle.std.specs.Vec.Iter.{into_iter_items}
use Rattle.flow_value.specs.Function.{joined, each, meaning_of}
use Rattle.flow_value.specs.Step.{ints_below}
use Rattle.flow_value.specs.declared.value.Value.TheVariants.{Int}
use Rattle.flow_value.proofs.steps.+run.Given as goal

abbrev pub decreases-run_any : goal.decreases-run_any
decreases-run_any l = 3 * length l.steps.now

abbrev pub decreases-run_number : goal.decreases-run_number
decreases-run_number l = 3 * length l.steps.now + 1

abbrev pub decreases-run_onto : goal.decreases-run_onto
decreases-run_onto l = 3 * length l.steps.now + 2

abbrev pub decreases-run_below : goal.decreases-run_below
decreases-run_below l = 3 * length l.steps.now + 2

abbrev pub decreases-run_times : goal.decreases-run_times
decreases-run_times l = 3 * length l.steps.now + 2

abbrev pub invariant-run_any-loop-next : goal.invariant-run_any-loop-next
invariant-run_any-loop-next l = record {
  parts : into_iter_items l.initial.next-iterator ≡ l.yielded ++ into_iter_items l.next-iterator;
  so_far : joined (Ok l.fn.results.items) (each (meaning_of l.rest) l.yielded) ≡ Ok l.results.items;
}

abbrev pub invariant-run_below-loop-number : goal.invariant-run_below-loop-number
invariant-run_below-loop-number l = joined (Ok l.fn.results.items) (each (meaning_of l.steps) (ints_below l.number)) ≡ Ok l.results.items

-- what is left to do makes of the number so far what all steps make of the first
abbrev pub invariant-run_number-loop-step : goal.invariant-run_number-loop-step
invariant-run_number-loop-step l = record {
  same : l.results ≡ l.fn.results;
  few : length l.left ≤ length l.steps;
  whole : meaning_of l.steps (Int l.fn.number) ≡ meaning_of l.left (Int l.made);
}

abbrev pub decreases-run_number-loop-step : goal.decreases-run_number-loop-step
decreases-run_number-loop-step l = length l.left

abbrev pub invariant-run_times-loop-done : goal.invariant-run_times-loop-done
invariant-run_times-loop-done l = joined (Ok l.fn.results.items) (each (meaning_of l.steps) (replicate l._done (Int l.number))) ≡ Ok l.results.items
