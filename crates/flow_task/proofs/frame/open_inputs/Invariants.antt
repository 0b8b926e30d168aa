use Rattle.std.proofs.Common.{◌≡◌, ◌≤◌, length, map, get_or, vec_len, vec_capacity}
use Rattle.flow_link.specs.Lists.{below}
use Rattle.flow_input.specs.Input.{no_input}
use Rattle.flow_task.specs.Inputs.{stays_open}
use Rattle.flow_task.proofs.frame.open_inputs.Given as goal

abbrev pub invariant-loop-input : goal.invariant-loop-input
invariant-loop-input l =
    (l.opens.items ≡ map (λ q. stays_open (get_or l.fn.inputs q no_input)) (below l.input-index))
    × ((vec_len l.opens ≡ l.input-index) × (length l.fn.inputs ≤ vec_capacity l.opens))
