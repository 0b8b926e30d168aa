use Rattle.std.proofs.Common.{◌≡◌, ◌≤◌, length, map, get_or, vec_len, vec_capacity}
use Rattle.flow_link.specs.Lists.{below}
use Rattle.flow_input.specs.Input.{no_input}
use Rattle.flow_task.specs.Entries.{waits_in}
use Rattle.flow_task.proofs.frame.waiting_parcels.Given as goal

-- the rows of the first inputs are made
abbrev pub invariant-loop-input : goal.invariant-loop-input
invariant-loop-input l =
    (map (λ row. row.items) l.waiting.items ≡ map (λ q. waits_in (get_or l.fn.inputs q no_input)) (below l.input-index))
    × ((vec_len l.waiting ≡ l.input-index) × (length l.fn.inputs ≤ vec_capacity l.waiting))
