use Rattle.std.proofs.Common.{ℕ, ◌<◌, ◌≤◌, length, get_or, vec_capacity}
use Rattle.flow_link.specs.Planned.{layout_of}
use Rattle.flow_core.specs.Inputs.{input_of}
use Rattle.flow_input.specs.Input.{no_input}
use Rattle.flow_input.specs.InputKeeps.{PostedStays}
use Rattle.flow_task.specs.Begun.{begun_in}
use Rattle.flow_task.specs.Lefts.{InputsLeft, StaysAt}
use Rattle.flow_task.proofs.InputsTaken.{InputsTaken}
use Rattle.flow_task.proofs.PartsTaken.{EntriesTaken}
use Rattle.flow_task.proofs.apart.Inputs.take.Given as goal

-- the inputs before the place are taken, and there is room for the rest
abbrev pub invariant-loop-place : goal.invariant-loop-place
invariant-loop-place g l =
    InputsTaken (layout_of l.board.rest.plan) l.board.wires.items l.place l.self.inputs.items l.self.ends.items
    × (InputsLeft l.board l.place l.tasks.items l.entries.items
    × ((length l.board.opens.items ≤ vec_capacity l.self.inputs)
    × ((length l.board.opens.items ≤ vec_capacity l.self.ends)
    × (((q : ℕ) → q < l.place → StaysAt l.board l.fn.entries.items q
    → ∥ PostedStays (input_of (begun_in l.board) q) (get_or l.self.inputs.items q no_input) ∥₁)
    × EntriesTaken l.board l.fn.entries.items l.place l.self.inputs.items l.entries.items))))
