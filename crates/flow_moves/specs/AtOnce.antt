-- A job that begins and ends at once, while nothing else is worked on.
use Rattle.std.specs.Prelude.{ℕ, List, [], ◌∷◌, Some, Result, Ok, Err}
use Rattle.flow_value.specs.declared.value.Value.{Value}
use Rattle.flow_block.specs.Block.{BlockState, with_jobs, keeps_results, fails}
use Rattle.flow_block_law.specs.JobsEnd.{after_job, put_at_end}
use Rattle.flow_block.specs.Node.{NodeState, NodeCall, after}

-- a result comes out at once, where nothing else is worked on
abbrev pub works_out : Result (List Value) ℕ → BlockState → BlockState
works_out (Ok values) block = keeps_results block.kind values block
works_out (Err number) block = fails number (with_jobs (λ jobs. record jobs { slots = Some (Err number) ∷ [] }) block)

-- a block works at once on the message that it holds first: the job begins, and its result comes back
abbrev pub begun : (Value → Result (List Value) ℕ) → NodeState → NodeState
begun result node = after result NodeCall.begin node

abbrev pub works_at_once : (Value → Result (List Value) ℕ) → NodeState → NodeState
works_at_once result node = after_job result node.block.jobs.first (begun result node)

-- what it puts into its exits by that
abbrev pub put_at_once : (Value → Result (List Value) ℕ) → NodeState → List Value
put_at_once result node = put_at_end result node.block.jobs.first (begun result node).block
