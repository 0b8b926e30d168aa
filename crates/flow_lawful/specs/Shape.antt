-- The shape of a trace: it speaks of each block, port and input of its network, and of no others.
use Rattle.std.specs.Prelude.{◌≡◌, ℕ, ◌==◌, Bool, true, length, count_by}
use Rattle.flow_link.specs.Lists.{every}
use Rattle.flow_link.specs.Plan.{port_count}
use Rattle.flow_link.specs.Trace.{Run, block_of, trace_of, block_numbers}

module _ {W : Type 0} (run : Run W) where
  abbrev pub input_count : ℕ
  input_count = count_by (λ block. block.input) run.layout.blocks

  -- what is held is told port by port
  abbrev pub tells_each_port : ℕ → Bool
  tells_each_port b = length (trace_of run b).held == port_count (block_of run b)

pub record Shape {W : Type 0} (run : Run W) : Type 0 where
  pub blocks : length run.trace.blocks ≡ length run.layout.blocks
  pub inputs : length run.trace.inputs ≡ input_count run
  pub ports : every (tells_each_port run) (block_numbers run) ≡ true
