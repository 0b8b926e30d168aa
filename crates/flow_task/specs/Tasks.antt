-- What a contract sees of a block's task.
use Rattle.std.specs.Prelude.{ℕ, List, Result}
use Rattle.flow_value.specs.declared.value.Value.{Value}
use Rattle.flow_value.specs.declared.work.WorkFault.{WorkFault}
use Rattle.flow_link.specs.declared.trace.Mark.{Mark}
use Rattle.flow_link.specs.Planned.{layout_of}
use Rattle.flow_block.specs.Planned.{block_makes}
use Rattle.flow_exec.specs.Works.{works_of}
use Rattle.flow_task.specs.declared.task.BlockTask.{BlockTask}

-- the marks of its block
abbrev pub journal_of : {W : Type 0} {w : _} {e : _} → BlockTask W w e → List Mark
journal_of task = task.node.journal

-- what its block makes of a message
abbrev pub makes_of : {W : Type 0} {w : _} {e : _} → (W → Value → Result (List Value) WorkFault) → BlockTask W w e → Value
    → Result (List Value) ℕ
makes_of meaning task = block_makes (layout_of task.of.value.rest.plan) (works_of meaning (layout_of task.of.value.rest.plan)) task.number
