-- Which number a task has, and what it began with, by what it is.
use Rattle.std.specs.Prelude.{ℕ, Bool, ◌==◌}
use Rattle.flow_link.specs.Planned.{layout_of}
use Rattle.flow_poll.specs.Turns.{Extends}
use Rattle.flow_input.specs.InputKeeps.{PostedStays}
use Rattle.flow_task.specs.Begun.{begun_input, begun_journal}
use Rattle.flow_task.specs.Numbers.{is_input_number, is_lane_number}
use Rattle.flow_task.specs.declared.numbered.Kind.{Kind}
use Rattle.flow_task.specs.declared.numbered.Kind.TheVariants as kind

-- a block's number is its own
abbrev pub is_task_number : {W : Type 0} {w : _} {e : _} → Kind W w e → ℕ → Bool
is_task_number (kind.Block task) n = task.block.number == n
is_task_number (kind.Input task) n = is_input_number (layout_of task.of.value.rest.plan) task.of.value.opens.items task.link n
is_task_number (kind.Lane task) n = is_lane_number (layout_of task.of.value.rest.plan) task.of.value.opens.items n

-- a block's marks go on from those with which it began; an input has the values that were posted to it then; a lane
-- begins empty
abbrev pub BeginsBy : {W : Type 0} {w : _} {e : _} → Kind W w e → Type 0
BeginsBy (kind.Block task) = Extends (begun_journal task.block.of.value task.block.number) task.block.node.journal
BeginsBy (kind.Input task) = PostedStays (begun_input task.of.value task.link) task.input
BeginsBy (kind.Lane task) = Unit {0}
