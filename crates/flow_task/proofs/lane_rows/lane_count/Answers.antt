use Rattle.std.proofs.Common.{◌≡◌, ap, ◌∙◌, arith}
use Rattle.flow_link.specs.Planned.{layout_of}
use Rattle.flow_task.specs.Lanes.{lanes_before}
use Rattle.flow_task.proofs.LanesAreFew.{before_few, before_more, tasks_few}
use Rattle.flow_task.proofs.lane_rows.lane_count.Goals as goal

pub overflow_add-count : goal.overflow_add-count
overflow_add-count g c =
    let plan = c.args.plan.now in
    let layout = layout_of plan in
    let n = c.loop-number.number in
    let blocks = plan.well_formed.few_blocks in
    let low = c.loop-number-test.true in
    let many = c.block_count-number-end.ensures in
    let before = before_few layout plan.well_formed n (omega (arith, low, many)) in
    let more = tasks_few layout plan.well_formed n (omega (arith, low, many)) in
    omega (arith, before, more, blocks, low, many, c.loop-number.invariant, c.tasks_for-count.ensures)

pub loop-number-preserved : goal.loop-number-preserved
loop-number-preserved g c =
    let more = before_more (layout_of c.args.plan.now) c.loop-number.number in
    omega (arith, more, c.loop-number.invariant, c.tasks_for-count.ensures)

pub returns : goal.returns
returns g c =
    let all : c.loop-number.number ≡ c.block_count-number-end.result = omega arith in
    c.loop-number.invariant ∙ ap (lanes_before (layout_of c.args.plan.now)) (all ∙ c.block_count-number-end.ensures)
