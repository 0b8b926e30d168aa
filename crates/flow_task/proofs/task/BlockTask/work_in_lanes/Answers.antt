use Rattle.std.proofs.Common.{ℕ, true, ap₂}
use Rattle.flow_link.specs.Planned.{layout_of}
use Rattle.flow_block.specs.Planned.{block_makes}
use Rattle.flow_exec.specs.Works.{works_of}
use Rattle.flow_task.specs.declared.board.Board.{Board}
use Rattle.flow_task.proofs.LanedTurns.{lanes_done}
use Rattle.flow_task.proofs.TurnsStill.{event_from, unmoved}
use Rattle.flow_task.proofs.task.BlockTask.work_in_lanes.Goals as goal

pub returns-then-branch-2-clause-does : goal.returns-then-branch-2-clause-does
returns-then-branch-2-clause-does g c =
    let s = c.args.self.now in
    let t = c.end_from_lane.new.self in
    let makes = (λ (board : Board _) (n : ℕ). block_makes (layout_of board.rest.plan) (works_of g.W.Runs.meaning (layout_of board.rest.plan)) n) in
    event_from (makes s.of.value s.number) (makes t.of.value t.number) c.in_ok-end_in_place.field-0 s.node t.node c.end_in_place.new.self.node
    c.if-branch-2.true (ap₂ makes c.end_from_lane.ensures.of c.end_from_lane.ensures.number)
    (unmoved true _ c.in_ok-end_from_lane.field-0 s.node t.node c.if-branch.false c.in_ok-end_from_lane.ensures.does) c.in_ok-end_in_place.ensures.does

pub returns-clause-rests : goal.returns-clause-rests
returns-clause-rests g c =
    let s = c.args.self.now in
    let t = c.end_from_lane.new.self in
    let last = c.end_in_place.new.self in
    let makes = (λ (board : Board _) (n : ℕ). block_makes (layout_of board.rest.plan) (works_of g.W.Runs.meaning (layout_of board.rest.plan)) n) in
    lanes_done c.begin_in_lane.result (makes s.of.value s.number) (makes t.of.value t.number) s.node t.node last.node c.end_from_lane.new.lanes
    c.begin_in_lane.new.lanes (ap₂ makes c.end_from_lane.ensures.of c.end_from_lane.ensures.number)
    (unmoved true _ c.in_ok-end_from_lane.field-0 s.node t.node c.if-branch.false c.in_ok-end_from_lane.ensures.does)
    (unmoved true _ c.in_ok-end_in_place.field-0 t.node last.node c.if-branch-2.false c.in_ok-end_in_place.ensures.does)
    (c.in_ok-end_in_place.ensures.still c.if-branch-2.false) c.begin_in_lane.ensures.still c.begin_in_lane.ensures.lanes

pub returns-in_err-end_in_place-clause-out : goal.returns-in_err-end_in_place-clause-out
returns-in_err-end_in_place-clause-out g c = λ all. c.end_in_place.ensures.out (c.end_from_lane.ensures.out all)

pub returns-then-branch-2-clause-out : goal.returns-then-branch-2-clause-out
returns-then-branch-2-clause-out g c = λ all. c.end_in_place.ensures.out (c.end_from_lane.ensures.out all)

pub returns-clause-out : goal.returns-clause-out
returns-clause-out g c = λ all. c.begin_in_lane.ensures.out (c.end_in_place.ensures.out (c.end_from_lane.ensures.out all))
