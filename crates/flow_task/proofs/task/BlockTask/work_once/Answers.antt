use Rattle.std.proofs.Common.{ℕ, Bool, Ok, true, false, ap₂, sym, subst}
use Rattle.flow_link.specs.Planned.{layout_of}
use Rattle.flow_block.specs.Planned.{block_makes}
use Rattle.flow_exec.specs.Works.{works_of}
use Rattle.flow_task.specs.declared.board.Board.{Board}
use Rattle.flow_task.specs.Events.{Does}
use Rattle.flow_task.proofs.Spends.{does_by}
use Rattle.flow_task.proofs.TurnsStill.{does_from, unmoved, work_done}
use Rattle.flow_task.proofs.task.BlockTask.work_once.Goals as goal

pub returns-clause-still : goal.returns-clause-still
returns-clause-still g c =
    let s = c.args.self.now in
    let t = c.end_once.new.self in
    let makes = (λ (board : Board _) (n : ℕ). block_makes (layout_of board.rest.plan) (works_of g.W.Runs.meaning (layout_of board.rest.plan)) n) in
    work_done c.begin_once.result (makes s.of.value s.number) c.args.policy.now.in_place s.node t.node
    (unmoved true _ c.in_ok-end_once.field-0 s.node t.node c.if-branch.false c.in_ok-end_once.ensures.does)
    (c.in_ok-end_once.ensures.still c.if-branch.false) c.begin_once.ensures.still

pub returns-clause-does : goal.returns-clause-does
returns-clause-does g c =
    let s = c.args.self.now in
    let t = c.end_once.new.self in
    let makes = (λ (board : Board _) (n : ℕ). block_makes (layout_of board.rest.plan) (works_of g.W.Runs.meaning (layout_of board.rest.plan)) n) in
    does_by c.args.policy.now.in_place (makes s.of.value s.number) c.begin_once.result s.node c.begin_once.new.self.node
    (does_from false c.begin_once.result (makes s.of.value s.number) (makes t.of.value t.number) s.node t.node c.begin_once.new.self.node
    (ap₂ makes c.end_once.ensures.of c.end_once.ensures.number)
    (unmoved true _ c.in_ok-end_once.field-0 s.node t.node c.if-branch.false c.in_ok-end_once.ensures.does) c.begin_once.ensures.does)

pub returns-then-branch-clause-does : goal.returns-then-branch-clause-does
returns-then-branch-clause-does g c =
    let s = c.args.self.now in
    let new = c.end_once.new.self.node in
    let makes = (λ (board : Board _) (n : ℕ). block_makes (layout_of board.rest.plan) (works_of g.W.Runs.meaning (layout_of board.rest.plan)) n) in
    subst (λ (ends : Bool). Does ends (makes s.of.value s.number) (Ok true) s.node new) (sym c.if-not-policy.false)
    (subst (λ (did : Bool). Does true (makes s.of.value s.number) (Ok did) s.node new) c.if-branch.true c.in_ok-end_once.ensures.does)
