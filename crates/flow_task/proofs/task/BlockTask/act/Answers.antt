use Rattle.std.proofs.Common.{ℕ, Bool, Ok, true, false, ap₂, ◌∙◌, subst}
use Rattle.flow_link.specs.Planned.{layout_of}
use Rattle.flow_block.specs.Planned.{block_makes}
use Rattle.flow_exec.specs.Works.{works_of}
use Rattle.flow_task.specs.declared.board.Board.{Board}
use Rattle.flow_task.specs.Events.{Does}
use Rattle.flow_task.proofs.Spends.{does_by}
use Rattle.flow_task.proofs.TurnsStill.{does_from, event_from, own_done, unmoved}
use Rattle.flow_task.proofs.task.BlockTask.act.Goals as goal

pub returns-clause-still : goal.returns-clause-still
returns-clause-still g c =
    let s = c.args.self.now in
    let makes = (λ (board : Board _) (n : ℕ). block_makes (layout_of board.rest.plan) (works_of g.W.Runs.meaning (layout_of board.rest.plan)) n) in
    let first = s.node in
    let second = c.make_once.new.self.node in
    let last = c.work_once.new.self.node in
    let later = c.make_once.new.self in
    own_done c.close.result (makes s.of.value s.number) (makes later.of.value later.number) c.args.policy.now.in_place first second last
    (unmoved false _ c.in_ok-make_once.field-0 first second c.if-branch.false c.in_ok-make_once.ensures.does)
    (unmoved c.args.policy.now.in_place _ c.in_ok-work_once.field-0 second last c.if-branch-2.false c.in_ok-work_once.ensures.does)
    (ap₂ makes c.make_once.ensures.of c.make_once.ensures.number)
    (c.in_ok-make_once.ensures.still c.if-branch.false) (c.in_ok-work_once.ensures.still c.if-branch-2.false) c.close.ensures.still

pub returns-then-branch-2-clause-does : goal.returns-then-branch-2-clause-does
returns-then-branch-2-clause-does g c =
    let s = c.args.self.now in
    let t = c.make_once.new.self in
    let makes = (λ (board : Board _) (n : ℕ). block_makes (layout_of board.rest.plan) (works_of g.W.Runs.meaning (layout_of board.rest.plan)) n) in
    event_from (makes s.of.value s.number) (makes t.of.value t.number) c.in_ok-work_once.field-0 s.node t.node c.work_once.new.self.node
    c.if-branch-2.true (ap₂ makes c.make_once.ensures.of c.make_once.ensures.number)
    (unmoved false _ c.in_ok-make_once.field-0 s.node t.node c.if-branch.false c.in_ok-make_once.ensures.does) c.in_ok-work_once.ensures.does

pub returns-then-branch-clause-does : goal.returns-then-branch-clause-does
returns-then-branch-clause-does g c =
    let s = c.args.self.now in
    let new = c.make_once.new.self.node in
    let makes = (λ (board : Board _) (n : ℕ). block_makes (layout_of board.rest.plan) (works_of g.W.Runs.meaning (layout_of board.rest.plan)) n) in
    does_by c.args.policy.now.in_place (makes s.of.value s.number) (Ok true) s.node new
    (subst (λ (did : Bool). Does false (makes s.of.value s.number) (Ok did) s.node new) c.if-branch.true c.in_ok-make_once.ensures.does)

pub returns-clause-does : goal.returns-clause-does
returns-clause-does g c =
    let s = c.args.self.now in
    let t = c.make_once.new.self in
    let last = c.work_once.new.self in
    let new = c.close.new.self.node in
    let makes = (λ (board : Board _) (n : ℕ). block_makes (layout_of board.rest.plan) (works_of g.W.Runs.meaning (layout_of board.rest.plan)) n) in
    does_by c.args.policy.now.in_place (makes s.of.value s.number) c.close.result s.node new
    (does_from false c.close.result (makes s.of.value s.number) (makes last.of.value last.number) s.node last.node new
    (ap₂ makes (c.work_once.ensures.of ∙ c.make_once.ensures.of) (c.work_once.ensures.number ∙ c.make_once.ensures.number))
    (unmoved c.args.policy.now.in_place _ c.in_ok-work_once.field-0 t.node last.node c.if-branch-2.false c.in_ok-work_once.ensures.does
    ∙ unmoved false _ c.in_ok-make_once.field-0 s.node t.node c.if-branch.false c.in_ok-make_once.ensures.does)
    c.close.ensures.does)
