use Rattle.std.proofs.Common.{ℕ, refl, ap₂}
use Rattle.flow_link.specs.Planned.{layout_of}
use Rattle.flow_block.specs.Planned.{block_makes}
use Rattle.flow_exec.specs.Works.{works_of}
use Rattle.flow_task.specs.declared.board.Board.{Board}
use Rattle.flow_task.proofs.Spends.{outs_before, spends_by, spends_more, spends_so, where_well}
use Rattle.flow_task.proofs.task.BlockTask.go_on_own.Goals as goal

pub returns-then-branch-clause-spends : goal.returns-then-branch-clause-spends
returns-then-branch-clause-spends g c =
    let s = c.args.self.now in
    let t = c.act_on.new.self in
    let new = c.go_on_out.new.self.node in
    let makes = (λ (board : Board _) (n : ℕ). block_makes (layout_of board.rest.plan) (works_of g.W.Runs.meaning (layout_of board.rest.plan)) n) in
    spends_more (makes s.of.value s.number) c.args.left.now c.act_on.new.left c.go_on_out.new.left s.node t.node new c.act_on.ensures.spends
    (spends_by c.args.policy.now.in_place c.act_on.new.left c.go_on_out.new.left t.node new
    (spends_so c.act_on.new.left c.go_on_out.new.left t.node new (ap₂ makes c.act_on.ensures.of c.act_on.ensures.number) c.go_on_out.ensures.spends))

pub returns-then-branch-clause-outs : goal.returns-then-branch-clause-outs
returns-then-branch-clause-outs g c =
    where_well c.go_on_out.result
    (λ said. outs_before c.args.left.now c.act_on.new.left c.go_on_out.new.left c.args.self.now.node c.act_on.new.self.node c.go_on_out.new.self.node
    c.go_on_out.new.self.outs.items c.act_on.ensures.spends c.go_on_out.ensures.spends (λ some as_many. said some as_many refl))
    c.go_on_out.ensures.still
