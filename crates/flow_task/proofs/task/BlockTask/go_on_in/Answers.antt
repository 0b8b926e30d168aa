use Rattle.std.proofs.Common.{ℕ, ap, ap₂}
use Rattle.std.specs.declared.alloc.Global.{Global}
use Rattle.std.specs.declared.vec.Vec.{Vec}
use Rattle.flow_link.specs.Planned.{layout_of}
use Rattle.flow_block.specs.Planned.{block_makes}
use Rattle.flow_exec.specs.Works.{works_of}
use Rattle.flow_wire.specs.Ends.{TargetOf}
use Rattle.flow_task.specs.declared.board.Board.{Board}
use Rattle.flow_task.proofs.Spends.{both_well, gone_round, spends_by, spends_more, spends_so}
use Rattle.flow_task.proofs.task.BlockTask.go_on_in.Goals as goal

pub returns-then-branch-clause-spends : goal.returns-then-branch-clause-spends
returns-then-branch-clause-spends g c =
    let s = c.args.self.now in
    let t = c.move_ins.new.self in
    let new = c.go_on_own.new.self.node in
    let makes = (λ (board : Board _) (n : ℕ). block_makes (layout_of board.rest.plan) (works_of g.W.Runs.meaning (layout_of board.rest.plan)) n) in
    spends_more (makes s.of.value s.number) c.args.left.now c.move_ins.new.left c.go_on_own.new.left s.node t.node new
    (spends_by c.args.policy.now.in_place c.args.left.now c.move_ins.new.left s.node t.node c.move_ins.ensures.spends)
    (spends_so c.move_ins.new.left c.go_on_own.new.left t.node new (ap₂ makes c.move_ins.ensures.of c.move_ins.ensures.number) c.go_on_own.ensures.spends)

pub returns-then-branch-clause-still : goal.returns-then-branch-clause-still
returns-then-branch-clause-still g c =
    let s = c.args.self.now in
    let t = c.move_ins.new.self in
    let makes = (λ (board : Board _) (n : ℕ). block_makes (layout_of board.rest.plan) (works_of g.W.Runs.meaning (layout_of board.rest.plan)) n) in
    both_well c.go_on_own.result
    (λ own outs some as_many port place.
    gone_round c.args.left.now c.move_ins.new.left c.go_on_own.new.left (makes s.of.value s.number) (makes t.of.value t.number)
    c.args.policy.now.in_place s.node t.node c.go_on_own.new.self.node t.ins.items c.go_on_own.new.self.ins.items c.go_on_own.new.self.outs.items
    (ap₂ makes c.move_ins.ensures.of c.move_ins.ensures.number) (ap (λ (ins : Vec (Vec TargetOf Global) Global). ins.items) c.go_on_own.ensures.ins)
    c.move_ins.ensures.spends c.go_on_own.ensures.spends
    (λ same. c.in_ok-move_ins.ensures.still c.if-branch.true same port place) own outs some as_many)
    c.go_on_own.ensures.own c.go_on_own.ensures.outs

pub returns-clause-spends : goal.returns-clause-spends
returns-clause-spends g c =
    spends_by c.args.policy.now.in_place c.args.left.now c.move_ins.new.left c.args.self.now.node c.move_ins.new.self.node c.move_ins.ensures.spends

pub returns-in_err-move_ins-clause-spends : goal.returns-in_err-move_ins-clause-spends
returns-in_err-move_ins-clause-spends g c =
    spends_by c.args.policy.now.in_place c.args.left.now c.move_ins.new.left c.args.self.now.node c.move_ins.new.self.node c.move_ins.ensures.spends
