use Rattle.std.proofs.Common.{ℕ, ◌-◌, Ok, refl, ap₂, ◌∙◌}
use Rattle.flow_link.specs.Planned.{layout_of}
use Rattle.flow_block.specs.Planned.{block_makes}
use Rattle.flow_exec.specs.Works.{works_of}
use Rattle.flow_task.specs.declared.board.Board.{Board}
use Rattle.flow_task.proofs.Spends.{does_so, spends_did, spends_more, spends_none}
use Rattle.flow_task.proofs.task.BlockTask.act_on.Goals as goal

pub loop-left-init : goal.loop-left-init
loop-left-init g c =
    let node = c.args.self.now.node in
    record { of = refl; number = refl; ins = refl; spends = spends_none _ c.args.left.now node node refl }

pub loop-left-preserved : goal.loop-left-preserved
loop-left-preserved g c =
    let s = c.args.self.now in
    let t = c.loop-left.self in
    let i = c.loop-left.invariant in
    let left = c.loop-left.left in
    let new = c.act.new.self.node in
    let makes = (λ (board : Board _) (n : ℕ). block_makes (layout_of board.rest.plan) (works_of g.W.Runs.meaning (layout_of board.rest.plan)) n) in
    let same = ap₂ makes i.of i.number in
    record {
      of = c.act.ensures.of ∙ i.of;
      number = c.act.ensures.number ∙ i.number;
      ins = c.act.ensures.ins ∙ i.ins;
      spends = spends_more (makes s.of.value s.number) c.args.left.now left (left - 1) s.node t.node new i.spends
          (spends_did (makes s.of.value s.number) left c.in_ok-act.field-0 t.node new c.loop-left-test.true c.if-not-branch.false
          (does_so c.args.policy.now.in_place (Ok c.in_ok-act.field-0) t.node new same c.in_ok-act.ensures.does));
    }
