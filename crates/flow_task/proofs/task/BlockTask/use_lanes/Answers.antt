use Rattle.std.proofs.Common.{ℕ, ◌-◌, true, Ok, refl, ap₂, ◌∙◌, arith}
use Rattle.flow_link.specs.Planned.{layout_of}
use Rattle.flow_block.specs.Planned.{block_makes}
use Rattle.flow_exec.specs.Works.{works_of}
use Rattle.flow_task.specs.declared.board.Board.{Board}
use Rattle.flow_task.proofs.Spends.{does_so, spends_did, spends_more, spends_none}
use Rattle.flow_task.proofs.task.BlockTask.use_lanes.Goals as goal

pub loop-left-init : goal.loop-left-init
loop-left-init g c =
    let node = c.args.self.now.node in
    record { of = refl; number = refl; ins = refl; outs = refl; note = refl; unused = λ none. refl; spends = spends_none _ c.args.left.now node node refl; out = λ all. all }

pub loop-left-preserved : goal.loop-left-preserved
loop-left-preserved g c =
    let s = c.args.self.now in
    let t = c.loop-left.self in
    let i = c.loop-left.invariant in
    let left = c.loop-left.left in
    let new = c.work_in_lanes.new.self.node in
    let makes = (λ (board : Board _) (n : ℕ). block_makes (layout_of board.rest.plan) (works_of g.W.Runs.meaning (layout_of board.rest.plan)) n) in
    let same = ap₂ makes i.of i.number in
    record {
      of = c.work_in_lanes.ensures.of ∙ i.of;
      number = c.work_in_lanes.ensures.number ∙ i.number;
      ins = c.work_in_lanes.ensures.ins ∙ i.ins;
      outs = c.work_in_lanes.ensures.outs ∙ i.outs;
      note = c.work_in_lanes.ensures.note ∙ i.note;
      unused = λ none. absurd (let less = i.spends.less in omega (arith, none, less, c.loop-left-test.true));
      spends = spends_more (makes s.of.value s.number) c.args.left.now left (left - 1) s.node t.node new i.spends
          (spends_did (makes s.of.value s.number) left c.in_ok-work_in_lanes.field-0 t.node new c.loop-left-test.true c.if-not-branch.false
          (does_so true (Ok c.in_ok-work_in_lanes.field-0) t.node new same c.in_ok-work_in_lanes.ensures.does));
      out = λ all. c.work_in_lanes.ensures.out (i.out all);
    }

pub returns-in_err-work_in_lanes-clause-out : goal.returns-in_err-work_in_lanes-clause-out
returns-in_err-work_in_lanes-clause-out g c = λ all. c.work_in_lanes.ensures.out (c.loop-left.invariant.out all)

pub returns-then-not-branch-clause-out : goal.returns-then-not-branch-clause-out
returns-then-not-branch-clause-out g c = λ all. c.work_in_lanes.ensures.out (c.loop-left.invariant.out all)
