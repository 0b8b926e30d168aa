use Rattle.std.proofs.Common.{ap, ◌∙◌, subst, arith, ◌≡◌, ℕ, suc, ◌+◌}
use Rattle.flow_link.specs.Planned.{layout_of}
use Rattle.flow_core.specs.MovesFit.{out_count}
use Rattle.flow_exec.specs.Works.{works_of}
use Rattle.flow_task.specs.Known.{out_known, out_due}
use Rattle.flow_task.specs.Turns.{LooksOut}
use Rattle.flow_task.specs.declared.board.Board.{Board}
use Rattle.flow_task.proofs.Counts.{outs_alike}
use Rattle.flow_task.proofs.Places.{count_is}
use Rattle.flow_task.proofs.TurnsGrow.{look_out_keeps}
use Rattle.flow_task.proofs.task.BlockTask.look_outs.Goals as goal

pub look_out-requires-clause-there : goal.look_out-requires-clause-there
look_out-requires-clause-there g c =
    let s = c.args.self.now in
    let t = c.loop-place.self in
    let old = layout_of s.of.value.rest.plan in
    let new = layout_of t.of.value.rest.plan in
    let meaning = g.W.Runs.meaning in
    let alike = outs_alike new old (works_of meaning new) (works_of meaning old) t.number s.number t.node s.node t.law s.law
    (ap (λ (board : Board _). layout_of board.rest.plan) c.loop-place.invariant.of) c.loop-place.invariant.number in
    let many = count_is out_known (out_due old s.of.value.wires.items s.number s.node) (out_count s.node) s.outs.items s.outs_know in
    omega (arith, alike, many, s.outs.ok.0, c.len-place-end.ensures, c.loop-place-test.true)

pub loop-place-preserved : goal.loop-place-preserved
loop-place-preserved g c =
    let more : suc c.loop-place.place ≡ c.loop-place.place + 1 = omega arith in
    let i = c.loop-place.invariant in
    let looked = c.look_out.ensures.looked in
    let node = c.loop-place.self.node in
    record {
      of = c.look_out.ensures.of ∙ i.of;
      number = c.look_out.ensures.number ∙ i.number;
      looked = subst (λ (n : ℕ). LooksOut n c.args.self.now.node c.look_out.new.self.node) more (node, (i.looked, looked));
      journal = look_out_keeps node.block.kind c.loop-place.place looked.0 node c.look_out.new.self.node looked.1 ∙ i.journal;
    }

pub returns-clause-looked : goal.returns-clause-looked
returns-clause-looked g c =
    let s = c.args.self.now in
    let many = count_is out_known (out_due (layout_of s.of.value.rest.plan) s.of.value.wires.items s.number s.node) (out_count s.node) s.outs.items
    s.outs_know in
    let all : c.loop-place.place ≡ out_count s.node =
    omega (arith, many, s.outs.ok.0, c.len-place-end.ensures, c.loop-place-test.false, c.loop-place.auto.place-end) in
    subst (λ (n : ℕ). LooksOut n s.node c.loop-place.self.node) all c.loop-place.invariant.looked
