use Rattle.std.proofs.Common.{rules, ◌≡◌, ◌<◌, false, cond, length, sym, subst, arith, ℕ, true, below_more}
use Rattle.flow_link.proofs.ListTests.{every_below}
use Rattle.flow_link.specs.Plan.{is_one_taker}
use Rattle.flow_link.specs.Planned.{layout_of}
use Rattle.flow_outlet.specs.End.{is_over}
use Rattle.flow_block.specs.Block.{BlockState}
use Rattle.flow_core.specs.MovesFit.{out_count}
use Rattle.flow_task.specs.Known.{out_known, out_due}
use Rattle.flow_task.specs.Turns.{stage_from}
use Rattle.flow_task.proofs.AllOver.{fails_below}
use Rattle.flow_task.proofs.Places.{count_is}
use Rattle.flow_task.proofs.task.BlockTask.are_outs_over.Goals as goal

pub stage_out-requires : goal.stage_out-requires
stage_out-requires g c =
    let s = c.args.self.now in
    let many = count_is out_known (out_due (layout_of s.of.value.rest.plan) s.of.value.wires.items s.number s.node) (out_count s.node) s.outs.items
    s.outs_know in
    let place = c.loop-place.place in
    let small : place < out_count s.node = omega (arith, many, s.outs.ok.0, c.len-place-end.ensures, c.loop-place-test.true) in
    subst (λ (b : BlockState). place < cond (is_one_taker b.kind) (length b.exits.ends) (length b.copies.ends)) (sym c.block.ensures) small

pub returns-then-not-is_out_over : goal.returns-then-not-is_out_over
returns-then-not-is_out_over g c =
    let s = c.args.self.now in
    let many = count_is out_known (out_due (layout_of s.of.value.rest.plan) s.of.value.wires.items s.number s.node) (out_count s.node) s.outs.items
    s.outs_know in
    let place = c.loop-place.place in
    let over : is_over (stage_from place s.node) ≡ false = search rules in
    sym (fails_below (λ k. is_over (stage_from k s.node)) (out_count s.node) place
    (omega (arith, many, s.outs.ok.0, c.len-place-end.ensures, c.loop-place-test.true)) over)

pub returns : goal.returns
returns g c =
    let s = c.args.self.now in
    let many = count_is out_known (out_due (layout_of s.of.value.rest.plan) s.of.value.wires.items s.number s.node) (out_count s.node) s.outs.items
    s.outs_know in
    sym (every_below (λ k. is_over (stage_from k s.node)) (out_count s.node)
    (λ k low. c.loop-place.invariant k (omega (arith, many, s.outs.ok.0, c.len-place-end.ensures, c.loop-place-test.false, low))))

pub loop-place-preserved : goal.loop-place-preserved
loop-place-preserved g c =
    let s = c.args.self.now in
    let place = c.loop-place.place in
    let over : is_over (stage_from place s.node) ≡ true = search rules in
    below_more (λ (k : ℕ). is_over (stage_from k s.node) ≡ true) place c.loop-place.invariant over
