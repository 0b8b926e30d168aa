use Rattle.std.proofs.Common.{ℕ, ◌<◌, ◌+◌, length, ap, sym, ◌∙◌, arith, rules}
use Rattle.std.proofs.lemmas.List.Sums.{count_by_more_yes, count_by_more_no}
use Rattle.flow_link.specs.Plan.{no_block}
use Rattle.flow_link.specs.Planned.{layout_of}
use Rattle.flow_net.proofs.NetTells.{input_there}
use Rattle.flow_net.proofs.engine.Engine.input.Goals.{then-block, else-block}
use Rattle.flow_net.proofs.engine.Engine.input.Goals as goal

pub input-requires : goal.input-requires
input-requires g c =
    let there = input_there g.W.Runs.meaning (layout_of c.args.self.now.plan) c.args.self.now.parts c.requires.kept
    c.args.block c.requires.known (search rules) in
    search rules

pub loop-number-preserved : goal.loop-number-preserved
loop-number-preserved g c =
    let blocks = (layout_of c.args.self.now.plan).blocks in
    let number = c.loop-number.number in
    let low : number < length blocks = omega (arith, c.loop-number-test.true, c.requires.known) in
    let block_is = c.block-in-loop-number.ensures no_block in
    elim c.if-block.branch [
      | then-block w ↦ record {
        counted = w.place-is ∙ ap (λ (n : ℕ). n + 1) c.loop-number.invariant.counted
            ∙ sym (count_by_more_yes (λ block. block.input) blocks number no_block low (ap (λ block. block.input) (sym block_is) ∙ w.if-block.true));
        few = omega (arith, w.place-is, c.loop-number.invariant.few);
      }
      | else-block w ↦ record {
        counted = w.place-is ∙ c.loop-number.invariant.counted
            ∙ sym (count_by_more_no (λ block. block.input) blocks number no_block low (ap (λ block. block.input) (sym block_is) ∙ w.if-block.false));
        few = omega (arith, w.place-is, c.loop-number.invariant.few);
      }
    ]
