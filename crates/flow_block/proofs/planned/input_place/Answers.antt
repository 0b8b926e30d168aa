use Rattle.std.proofs.Common.{ℕ, ◌+◌, ◌<◌, length, ap, sym, ◌∙◌, arith}
use Rattle.std.proofs.lemmas.List.Sums.{count_by_more_yes, count_by_more_no}
use Rattle.flow_link.specs.declared.draft.BlockDef.{BlockDef}
use Rattle.flow_link.specs.Plan.{no_block}
use Rattle.flow_block.proofs.planned.input_place.Goals as goal
use Rattle.flow_block.proofs.planned.input_place.Goals.{then-block, else-block}

pub loop-earlier-preserved : goal.loop-earlier-preserved
loop-earlier-preserved g c =
    let blocks = c.args.plan.now.blocks.items in
    let earlier = c.loop-earlier.earlier in
    let so_far = c.loop-earlier.invariant.counted in
    let there : earlier < length c.args.plan.now.blocks.items = omega arith in
    let here = ap (λ (block : BlockDef g.row.W.Denot). block.input) (sym (c.block.ensures no_block)) in
    elim c.if-block.branch [
      | then-block w ↦ record {
        counted = w.place-is ∙ ap (λ (count : ℕ). count + 1) so_far
            ∙ sym (count_by_more_yes (λ (block : BlockDef g.row.W.Denot). block.input) blocks earlier no_block there (here ∙ w.if-block.true));
        few = omega (arith, w.place-is);
      }
      | else-block w ↦ record {
        counted = w.place-is ∙ so_far
            ∙ sym (count_by_more_no (λ (block : BlockDef g.row.W.Denot). block.input) blocks earlier no_block there (here ∙ w.if-block.false));
        few = omega (arith, w.place-is);
      }
    ]
