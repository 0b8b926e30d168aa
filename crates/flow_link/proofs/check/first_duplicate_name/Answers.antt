use Rattle.std.proofs.Common.{sym, ◌∙◌, take, is_some, length, below_more, arith}
use Rattle.flow_link.specs.Plan.{block_named, block_in}
use Rattle.flow_link.proofs.FirstInOrder.{first_below, none_below}
use Rattle.flow_link.proofs.FirstOfEachFault.{repeats_at}
use Rattle.flow_link.proofs.check.first_duplicate_name.Goals as goal

pub loop-place-preserved : goal.loop-place-preserved
loop-place-preserved g c =
    below_more _ _ c.loop-place.invariant
    (repeats_at c.args.blocks.now c.loop-place.place c.index-blocks-place.result c.as_str.result.now c.block_named.result (omega arith)
    c.index-blocks-place.is c.as_str.ensures c.block_named.ensures.place ∙ sym c.is_some.ensures ∙ c.if-is_some.false)

pub returns-then-is_some : goal.returns-then-is_some
returns-then-is_some g c =
    sym (first_below (λ k. is_some (block_named (take k c.args.blocks.now) (block_in c.args.blocks.now k).name)) (length c.args.blocks.now)
    c.loop-place.place (omega arith) c.loop-place.invariant
    (repeats_at c.args.blocks.now c.loop-place.place c.index-blocks-place.result c.as_str.result.now c.block_named.result (omega arith)
    c.index-blocks-place.is c.as_str.ensures c.block_named.ensures.place ∙ sym c.is_some.ensures ∙ c.if-is_some.true))

pub returns : goal.returns
returns g c =
    sym (none_below (λ k. is_some (block_named (take k c.args.blocks.now) (block_in c.args.blocks.now k).name)) (length c.args.blocks.now)
    (λ k low. c.loop-place.invariant k (omega arith)))
