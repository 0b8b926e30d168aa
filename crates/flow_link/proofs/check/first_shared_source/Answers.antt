use Rattle.std.proofs.Common.{sym, ◌∙◌, length, below_more, arith}
use Rattle.flow_link.specs.PlanFaults.{shares_among}
use Rattle.flow_link.proofs.FirstInOrder.{first_below, none_below}
use Rattle.flow_link.proofs.check.first_shared_source.Goals as goal

pub loop-block-preserved : goal.loop-block-preserved
loop-block-preserved g c =
    below_more _ _ c.loop-block.invariant (sym c.shares_a_source.ensures ∙ c.if-shares_a_source.false)

pub returns-then-shares_a_source : goal.returns-then-shares_a_source
returns-then-shares_a_source g c =
    sym (first_below (shares_among c.args.blocks.now c.args.links.now) (length c.args.blocks.now) c.loop-block.block (omega arith)
    c.loop-block.invariant (sym c.shares_a_source.ensures ∙ c.if-shares_a_source.true))

pub returns : goal.returns
returns g c =
    sym (none_below (shares_among c.args.blocks.now c.args.links.now) (length c.args.blocks.now)
    (λ k low. c.loop-block.invariant k (omega arith)))
