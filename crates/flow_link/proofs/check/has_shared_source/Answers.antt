use Rattle.std.proofs.Common.{sym, ◌∙◌, below_more, arith}
use Rattle.flow_link.specs.PlanFaults.{leads_twice}
use Rattle.flow_link.proofs.FirstInOrder.{any_is_some}
use Rattle.flow_link.proofs.RoundsOfWalks.{some_here_below, some_none_below}
use Rattle.flow_link.proofs.check.has_shared_source.Goals as goal

pub loop-source-preserved : goal.loop-source-preserved
loop-source-preserved c = below_more _ _ c.loop-source.invariant (sym (c.leads_twice.ensures ∙ any_is_some _ c.args.links.now) ∙ c.if-leads_twice.false)

pub returns-then-leads_twice : goal.returns-then-leads_twice
returns-then-leads_twice c =
    sym (some_here_below (λ source. leads_twice c.args.links.now source c.args.block) c.args.count c.loop-source.source (omega arith)
    (sym (c.leads_twice.ensures ∙ any_is_some _ c.args.links.now) ∙ c.if-leads_twice.true))

pub returns : goal.returns
returns c =
    sym (some_none_below (λ source. leads_twice c.args.links.now source c.args.block) c.args.count
    (λ k low. c.loop-source.invariant k (omega arith)))
