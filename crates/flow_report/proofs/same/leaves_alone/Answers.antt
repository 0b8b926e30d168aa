use Rattle.std.proofs.Common.{◌≡◌, true, arith}
use Rattle.flow_link.specs.Plan.{begins_at}
use Rattle.flow_link.specs.Trace.{link_of}
use Rattle.flow_net.proofs.FindersTell.{one_more}
use Rattle.flow_report.specs.Report.{run_in}
use Rattle.flow_report.proofs.same.leaves_alone.Goals as goal

pub loop-id-init : goal.loop-id-init
loop-id-init c = λ k low begins. absurd (omega (arith, low))

pub loop-id-preserved : goal.loop-id-preserved
loop-id-preserved c =
    one_more (λ k. begins_at c.args.block (link_of (run_in c.args.net.now) k).source ≡ true → k ≡ c.args.link) c.loop-id.id c.loop-id.invariant
    (c.is_other_from.ensures c.if-is_other_from.false)

pub returns : goal.returns
returns c = λ all k low begins.
    c.loop-id.invariant k (omega (arith, low, c.loop-id.auto.id-end, c.loop-id-test.false, c.link_count-id-end.ensures.count)) begins
