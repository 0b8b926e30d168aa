use Rattle.std.proofs.Common.{◌<◌, ◌∙◌, length, arith}
use Rattle.flow_link.proofs.RoundsOfWalks.{marks_more}
use Rattle.flow_link.proofs.cycle.lengthen.Goals as goal

pub loop-link-preserved : goal.loop-link-preserved
loop-link-preserved c = λ block low.
    let within : block < length c.loop-link.next = omega arith in
    c.mark.ensures block low
    ∙ marks_more c.args.links.now c.loop-link.link-index _ c.args.end c.args.row.now block _ c.goes_on.result (omega arith)
    (c.loop-link.invariant block within) c.goes_on.ensures
