use Rattle.flow_report.proofs.SortedGiven.{sorted_next}
use Rattle.flow_report.proofs.given.sort_given.Goals as goal

pub loop-mark-preserved : goal.loop-mark-preserved
loop-mark-preserved c =
    sorted_next c.loop-mark.lists.items _ c.args.links c.args.journal.now c.loop-mark.mark-index c.mark-item.result c.loop-mark-test.true c.mark-item.is
    c.loop-mark.invariant c.in_ok-sort_mark.ensures
