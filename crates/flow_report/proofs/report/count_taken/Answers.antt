use Rattle.std.proofs.Common.{◌==◌, ◌∙◌, length, take, ap, arith, length-append}
use Rattle.flow_link.specs.Trace.{took_over}
use Rattle.flow_report.proofs.ListsGrow.{taken-next}
use Rattle.flow_report.proofs.report.count_taken.Goals as goal
use Rattle.flow_report.proofs.report.count_taken.Goals.{then-is_taken_over, else-is_taken_over}

pub loop-mark-preserved : goal.loop-mark-preserved
loop-mark-preserved c =
    let grown = taken-next c.args.journal.now c.loop-mark.mark-index c.mark-item.result c.loop-mark-test.true c.mark-item.is (λ port link. link == c.args.link) in
    let counted = ap length grown ∙ length-append (took_over c.args.link (take c.loop-mark.mark-index c.args.journal.now)) _ in
    elim c.if-is_taken_over.branch [
      | then-is_taken_over w ↦ let one = rw w.if-is_taken_over.true at c.is_taken_over.ensures in (omega (arith, counted, one, c.loop-mark.invariant), omega arith)
      | else-is_taken_over w ↦ let none = rw w.if-is_taken_over.false at c.is_taken_over.ensures in (omega (arith, counted, none, c.loop-mark.invariant), omega arith)
    ]
