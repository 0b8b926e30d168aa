use Rattle.std.proofs.Common.{arith, refl}
use Rattle.flow_report.proofs.PrintedGrows.{plain-more, plain-none, escaped-more}
use Rattle.flow_report.proofs.value_text.gather_escapes.Goals as goal
use Rattle.flow_report.proofs.value_text.gather_escapes.Goals.{then-not-is_plain+in_ok-gather_bytes+in_ok-gather_escaped, else-not-is_plain}

pub loop-at-preserved : goal.loop-at-preserved
loop-at-preserved g c = elim c.if-not-is_plain.branch [
  | then-not-is_plain+in_ok-gather_bytes+in_ok-gather_escaped w ↦ rw (w.start-is, w.writer-is, w.page-is) (record {
    before = omega arith;
    plain = plain-none c.args.text.now c.loop-at.start c.loop-at.at c.loop-at-test.true c.loop-at.invariant.before c.loop-at.invariant.plain;
    written = escaped-more c.args.text.now c.loop-at.start c.loop-at.at c.loop-at-test.true c.loop-at.invariant.before c.loop-at.invariant.plain
        _ _ _ _ c.loop-at.invariant.written w.in_ok-gather_bytes.ensures.written w.in_ok-gather_escaped.ensures.written;
    kept = λ front begins. w.in_ok-gather_escaped.ensures.kept front (w.in_ok-gather_bytes.ensures.kept front (c.loop-at.invariant.kept front begins));
  })
  | else-not-is_plain w ↦ rw (w.start-is, w.writer-is, w.page-is) (record {
    before = omega arith;
    plain = plain-more c.args.text.now c.loop-at.start c.loop-at.at c.loop-at-test.true c.loop-at.invariant.before c.loop-at.invariant.plain (w.if-not-is_plain.ensures.0 refl);
    written = c.loop-at.invariant.written;
    kept = c.loop-at.invariant.kept;
  })
]
