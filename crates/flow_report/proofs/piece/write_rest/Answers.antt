use Rattle.flow_report.proofs.WritesAddUp.{front-of-appends, front-of-keeps, wrote-none, wrote-more, wrote-same}
use Rattle.flow_report.proofs.piece.write_rest.Goals as goal
use Rattle.flow_report.proofs.piece.write_rest.Goals.{in-Ok, in-Err+else-ne}

pub writes-init : goal.writes-init
writes-init g c = record { wrote = wrote-none (g.W.Write.contents c.args.writer.now) c.args.bytes.now; kept = λ front begins. begins }

pub writes-preserved : goal.writes-preserved
writes-preserved g c =
    let before = c.writes.invariant in
    elim c.match-write.branch [
      | in-Ok w ↦ rw w.rest-is (record {
        wrote = wrote-more _ _ _ _ _ w.in-Ok.count before.wrote w.in-Ok.ensures.bytes;
        kept = λ front begins. front-of-appends _ _ _ w.in-Ok.ensures.bytes front (before.kept front begins);
      })
      | in-Err+else-ne w ↦ rw w.rest-is (record {
        wrote = wrote-same _ _ _ _ _ before.wrote w.in-Err.ensures.bytes;
        kept = λ front begins. front-of-keeps _ _ w.in-Err.ensures.bytes front (before.kept front begins);
      })
    ]
