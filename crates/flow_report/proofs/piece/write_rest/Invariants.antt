use Rattle.flow_report.specs.Written.{StaysInFront}
use Rattle.flow_report.proofs.WritesAddUp.{WroteUpTo}
use Rattle.flow_report.proofs.piece.write_rest.Given as goal

abbrev pub invariant-writes : goal.invariant-writes
invariant-writes g l = record {
  wrote : WroteUpTo (g.W.Write.contents l.fn.writer) (g.W.Write.contents l.writer) l.bytes l.rest;
  kept : StaysInFront (g.W.Write.contents l.fn.writer) (g.W.Write.contents l.writer);
}
