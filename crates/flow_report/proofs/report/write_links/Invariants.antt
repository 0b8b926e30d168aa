use Rattle.std.proofs.Common.{◌≡◌, length, map}
use Rattle.std.specs.List.{concat, filter}
use Rattle.std.specs.Io.KnownBytes.{Appends}
use Rattle.flow_link.specs.Lists.{below}
use Rattle.flow_link.specs.Plan.{begins_at}
use Rattle.flow_link.specs.Trace.{link_of, marks_of}
use Rattle.flow_report.specs.Given.{lists_of, given_lists}
use Rattle.flow_report.specs.KeptList.{Fits}
use Rattle.flow_report.specs.Report.{link_line, run_in}
use Rattle.flow_report.specs.Written.{StaysInFront}
use Rattle.flow_report.proofs.report.write_links.Given as goal

abbrev pub invariant-loop-id : goal.invariant-loop-id
invariant-loop-id g l = record {
  written : Appends (g.W.Write.contents l.fn.writer) (g.W.Write.contents l.writer)
      (concat (map (λ id. link_line id (marks_of (run_in l.net) l.block)) (filter (λ id. begins_at l.block (link_of (run_in l.net) id).source) (below l.id))));
  sorted : lists_of l.lists.items ≡ given_lists (length l.lists.items) l.journal;
  fits : Fits (run_in l.net) l.kept;
  kept : StaysInFront (g.W.Write.contents l.fn.writer) (g.W.Write.contents l.writer);
}
