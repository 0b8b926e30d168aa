use Rattle.std.proofs.Common.{◌≡◌, ◌∙◌, ap}
use Rattle.flow_link.specs.Trace.{gave_over}
use Rattle.flow_report.specs.Given.{values_of}
use Rattle.flow_report.proofs.SortedGiven.{list_at}
use Rattle.flow_report.proofs.report.write_link_line.Goals as goal

pub returns-then-place-lists-clause-written : goal.returns-then-place-lists-clause-written
returns-then-place-lists-clause-written g c =
    let same : values_of c.as_slice.result.now ≡ gave_over c.args.link c.args.journal.now =
    ap values_of c.as_slice.ensures.value ∙ list_at c.args.lists.now c.index-lists-place.result c.args.link c.args.journal.now c.requires c.if-place-lists.true c.index-lists-place.is in
    rw (same, c.from.ensures) at c.write_sorted_line.ensures.written
