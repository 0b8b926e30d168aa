use Rattle.std.proofs.Common.{◌≡◌, ◌∙◌, ap, sym, ℕ, Bool, arith}
use Rattle.flow_link.specs.declared.plan.Link.{Link}
use Rattle.flow_link.specs.Plan.{begins_at, no_link}
use Rattle.flow_link.specs.Trace.{link_of, marks_of}
use Rattle.flow_report.specs.Report.{link_line, run_in}
use Rattle.flow_report.proofs.ReportGrows.{lines-more_if, lines-same}
use Rattle.flow_report.proofs.report.write_links.Goals as goal
use Rattle.flow_report.proofs.report.write_links.Goals.{then-is_from+in_ok-write_link, else-is_from}

pub overflow_cast-count : goal.overflow_cast-count
overflow_cast-count g c = omega (arith, c.links_between-links.ensures, c.link_count.ensures.count, c.link_count.type_inv)

pub write_link-requires-clause-from : goal.write_link-requires-clause-from
write_link-requires-clause-from g c =
    sym (ap (λ (link : Link). begins_at c.args.block link.source) (c.link_at.ensures no_link)) ∙ sym c.is_from.ensures ∙ c.if-is_from.true

pub write_link-requires-clause-sorted : goal.write_link-requires-clause-sorted
write_link-requires-clause-sorted g c = rw c.as_slice.ensures.value (rw c.journal-journal.ensures at c.sort_for_many.ensures)

pub loop-id-preserved : goal.loop-id-preserved
loop-id-preserved g c =
    let run = run_in c.args.net.now in
    let test : ℕ → Bool = λ id. begins_at c.args.block (link_of run id).source in
    let here : c.is_from.result ≡ test c.loop-id.id = c.is_from.ensures ∙ ap (λ (link : Link). begins_at c.args.block link.source) (c.link_at.ensures no_link) in
    elim c.if-is_from.branch [
      | then-is_from+in_ok-write_link w ↦ rw (w.writer-is, w.lists-is, w.kept-is) (record {
        written = lines-more_if test (λ id. link_line id (marks_of run c.args.block)) c.loop-id.id _ _ _ (sym here ∙ w.if-is_from.true) c.loop-id.invariant.written
            w.in_ok-write_link.ensures.written;
        sorted = w.sort_for_many.ensures;
        fits = w.in_ok-write_link.ensures.fits;
        kept = λ front begins. w.in_ok-write_link.ensures.kept front (c.loop-id.invariant.kept front begins);
      })
      | else-is_from w ↦ rw (w.writer-is, w.lists-is, w.kept-is, lines-same test c.loop-id.id (sym here ∙ w.if-is_from.false)) c.loop-id.invariant
    ]
