use Rattle.std.proofs.Common.{◌≡◌, ◌∙◌, rules, subst, sym}
use Rattle.std.proofs.lemmas.Result.{err_from_is_err_and}
use Rattle.csv.specs.Records.{fields_of}
use Rattle.flow_fault_text.specs.declared.fault.TextFault.TheVariants.{Csv}
use Rattle.flow_fault_text.specs.declared.fault.TextRefusal.TheVariants.{Fault}
use Rattle.flow_record_text.specs.Records.{texts_of, posted_values, Posts, IsNotPosted}
use Rattle.flow_record_text.proofs.RowsRead.{from-start, row-more, row-end, row-refused}
use Rattle.flow_record_text.proofs.rows.read_rows.Goals as goal

pub reading-init : goal.reading-init
reading-init g c =
    let made = c.record_reader-records.ensures in
    record {
      takes = made.takes;
      endings = c.requires.endings;
      so_far = from-start g.R.Read.remaining (texts_of c.args.names.now) _ _ c.record_reader-records.result (g.R.Read.remaining c.args.reader) made.source made.state;
    }

pub returns-then-not-found-clause-values : goal.returns-then-not-found-clause-values
returns-then-not-found-clause-values g c =
    let kept = c.reading.invariant in
    let read = rw c.if-not-found.true at c.in_ok-found.ensures.reads in
    row-end g.R.Read.remaining (texts_of c.args.names.now) c.reading.seen.number (posted_values c.reading.posted.items) c.reading.records c.read_row.new.records
    (fields_of c.read_row.new.row) kept.takes.config _ _ (g.R.Read.remaining c.args.reader) kept.so_far read

pub returns-in_default-clause-refused : goal.returns-in_default-clause-refused
returns-in_default-clause-refused g c =
    let kept = c.reading.invariant in
    let read = rw c.if-not-found.false at c.in_ok-found.ensures.reads in
    let why : IsNotPosted (texts_of c.args.names.now) (fields_of c.read_row.new.row) c.reading.seen.number (Fault (Csv c.saturating_add-number.result)) = (search rules, c.in_default.ensures) in
    row-refused g.R.Read.remaining (texts_of c.args.names.now) c.reading.seen.number (posted_values c.reading.posted.items) c.reading.records c.read_row.new.records
    (fields_of c.read_row.new.row) kept.takes.config _ _ (g.R.Read.remaining c.args.reader) (Fault (Csv c.saturating_add-number.result)) kept.so_far read why

pub reading-preserved : goal.reading-preserved
reading-preserved g c =
    let kept = c.reading.invariant in
    let read = rw c.if-not-found.false at c.in_ok-found.ensures.reads in
    let posts = subst (λ row. Posts (texts_of c.args.names.now) row c.reading.seen.number (posted_values c.reading.posted.items) c.post_record.new.seen.number (posted_values c.post_record.new.posted.items)) (sym c.in-Some.ensures) c.in_ok-post_record.ensures.posts in
    record {
      takes = c.in_ok-found.ensures.takes c.if-not-found.false;
      endings = c.in_ok-post_record.ensures.endings ∙ kept.endings;
      so_far = row-more g.R.Read.remaining (texts_of c.args.names.now) c.reading.seen.number (posted_values c.reading.posted.items) c.reading.records c.read_row.new.records
          (fields_of c.read_row.new.row) kept.takes.config _ _ (g.R.Read.remaining c.args.reader) _ _ kept.so_far read posts;
    }

pub returns-in_err-post_record-clause-refused : goal.returns-in_err-post_record-clause-refused
returns-in_err-post_record-clause-refused g c =
    let kept = c.reading.invariant in
    let read = rw c.if-not-found.false at c.in_ok-found.ensures.reads in
    let p = err_from_is_err_and c.from_residual-in_err-post_record.result c.from_residual-in_err-post_record.ensures.1 in
    let why = subst (λ row. IsNotPosted (texts_of c.args.names.now) row c.reading.seen.number c.in_err-post_record.field-0.0) (sym c.in-Some.ensures) c.in_err-post_record.ensures.refused in
    rw (p.1, p.2) (row-refused g.R.Read.remaining (texts_of c.args.names.now) c.reading.seen.number (posted_values c.reading.posted.items) c.reading.records c.read_row.new.records
    (fields_of c.read_row.new.row) kept.takes.config _ _ (g.R.Read.remaining c.args.reader) _ kept.so_far read why)
