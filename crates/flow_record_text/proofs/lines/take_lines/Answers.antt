use Rattle.std.proofs.Common.{◌≡◌, rules, subst, sym, take}
use Rattle.std.proofs.BufReadLemmas.{Consumes_shown}
use Rattle.std.proofs.lemmas.Result.{err_from_is_err_and}
use Rattle.std.specs.Io.Buffered.{reader_buffer, reader_remaining}
use Rattle.std.specs.Io.BufRead.{FillKeeps, DropsConsumable}
use Rattle.std.specs.Prelude.{Some, length}
use Rattle.flow_record_text.specs.Records.{texts_of, posted_values}
use Rattle.flow_record_text.proofs.LinesRead.{from-piece, stops-shown}
use Rattle.flow_record_text.proofs.lines.take_lines.Goals as goal

pub returns-in_err-used-in-Ok-clause-refused : goal.returns-in_err-used-in-Ok-clause-refused
returns-in_err-used-in-Ok-clause-refused g c =
    let p = err_from_is_err_and c.from_residual.result c.from_residual.ensures.1 in
    rw (p.1, p.2) (stops-shown (texts_of c.args.names.now) c.args.seen.now.number (posted_values c.args.posted.now.items)
    (reader_remaining g.R.Read.remaining c.args.reader.now) c.in-Ok.bytes.now _ c.in-Ok.ensures.front c.in_err-used-in-Ok.ensures.refused)

pub returns-clause-goes_on : goal.returns-clause-goes_on
returns-clause-goes_on g c =
    let shown = c.in-Ok.bytes.now in
    let rested = c.fill_buf.follows.lender-at-none in
    let used = c.in_ok-used-in-Ok.used in
    let filled = subst (FillKeeps _ (reader_remaining g.R.Read.remaining rested) (Some (length (reader_buffer rested)))) c.in-Ok.is c.fill_buf.follows.holds-at-none in
    let moved = Consumes_shown (reader_remaining g.R.Read.remaining c.args.reader.now) (reader_remaining g.R.Read.remaining rested) (reader_remaining g.R.Read.remaining c.consume.new.self)
    (Some (length (reader_buffer rested))) shown used c.in_ok-used-in-Ok.ensures.within c.in-Ok.ensures.front c.in-Ok.ensures.end filled.0 filled.1 c.consume.ensures.bytes in
    from-piece (texts_of c.args.names.now) c.args.seen.now.number c.post_lines.new.seen.number (posted_values c.args.posted.now.items) (posted_values c.post_lines.new.posted.items)
    (reader_remaining g.R.Read.remaining c.args.reader.now) _ (take used shown) moved.0 c.in_ok-used-in-Ok.ensures.goes_on
