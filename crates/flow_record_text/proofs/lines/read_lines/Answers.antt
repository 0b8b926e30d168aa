use Rattle.std.proofs.Common.{◌≡◌, ◌-◌, ℕ, List, length, drop, take_all, ap, rules, subst, arith, ◌∙◌}
use Rattle.std.specs.Prelude.{slice_range}
use Rattle.std.specs.Io.Buffered.{reader_remaining}
use Rattle.std.proofs.lemmas.Result.{err_from_is_err_and}
use Rattle.std.proofs.lemmas.List.{length-drop}
use Rattle.flow_record_text.specs.Records.{texts_of, posted_values}
use Rattle.flow_record_text.specs.Lines.{GoesOn, Stops}
use Rattle.flow_record_text.proofs.LinesRead.{from-both, from-line, stops-both, stops-line-read}
use Rattle.flow_record_text.proofs.lines.read_lines.Goals as goal

-- the bytes behind the first
behind-first : (shown line : List ℕ) → shown ≡ line → slice_range shown 1 (length shown) ≡ drop 1 line
behind-first shown line is = take_all (length shown - 1) (drop 1 shown) (omega (arith, length-drop 1 shown)) ∙ ap (λ (bytes : List ℕ). drop 1 bytes) is

pub returns-in_err-is_whole-clause-refused : goal.returns-in_err-is_whole-clause-refused
returns-in_err-is_whole-clause-refused g c =
    let p = err_from_is_err_and c.from_residual-in_err-is_whole.result c.from_residual-in_err-is_whole.ensures.1 in
    let names = texts_of c.args.names.now in
    let line = c.read_line.new.line.items in
    let n1 = c.reading.seen.number in
    let v1 = posted_values c.reading.posted.items in
    let n2 = c.take_lines.new.seen.number in
    let v2 = posted_values c.take_lines.new.posted.items in
    let refusal = c.in_err-is_whole.field-0.0 in
    let why = subst (λ (bytes : List ℕ). Stops names n2 v2 bytes refusal) (behind-first c.deref.result.now line c.deref.ensures.value) c.in_err-is_whole.ensures.refused in
    let stopped = stops-line-read names n2 v2 (reader_remaining g.R.Read.remaining c.take_lines.new.reader) (reader_remaining g.R.Read.remaining c.read_line.new.reader) line refusal c.in_ok-read_line.ensures.read why in
    let later = stops-both names n1 n2 v1 v2 (reader_remaining g.R.Read.remaining c.reading.reader) (reader_remaining g.R.Read.remaining c.take_lines.new.reader) refusal c.in_ok-take_lines.ensures.goes_on stopped in
    rw (p.1, p.2) (stops-both names c.args.seen.now.number n1 (posted_values c.args.posted.now.items) v1 (reader_remaining g.R.Read.remaining c.args.reader.now) (reader_remaining g.R.Read.remaining c.reading.reader) refusal c.reading.invariant.goes_from later)

pub reading-preserved : goal.reading-preserved
reading-preserved g c =
    let names = texts_of c.args.names.now in
    let line = c.read_line.new.line.items in
    let n1 = c.reading.seen.number in
    let v1 = posted_values c.reading.posted.items in
    let n2 = c.take_lines.new.seen.number in
    let v2 = posted_values c.take_lines.new.posted.items in
    let n3 = c.post_line.new.seen.number in
    let v3 = posted_values c.post_line.new.posted.items in
    let goes = subst (GoesOn names n2 v2 n3 v3) (behind-first c.deref.result.now line c.deref.ensures.value) (c.in_ok-is_whole.ensures.goes_on (search rules)) in
    let whole = from-line names n2 n3 v2 v3 (reader_remaining g.R.Read.remaining c.take_lines.new.reader) (reader_remaining g.R.Read.remaining c.read_line.new.reader) line c.in_ok-read_line.ensures.read goes in
    let later = from-both names n1 n2 n3 v1 v2 v3 (reader_remaining g.R.Read.remaining c.reading.reader) (reader_remaining g.R.Read.remaining c.take_lines.new.reader) (reader_remaining g.R.Read.remaining c.read_line.new.reader) c.in_ok-take_lines.ensures.goes_on whole in
    record {
      endings = c.in_ok-is_whole.ensures.endings ∙ c.in_ok-take_lines.ensures.endings ∙ c.reading.invariant.endings;
      goes_from = from-both names c.args.seen.now.number n1 n3 (posted_values c.args.posted.now.items) v1 v3 (reader_remaining g.R.Read.remaining c.args.reader.now) (reader_remaining g.R.Read.remaining c.reading.reader) (reader_remaining g.R.Read.remaining c.read_line.new.reader)
          c.reading.invariant.goes_from later;
    }
