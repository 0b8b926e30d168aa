use Rattle.std.proofs.Common.{◌≡◌, ◌≤◌, ◌<◌, ◌+◌, ◌-◌, length, drop, take_all, refl, ap, rules, arith, ◌∙◌}
use Rattle.std.proofs.lemmas.Result.{err_from_is_err_and}
use Rattle.std.proofs.lemmas.List.{length-drop}
use Rattle.std.specs.Prelude.{slice_range, ℕ, List}
use Rattle.flow_record_text.specs.Records.{texts_of, room, posted_values}
use Rattle.flow_record_text.proofs.LinesRead.{goes-none, goes-line, stops-line}
use Rattle.flow_record_text.proofs.lines.post_lines.Goals as goal

-- the bytes from a place on
behind : (bytes : List ℕ) (at : ℕ) → slice_range bytes at (length bytes) ≡ drop at bytes
behind bytes at = take_all (length bytes - at) (drop at bytes) (omega (arith, length-drop at bytes))

pub lines-init : goal.lines-init
lines-init c = record {
  within = search rules;
  endings = refl;
  room = search rules;
  goes_on = goes-none (texts_of c.args.names.now) c.args.seen.now.number (posted_values c.args.posted.now.items) c.args.bytes.now;
}

pub lines-preserved : goal.lines-preserved
lines-preserved c =
    let kept = c.lines.invariant in
    let plain = c.in-Some.ensures in
    let is = behind c.args.bytes.now c.lines.used in
    let long = ap length is ∙ length-drop c.lines.used c.args.bytes.now in
    record {
      within = omega (arith, kept.within, long, plain.within);
      endings = c.in_ok-post_record.ensures.endings ∙ kept.endings;
      room = omega (arith, kept.room, c.in_ok-post_record.ensures.room);
      goes_on = goes-line (texts_of c.args.names.now) c.args.seen.now.number c.lines.seen.number c.post_record.new.seen.number
          (posted_values c.args.posted.now.items) (posted_values c.lines.posted.items) (posted_values c.post_record.new.posted.items)
          c.args.bytes.now (slice_range c.args.bytes.now c.lines.used (length c.args.bytes.now)) c.lines.used c.in-Some.line.comma c.in-Some.line.end is kept.goes_on plain c.in_ok-post_record.ensures.posts;
    }

pub returns-in_err-post_record-clause-refused : goal.returns-in_err-post_record-clause-refused
returns-in_err-post_record-clause-refused c =
    let p = err_from_is_err_and c.from_residual.result c.from_residual.ensures.1 in
    rw (p.1, p.2) (stops-line (texts_of c.args.names.now) c.args.seen.now.number c.lines.seen.number
    (posted_values c.args.posted.now.items) (posted_values c.lines.posted.items)
    c.args.bytes.now (slice_range c.args.bytes.now c.lines.used (length c.args.bytes.now)) c.lines.used c.in-Some.line.comma c.in-Some.line.end _ (behind c.args.bytes.now c.lines.used)
    c.lines.invariant.goes_on c.in-Some.ensures c.in_err-post_record.ensures.refused)
