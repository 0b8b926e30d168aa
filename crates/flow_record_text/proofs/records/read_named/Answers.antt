use Rattle.std.proofs.Common.{◌≡◌, ℕ, Bor, List, length, drop, ap, sym, subst, rules, arith}
use Rattle.std.specs.Prelude.{Ok, Option}
use Rattle.std.specs.Io.KnownBytes.{Keeps, prepend_known}
use Rattle.std.specs.Io.Buffered.{reader_remaining}
use Rattle.std.proofs.lemmas.List.{length-map}
use Rattle.std.proofs.lemmas.Result.{err_from_is_err_and}
use Rattle.std.specs.Prelude.{IfSome}
use Rattle.csv.specs.Reading.{strip_bom}
use Rattle.flow_record_text.specs.Records.{texts_of, posted_values}
use Rattle.flow_record_text.proofs.LinesRead.{BeginsAt, begins-lines, posts-lines, begins-all, ends-all, refuses-all, refuses-lines, of-ok, of-err}
use Rattle.flow_record_text.proofs.records.read_named.Given.{Over}
use Rattle.flow_record_text.proofs.records.read_named.Goals.{then-branch+in_ok-front, else-branch}
use Rattle.flow_record_text.proofs.records.read_named.Goals as goal

begins : (g : Over) (c : goal.After-drop-places-2 g) → BeginsAt (texts_of c.args.names.now) c.if-branch.seen.number (posted_values c.if-branch.posted.items) (g.R.Read.remaining c.args.reader)
    (prepend_known (drop 0 c.if-branch.front.items) (reader_remaining g.R.Read.remaining c.if-branch.reader))
begins g c =
    let names = texts_of c.args.names.now in
    let count = sym (length-map c.args.names.now (λ (name : Bor (List ℕ)). name.now)) in
    let none = c.in_ok-posted.ensures.values in
    let kept = reader_remaining g.R.Read.remaining c.begins_plainly.new.reader in
    let keeps = subst (λ (text : Option (List ℕ)). Keeps text kept) c.in_ok-reader.ensures.all c.in_ok-begins_plainly.ensures.keeps in
    elim c.if-branch.branch [
      | then-branch+in_ok-front w ↦
          let plain = subst (λ (text : Option (List ℕ)). IfSome text (λ bytes. strip_bom bytes ≡ bytes)) c.in_ok-reader.ensures.all (c.in_ok-begins_plainly.ensures.plain (ap Ok w.if-branch.true)) in
          rw (w.posted-is, w.seen-is, w.reader-is, w.front-is) (begins-lines names (length c.args.names.now) w.read_lines.new.seen.number (posted_values c.in_ok-posted.posted.items)
          (posted_values w.read_lines.new.posted.items) (g.R.Read.remaining c.args.reader) kept (reader_remaining g.R.Read.remaining w.read_lines.new.reader) w.in_ok-front.front.items count none keeps plain w.in_ok-front.ensures.left)
      | else-branch w ↦
          rw (w.posted-is, w.seen-is, w.reader-is, w.front-is, c.new-front.ensures.items) (begins-all names (length c.args.names.now) (posted_values c.in_ok-posted.posted.items)
          (g.R.Read.remaining c.args.reader) kept count none keeps)
    ]

pub returns-then-len-eq1-clause-values : goal.returns-then-len-eq1-clause-values
returns-then-len-eq1-clause-values g c =
    let long : length c.if-branch.front.items ≡ 1 = search rules in
    let count = sym (length-map c.args.names.now (λ (name : Bor (List ℕ)). name.now)) in
    let kept = reader_remaining g.R.Read.remaining c.begins_plainly.new.reader in
    let keeps = subst (λ (text : Option (List ℕ)). Keeps text kept) c.in_ok-reader.ensures.all c.in_ok-begins_plainly.ensures.keeps in
    elim c.if-branch.branch [
      | then-branch+in_ok-front w ↦
          let plain = subst (λ (text : Option (List ℕ)). IfSome text (λ bytes. strip_bom bytes ≡ bytes)) c.in_ok-reader.ensures.all (c.in_ok-begins_plainly.ensures.plain (ap Ok w.if-branch.true)) in
          rw w.posted-is (posts-lines (texts_of c.args.names.now) (length c.args.names.now) w.read_lines.new.seen.number (posted_values c.in_ok-posted.posted.items)
          (posted_values w.read_lines.new.posted.items) (g.R.Read.remaining c.args.reader) kept (reader_remaining g.R.Read.remaining w.read_lines.new.reader) w.in_ok-front.front.items count
          c.in_ok-posted.ensures.values keeps plain w.in_ok-front.ensures.left (rw w.front-is at long))
      | else-branch w ↦ absurd (omega (arith, rw (w.front-is, c.new-front.ensures.items) at long))
    ]

pub returns-in_err-front-clause-refused : goal.returns-in_err-front-clause-refused
returns-in_err-front-clause-refused g c =
    let p = err_from_is_err_and c.from_residual-in_err-front.result c.from_residual-in_err-front.ensures.1 in
    let count = sym (length-map c.args.names.now (λ (name : Bor (List ℕ)). name.now)) in
    let kept = reader_remaining g.R.Read.remaining c.begins_plainly.new.reader in
    let keeps = subst (λ (text : Option (List ℕ)). Keeps text kept) c.in_ok-reader.ensures.all c.in_ok-begins_plainly.ensures.keeps in
    let plain = subst (λ (text : Option (List ℕ)). IfSome text (λ bytes. strip_bom bytes ≡ bytes)) c.in_ok-reader.ensures.all (c.in_ok-begins_plainly.ensures.plain (ap Ok c.if-branch.true)) in
    rw (p.1, p.2) (refuses-lines (texts_of c.args.names.now) (length c.args.names.now) (posted_values c.in_ok-posted.posted.items) (g.R.Read.remaining c.args.reader) kept
    c.in_err-front.field-0.0 count c.in_ok-posted.ensures.values keeps plain c.in_err-front.ensures.refused)

pub returns-clause-values : goal.returns-clause-values
returns-clause-values g c =
    of-ok c.read_rows.result _ _ (λ all posts. ends-all (texts_of c.args.names.now) c.if-branch.seen.number (posted_values c.if-branch.posted.items) (posted_values all.items)
    (g.R.Read.remaining c.args.reader) _ (begins g c) posts) c.read_rows.ensures.values

pub returns-clause-refused : goal.returns-clause-refused
returns-clause-refused g c =
    of-err c.read_rows.result _ _ (λ refusal why. refuses-all (texts_of c.args.names.now) c.if-branch.seen.number (posted_values c.if-branch.posted.items)
    (g.R.Read.remaining c.args.reader) _ refusal (begins g c) why) c.read_rows.ensures.refused
