use Rattle.std.proofs.Common.{◌≡◌, length, take, take_all, refl, rules, subst, arith, ◌+◌, ◌≤◌}
use Rattle.std.proofs.lemmas.Result.{err_from_is_err_and}
use Rattle.flow_record_text.specs.Records.{texts_of, posted_values}
use Rattle.flow_record_text.specs.Lines.{GoesOn}
use Rattle.flow_record_text.proofs.LinesRead.{goes-none, goes-line, stops-line}
use Rattle.flow_record_text.proofs.lines.post_line.Goals as goal

pub returns-in_err-post_record-clause-refused : goal.returns-in_err-post_record-clause-refused
returns-in_err-post_record-clause-refused c =
    let p = err_from_is_err_and c.from_residual.result c.from_residual.ensures.1 in
    let names = texts_of c.args.names.now in
    let number = c.args.seen.now.number in
    let values = posted_values c.args.posted.now.items in
    rw (p.1, p.2) (stops-line names number number values values c.args.bytes.now c.args.bytes.now 0 c.in-Some.line.comma c.in-Some.line.end _ refl
    (goes-none names number values c.args.bytes.now) c.in-Some.ensures c.in_err-post_record.ensures.refused)

pub returns-clause-goes_on : goal.returns-clause-goes_on
returns-clause-goes_on c = λ _.
    let names = texts_of c.args.names.now in
    let number = c.args.seen.now.number in
    let values = posted_values c.args.posted.now.items in
    let after = posted_values c.post_record.new.posted.items in
    let all : length c.args.bytes.now ≤ 0 + (c.in-Some.line.end + 1) = search rules in
    let goes = goes-line names number number c.post_record.new.seen.number values values after c.args.bytes.now c.args.bytes.now 0 c.in-Some.line.comma c.in-Some.line.end refl
    (goes-none names number values c.args.bytes.now) c.in-Some.ensures c.in_ok-post_record.ensures.posts in
    subst (GoesOn names number values c.post_record.new.seen.number after) (take_all (0 + (c.in-Some.line.end + 1)) c.args.bytes.now all) goes
