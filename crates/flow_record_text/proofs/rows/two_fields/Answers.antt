use Rattle.std.proofs.Common.{rules, ◌≡◌, length, arith}
use Rattle.csv.specs.Records.{fields_of}
use Rattle.flow_record_text.proofs.RecordsPost.{field-at, two-parts}
use Rattle.flow_record_text.proofs.rows.two_fields.Goals as goal

pub returns-in_default : goal.returns-in_default
returns-in_default c = λ two.
    let there = field-at (fields_of c.args.row.now) 0 (omega (arith, two)) in
    let found = c.in_default.ensures.value in
    cc

pub returns-in_default-get : goal.returns-in_default-get
returns-in_default-get c = λ two.
    let there = field-at (fields_of c.args.row.now) 1 (omega (arith, two)) in
    let found = c.in_default-get.ensures.value in
    cc

pub returns : goal.returns
returns c =
    let two : length (fields_of c.args.row.now) ≡ 2 = search rules in
    two-parts (fields_of c.args.row.now) _ _ two c.in-Some.ensures.value c.in-Some-get.ensures.value
