use Rattle.std.proofs.Common.{◌≡◌, ◌∙◌, ℕ, List, ap, subst, decimal}
use Rattle.csv.specs.Records.{fields_of}
use Rattle.flow_feed.specs.Sends.{HasAll}
use Rattle.flow_feed.proofs.RowsHave.{on_ok_never}
use Rattle.flow_feed.proofs.feeding.feed_row.Goals as goal

pub returns-then-is_wanted-clause-left : goal.returns-then-is_wanted-clause-left
returns-then-is_wanted-clause-left g c =
    let tests = c.args.choice.now.tests.items in
    let read : fields_of c.row.result.now ≡ fields_of c.args.rows.now.row = ap fields_of c.row.ensures in
    let shown : c.as_bytes.result.now ≡ decimal c.args.number = c.as_bytes.ensures.value ∙ c.format.ensures.text in
    let has = c.is_wanted.ensures.taken c.if-is_wanted.true in
    let named = subst (λ (digits : List ℕ). HasAll (fields_of c.row.result.now) digits tests) shown has in
    on_ok_never _ c.write_records.result (subst (λ (fields : List (List ℕ)). HasAll fields (decimal c.args.number) tests) read named)
