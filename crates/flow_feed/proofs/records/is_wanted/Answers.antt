use Rattle.std.proofs.Common.{◌∙◌, sym, ap, not, refl, rules, arith}
use Rattle.std.proofs.lemmas.Slice.Eq.{slice_eq-Decides}
use Rattle.csv.specs.Records.{fields_of}
use Rattle.flow_feed.proofs.RowsHave.{has_more, has_each, never, was_true}
use Rattle.flow_feed.proofs.records.is_wanted.Goals as goal

pub returns-then-ne-clause-left : goal.returns-then-ne-clause-left
returns-then-ne-clause-left c = λ _ all.
    let here = has_each (fields_of c.args.row.row.now) c.args.row.digits.now c.args.choice.now.tests.items c.deref-test-items.result.now
    c.tests.test-index _ c.deref-test-items.ensures.value (omega arith) all in
    let same = c.text_at.ensures ∙ here ∙ sym c.as_bytes.ensures.value in
    let decides = slice_eq-Decides (λ x y. search rules) c.text_at.result.now c.as_bytes.result.now _ refl in
    never (sym c.if-ne.true ∙ c.ne.ensures ∙ ap not (decides.1 same))

pub tests-preserved : goal.tests-preserved
tests-preserved c =
    let decides = slice_eq-Decides (λ x y. search rules) c.text_at.result.now c.as_bytes.result.now _ refl in
    let same = decides.0 (was_true _ (sym c.ne.ensures ∙ c.if-ne.false)) in
    has_more (fields_of c.args.row.row.now) c.args.row.digits.now c.args.choice.now.tests.items c.deref-test-items.result.now
    c.tests.test-index _ c.deref-test-items.ensures.value (omega arith) (sym c.text_at.ensures ∙ same ∙ c.as_bytes.ensures.value) c.tests.invariant
