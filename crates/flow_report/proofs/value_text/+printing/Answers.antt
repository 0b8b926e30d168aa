use Rattle.std.proofs.Common.{◌≡◌, get_or, arith, ap, sym, subst}
use Rattle.std.proofs.lemmas.Result.{on_ok_weaker}
use Rattle.flow_value.specs.View.{items_from, values_of-items_from}
use Rattle.flow_value.specs.Seen.{value_of_ref}
use Rattle.flow_value.specs.declared.value.Value.{Value}
use Rattle.flow_report.proofs.PrintedGrows.{weight, weight-at, row-item, items-more}
use Rattle.flow_report.proofs.value_text.+printing.Goals as goal

pub gather_parts-gather_values-requires : goal.gather_parts-gather_values-requires
gather_parts-gather_values-requires g t c κs within =
    let whole = ap (λ value. weight (value_of_ref value)) c.in-Row.is in
    (omega (arith, whole), within)

pub gather_parts-returns-in-Row-clause-written : goal.gather_parts-returns-in-Row-clause-written
gather_parts-returns-in-Row-clause-written g t c =
    let values = c.in-Row.values.now in
    on_ok_weaker c.gather_values.result
    (λ last. row-item _ _ _ c.args.is_first (value_of_ref c.args.value) (items_from values) values (ap value_of_ref c.in-Row.is) (sym (values_of-items_from values))
    c.in_ok-gather_comma.ensures.written last)
    c.gather_values.ensures.written

pub gather_values-gather_item-requires : goal.gather_values-gather_item-requires
gather_values-gather_item-requires g t c κs within =
    (omega (arith, ap weight c.seen.ensures, weight-at c.args.values.now c.loop-at.at c.index-values-at.result c.loop-at-test.true c.index-values-at.is), within)

pub gather_values-loop-at-preserved : goal.gather_values-loop-at-preserved
gather_values-loop-at-preserved g t c =
    let values = c.args.values.now in
    let at = c.loop-at.at in
    let seen = value_of_ref c.seen.result.value in
    let there = subst (λ (value : Value). value ≡ get_or values at value) (sym c.seen.ensures) c.index-values-at.is in
    record {
      written = items-more values at seen c.loop-at-test.true there _ _ _ c.loop-at.invariant.written c.in_ok-gather_item.ensures.written;
      kept = λ front begins. c.in_ok-gather_item.ensures.kept front (c.loop-at.invariant.kept front begins);
    }
