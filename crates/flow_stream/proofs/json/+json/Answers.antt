use Rattle.std.proofs.Common.{List, ap, arith}
use Rattle.flow_value.specs.Items.{value_count}
use Rattle.flow_value.specs.View.{items_from}
use Rattle.flow_value.specs.declared.value.Value.{Value}
use Rattle.flow_report.proofs.PrintedGrows.{row-count, weight, weight-at}
use Rattle.flow_stream.proofs.json.+json.Goals as goal

pub write_json-write_array-requires : goal.write_json-write_array-requires
write_json-write_array-requires t c =
    let whole = ap weight c.in-Row.is in
    let items = ap (λ (values : List Value). value_count (items_from values)) c.items.ensures in
    omega (arith, whole, items, row-count c.in-Row.row)

pub write_array-write_json-requires : goal.write_array-write_json-requires
write_array-write_json-requires t c =
    omega (arith, weight-at c.args.values.now c.loop-at.at c.index-values-at.result c.loop-at-test.true c.index-values-at.is)
