use Rattle.std.proofs.Common.{rules, of_calls, Bor}
use Rattle.std.proofs.lemmas.Iterator.{YieldsList-from_slice, YieldsList-from_map_by}
use Rattle.std.specs.Iterator.Adapters.{map_source}
use Rattle.flow_value.specs.declared.value.Value.{Value}
use Rattle.flow_report.specs.Given.{values_of, seen_value}
use Rattle.flow_report.proofs.list_line.write_sorted_line.Goals as goal

pub returns-clause-written : goal.returns-clause-written
returns-clause-written g c =
    let from = YieldsList-from_slice {s = map_source c.map.result} c.args.values.now (search rules) in
    c.write_line.ensures.written (values_of c.args.values.now)
    (YieldsList-from_map_by _ seen_value (λ (value : Bor Value). value.now) from c.map.ensures.closure (λ x r q called. (search of_calls, search of_calls))).runs
