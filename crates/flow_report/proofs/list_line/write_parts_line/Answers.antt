use Rattle.std.proofs.Common.{rules, of_calls, ◌++◌, map}
use Rattle.std.specs.Iterator.Adapters.{map_source}
use Rattle.std.proofs.lemmas.Iterator.{YieldsList-from_slice, YieldsList-from_map_by}
use Rattle.std.proofs.lemmas.Iterator.Consumers.{YieldsList-from_chain}
use Rattle.std.proofs.lemmas.List.{map-id}
use Rattle.flow_value.specs.declared.value.Value.{Value}
use Rattle.flow_report.specs.Given.{seen_value}
use Rattle.flow_report.proofs.list_line.write_parts_line.Goals as goal

pub returns-clause-written : goal.returns-clause-written
returns-clause-written g c =
    let all = c.args.front.now ++ c.args.back.now in
    let from = YieldsList-from_chain {s = map_source c.map.result} (YieldsList-from_slice c.args.front.now (search rules)) (YieldsList-from_slice c.args.back.now (search rules))
    (search rules) (search rules) in
    rw (← map-id all) (c.write_line.ensures.written (map (λ (value : Value). value) all)
    (YieldsList-from_map_by _ seen_value (λ (value : Value). value) from c.map.ensures.closure (λ x r q called. (search of_calls, search of_calls))).runs)
