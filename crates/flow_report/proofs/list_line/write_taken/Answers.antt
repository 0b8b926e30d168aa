use Rattle.std.proofs.Common.{◌≡◌, rules, refl, sym, ap, ◌∙◌, of_calls, ◌==◌, ◌∷◌, ◌++◌, []}
use Rattle.std.proofs.lemmas.Iterator.{YieldsList-from_slice}
use Rattle.std.specs.Iterator.Adapters.{filter_map_source}
use Rattle.std.specs.Prelude.{option_map}
use Rattle.std.specs.Option.{option_to_list}
use Rattle.flow_link.specs.Trace.{took_at}
use Rattle.flow_report.specs.Given.{seen_value}
use Rattle.flow_report.proofs.ListsGrow.{taken-first}
use Rattle.flow_report.proofs.PickedYields.{picked_yields}
use Rattle.flow_report.proofs.list_line.write_taken.Goals as goal

pub returns-clause-written : goal.returns-clause-written
returns-clause-written g c =
    let from = YieldsList-from_slice {s = filter_map_source c.filter_map.result} c.args.journal.now (search rules) in
    c.write_list.ensures.written (took_at c.args.port c.args.journal.now)
    (picked_yields seen_value _ (took_at c.args.port) from c.filter_map.ensures.closure refl (λ x r q called.
    let one : option_to_list (option_map seen_value r) ≡ took_at c.args.port (x.now ∷ []) = search of_calls in
    (search of_calls, λ more. taken-first (λ port link. port == c.args.port) x.now more ∙ ap (λ front. front ++ took_at c.args.port more) (sym one)))).runs
