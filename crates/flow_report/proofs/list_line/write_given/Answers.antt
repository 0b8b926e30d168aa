use Rattle.std.proofs.Common.{◌≡◌, rules, refl, sym, ap, ◌∙◌, of_calls, ◌==◌, ◌∷◌, ◌++◌, []}
use Rattle.std.proofs.lemmas.Iterator.{YieldsList-from_slice}
use Rattle.std.specs.Iterator.Adapters.{filter_map_source}
use Rattle.std.specs.Prelude.{option_map}
use Rattle.std.specs.Option.{option_to_list}
use Rattle.flow_link.specs.Trace.{gave_over}
use Rattle.flow_report.specs.Given.{seen_value}
use Rattle.flow_report.proofs.ListsGrow.{given-first}
use Rattle.flow_report.proofs.PickedYields.{picked_yields}
use Rattle.flow_report.proofs.list_line.write_given.Goals as goal

pub returns-clause-written : goal.returns-clause-written
returns-clause-written g c =
    let from = YieldsList-from_slice {s = filter_map_source c.filter_map.result} c.args.journal.now (search rules) in
    c.write_list.ensures.written (gave_over c.args.link c.args.journal.now)
    (picked_yields seen_value _ (gave_over c.args.link) from c.filter_map.ensures.closure refl (λ x r q called.
    let one : option_to_list (option_map seen_value r) ≡ gave_over c.args.link (x.now ∷ []) = search of_calls in
    (search of_calls, λ more. given-first (λ link. link == c.args.link) x.now more ∙ ap (λ front. front ++ gave_over c.args.link more) (sym one)))).runs
