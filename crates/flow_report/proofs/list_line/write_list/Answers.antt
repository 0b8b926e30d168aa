use Rattle.std.proofs.Common.{◌≡◌, ◌∷◌, ◌++◌, [], map, sym, subst}
use Rattle.std.specs.Iterator.{AlwaysYields}
use Rattle.std.proofs.lemmas.Iterator.{items_from_drains}
use Rattle.std.proofs.lemmas.List.{map-append}
use Rattle.flow_value.specs.declared.kept.Seen.{Seen}
use Rattle.flow_report.specs.Given.{seen_value}
use Rattle.flow_report.proofs.ListsGrow.{opened-next, not-empty, list-closed}
use Rattle.flow_report.proofs.list_line.write_list.Goals as goal

pub loop-value-preserved : goal.loop-value-preserved
loop-value-preserved g c =
    let grown : map seen_value (c.loop-value.yielded ++ c.in-Some.value ∷ []) ≡ map seen_value c.loop-value.yielded ++ seen_value c.in-Some.value ∷ [] =
    map-append seen_value c.loop-value.yielded (c.in-Some.value ∷ []) in
    record {
      first = not-empty _ _ _ grown;
      written = opened-next _ _ _ _ _ _ _ grown c.loop-value.invariant.first c.loop-value.invariant.written c.in_ok-gather_item.ensures.written;
      kept = λ front begins. c.in_ok-gather_item.ensures.kept front (c.loop-value.invariant.kept front begins);
    }

pub returns-clause-written : goal.returns-clause-written
returns-clause-written g c = λ all runs.
    let from = c.into_iter-value-iterator.result in
    let yields = subst (λ values. AlwaysYields g.I.Iterator.next_gives (λ (seen : Seen). seen_value seen) values all) (sym c.into_iter-value-iterator.ensures.into_iter_gives) runs in
    let same : map seen_value c.loop-value.yielded ≡ all =
    items_from_drains {steps = g.I.Iterator.next_gives} {s = from} c.loop-value.yielded
    (c.loop-value.value-iterator, c.loop-value.yielded_by, λ _. (c.next.new.self, c.in-None.ensures.steps)) (record { runs = yields }) in
    rw (← same) (list-closed _ _ _ _ _ _ (map seen_value c.loop-value.yielded) c.loop-value.invariant.written c.in_ok-gather_bytes-2.ensures.written c.in_ok-write_page.ensures.written)
