use Rattle.std.proofs.Common.{rules, ◌≡◌, ℕ, ◌<◌, ◌≤◌, length, List, [], ◌∷◌, ◌++◌, Option, Some, option_to_list, unwrap_or, get_or, slice_get, slice_set, ap, sym, ◌∙◌, subst, length-append, arith, ⊎_elim}
use Rattle.std.proofs.lemmas.Bool.{cases_order}
use Rattle.std.proofs.lemmas.List.{length-set, get_or-set_same}
use Rattle.atomic_table.specs.Seated.{TableId}
use Rattle.flow_value.specs.declared.value.Value.{Value}
use Rattle.flow_link.specs.declared.trace.LinkState.{LinkState}
use Rattle.flow_link.specs.LinkOk.{LinkOk}
use Rattle.flow_link.specs.Planned.{layout_of}
use Rattle.flow_link.specs.Views.{LinkFacts, SourceView, TargetView}
use Rattle.flow_link.proofs.PortsAreFew.{few_links}
use Rattle.flow_link.proofs.PlacesTell.{element_set}
use Rattle.flow_task.specs.Dealt.{exits_dealt, inputs_dealt, ins_dealt, outs_dealt}
use Rattle.flow_task.specs.Known.{OutKnown, InKnown}
use Rattle.flow_task.specs.Wired.{idle, source_said, target_said}
use Rattle.flow_task.proofs.Places.{stands_there}
use Rattle.flow_task.proofs.WiresTell.{left_is, last_is}
use Rattle.flow_task.proofs.close.close_all.Goals as goal

pub overflow_cast-id : goal.overflow_cast-id
overflow_cast-id g c =
    let i = c.loop-wire.invariant in
    let plan = c.args.plan.now in
    let w = c.pop.new.self.items in
    let ws = c.pop.ensures.items ∙ ap (λ (found : Option TableId). w ++ option_to_list found) c.in-Some.is in
    let long = ap length ws ∙ length-append w (c.in-Some.wire ∷ []) in
    let few = few_links plan.blocks.items plan.links.items plan.well_formed plan.laid_out in
    let place : c.len-id.result ≡ length w = search rules in
    let tables = ap length c.requires.1.0 in
    omega (arith, place, long, i.1.0, few, tables, c.requires.1.1.0)

pub overflow_cast-id-in-Some : goal.overflow_cast-id-in-Some
overflow_cast-id-in-Some g c =
    let i = c.loop-wire.invariant in
    let plan = c.args.plan.now in
    let w = c.pop.new.self.items in
    let ws = c.pop.ensures.items ∙ ap (λ (found : Option TableId). w ++ option_to_list found) c.in-Some.is in
    let long = ap length ws ∙ length-append w (c.in-Some.wire ∷ []) in
    let few = few_links plan.blocks.items plan.links.items plan.well_formed plan.laid_out in
    let place : c.len-id.result ≡ length w = search rules in
    let tables = ap length c.requires.1.0 in
    omega (arith, place, long, i.1.0, few, tables, c.requires.1.1.0)

pub close-requires-clause-source : goal.close-requires-clause-source
close-requires-clause-source g c =
    let i = c.loop-wire.invariant in
    let all = g.made.tables in
    let w = c.pop.new.self.items in
    let wire = c.in-Some.wire in
    let ws = c.pop.ensures.items ∙ ap (λ (found : Option TableId). w ++ option_to_list found) c.in-Some.is in
    let long = ap length ws ∙ length-append w (wire ∷ []) in
    let place : c.len-id.result ≡ length w = search rules in
    let low : length w < length all = omega (arith, long, i.1.0) in
    let stands = stands_there all (length w) wire low ∙ ap Some (sym (last_is (length c.loop-wire.wires.items) all w wire (sym i.0 ∙ ws) long wire)) in
    let known = ap (λ (known : OutKnown). known.table) c.take-source.ensures.known ∙ ap (slice_get all) place ∙ stands in
    ap (λ (found : Option TableId). unwrap_or found wire) known

pub close-requires-clause-target : goal.close-requires-clause-target
close-requires-clause-target g c =
    let i = c.loop-wire.invariant in
    let all = g.made.tables in
    let w = c.pop.new.self.items in
    let wire = c.in-Some.wire in
    let ws = c.pop.ensures.items ∙ ap (λ (found : Option TableId). w ++ option_to_list found) c.in-Some.is in
    let long = ap length ws ∙ length-append w (wire ∷ []) in
    let place : c.len-id.result ≡ length w = search rules in
    let low : length w < length all = omega (arith, long, i.1.0) in
    let stands = stands_there all (length w) wire low ∙ ap Some (sym (last_is (length c.loop-wire.wires.items) all w wire (sym i.0 ∙ ws) long wire)) in
    let known = ap (λ (known : InKnown). known.table) c.take-target.ensures.known ∙ ap (slice_get all) place ∙ stands in
    ap (λ (found : Option TableId). unwrap_or found wire) known

pub loop-wire-preserved : goal.loop-wire-preserved
loop-wire-preserved g c =
    let i = c.loop-wire.invariant in
    let all = g.made.tables in
    let starts = g.made.starts in
    let layout = layout_of c.args.plan.now in
    let w = c.pop.new.self.items in
    let n = length w in
    let wire = c.in-Some.wire in
    let ws = c.pop.ensures.items ∙ ap (λ (found : Option TableId). w ++ option_to_list found) c.in-Some.is in
    let long = ap length ws ∙ length-append w (wire ∷ []) in
    let place : c.len-id.result ≡ n = search rules in
    let lines = c.loop-wire.lines.items in
    let line = c.close.result in
    let source = c.take-source.result in
    let target = c.take-target.result in
    let put = c.put_back.ensures ∙ ap (λ (m : ℕ). slice_set lines m line) place in
    let tables = ap length c.requires.1.0 in
    let low : n < length lines = omega (arith, long, i.1.0, i.1.1.1.1.1.1.0, c.requires.1.1.1.0, tables) in
    let wide = ap length put ∙ length-set lines n line in
    let told = c.take-source.ensures.known ∙ ap (source_said g.made) place in
    let said = c.take-target.ensures.known ∙ ap (target_said g.made) place in
    let here : LinkOk (starts n).facts line.phase line.slot (starts n).source (starts n).target =
    subst (λ (facts : LinkFacts). LinkOk facts line.phase line.slot (starts n).source (starts n).target) (ap (λ (known : OutKnown). known.facts) told)
    (subst (λ (view : SourceView Value). LinkOk source.side.facts line.phase line.slot view (starts n).target) (ap (λ (known : OutKnown). known.view) told)
    (subst (λ (view : TargetView Value). LinkOk source.side.facts line.phase line.slot source.side.view view) (ap (λ (known : InKnown). known.view) said)
    c.close.ensures.in_order)) in
    let Back : ℕ → LinkState → Type 0 = λ k state. LinkOk (starts k).facts state.phase state.slot (starts k).source (starts k).target in
    let back : (k : ℕ) → n ≤ k → k < length all → Back k (get_or (slice_set lines n line) k idle) =
    λ k from small.
    ⊎_elim
    (λ (same : k ≡ n).
    subst (λ (j : ℕ). Back j (get_or (slice_set lines n line) j idle)) (sym same)
    (subst (Back n) (sym (get_or-set_same lines n line idle low)) here))
    (⊎_elim (λ (less : k < n). absurd (omega (arith, less, from)))
    (λ (higher : n < k).
    element_set Back lines n k line idle (λ same. absurd (omega (arith, same, higher)))
    (i.1.1.1.1.1.1.1 k (omega (arith, long, higher)) small)))
    (cases_order k n) in (
      left_is (length c.loop-wire.wires.items) all w wire (sym i.0 ∙ ws) long,
      (
        omega (arith, long, i.1.0),
        (
          c.take-source.ensures.outs ∙ ap (λ (m : ℕ). outs_dealt layout (source_said g.made) m) place,
          (
            c.take-source.ensures.inputs ∙ ap (λ (m : ℕ). inputs_dealt layout (source_said g.made) m) place,
            (
              c.take-target.ensures.ins ∙ ap (λ (m : ℕ). ins_dealt layout (target_said g.made) m) place,
              (
                c.take-target.ensures.exits ∙ ap (λ (m : ℕ). exits_dealt layout (target_said g.made) m) place,
                (
                  wide ∙ i.1.1.1.1.1.1.0,
                  λ k from small. subst (λ (x : List LinkState). Back k (get_or x k idle)) (sym put) (back k from small),
                ),
              ),
            ),
          ),
        ),
      ),
    )
