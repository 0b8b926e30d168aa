use Rattle.std.proofs.Common.{rules, ◌≡◌, ℕ, ◌+◌, ◌<◌, ◌≤◌, length, List, [], ◌∷◌, ◌++◌, Option, option_to_list, refl, get_or, take, slice_set, slice_index_or, ap, sym, ◌∙◌, subst, length-append, arith, ⊎_elim}
use Rattle.std.proofs.lemmas.Bool.{cases_order}
use Rattle.std.proofs.lemmas.List.{length-set, get_or-set_same}
use Rattle.atomic_table.specs.Seated.{TableId}
use Rattle.flow_link.specs.declared.trace.LinkState.{LinkState}
use Rattle.flow_link.specs.LinkOk.{LinkOk}
use Rattle.flow_link.proofs.PlacesTell.{element_set}
use Rattle.flow_wire.specs.Ends.{SourceOf, TargetOf, fills}
use Rattle.flow_task.specs.Wired.{AreSeated, idle}
use Rattle.flow_task.proofs.WiresTell.{one_less, left_is, last_is, source_count, target_count}
use Rattle.flow_task.proofs.wires.Wired.close.Goals as goal

pub close-requires-clause-home : goal.close-requires-clause-home
close-requires-clause-home c =
    let i = c.loop-wire.invariant in
    let w = c.pop.new.self.items in
    let s = c.pop-in-Some.new.self.items in
    let source = c.in-Some-pop.source in
    let all = c.args.self.sources.items in
    let ws = c.pop.ensures.items ∙ ap (λ (found : Option TableId). w ++ option_to_list found) c.in-Some.is in
    let ss = c.pop-in-Some.ensures.items ∙ ap (λ (found : Option SourceOf). s ++ option_to_list found) c.in-Some-pop.is in
    let long = ap length ws ∙ length-append w (c.in-Some.wire ∷ []) in
    let many = source_count c.loop-wire.wires.items c.loop-wire.sources.items c.loop-wire.targets.items i.0 in
    let more = ap length ss ∙ length-append s (source ∷ []) in
    let count : length c.loop-wire.wires.items ≡ length s + 1 = omega (arith, many, more) in
    let first = source_count c.args.self.wires.items all c.args.self.targets.items c.requires.seated in
    let low : length s < length all = omega (arith, count, i.1.1.1.1.0, first) in
    ap (λ (end : SourceOf). fills end.side.view.stage)
    (last_is (length c.loop-wire.wires.items) all s source (sym i.1.0 ∙ ss) count source)
    ∙ c.requires.home (length s) source low

pub loop-wire-preserved : goal.loop-wire-preserved
loop-wire-preserved c =
    let i = c.loop-wire.invariant in
    let w = c.pop.new.self.items in
    let s = c.pop-in-Some.new.self.items in
    let t = c.pop-in-Some-2.new.self.items in
    let source = c.in-Some-pop.source in
    let target = c.in-Some-pop-2.target in
    let sources = c.args.self.sources.items in
    let targets = c.args.self.targets.items in
    let old = c.loop-wire.wires.items in
    let lines = c.loop-wire.lines.items in
    let ws = c.pop.ensures.items ∙ ap (λ (found : Option TableId). w ++ option_to_list found) c.in-Some.is in
    let ss = c.pop-in-Some.ensures.items ∙ ap (λ (found : Option SourceOf). s ++ option_to_list found) c.in-Some-pop.is in
    let ts = c.pop-in-Some-2.ensures.items ∙ ap (λ (found : Option TargetOf). t ++ option_to_list found) c.in-Some-pop-2.is in
    let long = ap length ws ∙ length-append w (c.in-Some.wire ∷ []) in
    let many_out = source_count old c.loop-wire.sources.items c.loop-wire.targets.items i.0 in
    let many_in = target_count old c.loop-wire.sources.items c.loop-wire.targets.items i.0 in
    let more_out = ap length ss ∙ length-append s (source ∷ []) in
    let more_in = ap length ts ∙ length-append t (target ∷ []) in
    let count_out : length old ≡ length s + 1 = omega (arith, many_out, more_out) in
    let count_in : length old ≡ length t + 1 = omega (arith, many_in, more_in) in
    let same_out : length s ≡ length w = omega (arith, count_out, long) in
    let same_in : length t ≡ length w = omega (arith, count_in, long) in
    let seated =
    subst (λ (x : List TableId). AreSeated x (s ++ source ∷ []) (t ++ target ∷ [])) ws
    (subst (λ (x : List SourceOf). AreSeated old x (t ++ target ∷ [])) ss
    (subst (λ (x : List TargetOf). AreSeated old c.loop-wire.sources.items x) ts i.0)) in
    let place : c.len.result ≡ length w = search rules in
    let put = c.put_back.ensures ∙ ap (λ (n : ℕ). slice_set lines n c.close.result) place in
    let low : length w < length lines = omega (arith, long, i.1.1.1.0, i.1.1.1.1.0, c.requires.there) in
    let wide = ap length put ∙ length-set lines (length w) c.close.result in
    let its_source = λ (d : SourceOf). last_is (length old) sources s source (sym i.1.0 ∙ ss) count_out d ∙ ap (λ (n : ℕ). slice_index_or sources n d) same_out in
    let its_target = λ (e : TargetOf). last_is (length old) targets t target (sym i.1.1.0 ∙ ts) count_in e ∙ ap (λ (n : ℕ). slice_index_or targets n e) same_in in
    let Back : ℕ → LinkState → Type 0 = λ k line. (d : SourceOf) (e : TargetOf)
    → LinkOk (slice_index_or sources k d).side.facts line.phase line.slot (slice_index_or sources k d).side.view (slice_index_or targets k e).side.view in
    let here : Back (length w) c.close.result =
    λ d e. subst (λ (x : SourceOf). LinkOk x.side.facts c.close.result.phase c.close.result.slot x.side.view (slice_index_or targets (length w) e).side.view) (its_source d)
    (subst (λ (y : TargetOf). LinkOk source.side.facts c.close.result.phase c.close.result.slot source.side.view y.side.view) (its_target e) c.close.ensures.in_order) in
    let back : (k : ℕ) → length w ≤ k → k < length c.args.self.wires.items → Back k (get_or (slice_set lines (length w) c.close.result) k idle) =
    λ k from small.
    ⊎_elim
    (λ (same : k ≡ length w).
    subst (λ (j : ℕ). Back j (get_or (slice_set lines (length w) c.close.result) j idle)) (sym same)
    (subst (Back (length w)) (sym (get_or-set_same lines (length w) c.close.result idle low)) here))
    (⊎_elim (λ (less : k < length w). absurd (omega (arith, less, from)))
    (λ (higher : length w < k).
    element_set Back lines (length w) k c.close.result idle (λ same. absurd (omega (arith, same, higher)))
    (λ d e. i.1.1.1.1.1.0 k d e (omega (arith, long, higher)) small)))
    (cases_order k (length w)) in
    let beyond : (k : ℕ) → length c.args.self.wires.items ≤ k
    → get_or (slice_set lines (length w) c.close.result) k idle ≡ get_or c.args.lines.now.items k idle =
    λ k far.
    element_set (λ j x. (j ≡ k) → x ≡ get_or c.args.lines.now.items k idle) lines (length w) k c.close.result idle
    (λ same is. absurd (omega (arith, same, far, long, i.1.1.1.1.0)))
    (λ is. i.1.1.1.1.1.1 k far) refl in (
      one_less w c.in-Some.wire s source t target seated,
      (
        left_is (length old) sources s source (sym i.1.0 ∙ ss) count_out ∙ ap (λ (n : ℕ). take n sources) same_out,
        (
          left_is (length old) targets t target (sym i.1.1.0 ∙ ts) count_in ∙ ap (λ (n : ℕ). take n targets) same_in,
          (
            wide ∙ i.1.1.1.0,
            (
              omega (arith, long, i.1.1.1.1.0),
              (
                λ k d e from small.
                    subst (λ (x : List LinkState). Back k (get_or x k idle)) (sym put) (back k from small) d e,
                λ k far. ap (λ (x : List LinkState). get_or x k idle) put ∙ beyond k far,
              ),
            ),
          ),
        ),
      ),
    )

pub returns-clause-closed : goal.returns-clause-closed
returns-clause-closed c = λ l d e small.
    let none : length c.loop-wire.wires.items ≡ 0 = search rules in
    c.loop-wire.invariant.1.1.1.1.1.0 l d e (omega (arith, none)) small
