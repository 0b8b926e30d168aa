use Rattle.std.proofs.Common.{rules, ◌≡◌, ℕ, ◌<◌, ◌≤◌, length, get_or, List, slice_index_or, ap, sym, ◌∙◌, subst, arith, ⊎_elim}
use Rattle.std.proofs.lemmas.List.{length-set, get_or_default}
use Rattle.flow_link.specs.declared.trace.LinkState.{LinkState}
use Rattle.flow_link.proofs.PlacesTell.{element_set}
use Rattle.flow_wire.specs.Ends.{SourceOf, fills}
use Rattle.flow_wire.specs.Sides.{SourceSide}
use Rattle.flow_task.specs.Wired.{IsReady, OneMore, idle, source_side, target_side}
use Rattle.flow_task.specs.declared.wires.Wired.{Wired}
use Rattle.flow_task.proofs.WiresTell.{one_more, source_count, target_count, source_knows, target_knows, ready_again, first_of, below_or_from}
use Rattle.flow_task.proofs.wires.make_wires.Goals as goal

pub add-requires : goal.add-requires
add-requires g c =
    let i = c.loop-id.invariant in
    let id = c.loop-id.id in
    let w = c.loop-id.wired in
    let low : id < length c.loop-id.lines.items = search rules in
    let many : id < length c.args.lines.now.items = let same = i.1.0 in omega (arith, same, low) in
    let line = c.index_mut.ensures.value ∙ get_or_default c.loop-id.lines.items id c.index_mut.result.now idle low in
    let ready : IsReady (g.starts (length w.wires.items)) c.index_mut.result.now =
    subst (λ (n : ℕ). IsReady (g.starts n) c.index_mut.result.now) (sym i.0.count)
    (subst (IsReady (g.starts id)) (sym line) (i.1.1.0 id low (omega arith))) in
    let sources = source_count w.wires.items w.sources.items w.targets.items i.0.seated in
    let targets = target_count w.wires.items w.sources.items w.targets.items i.0.seated in (
      ready,
      (
        omega (arith, w.wires.ok.0, i.0.count, many, i.1.1.1.0),
        (omega (arith, w.sources.ok.0, sources, i.0.count, many, i.1.1.1.1.0), omega (arith, w.targets.ok.0, targets, i.0.count, many, i.1.1.1.1.1)),
      ),
    )

pub loop-id-preserved : goal.loop-id-preserved
loop-id-preserved g c =
    let i = c.loop-id.invariant in
    let id = c.loop-id.id in
    let w = c.loop-id.wired in
    let lines = c.loop-id.lines.items in
    let new = c.add.new.self in
    let long = length-set lines id c.add.new.line in
    let more = subst (λ (n : ℕ). OneMore (g.starts n) w.wires.items new.wires.items w.sources.items new.sources.items w.targets.items new.targets.items)
    i.0.count c.in-Ok.ensures.added in (
      one_more g.starts id w.wires.items new.wires.items w.sources.items new.sources.items w.targets.items new.targets.items i.0 more,
      (
        long ∙ i.1.0,
        (
          λ k small from.
              element_set (λ j line. IsReady (g.starts j) line) lines id k c.add.new.line idle (λ same. absurd (omega (arith, same, from)))
              (i.1.1.0 k (omega (arith, small, long)) (omega (arith, from))),
          (
            subst (λ (n : ℕ). length c.args.lines.now.items ≤ n) (sym c.in-Ok.ensures.room.0) i.1.1.1.0,
            (
              subst (λ (n : ℕ). length c.args.lines.now.items ≤ n) (sym c.in-Ok.ensures.room.1) i.1.1.1.1.0,
              subst (λ (n : ℕ). length c.args.lines.now.items ≤ n) (sym c.in-Ok.ensures.room.2) i.1.1.1.1.1,
            ),
          ),
        ),
      ),
    )

pub close-requires-clause-home : goal.close-requires-clause-home
close-requires-clause-home g c = λ l d small.
    let i = c.loop-id.invariant in
    let w = c.loop-id.wired in
    let ends = ap (λ (x : Wired). x.sources.items) c.in-Err.ensures.kept in
    let many = source_count w.wires.items w.sources.items w.targets.items i.0.seated in
    let same = ap length ends in
    let low : l < c.loop-id.id = omega (arith, small, same, many, i.0.count) in
    let there : c.loop-id.id < length c.loop-id.lines.items = search rules in
    ap (λ (all : List SourceOf). fills (slice_index_or all l d).side.view.stage) ends
    ∙ ap (λ (side : SourceSide). fills side.view.stage) (source_knows g.starts c.loop-id.id w.wires.items w.sources.items w.targets.items i.0 l d low)
    ∙ (c.requires l (let lines = i.1.0 in omega (arith, low, there, lines))).home

pub returns-in-Err-clause-back : goal.returns-in-Err-clause-back
returns-in-Err-clause-back g c = λ l small.
    let i = c.loop-id.invariant in
    let id = c.loop-id.id in
    let w = c.loop-id.wired in
    let lines = c.loop-id.lines.items in
    let low : id < length lines = search rules in
    let long = length-set lines id c.add.new.line in
    let line = c.in-Err.ensures.back ∙ c.index_mut.ensures.value ∙ get_or_default lines id c.index_mut.result.now idle low in
    let ready : IsReady (g.starts id) c.add.new.line = subst (IsReady (g.starts id)) (sym line) (i.1.1.0 id low (omega arith)) in
    let count : length c.add.new.self.wires.items ≡ id = ap (λ (x : Wired). length x.wires.items) c.in-Err.ensures.kept ∙ i.0.count in
    let many = source_count w.wires.items w.sources.items w.targets.items i.0.seated in
    let mate = target_count w.wires.items w.sources.items w.targets.items i.0.seated in
    let within : l < length lines = let now = c.close.ensures.count in omega (arith, small, now, long) in
    let Ready : LinkState → Type 0 = IsReady (g.starts l) in
    ⊎_elim
    (λ (before : l < id).
    let d = slice_index_or w.sources.items l (first_of w.sources.items (omega (arith, many, i.0.count, before))) in
    let e = slice_index_or w.targets.items l (first_of w.targets.items (omega (arith, mate, i.0.count, before))) in
    let ok = c.close.ensures.closed l d e (omega (arith, before, count)) in
    let was = c.requires l (let same = i.1.0 in omega (arith, within, same)) in
    let source = ap (λ (x : Wired). slice_index_or x.sources.items l d) c.in-Err.ensures.kept in
    let target = ap (λ (x : Wired). slice_index_or x.targets.items l e) c.in-Err.ensures.kept in
    ready_again (g.starts l) (get_or c.args.lines.now.items l idle) was (slice_index_or c.add.new.self.sources.items l d)
    (slice_index_or c.add.new.self.targets.items l e) (get_or c.close.new.lines.items l idle)
    (ap source_side source ∙ source_knows g.starts id w.wires.items w.sources.items w.targets.items i.0 l d before)
    (ap target_side target ∙ target_knows g.starts id w.wires.items w.sources.items w.targets.items i.0 l e before) ok)
    (λ (later : id ≤ l).
    subst Ready (sym (c.close.ensures.others l (omega (arith, later, count))))
    (element_set (λ j x. IsReady (g.starts j) x) lines id l c.add.new.line idle (λ same. subst (λ (j : ℕ). IsReady (g.starts j) c.add.new.line) (sym same) ready)
    (i.1.1.0 l within later)))
    (below_or_from l id)
