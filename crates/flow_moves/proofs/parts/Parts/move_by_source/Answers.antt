use Rattle.std.proofs.Common.{◌<◌, ap, sym, subst, List, length, ◌∙◌}
use Rattle.flow_link.specs.declared.trace.LinkState.{LinkState}
use Rattle.flow_core.specs.State.{NetState, line_at}
use Rattle.flow_moves.specs.Calls.{slot_after_source}
use Rattle.flow_moves.specs.Ready.{TargetIsThere}
use Rattle.flow_moves.proofs.EndsStay.{target_stays, target_beside, source_lines, nothing_made}
use Rattle.flow_moves.proofs.parts.Parts.move_by_source.Goals as goal

pub pass_line-requires : goal.pass_line-requires
pass_line-requires c =
    let route = c.args.route.now in
    let old = c.args.self.now in
    let same = ap (λ (net : NetState). net.lines) (c.in_ok-given.ensures.done nothing_made)
    ∙ source_lines nothing_made c.args.next route.source route.source_place old in
    subst (λ (lines : List LinkState). c.args.id < length lines) (sym same) c.requires.there.line

pub target_looks-requires : goal.target_looks-requires
target_looks-requires c =
    let route = c.args.route.now in
    let old = c.args.self.now in
    let mid = c.move_source.new.self in
    let there = target_stays nothing_made c.args.next route.source route.source_place route.target route.target_place old c.requires.there.target in
    subst (λ (net : NetState). TargetIsThere net route.target route.target_place) (sym c.pass_line.ensures)
    (target_beside c.args.id (record {
      phase = c.args.phase;
      slot = slot_after_source c.args.next c.in_ok-given.given (line_at mid c.args.id).slot;
    }) route.target route.target_place mid
    (subst (λ (net : NetState). TargetIsThere net route.target route.target_place) (sym (c.in_ok-given.ensures.done nothing_made)) there))
