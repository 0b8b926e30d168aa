use Rattle.std.proofs.Common.{◌≡◌, ◌<◌, List, length, get_or, ap, sym, subst, ◌∙◌}
use Rattle.flow_link.specs.declared.phase.Phase.{Phase}
use Rattle.flow_link.specs.declared.trace.LinkState.{LinkState}
use Rattle.flow_core.specs.State.{NetState, fresh_line, line_at}
use Rattle.flow_moves.specs.Ready.{SourceIsThere}
use Rattle.flow_moves.specs.Ways.{source_looked, target_looked}
use Rattle.flow_moves.proofs.EndsStay.{lines_still, nothing_made, source_there_still}
use Rattle.flow_moves.proofs.parts.Parts.look_along.Goals as goal

pub phase-same-requires : goal.phase-same-requires
phase-same-requires c =
    let route = c.args.route.now in
    let old = c.args.self.now in
    subst (λ (net : NetState). c.args.id < length net.lines) (sym (c.target_looks.ensures nothing_made))
    (subst (λ (lines : List LinkState). c.args.id < length lines)
    (sym (lines_still nothing_made c.phase-phase.result route.target route.target_place old)) c.requires.line)

pub source_looks-requires : goal.source_looks-requires
source_looks-requires c =
    let route = c.args.route.now in
    subst (λ (net : NetState). SourceIsThere net route.source route.source_place) (sym (c.target_looks.ensures nothing_made))
    (source_there_still nothing_made c.phase-phase.result route.target route.target_place route.source route.source_place c.args.self.now
    c.requires.source)

pub returns : goal.returns
returns c = λ makes.
    let route = c.args.route.now in
    let old = c.args.self.now in
    let first : c.phase-phase.result ≡ (line_at old c.args.id).phase = c.phase-phase.ensures in
    let mid = target_looked makes c.phase-phase.result route.target route.target_place old in
    let line : line_at c.target_looks.new.self c.args.id ≡ line_at old c.args.id =
    ap (λ (net : NetState). line_at net c.args.id) (c.target_looks.ensures makes)
    ∙ ap (λ (lines : List LinkState). get_or lines c.args.id fresh_line) (lines_still makes c.phase-phase.result route.target route.target_place old) in
    let second : c.phase-same.result ≡ (line_at old c.args.id).phase = c.phase-same.ensures ∙ ap (λ (line : LinkState). line.phase) line in
    c.source_looks.ensures makes
    ∙ ap (λ (net : NetState). source_looked makes c.phase-same.result route.source route.source_place net) (c.target_looks.ensures makes)
    ∙ ap (λ (phase : Phase). source_looked makes phase route.source route.source_place mid) second
    ∙ ap (λ (phase : Phase). source_looked makes (line_at old c.args.id).phase route.source route.source_place
    (target_looked makes phase route.target route.target_place old)) first
