use Rattle.std.proofs.Common.{sym, subst}
use Rattle.flow_core.specs.State.{NetState, line_at}
use Rattle.flow_moves.specs.Calls.{left_in_slot}
use Rattle.flow_moves.specs.Ready.{SourceIsThere}
use Rattle.flow_moves.specs.Ways.{target_moved}
use Rattle.flow_moves.proofs.EndsStay.{source_stays, source_beside, nothing_made}
use Rattle.flow_moves.proofs.parts.Parts.move_by_target.Goals as goal

pub source_looks-requires : goal.source_looks-requires
source_looks-requires c =
    let route = c.args.route.now in
    let old = c.args.self.now in
    let slot = (line_at old c.args.id).slot in
    let moved = target_moved nothing_made c.args.next slot route.target route.target_place old in
    subst (λ (net : NetState). SourceIsThere net route.source route.source_place)
    (sym (c.in_ok-move_target.ensures.done nothing_made))
    (source_beside c.args.id (record { phase = c.args.phase; slot = left_in_slot c.args.next slot }) route.source
    route.source_place moved
    (source_stays nothing_made c.args.next route.target route.target_place slot route.source route.source_place old
    c.requires.there.source))
