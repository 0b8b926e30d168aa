use Rattle.std.proofs.Common.{ap, ◌∙◌}
use Rattle.flow_block.specs.Block.{BlockState}
use Rattle.flow_block.specs.Traits.{port_into}
use Rattle.flow_block.proofs.LinksFit.{offered_out}
use Rattle.flow_block.proofs.RoomFits.{fits_port}
use Rattle.flow_block.proofs.TargetMoves.{offer_moves, free_near}
use Rattle.flow_block.proofs.traits.BlockTargetBlock.offer_message.Goals as goal

pub invariant_of-self : goal.invariant_of-self
invariant_of-self c =
    let same = ap (λ (block : BlockState). block.ports) c.self.view_is in
    let at = c.port_into-port.ensures.port ∙ ap (port_into c.args.origin) c.deref.ensures.value in
    let ports = c.self.inside.ports.items in
    let port = c.port_into-port.result in
    let old = c.index_mut.result.now in
    fits_port c.self.invariant port old c.answer.new.self
    (free_near ports c.args.self.now.ports same c.args.origin port at old c.index_mut.ensures.value c.requires) c.index_mut.ensures.value
    (offered_out _ c.answer.result c.args.origin c.args.header old c.answer.new.self c.answer.ensures.answered c.answer.ensures.kept)

pub returns-clause-moves : goal.returns-clause-moves
returns-clause-moves c =
    let same = ap (λ (block : BlockState). block.ports) c.self.view_is in
    let at = c.port_into-port.ensures.port ∙ ap (port_into c.args.origin) c.deref.ensures.value in
    offer_moves c.self.inside.ports.items c.args.self.now.ports same c.args.origin c.port_into-port.result at c.index_mut.result.now
    c.index_mut.ensures.value c.answer.result c.args.header c.args.may_postpone c.answer.new.self c.requires c.answer.ensures.status
    c.answer.ensures.answered
