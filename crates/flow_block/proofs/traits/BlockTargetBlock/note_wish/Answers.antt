use Rattle.std.proofs.Common.{ap, sym, ◌∙◌}
use Rattle.flow_link.specs.declared.traits.WishAnswer.{WishAnswer}
use Rattle.flow_block.specs.Block.{BlockState}
use Rattle.flow_block.specs.Traits.{port_into, notes}
use Rattle.flow_block.proofs.LinksFit.{noted_out}
use Rattle.flow_block.proofs.RoomFits.{fits_port}
use Rattle.flow_block.proofs.TargetMoves.{answer_noted, noted_near}
use Rattle.flow_block.proofs.TargetStands.{drops_noted}
use Rattle.flow_block.proofs.traits.BlockTargetBlock.note_wish.Goals as goal

pub invariant_of-self : goal.invariant_of-self
invariant_of-self c =
    let same = ap (λ (block : BlockState). block.ports) c.self.view_is in
    let at = c.port_into-port.ensures.port ∙ ap (port_into c.args.origin) c.deref.ensures.value in
    let old = c.index_mut.result.now in
    fits_port c.self.invariant c.port_into-port.result old c.hold.new.port
    (noted_near c.self.inside.ports.items c.args.self.now.ports same c.args.origin c.port_into-port.result at old c.index_mut.ensures.value
    c.args.answer c.requires)
    c.index_mut.ensures.value
    (noted_out _ c.args.answer c.args.origin old c.hold.new.port
    (c.hold.ensures ∙ sym (ap (λ (answer : WishAnswer). notes answer c.args.origin old) c.in-Held.is)))

pub invariant_of-self-in-NotAvailable : goal.invariant_of-self-in-NotAvailable
invariant_of-self-in-NotAvailable c =
    let same = ap (λ (block : BlockState). block.ports) c.self.view_is in
    let at = c.port_into-port.ensures.port ∙ ap (port_into c.args.origin) c.deref.ensures.value in
    let old = c.index_mut-in-NotAvailable.result.now in
    fits_port c.self.invariant c.port_into-port.result old c.drop_postponed.new.self
    (noted_near c.self.inside.ports.items c.args.self.now.ports same c.args.origin c.port_into-port.result at old
    c.index_mut-in-NotAvailable.ensures.value c.args.answer c.requires)
    c.index_mut-in-NotAvailable.ensures.value
    (noted_out _ c.args.answer c.args.origin old c.drop_postponed.new.self
    (c.drop_postponed.ensures ∙ drops_noted old c.args.origin c.args.answer c.in-NotAvailable.is))

pub returns-in-Held-clause-moves : goal.returns-in-Held-clause-moves
returns-in-Held-clause-moves c =
    let same = ap (λ (block : BlockState). block.ports) c.self.view_is in
    let at = c.port_into-port.ensures.port ∙ ap (port_into c.args.origin) c.deref.ensures.value in
    let old = c.index_mut.result.now in
    answer_noted c.self.inside.ports.items c.args.self.now.ports same c.args.origin c.port_into-port.result at old c.index_mut.ensures.value
    c.args.answer c.hold.new.port c.requires
    (c.hold.ensures ∙ sym (ap (λ (answer : WishAnswer). notes answer c.args.origin old) c.in-Held.is))

pub returns-in-NotAvailable-clause-moves : goal.returns-in-NotAvailable-clause-moves
returns-in-NotAvailable-clause-moves c =
    let same = ap (λ (block : BlockState). block.ports) c.self.view_is in
    let at = c.port_into-port.ensures.port ∙ ap (port_into c.args.origin) c.deref.ensures.value in
    let old = c.index_mut-in-NotAvailable.result.now in
    answer_noted c.self.inside.ports.items c.args.self.now.ports same c.args.origin c.port_into-port.result at old
    c.index_mut-in-NotAvailable.ensures.value c.args.answer c.drop_postponed.new.self c.requires
    (c.drop_postponed.ensures ∙ drops_noted old c.args.origin c.args.answer c.in-NotAvailable.is)
