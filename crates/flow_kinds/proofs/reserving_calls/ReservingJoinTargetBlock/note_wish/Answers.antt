use Rattle.std.proofs.Common.{Bool, List, ap, sym, subst, ◌∙◌}
use Rattle.flow_link.specs.TargetCalls.{MayNote}
use Rattle.flow_intake.specs.Port.{PortState}
use Rattle.flow_group.specs.Round.{settles}
use Rattle.flow_block.specs.Traits.{target_over}
use Rattle.flow_kinds.specs.ReservingJoin.{ReservingState}
use Rattle.flow_kinds.specs.Wishes.{loses_front}
use Rattle.flow_kinds.proofs.JoinFits.{note_fits}
use Rattle.flow_kinds.proofs.reserving_calls.ReservingJoinTargetBlock.note_wish.Goals as goal

pub invariant_of-self : goal.invariant_of-self
invariant_of-self c =
    let inside = c.self.inside in
    let may = subst (λ (join : ReservingState). MayNote c.args.answer (target_over join.block.ports c.args.origin)) (sym c.self.view_is) c.requires in
    note_fits inside.block c.note_wish.new.self inside.round c.self.invariant c.settle.new.self c.args.origin c.args.answer may
    c.note_wish.ensures.takes
    (c.settle.ensures ∙ ap (λ (gone : Bool). settles gone c.ports.result.now inside.round) c.loses_front-gone.ensures
    ∙ ap (λ (ports : List PortState). settles (loses_front c.args.answer c.args.origin inside.block.ports) ports inside.round) c.ports.ensures)
