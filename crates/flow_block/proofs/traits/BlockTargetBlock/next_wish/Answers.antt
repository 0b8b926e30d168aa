use Rattle.std.proofs.Common.{◌≡◌, Some, ap, sym, ◌∙◌}
use Rattle.flow_intake.specs.ByLink.{next_wish}
use Rattle.flow_block.specs.Block.{BlockState}
use Rattle.flow_block.specs.Traits.{wish_named, wishing_port}
use Rattle.flow_block.proofs.LinksFit.{consumed_out}
use Rattle.flow_block.proofs.RoomFits.{fits_port}
use Rattle.flow_block.proofs.TargetMoves.{wishing_is, wish_moves}
use Rattle.flow_block.proofs.traits.BlockTargetBlock.next_wish.Goals as goal
use Rattle.flow_block.proofs.traits.BlockTargetBlock.next_wish.Goals.{in-Some-next_postponed, in-None}

pub invariant_of-self : goal.invariant_of-self
invariant_of-self c =
    let ports = c.self.inside.ports.items in
    let p = c.in-Some.port in
    let is : wishing_port ports ≡ Some p = ap wishing_port (sym c.deref.ensures.value) ∙ sym c.in-Some.ensures.port in
    fits_port c.self.invariant p c.index_mut.result.now c.next_postponed.new.self (wishing_is ports p is).there c.index_mut.ensures.value
    (consumed_out _ c.index_mut.result.now c.next_postponed.new.self c.next_postponed.ensures.consumed)

pub returns-clause-moves : goal.returns-clause-moves
returns-clause-moves c =
    let ports = c.self.inside.ports.items in
    let old = c.index_mut.result.now in
    let is : wishing_port ports ≡ Some c.in-Some.port = ap wishing_port (sym c.deref.ensures.value) ∙ sym c.in-Some.ensures.port in
    let told : c.match-next_postponed.result ≡ wish_named (next_wish old) = elim c.match-next_postponed.branch [
      | in-Some-next_postponed w ↦ w.result-is ∙ ap wish_named (sym w.in-Some-next_postponed.is ∙ c.next_postponed.ensures.offer)
      | in-None w ↦ w.result-is ∙ ap wish_named (sym w.in-None.is ∙ c.next_postponed.ensures.offer)
    ] in
    wish_moves ports c.args.self.now.ports (ap (λ (block : BlockState). block.ports) c.self.view_is) c.in-Some.port is old c.next_postponed.new.self
    c.index_mut.ensures.value c.next_postponed.ensures.consumed c.match-next_postponed.result told
