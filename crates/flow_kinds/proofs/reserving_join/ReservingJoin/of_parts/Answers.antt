use Rattle.std.proofs.Common.{sym, subst}
use Rattle.flow_group.specs.declared.round.RoundStep.TheVariants as steps
use Rattle.flow_group.specs.Round.{RoundState}
use Rattle.flow_block.specs.Block.{BlockState}
use Rattle.flow_kinds.specs.ReservingJoin.{ReservingFits}
use Rattle.flow_kinds.proofs.JoinFits.{fresh_fits}
use Rattle.flow_kinds.proofs.reserving_join.ReservingJoin.of_parts.Goals as goal

pub invariant_of-result : goal.invariant_of-result
invariant_of-result c =
    let asks = c.requires in
    subst (λ (round : RoundState). ReservingFits c.in-Ok.block round) (sym c.new-in-Ok.ensures)
    (subst (λ (block : BlockState). ReservingFits block (record { sources = c.args.sources.items; step = steps.Asks })) (sym c.in-Ok.ensures)
    (fresh_fits c.args.ports.items c.args.sources.items c.args.rules.items asks.reserve asks.waits asks.due asks.offers))
