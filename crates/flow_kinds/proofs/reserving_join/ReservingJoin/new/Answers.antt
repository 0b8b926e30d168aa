use Rattle.std.proofs.Common.{◌≡◌, List, ap, sym, subst, ◌∙◌}
use Rattle.flow_link.specs.Planned.{layout_of}
use Rattle.flow_link.specs.declared.stage.TargetStage.TheVariants.{Free}
use Rattle.flow_group.specs.declared.round.RoundStep.TheVariants as steps
use Rattle.flow_group.specs.declared.round.Source.{Source}
use Rattle.flow_group.specs.Round.{RoundState}
use Rattle.flow_block.specs.Block.{BlockState}
use Rattle.flow_block.specs.Planned.{fresh_node}
use Rattle.flow_block.specs.Traits.{target_over}
use Rattle.flow_kinds.specs.ReservingJoin.{ReservingFits}
use Rattle.flow_block.proofs.PlannedBlocks.{all_free}
use Rattle.flow_kinds.proofs.PlannedBlocks.{round_fits}
use Rattle.flow_kinds.proofs.reserving_join.ReservingJoin.new.Goals as goal

pub invariant_of-result : goal.invariant_of-result
invariant_of-result g c =
    subst (λ (round : RoundState). ReservingFits c.in_ok-block.block round)
    (sym (c.new.ensures ∙ ap (λ (sources : List Source). record { sources = sources; step = steps.Asks }) c.in_ok-sources.ensures))
    (subst (λ (block : BlockState). ReservingFits block (fresh_node (layout_of c.args.plan.now) c.args.number).round) (sym c.in_ok-block.ensures)
    (round_fits (layout_of c.args.plan.now) c.args.number c.requires.kind))

pub returns-clause-rests : goal.returns-clause-rests
returns-clause-rests g c link =
    subst (λ (block : BlockState). target_over block.ports link ≡ Free) (sym c.in_ok-block.ensures)
    (all_free (layout_of c.args.plan.now) c.args.number (c.args.plan.now.well_formed.options c.args.number c.requires.there) link)
