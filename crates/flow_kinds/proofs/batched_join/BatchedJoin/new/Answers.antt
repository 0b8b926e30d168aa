use Rattle.std.proofs.Common.{◌≡◌, [], sym, subst}
use Rattle.flow_link.specs.Planned.{layout_of}
use Rattle.flow_link.specs.declared.stage.TargetStage.TheVariants.{Free}
use Rattle.flow_group.specs.Group.{ArrivalsState}
use Rattle.flow_block.specs.Block.{BlockState}
use Rattle.flow_block.specs.Traits.{target_over}
use Rattle.flow_kinds.specs.BatchedJoin.{JoinFits}
use Rattle.flow_block.proofs.PlannedBlocks.{all_free}
use Rattle.flow_kinds.proofs.PlannedBlocks.{group_fits}
use Rattle.flow_kinds.proofs.batched_join.BatchedJoin.new.Goals as goal

pub invariant_of-result : goal.invariant_of-result
invariant_of-result g c =
    subst (λ (order : ArrivalsState). JoinFits c.in_ok-block.block order) (sym c.new.ensures)
    (subst (λ (block : BlockState). JoinFits block (record { ports = []; room = 0 })) (sym c.in_ok-block.ensures)
    (group_fits (layout_of c.args.plan.now) c.args.number c.requires.kind))

pub returns-clause-rests : goal.returns-clause-rests
returns-clause-rests g c link =
    subst (λ (block : BlockState). target_over block.ports link ≡ Free) (sym c.in_ok-block.ensures)
    (all_free (layout_of c.args.plan.now) c.args.number (c.args.plan.now.well_formed.options c.args.number c.requires.there) link)
