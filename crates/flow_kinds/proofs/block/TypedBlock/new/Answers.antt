use Rattle.std.proofs.Common.{◌≡◌, sym, subst}
use Rattle.flow_link.specs.Planned.{layout_of}
use Rattle.flow_link.specs.declared.stage.TargetStage.TheVariants.{Free}
use Rattle.flow_block.specs.Block.{BlockState}
use Rattle.flow_block.specs.Traits.{target_over}
use Rattle.flow_kinds.specs.Kinds.{IsOf}
use Rattle.flow_block.proofs.PlannedBlocks.{all_free}
use Rattle.flow_kinds.proofs.PlannedBlocks.{planned_is}
use Rattle.flow_kinds.proofs.block.TypedBlock.new.Goals as goal

pub invariant_of-result : goal.invariant_of-result
invariant_of-result g c =
    subst (IsOf g.K.Kind.kind) (sym c.in_ok-block.ensures)
    (planned_is (layout_of c.args.plan.now) c.args.number g.K.Kind.kind c.requires.kind c.requires.greedy)

pub returns-clause-rests : goal.returns-clause-rests
returns-clause-rests g c link =
    subst (λ (block : BlockState). target_over block.ports link ≡ Free) (sym c.in_ok-block.ensures)
    (all_free (layout_of c.args.plan.now) c.args.number (c.args.plan.now.well_formed.options c.args.number c.requires.there) link)
