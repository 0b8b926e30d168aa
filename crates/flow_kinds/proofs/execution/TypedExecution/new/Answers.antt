use Rattle.std.proofs.Common.{◌≡◌, ap, sym, subst, ◌∙◌, rules}
use Rattle.flow_link.specs.Plan.{no_block, has_work}
use Rattle.flow_link.specs.Planned.{layout_of}
use Rattle.flow_link.specs.declared.draft.BlockDef.{BlockDef}
use Rattle.flow_link.specs.declared.stage.TargetStage.TheVariants.{Free}
use Rattle.flow_block.specs.Block.{BlockState}
use Rattle.flow_block.specs.Traits.{target_over}
use Rattle.flow_exec.specs.Execution.{ExecutionState}
use Rattle.flow_block.proofs.PlannedBlocks.{all_free, work_is_planned}
use Rattle.flow_kinds.proofs.execution.TypedExecution.new.Goals as goal

pub returns-in-Ok-clause-block : goal.returns-in-Ok-clause-block
returns-in-Ok-clause-block g c =
    let fit = c.args.plan.now.well_formed.options c.args.number c.requires.there in
    let def = c.block-def.ensures no_block in
    work_is_planned (layout_of c.args.plan.now) c.args.number fit (ap has_work c.requires.kind ∙ g.K.WorkKind.works)
    c.block-def.result.now.kind c.unwrap_or-lanes.result c.in_ok-ports.ports.items c.in_ok-rules.rules.items c.in-Ok.execution.block
    (ap (λ (d : BlockDef _). d.kind) def) (search rules) c.in_ok-ports.ensures c.in_ok-rules.ensures
    (ap (λ (e : ExecutionState _). e.block) c.in-Ok.ensures)

pub returns-in-Ok-clause-rests : goal.returns-in-Ok-clause-rests
returns-in-Ok-clause-rests g c link =
    let fit = c.args.plan.now.well_formed.options c.args.number c.requires.there in
    subst (λ (block : BlockState). target_over block.ports link ≡ Free) (sym (returns-in-Ok-clause-block g c))
    (all_free (layout_of c.args.plan.now) c.args.number fit link)
