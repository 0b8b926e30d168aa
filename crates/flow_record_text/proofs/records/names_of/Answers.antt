use Rattle.std.proofs.Common.{◌<◌, ◌∙◌, ◌++◌, ◌∷◌, [], length, ap, sym, cond, arith}
use Rattle.flow_record_text.proofs.RecordsPost.{input_names-more}
use Rattle.flow_record_text.proofs.records.names_of.Goals as goal

pub loop-number-preserved : goal.loop-number-preserved
loop-number-preserved c =
    let within : c.loop-number.number < length c.args.plan.now.blocks.items = omega (arith, c.block_count-number-end.ensures) in
    c.in_ok-push_name.ensures.names
    ∙ ap (λ names. names ++ cond c.block.result.now.input (c.block.result.now.name ∷ []) []) c.loop-number.invariant
    ∙ sym (input_names-more c.args.plan.now.blocks.items c.loop-number.number c.block.result.now within (c.block.ensures c.block.result.now))
