use Rattle.std.proofs.Common.{true, false, Some, None, sym, ◌∙◌, refl}
use Rattle.flow_link.proofs.FirstOfEachFault.{first_name_fault}
use Rattle.flow_link.proofs.check.fault_of_names.Goals as goal

pub returns-then-is_over_limit : goal.returns-then-is_over_limit
returns-then-is_over_limit g c =
    sym (first_name_fault c.args.blocks.now c.args.links.now true _ _ (sym c.is_over_limit.ensures ∙ c.if-is_over_limit.true) refl refl)

pub returns-in-Some : goal.returns-in-Some
returns-in-Some g c =
    sym (first_name_fault c.args.blocks.now c.args.links.now false (Some c.in-Some.block) _ (sym c.is_over_limit.ensures ∙ c.if-is_over_limit.false)
    (sym c.first_duplicate_name.ensures ∙ c.in-Some.is) refl)

pub returns-in-Some-first_unknown_block : goal.returns-in-Some-first_unknown_block
returns-in-Some-first_unknown_block g c =
    sym (first_name_fault c.args.blocks.now c.args.links.now false None (Some c.in-Some-first_unknown_block.link) (sym c.is_over_limit.ensures ∙ c.if-is_over_limit.false)
    (sym c.first_duplicate_name.ensures ∙ c.in_default.is) (sym c.first_unknown_block.ensures ∙ c.in-Some-first_unknown_block.is))

pub returns-in-None : goal.returns-in-None
returns-in-None g c =
    sym (first_name_fault c.args.blocks.now c.args.links.now false None None (sym c.is_over_limit.ensures ∙ c.if-is_over_limit.false)
    (sym c.first_duplicate_name.ensures ∙ c.in_default.is) (sym c.first_unknown_block.ensures ∙ c.in-None.is))
