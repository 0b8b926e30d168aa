use Rattle.std.proofs.Common.{Some, None, sym, ◌∙◌, refl}
use Rattle.flow_link.proofs.FirstOfEachFault.{first_option_fault}
use Rattle.flow_link.proofs.check.fault_of_options.Goals as goal

pub returns-in-Some : goal.returns-in-Some
returns-in-Some g c =
    sym (first_option_fault c.args.blocks.now c.args.links.now (Some c.in-Some.block) _ (sym c.first_bad_block.ensures ∙ c.in-Some.is) refl)

pub returns-in-Some-first_bad_link : goal.returns-in-Some-first_bad_link
returns-in-Some-first_bad_link g c =
    sym (first_option_fault c.args.blocks.now c.args.links.now None (Some c.in-Some-first_bad_link.link) (sym c.first_bad_block.ensures ∙ c.in_default.is)
    (sym c.first_bad_link.ensures ∙ c.in-Some-first_bad_link.is))

pub returns-in-None : goal.returns-in-None
returns-in-None g c =
    sym (first_option_fault c.args.blocks.now c.args.links.now None None (sym c.first_bad_block.ensures ∙ c.in_default.is)
    (sym c.first_bad_link.ensures ∙ c.in-None.is))
