use Rattle.std.proofs.Common.{Some, None, sym, ◌∙◌, refl}
use Rattle.flow_link.proofs.FirstOfEachFault.{first_end_fault}
use Rattle.flow_link.proofs.check.fault_of_ends.Goals as goal

pub returns-in-Some : goal.returns-in-Some
returns-in-Some g c =
    sym (first_end_fault c.args.blocks.now c.args.links.now (Some c.in-Some.link) _ (sym c.first_missing_port.ensures ∙ c.in-Some.is) refl)

pub returns-in-Some-first_missing_output : goal.returns-in-Some-first_missing_output
returns-in-Some-first_missing_output g c =
    sym (first_end_fault c.args.blocks.now c.args.links.now None (Some c.in-Some-first_missing_output.link) (sym c.first_missing_port.ensures ∙ c.in_default.is)
    (sym c.first_missing_output.ensures ∙ c.in-Some-first_missing_output.is))

pub returns-in-None : goal.returns-in-None
returns-in-None g c =
    sym (first_end_fault c.args.blocks.now c.args.links.now None None (sym c.first_missing_port.ensures ∙ c.in_default.is)
    (sym c.first_missing_output.ensures ∙ c.in-None.is))
