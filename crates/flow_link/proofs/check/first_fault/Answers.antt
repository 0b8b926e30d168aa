use Rattle.std.proofs.Common.{◌∙◌, Some, None, refl, sym, length, take}
use Rattle.flow_link.proofs.FirstOfEachFault.{first_fault_of, ways_told}
use Rattle.flow_link.proofs.PortsAreFew.{ports_fit}
use Rattle.flow_link.proofs.check.first_fault.Goals as goal

pub returns-in-Some : goal.returns-in-Some
returns-in-Some g c =
    sym (first_fault_of c.args.blocks.now c.args.links.now (Some c.in-Some.fault) _ _ _ _ (sym c.fault_of_names.ensures ∙ c.in-Some.is) refl refl refl refl)

pub returns-in-Some-fault_of_ends : goal.returns-in-Some-fault_of_ends
returns-in-Some-fault_of_ends g c =
    sym (first_fault_of c.args.blocks.now c.args.links.now None (Some c.in-Some-fault_of_ends.fault) _ _ _ (sym c.fault_of_names.ensures ∙ c.in_default.is)
    (sym c.fault_of_ends.ensures ∙ c.in-Some-fault_of_ends.is) refl refl refl)

pub returns-in-Some-fault_of_options : goal.returns-in-Some-fault_of_options
returns-in-Some-fault_of_options g c =
    sym (first_fault_of c.args.blocks.now c.args.links.now None None (Some c.in-Some-fault_of_options.fault) _ _ (sym c.fault_of_names.ensures ∙ c.in_default.is)
    (sym c.fault_of_ends.ensures ∙ c.in_default-fault_of_ends.is) (sym c.fault_of_options.ensures ∙ c.in-Some-fault_of_options.is) refl refl)

pub returns-in-Some-first_small_batch : goal.returns-in-Some-first_small_batch
returns-in-Some-first_small_batch g c =
    sym (first_fault_of c.args.blocks.now c.args.links.now None None None (Some c.in-Some-first_small_batch.block) _ (sym c.fault_of_names.ensures ∙ c.in_default.is)
    (sym c.fault_of_ends.ensures ∙ c.in_default-fault_of_ends.is) (sym c.fault_of_options.ensures ∙ c.in_default-fault_of_options.is)
    (sym c.first_small_batch.ensures ∙ c.in-Some-first_small_batch.is) refl)

pub name_links-requires-clause-fit : goal.name_links-requires-clause-fit
name_links-requires-clause-fit g c =
    ports_fit c.args.blocks.now c.args.links.now (sym c.fault_of_names.ensures ∙ c.in_default.is)
    (sym c.fault_of_ends.ensures ∙ c.in_default-fault_of_ends.is) (sym c.fault_of_options.ensures ∙ c.in_default-fault_of_options.is)

pub returns : goal.returns
returns g c =
    sym (first_fault_of c.args.blocks.now c.args.links.now None None None None c.fault_of_ways.result (sym c.fault_of_names.ensures ∙ c.in_default.is)
    (sym c.fault_of_ends.ensures ∙ c.in_default-fault_of_ends.is) (sym c.fault_of_options.ensures ∙ c.in_default-fault_of_options.is)
    (sym c.first_small_batch.ensures ∙ c.in_default-first_small_batch.is)
    (ways_told c.args.blocks.now c.args.links.now (take (length c.args.links.now) c.name_links.new.room) c.fault_of_ways.result
    c.name_links.ensures.named c.fault_of_ways.ensures))
