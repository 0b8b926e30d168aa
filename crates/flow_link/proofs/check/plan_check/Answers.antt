use Rattle.std.proofs.Common.{◌≡◌, ◌∙◌, None, sym}
use Rattle.flow_link.specs.PlanFaults.{first_plan_fault}
use Rattle.flow_link.proofs.FirstOfEachFault.{first_fault_along, planned_along, laid_out_where_none}
use Rattle.flow_link.proofs.PlansAreWellFormed.{well_formed_along}
use Rattle.flow_link.proofs.PortsAreFew.{ports_fit_along}
use Rattle.flow_link.proofs.check.plan_check.Goals as goal

pub returns-in-Some-clause-why : goal.returns-in-Some-clause-why
returns-in-Some-clause-why g c =
    sym (first_fault_along c.args.draft.blocks.items c.args.draft.links.items c.deref.result.now c.deref-2.result.now c.deref.ensures.value c.deref-2.ensures.value)
    ∙ sym c.first_fault.ensures ∙ c.in-Some.is

pub planned_links-requires : goal.planned_links-requires
planned_links-requires g c =
    let blocks = c.args.draft.blocks.items in
    let links = c.args.draft.links.items in
    ports_fit_along blocks links c.deref-4.result.now c.deref-4.ensures.value
    (sym (first_fault_along blocks links c.deref.result.now c.deref-2.result.now c.deref.ensures.value c.deref-2.ensures.value)
    ∙ sym c.first_fault.ensures ∙ c.in_default.is)

pub new-requires-clause-well_formed : goal.new-requires-clause-well_formed
new-requires-clause-well_formed g c =
    let blocks = c.args.draft.blocks.items in
    let links = c.args.draft.links.items in
    let fine : first_plan_fault blocks links ≡ None =
    sym (first_fault_along blocks links c.deref.result.now c.deref-2.result.now c.deref.ensures.value c.deref-2.ensures.value)
    ∙ sym c.first_fault.ensures ∙ c.in_default.is in
    well_formed_along blocks links c.in-Ok.links.items
    (planned_along blocks links c.deref-3.result.now c.deref-4.result.now c.in-Ok.links.items c.deref-3.ensures.value c.deref-4.ensures.value c.in-Ok.ensures)
    fine

pub new-requires-clause-laid_out : goal.new-requires-clause-laid_out
new-requires-clause-laid_out g c =
    let blocks = c.args.draft.blocks.items in
    let links = c.args.draft.links.items in
    let fine : first_plan_fault blocks links ≡ None =
    sym (first_fault_along blocks links c.deref.result.now c.deref-2.result.now c.deref.ensures.value c.deref-2.ensures.value)
    ∙ sym c.first_fault.ensures ∙ c.in_default.is in
    laid_out_where_none blocks links c.in-Ok.links.items
    (planned_along blocks links c.deref-3.result.now c.deref-4.result.now c.in-Ok.links.items c.deref-3.ensures.value c.deref-4.ensures.value c.in-Ok.ensures) fine

pub returns-in-Ok-clause-no_fault : goal.returns-in-Ok-clause-no_fault
returns-in-Ok-clause-no_fault g c =
    sym (first_fault_along c.args.draft.blocks.items c.args.draft.links.items c.deref.result.now c.deref-2.result.now c.deref.ensures.value c.deref-2.ensures.value)
    ∙ sym c.first_fault.ensures ∙ c.in_default.is

pub returns-in-Err-clause-why : goal.returns-in-Err-clause-why
returns-in-Err-clause-why g c =
    sym (first_fault_along c.args.draft.blocks.items c.args.draft.links.items c.deref.result.now c.deref-2.result.now c.deref.ensures.value c.deref-2.ensures.value)
    ∙ sym c.first_fault.ensures ∙ c.in_default.is
