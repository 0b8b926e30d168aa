-- Why a text that is read as a draft is no plan.
use Rattle.std.proofs.Common.{ℕ, List, inr}
use Rattle.flow_link.specs.PlanFaults.{first_plan_fault}
use Rattle.flow_link.specs.Refusal.{IsWhy}
use Rattle.flow_link.specs.declared.check.PlanRefusal.{PlanRefusal}
use Rattle.flow_link.specs.declared.check.PlanRefusal.TheVariants as unplanned_for
use Rattle.flow_link.specs.declared.draft.Draft.{Draft}
use Rattle.flow_value.specs.declared.steps.Steps.{Steps}
use Rattle.flow_plan_text.specs.Plan.{IsUnplannedFor, refusal_of_plan}
use Rattle.flow_plan_text.specs.Read.{IsReadAs}

pub unplanned : (text : List ℕ) (draft : Draft Steps) (refusal : PlanRefusal) → IsReadAs text draft
    → IsWhy (first_plan_fault draft.blocks.items draft.links.items) refusal → IsUnplannedFor text (refusal_of_plan refusal)
unplanned text draft (unplanned_for.Fault fault) read why = inr (record { draft = draft; read = read; first = why })
unplanned text draft unplanned_for.Memory read why = inr tt
