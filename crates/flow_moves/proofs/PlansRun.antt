-- Each plan is of a network that runs.
use Rattle.flow_link.specs.declared.plan.Plan.{Plan}
use Rattle.flow_link.specs.Planned.{layout_of}
use Rattle.flow_link.proofs.LinksLead.{links_lead}
use Rattle.flow_core.specs.Keeps.{IsRun}

pub plan_runs : {W : Type 0} (plan : Plan W) → IsRun (layout_of plan)
plan_runs plan = record {
  leads = links_lead _ (layout_of plan) plan.laid_out;
  well_formed = plan.well_formed;
}
