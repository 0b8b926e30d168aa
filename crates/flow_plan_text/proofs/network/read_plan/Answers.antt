use Rattle.flow_plan_text.proofs.NoPlanFor.{unplanned}
use Rattle.flow_plan_text.proofs.network.read_plan.Goals as goal

pub returns-in-Err-clause-refused : goal.returns-in-Err-clause-refused
returns-in-Err-clause-refused c =
    rw c.refusal_of.ensures (unplanned c.args.text.now c.in_ok-draft.draft c.in-Err.refused.1 c.in_ok-draft.ensures c.in-Err.ensures.why)
