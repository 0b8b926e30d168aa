use Rattle.std.proofs.Common.{◌≡◌, ◌↔◌, true, IfErr, subst, ◌∙◌}
use Rattle.flow_exec.specs.Execution.{ExecutionState, IsOwnJob, lacks_job_ids}
use Rattle.flow_exec.specs.declared.fault.EndFault.TheVariants.{Strange, Ids}
use Rattle.flow_exec.specs.Jobs.{ticket_in}
use Rattle.flow_exec.specs.Results.{job_in}
use Rattle.flow_kinds.proofs.WorkKinds.{end_kind}
use Rattle.flow_kinds.proofs.execution.TypedExecution.end.Goals as goal

pub invariant_of-self : goal.invariant_of-self
invariant_of-self g c =
    end_kind c.self.inside.execution c.end.new.self g.W.Runs.meaning (ticket_in (job_in c.args.done)) c.end.result c.end.ensures.done
    c.end.ensures.kept
    ∙ c.self.invariant

pub returns-clause-strange : goal.returns-clause-strange
returns-clause-strange g c =
    subst (λ (old : ExecutionState _). IfErr c.end.result (λ refused. (refused.1 ≡ Strange) ↔
    (IsOwnJob g.W.PartialEq.eq old (job_in c.args.done) → ⊥))) c.self.view_is c.end.ensures.strange

pub returns-clause-ids : goal.returns-clause-ids
returns-clause-ids g c =
    subst (λ (old : ExecutionState _). IfErr c.end.result (λ refused. (refused.1 ≡ Ids) ↔ (IsOwnJob g.W.PartialEq.eq old (job_in c.args.done)
    × (lacks_job_ids g.W.Runs.meaning (ticket_in (job_in c.args.done)) old ≡ true)))) c.self.view_is c.end.ensures.ids
