use Rattle.std.proofs.Common.{ap, sym, subst, ◌∙◌}
use Rattle.flow_outlet.specs.declared.fault.OutletFault.TheVariants.{Ids}
use Rattle.flow_exec.specs.Execution.{IsOwnJob}
use Rattle.flow_exec.specs.Jobs.{ticket_in}
use Rattle.flow_exec.specs.Results.{job_in}
use Rattle.flow_exec.specs.declared.job.Job.{Job}
use Rattle.flow_exec.proofs.OwnResult.{taken_has, refused_ids}
use Rattle.flow_exec.proofs.execution.Execution.end.Goals as goal

pub returns-in-Ok-clause-has_ids : goal.returns-in-Ok-clause-has_ids
returns-in-Ok-clause-has_ids g c =
    let own = subst (λ (job : Job _). IsOwnJob g.W.PartialEq.eq c.args.self.now job) c.job.ensures
    (c.is_own_job.ensures.0 c.if-not-is_own_job.false) in
    let works = g.met.W.Runs in
    let answer = c.into_parts-job.result.1 in
    taken_has g.W.Runs.meaning g.W.PartialEq.eq works.same_meaning c.args.self.now (job_in c.args.done) own c.ticket.result
    answer (c.ticket.ensures ∙ ap ticket_in c.into_parts-job.ensures.job) c.into_parts-job.ensures.answer
    c.take_back.result (answer, Ids) _ c.take_back.ensures.ids c.in-Ok.is

pub returns-in-Err-clause-back : goal.returns-in-Err-clause-back
returns-in-Err-clause-back g c =
    c.new.ensures.only c.args.done (sym (c.new.ensures.job ∙ c.into_parts-job.ensures.job))

pub returns-in-Err-clause-ids : goal.returns-in-Err-clause-ids
returns-in-Err-clause-ids g c =
    let own = subst (λ (job : Job _). IsOwnJob g.W.PartialEq.eq c.args.self.now job) c.job.ensures
    (c.is_own_job.ensures.0 c.if-not-is_own_job.false) in
    let works = g.met.W.Runs in
    let answer = c.into_parts-job.result.1 in
    refused_ids g.W.Runs.meaning g.W.PartialEq.eq works.same_meaning c.args.self.now (job_in c.args.done) own c.ticket.result
    answer (c.ticket.ensures ∙ ap ticket_in c.into_parts-job.ensures.job) c.into_parts-job.ensures.answer
    c.take_back.result c.in-Err.answer c.in-Err.fault c.from.result c.from.ensures c.take_back.ensures.ids c.in-Err.is
    c.in-Err.ensures.back
