use Rattle.std.proofs.Common.{sym, subst, ◌∙◌}
use Rattle.std.proofs.lemmas.Result.{IfOk-weaker}
use Rattle.flow_link.specs.Planned.{layout_of}
use Rattle.flow_exec.specs.declared.job.Job.{Job}
use Rattle.flow_task.specs.Laned.{IsOwnJob}
use Rattle.flow_task.proofs.JobsReturn.{where_refused}
use Rattle.flow_task.proofs.task.BlockTask.take_back.Goals as goal

pub returns-then-not-is_own_job-clause-own : goal.returns-then-not-is_own_job-clause-own
returns-then-not-is_own_job-clause-own g c =
    let s = c.args.self.now in (
      λ wrong. absurd (cc),
      λ own.
          let is = c.is_own_job.ensures.1
          (subst (λ (job : Job _). IsOwnJob g.W.PartialEq.eq (layout_of s.of.value.rest.plan) s.number s.node job) (sym c.job.ensures) own) in
          absurd (let e = sym c.if-not-is_own_job.true ∙ is in cc),
    )

pub returns-clause-own : goal.returns-clause-own
returns-clause-own g c =
    let s = c.args.self.now in
    let own = subst (λ (job : Job _). IsOwnJob g.W.PartialEq.eq (layout_of s.of.value.rest.plan) s.number s.node job) c.job.ensures
    (c.is_own_job.ensures.0 c.if-not-is_own_job.false) in
    IfOk-weaker c.end_own.result _ _ (λ taken is. (λ is_taken. own, λ is_own. is)) c.end_own.ensures.taken

pub returns-clause-refused_own : goal.returns-clause-refused_own
returns-clause-refused_own g c =
    let s = c.args.self.now in
    where_refused _ c.end_own.result
    (subst (λ (job : Job _). IsOwnJob g.W.PartialEq.eq (layout_of s.of.value.rest.plan) s.number s.node job) c.job.ensures
    (c.is_own_job.ensures.0 c.if-not-is_own_job.false))
