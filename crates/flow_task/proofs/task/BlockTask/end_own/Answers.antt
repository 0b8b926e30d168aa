use Rattle.std.proofs.Common.{◌≡◌, ◌↔◌, ℕ, true, Err, ap, sym, subst, ◌∙◌}
use Rattle.flow_link.specs.Planned.{layout_of}
use Rattle.flow_outlet.specs.Outlet.{lacks_ids}
use Rattle.flow_outlet.specs.declared.fault.OutletFault.TheVariants.{Ids}
use Rattle.flow_block.specs.Block.{ends_job, put_by_job}
use Rattle.flow_block.specs.Node.{with_block}
use Rattle.flow_block_law.specs.NodeLaw.{NodeLaw}
use Rattle.flow_exec.specs.Jobs.{ticket_in}
use Rattle.flow_exec.specs.Results.{job_in}
use Rattle.flow_exec.specs.Works.{works_of}
use Rattle.flow_task.proofs.JobsReturn.{own_ended, own_has, own_lacks, own_works}
use Rattle.flow_task.proofs.OwnSteps.{OwnStep, ends_job as job_ends, own_law, own_outs, own_ins, planned}
use Rattle.flow_task.proofs.OwnTries.{on_both, tried}
use Rattle.flow_task.proofs.task.BlockTask.end_own.Goals as goal

pub end_job-requires-clause-alone : goal.end_job-requires-clause-alone
end_job-requires-clause-alone g c =
    let s = c.args.self.now in
    let layout = layout_of s.of.value.rest.plan in
    let p = planned layout (works_of g.W.Runs.meaning layout) s.number s.node s.law in
    p.alone_at_work (p.works _ (own_works g.W.Runs.meaning g.W.PartialEq.eq g.met.W.Runs.same_meaning layout s.number s.node p (job_in c.args.done) c.requires.own))

pub end_job-requires-clause-works : goal.end_job-requires-clause-works
end_job-requires-clause-works g c =
    let s = c.args.self.now in
    let layout = layout_of s.of.value.rest.plan in
    let p = planned layout (works_of g.W.Runs.meaning layout) s.number s.node s.law in
    p.works _ (own_works g.W.Runs.meaning g.W.PartialEq.eq g.met.W.Runs.same_meaning layout s.number s.node p (job_in c.args.done) c.requires.own)

pub end_job-requires-clause-held : goal.end_job-requires-clause-held
end_job-requires-clause-held g c =
    let s = c.args.self.now in
    let layout = layout_of s.of.value.rest.plan in
    (planned layout (works_of g.W.Runs.meaning layout) s.number s.node s.law).begun

pub end_job-requires-clause-drained : goal.end_job-requires-clause-drained
end_job-requires-clause-drained g c =
    let s = c.args.self.now in
    let layout = layout_of s.of.value.rest.plan in
    (planned layout (works_of g.W.Runs.meaning layout) s.number s.node s.law).drained

pub invariant_of-self : goal.invariant_of-self
invariant_of-self g c =
    let s = c.args.self.now in
    let layout = layout_of s.of.value.rest.plan in
    let wires = s.of.value.wires.items in
    let works = works_of g.W.Runs.meaning layout in
    let new = c.end_job.new.self in
    let p = planned layout works s.number s.node s.law in
    let job = job_in c.args.done in
    let answer = c.into_parts-job.result.1 in
    let ticket_is = c.ticket.ensures ∙ ap ticket_in c.into_parts-job.ensures.job in
    let ended = own_ended g.W.Runs.meaning g.W.PartialEq.eq g.met.W.Runs.same_meaning layout s.number s.node p job c.requires.own answer c.into_parts-job.ensures.answer in
    let has = own_has g.W.Runs.meaning g.W.PartialEq.eq g.met.W.Runs.same_meaning layout s.number s.node p job c.requires.own answer c.into_parts-job.ensures.answer in
    let step : NodeLaw layout works s.number s.node → OwnStep layout works s.number s.node new =
    tried layout works s.number _ s.node new c.end_job.result
    (on_both _ _ c.end_job.result c.end_job.ensures.done
    (has c.end_job.result (answer, Ids)
    (subst (λ (ticket : ℕ). (c.end_job.result ≡ Err (answer, Ids)) ↔ (lacks_ids (put_by_job ticket answer s.node.block) s.node.block.exits ≡ true))
    ticket_is c.end_job.ensures.ids)))
    c.end_job.ensures.kept
    (λ l done. job_ends layout works s.number s.node l (ticket_in job)
    (record { out = c.requires.own.out; ids = done.1 })
    new
    (ended new (done.0 ∙ ap (λ (ticket : ℕ). with_block (ends_job ticket answer s.node.block) s.node) ticket_is))) in
    record {
      there = s.there;
      noted = s.noted;
      knows = s.knows;
      law = own_law layout works s.number wires s.node new s.law step;
      outs_know = s.outs_know ∙ own_outs layout works s.number wires s.node new s.law step;
      ins_know = s.ins_know ∙ own_ins layout works s.number wires s.node new s.law step;
    }

pub returns-in-Ok-clause-takes : goal.returns-in-Ok-clause-takes
returns-in-Ok-clause-takes g c =
    let s = c.args.self.now in
    let layout = layout_of s.of.value.rest.plan in
    let works = works_of g.W.Runs.meaning layout in
    let p = planned layout works s.number s.node s.law in
    let job = job_in c.args.done in
    let answer = c.into_parts-job.result.1 in
    let ticket_is = c.ticket.ensures ∙ ap ticket_in c.into_parts-job.ensures.job in
    record {
      comes = c.requires.own.out;
      leaves = own_ended g.W.Runs.meaning g.W.PartialEq.eq g.met.W.Runs.same_meaning layout s.number s.node p job c.requires.own answer
          c.into_parts-job.ensures.answer c.end_job.new.self
          (c.in-Ok.ensures.done ∙ ap (λ (ticket : ℕ). with_block (ends_job ticket answer s.node.block) s.node) ticket_is);
    }

pub returns-in-Err-clause-back : goal.returns-in-Err-clause-back
returns-in-Err-clause-back g c = c.new.ensures.only c.args.done (sym (c.new.ensures.job ∙ c.into_parts-job.ensures.job))

pub returns-in-Err-clause-ids : goal.returns-in-Err-clause-ids
returns-in-Err-clause-ids g c =
    let s = c.args.self.now in
    let layout = layout_of s.of.value.rest.plan in
    let p = planned layout (works_of g.W.Runs.meaning layout) s.number s.node s.law in
    let answer = c.into_parts-job.result.1 in
    let ticket_is = c.ticket.ensures ∙ ap ticket_in c.into_parts-job.ensures.job in
    own_lacks g.W.Runs.meaning g.W.PartialEq.eq g.met.W.Runs.same_meaning layout s.number s.node p (job_in c.args.done) c.requires.own answer
    c.into_parts-job.ensures.answer c.end_job.result c.in-Err.answer c.in-Err.fault
    (subst (λ (ticket : ℕ). (c.end_job.result ≡ Err (answer, Ids)) ↔ (lacks_ids (put_by_job ticket answer s.node.block) s.node.block.exits ≡ true))
    ticket_is c.end_job.ensures.ids)
    c.in-Err.is c.in-Err.ensures.back
