use Rattle.std.proofs.Common.{◌≡◌, ◌↔◌, ℕ, true, List, Result, Err, ap, sym, subst, ◌∙◌, is_none}
use Rattle.std.proofs.lemmas.Bool.{and_parts}
use Rattle.flow_value.specs.declared.value.Value.{Value}
use Rattle.flow_link.specs.Planned.{layout_of}
use Rattle.flow_outlet.specs.Outlet.{lacks_ids}
use Rattle.flow_outlet.specs.declared.fault.OutletFault.{OutletFault}
use Rattle.flow_outlet.specs.declared.fault.OutletFault.TheVariants.{Ids}
use Rattle.flow_block.specs.Block.{ends_job, put_by_job}
use Rattle.flow_block.specs.Jobs.{is_out}
use Rattle.flow_block.specs.Node.{NodeState, with_block}
use Rattle.flow_core.specs.Events.{with_node}
use Rattle.flow_core.specs.State.{node_at}
use Rattle.flow_exec.specs.Jobs.{ticket_in}
use Rattle.flow_exec.specs.Results.{job_in}
use Rattle.flow_exec.specs.Works.{works_of}
use Rattle.flow_exec.specs.declared.job.Job.{Job}
use Rattle.flow_moves.proofs.MerelyKept.{blocks_planned}
use Rattle.flow_net.specs.OwnJobs.{IsOwnJob}
use Rattle.flow_net.proofs.BlocksTell.{node_there}
use Rattle.flow_net.proofs.EventsRefused.{ids_of_outlet, not_ids_of_outlet}
use Rattle.flow_net.proofs.JobsReturn.{returned_is_after, returned_may, returned_lacks, returned_has}
use Rattle.flow_net.proofs.engine.Engine.end_job.Goals as goal

pub end_job-requires-clause-alone : goal.end_job-requires-clause-alone
end_job-requires-clause-alone g c =
    let now = c.args.self.now in
    let own = subst (λ (job : Job _). IsOwnJob g.W.PartialEq.eq (layout_of now.plan) now.parts c.args.number job)
    c.job.ensures (c.is_own_job.ensures.0 c.if-not-is_own_job.false) in
    let planned = blocks_planned (layout_of now.plan) (works_of g.W.Runs.meaning (layout_of now.plan)) now.parts
    c.requires.kept c.args.number own.there in
    let block = (node_at now.parts c.args.number).block in
    let ticket = ticket_in (job_in c.args.done) in
    planned.alone_at_work (planned.works ticket (and_parts (is_none block.stopped) (is_out ticket block.jobs) own.out).1)

pub end_job-requires-clause-works : goal.end_job-requires-clause-works
end_job-requires-clause-works g c =
    let now = c.args.self.now in
    let own = subst (λ (job : Job _). IsOwnJob g.W.PartialEq.eq (layout_of now.plan) now.parts c.args.number job)
    c.job.ensures (c.is_own_job.ensures.0 c.if-not-is_own_job.false) in
    let planned = blocks_planned (layout_of now.plan) (works_of g.W.Runs.meaning (layout_of now.plan)) now.parts
    c.requires.kept c.args.number own.there in
    let block = (node_at now.parts c.args.number).block in
    let ticket = ticket_in (job_in c.args.done) in
    planned.works ticket (and_parts (is_none block.stopped) (is_out ticket block.jobs) own.out).1

pub end_job-requires-clause-held : goal.end_job-requires-clause-held
end_job-requires-clause-held g c =
    let now = c.args.self.now in
    let own = subst (λ (job : Job _). IsOwnJob g.W.PartialEq.eq (layout_of now.plan) now.parts c.args.number job)
    c.job.ensures (c.is_own_job.ensures.0 c.if-not-is_own_job.false) in
    let planned = blocks_planned (layout_of now.plan) (works_of g.W.Runs.meaning (layout_of now.plan)) now.parts
    c.requires.kept c.args.number own.there in
    planned.begun

pub end_job-requires-clause-drained : goal.end_job-requires-clause-drained
end_job-requires-clause-drained g c =
    let now = c.args.self.now in
    let own = subst (λ (job : Job _). IsOwnJob g.W.PartialEq.eq (layout_of now.plan) now.parts c.args.number job)
    c.job.ensures (c.is_own_job.ensures.0 c.if-not-is_own_job.false) in
    let planned = blocks_planned (layout_of now.plan) (works_of g.W.Runs.meaning (layout_of now.plan)) now.parts
    c.requires.kept c.args.number own.there in
    planned.drained

pub returns-in-Ok-clause-done : goal.returns-in-Ok-clause-done
returns-in-Ok-clause-done g c =
    let now = c.args.self.now in
    let own = subst (λ (job : Job _). IsOwnJob g.W.PartialEq.eq (layout_of now.plan) now.parts c.args.number job)
    c.job.ensures (c.is_own_job.ensures.0 c.if-not-is_own_job.false) in
    let ticket_is = c.ticket-ticket.ensures ∙ ap ticket_in c.into_parts-job.ensures.job in
    let works = g.met.W.Runs in
    let answer = c.into_parts-job.result.1 in
    returned_is_after g.W.Runs.meaning g.W.PartialEq.eq works.same_meaning (layout_of now.plan) now.parts c.requires.kept
    c.args.number (job_in c.args.done) own answer c.end_job.new.self c.into_parts-job.ensures.answer
    (c.in-Ok.ensures.done
    ∙ ap (λ (ticket : ℕ). with_node c.args.number
    (λ (node : NodeState). with_block (ends_job ticket answer node.block) node) now.parts) ticket_is)

pub returns-in-Ok-clause-may : goal.returns-in-Ok-clause-may
returns-in-Ok-clause-may g c =
    let now = c.args.self.now in
    let own = subst (λ (job : Job _). IsOwnJob g.W.PartialEq.eq (layout_of now.plan) now.parts c.args.number job)
    c.job.ensures (c.is_own_job.ensures.0 c.if-not-is_own_job.false) in
    let ticket_is = c.ticket-ticket.ensures ∙ ap ticket_in c.into_parts-job.ensures.job in
    let works = g.met.W.Runs in
    let answer = c.into_parts-job.result.1 in
    let block = (node_at now.parts c.args.number).block in
    returned_may g.W.Runs.meaning g.W.PartialEq.eq works.same_meaning (layout_of now.plan) now.parts c.requires.kept
    c.args.number (job_in c.args.done) own c.end_job.result (answer, Ids) answer _ c.into_parts-job.ensures.answer
    (subst (λ (ticket : ℕ). (c.end_job.result ≡ Err (answer, Ids)) ↔ (lacks_ids (put_by_job ticket answer block) block.exits ≡ true))
    ticket_is c.end_job.ensures.ids)
    c.in-Ok.is

pub returns-in-Err-clause-back : goal.returns-in-Err-clause-back
returns-in-Err-clause-back g c =
    c.new.ensures.only c.args.done (sym (c.new.ensures.job ∙ c.into_parts-job.ensures.job))

pub returns-in-Ok-clause-own : goal.returns-in-Ok-clause-own
returns-in-Ok-clause-own g c =
    let now = c.args.self.now in
    subst (λ (job : Job _). IsOwnJob g.W.PartialEq.eq (layout_of now.plan) now.parts c.args.number job)
    c.job.ensures (c.is_own_job.ensures.0 c.if-not-is_own_job.false)

pub returns-in-Err-clause-refused_own : goal.returns-in-Err-clause-refused_own
returns-in-Err-clause-refused_own g c other =
    let now = c.args.self.now in
    subst (λ (job : Job _). IsOwnJob g.W.PartialEq.eq (layout_of now.plan) now.parts c.args.number job)
    c.job.ensures (c.is_own_job.ensures.0 c.if-not-is_own_job.false)

pub returns-in-Err-clause-used_up : goal.returns-in-Err-clause-used_up
returns-in-Err-clause-used_up g c is_ids =
    let now = c.args.self.now in
    let own = subst (λ (job : Job _). IsOwnJob g.W.PartialEq.eq (layout_of now.plan) now.parts c.args.number job)
    c.job.ensures (c.is_own_job.ensures.0 c.if-not-is_own_job.false) in
    let ticket_is = c.ticket-ticket.ensures ∙ ap ticket_in c.into_parts-job.ensures.job in
    let works = g.met.W.Runs in
    let answer = c.into_parts-job.result.1 in
    let block = (node_at now.parts c.args.number).block in
    let refused = subst (λ (made : Result (List Value) ℕ). c.end_job.result ≡ Err (made, c.in-Err.fault))
    c.in-Err.ensures.back c.in-Err.is in
    let refused_for_ids = subst (λ (fault : OutletFault). c.end_job.result ≡ Err (answer, fault))
    (ids_of_outlet c.in-Err.fault (sym c.from.ensures ∙ is_ids)) refused in
    returned_lacks g.W.Runs.meaning g.W.PartialEq.eq works.same_meaning (layout_of now.plan) now.parts c.requires.kept
    c.args.number (job_in c.args.done) own c.end_job.result (answer, Ids) answer c.into_parts-job.ensures.answer
    (subst (λ (ticket : ℕ). (c.end_job.result ≡ Err (answer, Ids)) ↔ (lacks_ids (put_by_job ticket answer block) block.exits ≡ true))
    ticket_is c.end_job.ensures.ids)
    refused_for_ids

pub returns-in-Err-clause-ids : goal.returns-in-Err-clause-ids
returns-in-Err-clause-ids g c is_memory =
    let now = c.args.self.now in
    let own = subst (λ (job : Job _). IsOwnJob g.W.PartialEq.eq (layout_of now.plan) now.parts c.args.number job)
    c.job.ensures (c.is_own_job.ensures.0 c.if-not-is_own_job.false) in
    let ticket_is = c.ticket-ticket.ensures ∙ ap ticket_in c.into_parts-job.ensures.job in
    let works = g.met.W.Runs in
    let answer = c.into_parts-job.result.1 in
    let block = (node_at now.parts c.args.number).block in
    let refused = subst (λ (made : Result (List Value) ℕ). c.end_job.result ≡ Err (made, c.in-Err.fault))
    c.in-Err.ensures.back c.in-Err.is in
    returned_has g.W.Runs.meaning g.W.PartialEq.eq works.same_meaning (layout_of now.plan) now.parts c.requires.kept
    c.args.number (job_in c.args.done) own c.end_job.result (answer, Ids) (answer, c.in-Err.fault) answer c.into_parts-job.ensures.answer
    (subst (λ (ticket : ℕ). (c.end_job.result ≡ Err (answer, Ids)) ↔ (lacks_ids (put_by_job ticket answer block) block.exits ≡ true))
    ticket_is c.end_job.ensures.ids)
    refused
    (λ same. not_ids_of_outlet c.in-Err.fault (sym c.from.ensures ∙ is_memory) (ap (λ (pair : Result (List Value) ℕ × OutletFault). pair.1) same))

pub end_job-requires-clause-there : goal.end_job-requires-clause-there
end_job-requires-clause-there g c =
    let now = c.args.self.now in
    let own = subst (λ (job : Job _). IsOwnJob g.W.PartialEq.eq (layout_of now.plan) now.parts c.args.number job)
    c.job.ensures (c.is_own_job.ensures.0 c.if-not-is_own_job.false) in
    node_there g.W.Runs.meaning now.plan now.parts c.requires.kept c.args.number own.there
