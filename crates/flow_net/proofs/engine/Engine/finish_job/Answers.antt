use Rattle.std.proofs.Common.{Err, ap, is_none}
use Rattle.std.proofs.lemmas.Bool.{and_parts}
use Rattle.flow_link.specs.Planned.{layout_of}
use Rattle.flow_block.specs.Jobs.{is_out}
use Rattle.flow_core.specs.State.{node_at}
use Rattle.flow_exec.specs.Works.{works_of}
use Rattle.flow_moves.proofs.MerelyKept.{blocks_planned}
use Rattle.flow_net.proofs.EventsDone.{ended_is_after, ended_may, unended_may_not, ids_told}
use Rattle.flow_net.proofs.BlocksTell.{node_there}
use Rattle.flow_net.proofs.engine.Engine.finish_job.Goals as goal

pub finish_job-requires-clause-alone : goal.finish_job-requires-clause-alone
finish_job-requires-clause-alone g c =
    let old = c.args.self.now in
    let layout = layout_of old.plan in
    let meaning = works_of g.W.Runs.meaning layout in
    let block = (node_at old.parts c.args.number).block in
    let planned = blocks_planned layout meaning old.parts c.requires.kept c.args.number c.requires.enabled.there in
    planned.alone_at_work (planned.works c.args.ticket
    (and_parts (is_none block.stopped) (is_out c.args.ticket block.jobs) c.requires.enabled.would).1)

pub finish_job-requires-clause-works : goal.finish_job-requires-clause-works
finish_job-requires-clause-works g c =
    let old = c.args.self.now in
    let layout = layout_of old.plan in
    let meaning = works_of g.W.Runs.meaning layout in
    let block = (node_at old.parts c.args.number).block in
    (blocks_planned layout meaning old.parts c.requires.kept c.args.number c.requires.enabled.there).works c.args.ticket
    (and_parts (is_none block.stopped) (is_out c.args.ticket block.jobs) c.requires.enabled.would).1

pub finish_job-requires-clause-held : goal.finish_job-requires-clause-held
finish_job-requires-clause-held g c =
    let old = c.args.self.now in
    let layout = layout_of old.plan in
    let meaning = works_of g.W.Runs.meaning layout in
    (blocks_planned layout meaning old.parts c.requires.kept c.args.number c.requires.enabled.there).begun

pub finish_job-requires-clause-drained : goal.finish_job-requires-clause-drained
finish_job-requires-clause-drained g c =
    let old = c.args.self.now in
    let layout = layout_of old.plan in
    let meaning = works_of g.W.Runs.meaning layout in
    (blocks_planned layout meaning old.parts c.requires.kept c.args.number c.requires.enabled.there).drained

pub returns-clause-done : goal.returns-clause-done
returns-clause-done g c =
    let old = c.args.self.now in
    ended_is_after g.W.Runs.meaning (layout_of old.plan) old.parts c.requires.kept c.args.number c.requires.enabled.there _
    c.block.result.now c.block.ensures c.as_ref-work.ensures.value c.args.ticket c.finish_job.new.self
    c.in_ok-finish_job.ensures.done

pub returns-clause-may : goal.returns-clause-may
returns-clause-may g c =
    let old = c.args.self.now in
    ended_may g.W.Runs.meaning (layout_of old.plan) old.parts c.requires.kept c.args.number c.requires.enabled.there _
    c.block.result.now c.block.ensures c.as_ref-work.ensures.value c.args.ticket c.requires.enabled
    c.in_ok-finish_job.ensures.ids

pub returns-in_err-finish_job-clause-used_up : goal.returns-in_err-finish_job-clause-used_up
returns-in_err-finish_job-clause-used_up g c is =
    let old = c.args.self.now in
    let told = ids_told c.from_residual.result c.in_err-finish_job.field-0.0 c.from_residual.ensures.1 is in
    unended_may_not g.W.Runs.meaning (layout_of old.plan) old.parts c.requires.kept c.args.number
    c.requires.enabled.there _ c.block.result.now c.block.ensures c.as_ref-work.ensures.value c.args.ticket
    (c.in_err-finish_job.ensures.used_up (ap Err told))

pub finish_job-requires-clause-there : goal.finish_job-requires-clause-there
finish_job-requires-clause-there g c =
    node_there g.W.Runs.meaning c.args.self.now.plan c.args.self.now.parts c.requires.kept c.args.number c.requires.enabled.there
