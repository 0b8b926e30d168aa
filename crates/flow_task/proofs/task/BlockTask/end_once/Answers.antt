use Rattle.std.proofs.Common.{◌≡◌, true, OnOk, refl, subst}
use Rattle.std.proofs.lemmas.Grind.{merely}
use Rattle.std.proofs.lemmas.Result.{on_ok_weaker}
use Rattle.flow_link.specs.Planned.{layout_of}
use Rattle.flow_block.specs.Block.{BlockState}
use Rattle.flow_block.specs.Peeks.{may_end}
use Rattle.flow_block.specs.Planned.{block_makes}
use Rattle.flow_exec.specs.Works.{works_of}
use Rattle.flow_task.specs.Events.{BlockEvent, HasEvent}
use Rattle.flow_task.specs.Tasks.{makes_of}
use Rattle.flow_task.proofs.TurnsHappen.{undone_does}
use Rattle.flow_task.proofs.TurnsStill.{jobs_done}
use Rattle.flow_task.proofs.task.BlockTask.end_once.Goals as goal

pub returns-in-Some-clause-does : goal.returns-in-Some-clause-does
returns-in-Some-clause-does g c =
    let s = c.args.self.now in
    let makes = makes_of g.W.Runs.meaning s in
    let old = s.node in
    let new = c.finish_job-done.new.self.node in
    let ticket = c.in-Some.ticket in
    let out = subst (λ (b : BlockState). may_end ticket b ≡ true) c.block.ensures c.in-Some.ensures.some in
    let event : OnOk c.finish_job-done.result (∥ HasEvent true makes old new ∥₁) =
    on_ok_weaker c.finish_job-done.result (λ is. merely (BlockEvent.end_job ticket, record { comes = (refl, out); leaves = is })) c.finish_job-done.ensures.ended in
    undone_does true makes c.finish_job-done.result c.left_undone.result old new c.left_undone.ensures.done c.left_undone.ensures.not_done event
    c.finish_job-done.ensures.kept

pub returns-in-Some-clause-still : goal.returns-in-Some-clause-still
returns-in-Some-clause-still g c =
    let s = c.args.self.now in
    let layout = layout_of s.of.value.rest.plan in
    let ticket = c.in-Some.ticket in
    let out = subst (λ (b : BlockState). may_end ticket b ≡ true) c.block.ensures c.in-Some.ensures.some in
    jobs_done c.left_undone.result c.finish_job-done.result (block_makes layout (works_of g.W.Runs.meaning layout) s.number) s.node ticket out
    c.finish_job-done.ensures.used_up c.left_undone.ensures.ids
