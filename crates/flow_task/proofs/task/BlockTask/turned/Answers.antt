use Rattle.std.proofs.Common.{rules, ◌≡◌, true}
use Rattle.flow_link.specs.Planned.{layout_of}
use Rattle.flow_exec.specs.Works.{works_of}
use Rattle.flow_task.specs.Cells.{is_told}
use Rattle.flow_task.proofs.AllOver.{over_where_stopped}
use Rattle.flow_task.proofs.EndsTold.{stopped_where_told, told_is_last}
use Rattle.flow_task.proofs.task.BlockTask.turned.Goals as goal

pub returns-then-are_links_over-clause-ended : goal.returns-then-are_links_over-clause-ended
returns-then-are_links_over-clause-ended g c =
    let s = c.args.self.now in
    let layout = layout_of s.of.value.rest.plan in
    let told : is_told s.note.known s.node.block.stopped ≡ true = search rules in
    λ ended. over_where_stopped layout (works_of g.W.Runs.meaning layout) s.number s.node s.law
    (stopped_where_told s.note.known s.node.block.stopped told)

pub returns-then-are_links_over-clause-told : goal.returns-then-are_links_over-clause-told
returns-then-are_links_over-clause-told g c =
    let s = c.args.self.now in
    let layout = layout_of s.of.value.rest.plan in
    let told : is_told s.note.known s.node.block.stopped ≡ true = search rules in
    λ ended. told_is_last layout (works_of g.W.Runs.meaning layout) s.number s.node s.note.known s.law told
