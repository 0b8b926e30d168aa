use Rattle.std.proofs.Common.{ap, ◌∙◌, subst, IfSome}
use Rattle.once_cell.specs.Once.{Agrees}
use Rattle.flow_task.specs.Cells.{last_outcome}
use Rattle.flow_task.specs.Ended.{EndedBy}
use Rattle.flow_task.specs.Parts.{marks_by}
use Rattle.flow_task.specs.declared.numbered.Kind.{Kind}
use Rattle.flow_task.proofs.EndsTold.{agree}
use Rattle.flow_task.proofs.laws.same_end.Goals as goal

pub returns-in-Block-clause-agrees : goal.returns-in-Block-clause-agrees
returns-in-Block-clause-agrees g c ended how knows =
    let block = c.in-Block.task.block in
    let known = c.args.watch.now.note.known in
    let has = subst (λ (kind : Kind _ _ _). EndedBy kind) c.in-Block.is ended in
    let so = subst (λ n. IfSome n.known (Agrees known)) c.again.ensures.1 c.compare.ensures.1 in
    ap (λ (kind : Kind _ _ _). last_outcome (marks_by kind)) c.in-Block.is
    ∙ agree known block.note.known block.node.journal how has.0 has.1.1 so knows
