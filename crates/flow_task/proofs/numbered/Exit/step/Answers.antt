use Rattle.std.proofs.Common.{Some, sym, ap, ◌∙◌}
use Rattle.flow_link.specs.declared.phase.Move.{Move}
use Rattle.flow_link.specs.declared.phase.Move.TheVariants.{Open}
use Rattle.flow_task.proofs.numbered.Exit.step.Goals as goal

pub returns-in-Some-Open-clause-steps : goal.returns-in-Some-Open-clause-steps
returns-in-Some-Open-clause-steps g c = record {
  next = Open;
  slot = Some c.open.ensures.opened.0;
  comes = sym c.next_move.ensures ∙ c.in-Some-Open.is ∙ ap (λ (next : Move). Some next) c.in-Some-Open.field-0-is;
  leaves = c.open.ensures.opened.1;
}
