use Rattle.std.proofs.Common.{List, ap, ◌∙◌}
use Rattle.flow_value.specs.declared.value.Value.{Value}
use Rattle.flow_intake.specs.Calls.{takes_next}
use Rattle.flow_block.proofs.GroupsTaken.{drop_next}
use Rattle.flow_block.proofs.ports.drop_group.Goals as goal

pub loop-taken-preserved : goal.loop-taken-preserved
loop-taken-preserved c =
    let port = c.args.port.now in
    c.drop_next.ensures
    ∙ ap takes_next c.loop-taken.invariant
    ∙ ap (λ (waiting : List Value). record port { waiting = waiting }) (drop_next c.loop-taken._taken port.waiting)
