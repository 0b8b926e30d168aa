use Rattle.std.proofs.Common.{rules, ◌∙◌}
use Rattle.flow_reading.proofs.PortsGrow.{ports_step}
use Rattle.flow_reading.proofs.report.read_ports.Goals as goal

pub loop-ports-preserved : goal.loop-ports-preserved
loop-ports-preserved c =
    let found = rw c.in-Some.is at c.in_ok-number.ensures in
    rw c.in_ok-push.ensures.items
    (ports_step _ _ _ _ _ _ _ c.loop-ports.invariant found c.in_ok-held.ensures (c.if-number-len.false ∙ c.len.ensures ∙ search rules))
