use Rattle.std.proofs.Common.{◌≡◌}
use Rattle.flow_task.specs.Turns.{PortsLook}
use Rattle.flow_task.proofs.task.BlockTask.look_ins.Given as goal

-- it is the same block, with the same journal, and so many have looked
abbrev pub invariant-loop-port : goal.invariant-loop-port
invariant-loop-port g l = record {
  of : l.self.of.value ≡ l.fn.self.of.value;
  number : l.self.number ≡ l.fn.self.number;
  looked : PortsLook l.port l.fn.self.node l.self.node;
  journal : l.self.node.journal ≡ l.fn.self.node.journal;
}
