use Rattle.std.proofs.Common.{◌≡◌}
use Rattle.flow_task.specs.Turns.{LooksIn}
use Rattle.flow_task.proofs.task.BlockTask.look_port.Given as goal

-- it is the same block, with the same journal, and so many have looked
abbrev pub invariant-loop-place : goal.invariant-loop-place
invariant-loop-place g l = record {
  of : l.self.of.value ≡ l.fn.self.of.value;
  number : l.self.number ≡ l.fn.self.number;
  looked : LooksIn l.port l.place l.fn.self.node l.self.node;
  journal : l.self.node.journal ≡ l.fn.self.node.journal;
}
