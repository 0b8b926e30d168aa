use Rattle.std.proofs.Common.{◌≡◌}
use Rattle.flow_task.specs.Turns.{LooksOut}
use Rattle.flow_task.proofs.task.BlockTask.look_outs.Given as goal

-- it is the same block, with the same journal, and so many have looked
abbrev pub invariant-loop-place : goal.invariant-loop-place
invariant-loop-place g l = record {
  of : l.self.of.value ≡ l.fn.self.of.value;
  number : l.self.number ≡ l.fn.self.number;
  looked : LooksOut l.place l.fn.self.node l.self.node;
  journal : l.self.node.journal ≡ l.fn.self.node.journal;
}
