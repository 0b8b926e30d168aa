use Rattle.std.proofs.Common.{◌≡◌}
use Rattle.flow_task.specs.Events.{Spends}
use Rattle.flow_task.specs.Tasks.{makes_of}
use Rattle.flow_task.proofs.task.BlockTask.act_on.Given as goal

-- it is the same block, and this was spent
abbrev pub invariant-loop-left : goal.invariant-loop-left
invariant-loop-left g l = record {
  of : l.self.of.value ≡ l.fn.self.of.value;
  number : l.self.number ≡ l.fn.self.number;
  ins : l.self.ins ≡ l.fn.self.ins;
  spends : Spends l.policy.in_place (makes_of g.W.Runs.meaning l.fn.self) l.fn.left l.left l.fn.self.node l.self.node;
}

abbrev pub decreases-loop-left : goal.decreases-loop-left
decreases-loop-left g l = l.left
