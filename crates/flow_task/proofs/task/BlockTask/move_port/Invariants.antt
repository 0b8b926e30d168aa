use Rattle.std.proofs.Common.{◌≡◌, ℕ, ◌<◌, false}
use Rattle.flow_task.specs.Events.{Spends}
use Rattle.flow_task.specs.Misses.{InsMissStill}
use Rattle.flow_task.specs.Tasks.{makes_of}
use Rattle.flow_task.specs.Turns.{InIsStill}
use Rattle.flow_task.proofs.task.BlockTask.move_port.Given as goal

-- it is the same block, this was spent, and where nothing was, those before have no move
abbrev pub invariant-loop-place : goal.invariant-loop-place
invariant-loop-place g l = record {
  of : l.self.of.value ≡ l.fn.self.of.value;
  number : l.self.number ≡ l.fn.self.number;
  spends : Spends false (makes_of g.W.Runs.meaning l.fn.self) l.fn.left l.left l.fn.self.node l.self.node;
  still : l.left ≡ l.fn.left → l.first ≡ 0 → (k : ℕ) → k < l.place → InIsStill l.port k l.fn.self.node l.self.ins.items;
  others : l.left ≡ l.fn.left → InsMissStill l.fn.self.ins.items l.self.ins.items;
}
