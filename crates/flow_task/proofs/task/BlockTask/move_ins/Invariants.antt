use Rattle.std.proofs.Common.{◌≡◌, ℕ, ◌<◌, false}
use Rattle.flow_task.specs.Events.{Spends}
use Rattle.flow_task.specs.Tasks.{makes_of}
use Rattle.flow_task.specs.Turns.{PortIsStill}
use Rattle.flow_task.proofs.task.BlockTask.move_ins.Given as goal

-- it is the same block, this was spent, and where nothing was, those before have no move
abbrev pub invariant-loop-port : goal.invariant-loop-port
invariant-loop-port g l = record {
  of : l.self.of.value ≡ l.fn.self.of.value;
  number : l.self.number ≡ l.fn.self.number;
  spends : Spends false (makes_of g.W.Runs.meaning l.fn.self) l.fn.left l.left l.fn.self.node l.self.node;
  still : l.left ≡ l.fn.left → l.first ≡ 0 → l.place ≡ 0 → (k : ℕ) → k < l.port → PortIsStill k l.fn.self.node l.self.ins.items;
}
