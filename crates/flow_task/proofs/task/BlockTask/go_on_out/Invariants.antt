use Rattle.std.proofs.Common.{◌≡◌, ℕ, ◌<◌, false}
use Rattle.flow_task.specs.Events.{Spends}
use Rattle.flow_task.specs.Tasks.{makes_of}
use Rattle.flow_task.specs.Turns.{OutIsStill}
use Rattle.flow_task.proofs.task.BlockTask.go_on_out.Given as goal

-- it is the same block, this was spent, and where nothing was, those before have no move
abbrev pub invariant-loop-place : goal.invariant-loop-place
invariant-loop-place g l = record {
  of : l.self.of.value ≡ l.fn.self.of.value;
  number : l.self.number ≡ l.fn.self.number;
  ins : l.self.ins ≡ l.fn.self.ins;
  spends : Spends false (makes_of g.W.Runs.meaning l.fn.self) l.fn.left l.left l.fn.self.node l.self.node;
  still : l.left ≡ l.fn.left → l.first ≡ 0 → (k : ℕ) → k < l.place → OutIsStill k l.fn.self.node l.self.outs.items;
}
