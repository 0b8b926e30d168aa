use Rattle.std.proofs.Common.{◌≡◌, true}
use Rattle.flow_task.specs.Events.{Spends}
use Rattle.flow_task.specs.Laned.{LanesStayOut}
use Rattle.flow_task.specs.Tasks.{makes_of}
use Rattle.flow_task.proofs.task.BlockTask.use_lanes.Given as goal

-- it is the same block, this was spent, where there is nothing to spend the lanes are as they were, and what stands in them is out
abbrev pub invariant-loop-left : goal.invariant-loop-left
invariant-loop-left g l = record {
  of : l.self.of.value ≡ l.fn.self.of.value;
  number : l.self.number ≡ l.fn.self.number;
  ins : l.self.ins ≡ l.fn.self.ins;
  outs : l.self.outs ≡ l.fn.self.outs;
  note : l.self.note ≡ l.fn.self.note;
  unused : l.fn.left ≡ 0 → l.lanes ≡ l.fn.lanes;
  spends : Spends true (makes_of g.W.Runs.meaning l.fn.self) l.fn.left l.left l.fn.self.node l.self.node;
  out : LanesStayOut l.fn.self.node l.self.node l.fn.lanes l.lanes;
}

abbrev pub decreases-loop-left : goal.decreases-loop-left
decreases-loop-left g l = l.left
