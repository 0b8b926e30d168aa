use Rattle.std.proofs.Common.{◌≡◌, ◌≤◌}
use Rattle.flow_link.specs.Planned.{layout_of}
use Rattle.flow_block.specs.Planned.{input_place}
use Rattle.flow_net.proofs.engine.Engine.input.Given as goal

abbrev pub invariant-loop-number : goal.invariant-loop-number
invariant-loop-number g l = record {
  counted : l.place ≡ input_place (layout_of l.self.plan) l.number;
  few : l.place ≤ l.number;
}
