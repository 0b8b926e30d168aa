use Rattle.std.proofs.Common.{◌≡◌, ◌≤◌}
use Rattle.flow_front.specs.Inputs.{layout_in}
use Rattle.flow_front.specs.Named.{inputs_before}
use Rattle.flow_front.proofs.inputs.Inputs.inputs_before.Given as goal

abbrev pub invariant-loop-number : goal.invariant-loop-number
invariant-loop-number g l = record {
  counted : l.count ≡ inputs_before (layout_in l.self) l.number;
  few : l.count ≤ l.number;
}
