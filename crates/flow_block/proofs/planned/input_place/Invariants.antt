use Rattle.std.proofs.Common.{◌≡◌, ◌≤◌}
use Rattle.flow_link.specs.Planned.{layout_of}
use Rattle.flow_block.specs.Planned.{input_place}
use Rattle.flow_block.proofs.planned.input_place.Given as goal

abbrev pub invariant-loop-earlier : goal.invariant-loop-earlier
invariant-loop-earlier g l = record {
  counted : l.place ≡ input_place (layout_of l.plan) l.earlier;
  few : l.place ≤ l.earlier;
}
