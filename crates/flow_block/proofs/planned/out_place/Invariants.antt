use Rattle.std.proofs.Common.{◌≡◌, ◌≤◌}
use Rattle.flow_link.specs.Planned.{layout_of}
use Rattle.flow_block.specs.Planned.{out_place}
use Rattle.flow_block.proofs.planned.out_place.Given as goal

abbrev pub invariant-loop-earlier : goal.invariant-loop-earlier
invariant-loop-earlier g l = record {
  counted : l.place ≡ out_place (layout_of l.plan) l.block l.earlier;
  few : l.place ≤ l.earlier;
}
