use Rattle.std.proofs.Common.{◌≡◌, ◌≤◌}
use Rattle.flow_link.specs.Planned.{layout_of}
use Rattle.flow_block.specs.Planned.{exit_place}
use Rattle.flow_block.proofs.planned.exit_place.Given as goal

abbrev pub invariant-loop-earlier : goal.invariant-loop-earlier
invariant-loop-earlier g l = record {
  counted : l.place ≡ exit_place (layout_of l.plan) l.earlier;
  few : l.place ≤ l.earlier;
}
