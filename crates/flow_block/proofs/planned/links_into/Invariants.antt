use Rattle.std.proofs.Common.{◌≡◌, ◌≤◌, take}
use Rattle.flow_link.specs.Plan.{links_into}
use Rattle.flow_link.specs.Planned.{layout_of}
use Rattle.flow_block.proofs.planned.links_into.Given as goal

abbrev pub invariant-loop-id : goal.invariant-loop-id
invariant-loop-id g l = record {
  counted : l.count ≡ links_into l.block (take l.id (layout_of l.plan).links);
  few : l.count ≤ l.id;
}
