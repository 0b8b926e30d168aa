use Rattle.std.proofs.Common.{◌≡◌, length, take}
use Rattle.flow_link.specs.Plan.{named_links}
use Rattle.flow_link.proofs.layout.name_links.Given as goal

abbrev pub invariant-loop-place : goal.invariant-loop-place
invariant-loop-place g l = record {
  same_length : length l.room ≡ length l.initial.room;
  named : take l.place l.room ≡ named_links l.blocks (take l.place l.links);
}
