use Rattle.std.proofs.Common.{◌≡◌, ◌++◌, drop}
use Rattle.flow_link.specs.Layout.{input_links}
use Rattle.flow_link.proofs.layout.push_input_links.Given as goal

abbrev pub invariant-loop-place : goal.invariant-loop-place
invariant-loop-place g l = l.links.items ++ input_links l.place (drop l.place l.blocks) ≡ l.initial.links.items ++ input_links 0 l.blocks
