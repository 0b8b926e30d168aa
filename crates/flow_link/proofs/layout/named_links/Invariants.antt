use Rattle.std.proofs.Common.{◌≡◌, take}
use Rattle.flow_link.specs.Plan.{named_links}
use Rattle.flow_link.proofs.layout.named_links.Given as goal

abbrev pub invariant-loop-link : goal.invariant-loop-link
invariant-loop-link g l = l.named.items ≡ named_links l.blocks (take l.link-index l.links)
