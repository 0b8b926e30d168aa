use Rattle.std.proofs.Common.{take}
use Rattle.toml.specs.View.{items_view}
use Rattle.flow_plan_text.specs.Read.{AreEach, IsLink}
use Rattle.flow_plan_text.proofs.network.build.links.Given as goal

-- the tables so far were read
abbrev pub invariant-loop-number : goal.invariant-loop-number
invariant-loop-number l = AreEach IsLink (items_view (take l.number l.tables)) l.links.items
