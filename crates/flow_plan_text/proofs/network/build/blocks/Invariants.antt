use Rattle.std.proofs.Common.{take}
use Rattle.toml.specs.View.{items_view}
use Rattle.flow_plan_text.specs.Read.{AreEach, IsBlock}
use Rattle.flow_plan_text.proofs.network.build.blocks.Given as goal

-- the tables so far were read
abbrev pub invariant-loop-number : goal.invariant-loop-number
invariant-loop-number l = AreEach IsBlock (items_view (take l.number l.tables)) l.blocks.items
