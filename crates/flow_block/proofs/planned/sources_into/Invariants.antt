use Rattle.std.proofs.Common.{◌≡◌, map, filter}
use Rattle.flow_link.specs.Lists.{below}
use Rattle.flow_link.specs.Planned.{layout_of}
use Rattle.flow_block.specs.Planned.{enters, source_by}
use Rattle.flow_block.proofs.planned.sources_into.Given as goal

abbrev pub invariant-loop-id : goal.invariant-loop-id
invariant-loop-id g l =
    l.sources.items ≡ map (source_by (layout_of l.plan)) (filter (enters (layout_of l.plan) l.block) (below l.id))
