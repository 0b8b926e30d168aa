-- A batched join in which nothing has happened: it has made nothing, and holds nothing.
use Rattle.std.specs.Prelude.{ℕ, []}
use Rattle.flow_link.specs.Layout.{Layout}
use Rattle.flow_block_law.specs.GroupsLaw.{KeepsGroups, WholeBefore}
use Rattle.flow_block.specs.Planned.{fresh_node}

abbrev pub FreshGroups : Type 0 → Type 0
FreshGroups W =
    (layout : Layout W) (b size count : ℕ) → KeepsGroups size [] (fresh_node layout b).block [] × WholeBefore count size []
