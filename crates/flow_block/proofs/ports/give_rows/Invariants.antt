use Rattle.std.proofs.Common.{◌≡◌, ◌+◌, ◌++◌, take, drop, length, Some}
use Rattle.flow_link.specs.declared.draft.BlockKind.TheVariants.{BatchedJoin}
use Rattle.flow_block.specs.Block.{row_count, gives_each}
use Rattle.flow_block.specs.BlockFits.{AllGaveOut}
use Rattle.flow_block.proofs.ports.give_rows.Given as goal

abbrev pub invariant-loop-place : goal.invariant-loop-place
invariant-loop-place l =
    (gives_each l.room l.weight (row_count BatchedJoin (Some l.group)) 0 l.initial.ports.items
    ≡ take l.place l.ports.items ++ gives_each l.room l.weight (row_count BatchedJoin (Some l.group)) l.place (drop l.place l.ports.items))
    × AllGaveOut (l.room + l.weight) (drop l.place l.ports.items)
    × (length l.ports.items ≡ length l.initial.ports.items)
