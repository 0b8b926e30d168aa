use Rattle.std.proofs.Common.{◌≡◌, ◌≤◌, [], length, map, get_or, vec_len, vec_capacity}
use Rattle.flow_link.specs.Lists.{below}
use Rattle.flow_core.specs.MovesFit.{out_count}
use Rattle.flow_core.specs.State.{no_node}
use Rattle.flow_task.specs.Dealt.{HasRooms}
use Rattle.flow_task.specs.Known.{out_known}
use Rattle.flow_task.proofs.sources.Sources.with_room.Given as goal

abbrev pub invariant-loop-node : goal.invariant-loop-node
invariant-loop-node l =
    (map (λ row. map out_known row.items) l.outs.items ≡ map (λ b. []) (below l.node-index))
    × (HasRooms vec_capacity (λ b. out_count (get_or l.fn.nodes b no_node)) l.outs.items
    × ((vec_len l.outs ≡ l.node-index) × (length l.fn.nodes ≤ vec_capacity l.outs)))
