use Rattle.std.proofs.Common.{◌≡◌, ◌≤◌, [], length, map, get_or, vec_len, vec_capacity}
use Rattle.flow_link.specs.Lists.{below}
use Rattle.flow_core.specs.MovesFit.{in_count}
use Rattle.flow_core.specs.State.{no_node}
use Rattle.flow_task.specs.Dealt.{HasRoomsIn}
use Rattle.flow_task.specs.Known.{in_known}
use Rattle.flow_task.proofs.targets.Targets.with_room.Given as goal

abbrev pub invariant-loop-node : goal.invariant-loop-node
invariant-loop-node l =
    (map (λ ports. map (λ row. map in_known row.items) ports.items) l.ins.items
    ≡ map (λ b. map (λ p. []) (below (length (get_or l.fn.nodes b no_node).block.ports))) (below l.node-index))
    × (HasRoomsIn (λ ports. ports.items) vec_capacity (λ b p. in_count p (get_or l.fn.nodes b no_node)) l.ins.items
    × ((vec_len l.ins ≡ l.node-index) × (length l.fn.nodes ≤ vec_capacity l.ins)))
