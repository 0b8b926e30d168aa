use Rattle.std.proofs.Common.{◌≡◌, ◌≤◌, [], length, map, vec_len, vec_capacity}
use Rattle.flow_link.specs.Lists.{below}
use Rattle.flow_block.specs.Block.{port_at}
use Rattle.flow_task.specs.Dealt.{HasRooms}
use Rattle.flow_task.specs.Known.{in_known}
use Rattle.flow_task.proofs.room.room_of_ports.Given as goal

abbrev pub invariant-loop-port : goal.invariant-loop-port
invariant-loop-port l =
    (map (λ row. map in_known row.items) l.ports.items ≡ map (λ p. []) (below l.port))
    × (HasRooms vec_capacity (λ p. length (port_at p l.fn.block).ends) l.ports.items
    × ((vec_len l.ports ≡ l.port) × (length l.fn.block.ports ≤ vec_capacity l.ports)))
