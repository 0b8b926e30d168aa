use Rattle.std.proofs.Common.{◌≤◌, ℕ, ◌+◌, Some, map, ap, sym, ◌∙◌, arith}
use Rattle.flow_link.specs.Kinds.{makes_groups}
use Rattle.flow_intake.specs.Calls.{gives_room}
use Rattle.flow_outlet.specs.Fits.{weight_of}
use Rattle.flow_block.specs.Block.{row_count}
use Rattle.flow_block.specs.BlockFits.{weight_out}
use Rattle.flow_block.specs.Copies.{copies_weight}
use Rattle.flow_block.proofs.RoomFits.{all_less, none_beside, no_rows}
use Rattle.flow_block.proofs.ports.bring_back.Goals as goal

pub give_room-requires : goal.give_room-requires
give_room-requires c =
    let exits = c.args.exits.now in
    let room = c.room_back-room.ensures.room in
    let some : c.room_back-room.result ≤ weight_out exits (copies_weight c.args.copies.now) = omega (arith, room) in
    all_less (weight_out exits (copies_weight c.args.copies.now)) c.room_back-room.result c.args.ports.now.items some c.requires

pub returns-else-makes_groups-clause-back : goal.returns-else-makes_groups-clause-back
returns-else-makes_groups-clause-back c =
    let exits = c.args.exits.now in
    let ports = c.args.ports.now.items in
    let counts = row_count c.args.kind (Some c.args.head.now) in
    c.give_room.ensures
    ∙ ap (λ (room : ℕ). map (gives_room room) ports) c.room_back-room.ensures.room
    ∙ none_beside exits.room (weight_of exits.groups + copies_weight c.args.copies.now) counts 0 ports
    (no_rows c.args.kind (Some c.args.head.now) (ap makes_groups (sym c.unit.ensures) ∙ sym c.makes_groups.ensures ∙ c.if-makes_groups.false))
