use Rattle.std.proofs.Common.{◌≡◌, ℕ, ◌<◌, length, map, arith, subst, sym}
use Rattle.std.proofs.lemmas.List.Edits.{map_over_more}
use Rattle.flow_intake.specs.Calls.{gives_room}
use Rattle.flow_block.proofs.RoomFits.{next_out}
use Rattle.flow_block.proofs.PortsChange.{no_room_back}
use Rattle.flow_block.proofs.ports.give_room.Goals as goal

pub returns-then-room-eq0 : goal.returns-then-room-eq0
returns-then-room-eq0 c =
    let ports = c.args.ports.now.items in
    subst (λ (room : ℕ). ports ≡ map (gives_room room) ports) (sym c.if-room-eq0.true) (no_room_back ports)

pub give_room-requires : goal.give_room-requires
give_room-requires c =
    let here : c.loop-place.place < length c.args.ports.now.items = omega (arith, c.loop-place-test.true, c.len-place-end.ensures, c.args.ports.now.ok) in
    next_out c.args.room c.args.ports.now.items c.loop-place.ports.items c.loop-place.place _ c.requires here c.loop-place.invariant c.index_mut.ensures.value

pub loop-place-preserved : goal.loop-place-preserved
loop-place-preserved c =
    let here : c.loop-place.place < length c.args.ports.now.items = omega (arith, c.loop-place-test.true, c.len-place-end.ensures, c.args.ports.now.ok) in
    rw c.give_room.ensures (map_over_more (gives_room c.args.room) c.args.ports.now.items c.loop-place.ports.items c.loop-place.place _ here c.loop-place.invariant c.index_mut.ensures.value)
