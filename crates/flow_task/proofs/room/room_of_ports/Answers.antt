use Rattle.std.proofs.Common.{rules, ◌≡◌, ◌≤◌, [], length, map, vec_capacity, sym, ap, ◌∙◌, subst, arith}
use Rattle.flow_block.specs.Block.{port_at}
use Rattle.flow_task.specs.Dealt.{HasRooms}
use Rattle.flow_task.specs.Known.{in_known}
use Rattle.flow_task.proofs.Dealing.{pushed_more, each_more}
use Rattle.flow_task.proofs.room.room_of_ports.Goals as goal

pub loop-port-preserved : goal.loop-port-preserved
loop-port-preserved c =
    let i = c.loop-port.invariant in
    let ports = c.loop-port.ports.items in
    let row = c.in_ok-with_capacity.field-0 in
    let block = c.args.block.now in
    let grown = c.push_reserved.ensures.items in
    let none : row.items ≡ [] = search rules in
    let long : length ports ≡ c.loop-port.port = omega (arith, i.1.1.0, c.loop-port.ports.ok.0) in
    let wide : length (port_at (length ports) block).ends ≤ vec_capacity row =
    subst (λ n. length (port_at n block).ends ≤ vec_capacity row) (sym long) (search rules) in (
      ap (map (λ r. map in_known r.items)) grown
          ∙ pushed_more (λ r. map in_known r.items) (λ p. []) c.loop-port.port ports row i.0 (ap (map in_known) none),
      (
        subst (HasRooms vec_capacity (λ p. length (port_at p block).ends)) (sym grown)
            (each_more (λ p r. length (port_at p block).ends ≤ vec_capacity r) ports row i.1.0 wide),
        search rules,
      ),
    )
