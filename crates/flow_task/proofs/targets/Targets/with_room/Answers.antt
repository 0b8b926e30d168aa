use Rattle.std.proofs.Common.{rules, ◌≡◌, ◌<◌, [], length, map, get_or, vec_capacity, sym, ap, ◌∙◌, subst, arith}
use Rattle.flow_link.specs.Lists.{below}
use Rattle.flow_block.specs.Block.{BlockState, port_at}
use Rattle.flow_block.specs.Node.{NodeState}
use Rattle.flow_core.specs.MovesFit.{in_count}
use Rattle.flow_core.specs.State.{no_node}
use Rattle.flow_task.specs.Dealt.{HasRooms, HasRoomsIn}
use Rattle.flow_task.specs.Known.{in_known}
use Rattle.flow_task.proofs.Dealing.{pushed_more, each_more}
use Rattle.std.proofs.lemmas.List.{get_or_default}
use Rattle.flow_task.proofs.targets.Targets.with_room.Goals as goal

pub loop-node-preserved : goal.loop-node-preserved
loop-node-preserved c =
    let i = c.loop-node.invariant in
    let nodes = c.args.nodes.now in
    let ins = c.loop-node.ins.items in
    let k = c.loop-node.node-index in
    let ports = c.in_ok-room_of_ports.field-0 in
    let grown = c.push_reserved.ensures.items in
    let long : length ins ≡ k = omega (arith, i.1.1.0, c.loop-node.ins.ok.0) in
    let node : get_or nodes k no_node ≡ c.node-item.result =
    (let low : k < length nodes = search rules in sym (c.node-item.is ∙ get_or_default nodes k c.node-item.result no_node low)) in
    let block : c.block.result.now ≡ (get_or nodes k no_node).block = c.block.ensures ∙ ap (λ (it : NodeState). it.block) (sym node) in
    let rooms : HasRooms vec_capacity (λ p. in_count p (get_or nodes (length ins) no_node)) ports.items =
    subst (λ n. HasRooms vec_capacity (λ p. in_count p (get_or nodes n no_node)) ports.items) (sym long)
    (subst (λ (it : BlockState). HasRooms vec_capacity (λ p. length (port_at p it).ends) ports.items) block c.in_ok-room_of_ports.ensures.rooms) in (
      ap (map (λ b. map (λ r. map in_known r.items) b.items)) grown
          ∙ pushed_more (λ b. map (λ r. map in_known r.items) b.items) (λ b. map (λ p. []) (below (length (get_or nodes b no_node).block.ports)))
          k ins ports i.0
          (c.in_ok-room_of_ports.ensures.ports ∙ ap (λ (it : BlockState). map (λ p. []) (below (length it.ports))) block),
      (
        subst (HasRoomsIn (λ b. b.items) vec_capacity (λ b p. in_count p (get_or nodes b no_node))) (sym grown)
            (each_more (λ b its. HasRooms vec_capacity (λ p. in_count p (get_or nodes b no_node)) its.items) ins ports i.1.0 rooms),
        search rules,
      ),
    )
