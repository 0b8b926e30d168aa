use Rattle.std.proofs.Common.{rules, ◌≡◌, ◌≤◌, ◌<◌, [], length, map, get_or, vec_capacity, sym, ap, ◌∙◌, subst, arith}
use Rattle.flow_block.specs.Node.{NodeState}
use Rattle.flow_core.specs.MovesFit.{out_count}
use Rattle.flow_core.specs.State.{no_node}
use Rattle.flow_task.specs.Dealt.{HasRooms}
use Rattle.flow_task.specs.Known.{out_known}
use Rattle.flow_task.proofs.Dealing.{pushed_more, each_more}
use Rattle.std.proofs.lemmas.List.{get_or_default}
use Rattle.flow_task.proofs.sources.Sources.with_room.Goals as goal

pub loop-node-preserved : goal.loop-node-preserved
loop-node-preserved c =
    let i = c.loop-node.invariant in
    let nodes = c.args.nodes.now in
    let outs = c.loop-node.outs.items in
    let k = c.loop-node.node-index in
    let row = c.in_ok-with_capacity.field-0 in
    let grown = c.push_reserved.ensures.items in
    let none : row.items ≡ [] = search rules in
    let long : length outs ≡ k = omega (arith, i.1.1.0, c.loop-node.outs.ok.0) in
    let node : get_or nodes k no_node ≡ c.node-item.result =
    (let low : k < length nodes = search rules in sym (c.node-item.is ∙ get_or_default nodes k c.node-item.result no_node low)) in
    let count : c.count_out.result ≡ out_count c.node-item.result = search rules in
    let room : c.count_out.result ≤ vec_capacity row = search rules in
    let wide : out_count (get_or nodes (length outs) no_node) ≤ vec_capacity row =
    subst (λ n. out_count (get_or nodes n no_node) ≤ vec_capacity row) (sym long)
    (subst (λ (it : NodeState). out_count it ≤ vec_capacity row) (sym node) (subst (λ n. n ≤ vec_capacity row) count room)) in (
      ap (map (λ r. map out_known r.items)) grown
          ∙ pushed_more (λ r. map out_known r.items) (λ b. []) k outs row i.0 (ap (map out_known) none),
      (
        subst (HasRooms vec_capacity (λ b. out_count (get_or nodes b no_node))) (sym grown)
            (each_more (λ b r. out_count (get_or nodes b no_node) ≤ vec_capacity r) outs row i.1.0 wide),
        search rules,
      ),
    )
