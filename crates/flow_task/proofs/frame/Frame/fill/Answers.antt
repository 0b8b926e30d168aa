use Rattle.std.proofs.Common.{ℕ, [], List, length, map, get_or, vec_capacity, sym, ap, ◌∙◌, arith, subst}
use Rattle.atomic_table.specs.Seated.{TableId}
use Rattle.flow_link.specs.Lists.{below}
use Rattle.flow_link.specs.declared.plan.Plan.{Plan}
use Rattle.flow_link.specs.Planned.{layout_of}
use Rattle.flow_block.specs.Node.{NodeState}
use Rattle.flow_block.specs.Planned.{links_out}
use Rattle.flow_core.specs.State.{no_node, node_at}
use Rattle.flow_exec.specs.Works.{works_of}
use Rattle.flow_exit.specs.Exit.{ExitState, fresh_exit}
use Rattle.flow_input.specs.Input.{InputState, no_input}
use Rattle.flow_task.specs.Dealt.{exits_dealt, inputs_dealt, ins_dealt, outs_dealt}
use Rattle.flow_task.specs.Entries.{waits_in}
use Rattle.flow_task.specs.Exits.{exit_due}
use Rattle.flow_task.specs.Inputs.{input_due, links_of_inputs, stays_open}
use Rattle.flow_task.specs.Known.{in_known, ins_due, out_known, outs_due, source_due, target_due}
use Rattle.flow_task.specs.Untouched.{AllUntouched}
use Rattle.flow_task.specs.Wired.{target_table}
use Rattle.flow_task.specs.declared.board.Board.{Board}
use Rattle.flow_task.proofs.EndsByPlace.{all_exits, all_inputs, all_ins, all_outs}
use Rattle.flow_task.proofs.Fills.{ins_none, ins_roomy, outs_roomy, sources_due, targets_due}
use Rattle.flow_task.proofs.Places.{count_is}
use Rattle.flow_input.specs.InputKeeps.{InputLaw}
use Rattle.flow_moves.specs.Apart.{apart_in}
use Rattle.flow_task.proofs.InputsStayed.{none_posts}
use Rattle.flow_task.proofs.frame.Frame.fill.Goals as goal

pub deal-requires : goal.deal-requires
deal-requires g c κs within =
    let plan = c.args.apart.plan in
    let layout = layout_of plan in
    let meaning = works_of g.W.Runs.meaning layout in
    let wired = c.args.wired in
    let order = c.requires.1.1.1.1.1.1.0 in
    let room = c.requires.1.1.1.1.1.0 in
    let blocks = order.node_count in
    let outs = room.outs ∙ ap (λ (n : ℕ). map (λ (b : ℕ). []) (below n)) blocks in
    let many = count_is (λ row. map out_known row.items) (λ (b : ℕ). []) (length layout.blocks) c.args.self.sources.outs.items outs in
    let inputs = order.input_count in
    let wide = room.inputs_room in (
      within,
      (
        sources_due layout g.net wired.wires.items wired.sources.items wired.targets.items c.requires.1.1.1.1.1.1.1.0,
        (
          outs,
          (
            ap (map out_known) room.no_input,
            (
              outs_roomy layout g.net meaning order.nodes_law vec_capacity c.args.self.sources.outs.items many room.outs_rooms,
              omega (arith, inputs, wide),
            ),
          ),
        ),
      ),
    )

pub deal-requires-2 : goal.deal-requires-2
deal-requires-2 g c κs within =
    let plan = c.args.apart.plan in
    let layout = layout_of plan in
    let meaning = works_of g.W.Runs.meaning layout in
    let wired = c.args.wired in
    let order = c.requires.1.1.1.1.1.1.0 in
    let room = c.requires.1.1.1.1.1.0 in
    let say = target_due layout (map target_table wired.targets.items) g.net in
    let ins = room.ins
    ∙ ap (λ (n : ℕ). map (λ (b : ℕ). map (λ (p : ℕ). []) (below (length (node_at g.net b).block.ports))) (below n)) order.node_count in
    let exits = order.exit_count in
    let wide = room.exits_room in (
      within,
      (
        targets_due layout g.net wired.wires.items wired.sources.items wired.targets.items c.requires.1.1.1.1.1.1.1.0,
        (
          ins ∙ ins_none layout g.net meaning order.nodes_law say,
          (
            ap (map in_known) room.no_exit_end,
            (
              ins_roomy layout g.net meaning order.nodes_law (λ ports. ports.items) (λ row. map in_known row.items) vec_capacity [] c.args.self.targets.ins.items ins room.ins_rooms,
              omega (arith, exits, wide),
            ),
          ),
        ),
      ),
    )

pub make_parts-requires-clause-outs : goal.make_parts-requires-clause-outs
make_parts-requires-clause-outs g c =
    let plan = c.args.apart.plan in
    let layout = layout_of plan in
    let wired = c.args.wired in
    let wires = wired.wires.items in
    let order = c.requires.1.1.1.1.1.1.0 in
    let seated = c.requires.1.1.1.1.1.1.1.0.seated in
    c.deal.ensures.outs
    ∙ ap (λ (ws : List TableId). outs_dealt layout (source_due layout ws g.net) (length layout.links)) seated.sources_are
    ∙ all_outs layout wires g.net (works_of g.W.Runs.meaning layout) order.nodes_law
    ∙ ap (λ (nodes : List NodeState). map (λ b. outs_due layout wires b (get_or nodes b no_node)) (below (length layout.blocks)))
    (c.requires.1.0 ∙ sym c.take_lists-lists.ensures.nodes)
    ∙ ap (λ (p : Plan _). map (λ b. outs_due (layout_of p) wires b (get_or c.take_lists-lists.result.nodes.items b no_node)) (below (length (layout_of p).blocks)))
    (sym c.take_lists-lists.ensures.plan)

pub make_parts-requires-clause-ins : goal.make_parts-requires-clause-ins
make_parts-requires-clause-ins g c =
    let plan = c.args.apart.plan in
    let layout = layout_of plan in
    let wired = c.args.wired in
    let wires = wired.wires.items in
    let order = c.requires.1.1.1.1.1.1.0 in
    let seated = c.requires.1.1.1.1.1.1.1.0.seated in
    c.deal-2.ensures.ins
    ∙ ap (λ (ws : List TableId). ins_dealt layout (target_due layout ws g.net) (length layout.links)) seated.targets_are
    ∙ all_ins layout wires g.net (works_of g.W.Runs.meaning layout) order.nodes_law
    ∙ ap (λ (nodes : List NodeState). map (λ b. ins_due layout wires b (get_or nodes b no_node)) (below (length layout.blocks)))
    (c.requires.1.0 ∙ sym c.take_lists-lists.ensures.nodes)
    ∙ ap (λ (p : Plan _). map (λ b. ins_due (layout_of p) wires b (get_or c.take_lists-lists.result.nodes.items b no_node)) (below (length (layout_of p).blocks)))
    (sym c.take_lists-lists.ensures.plan)

pub make_parts-requires-clause-inputs : goal.make_parts-requires-clause-inputs
make_parts-requires-clause-inputs g c =
    let plan = c.args.apart.plan in
    let layout = layout_of plan in
    let wired = c.args.wired in
    let wires = wired.wires.items in
    let seated = c.requires.1.1.1.1.1.1.1.0.seated in
    c.deal.ensures.inputs
    ∙ ap (λ (ws : List TableId). inputs_dealt layout (source_due layout ws g.net) (length layout.links)) seated.sources_are
    ∙ all_inputs layout wires g.net plan.laid_out
    ∙ ap (λ (inputs : List InputState). map (λ q. input_due layout wires (get_or (links_of_inputs layout) q 0) (get_or inputs q no_input)) (below (length (links_of_inputs layout))))
    (c.requires.1.1.0 ∙ sym c.take_lists-lists.ensures.inputs)
    ∙ ap (λ (p : Plan _). map (λ q. input_due (layout_of p) wires (get_or (links_of_inputs (layout_of p)) q 0) (get_or c.take_lists-lists.result.inputs.items q no_input)) (below (length (links_of_inputs (layout_of p)))))
    (sym c.take_lists-lists.ensures.plan)

pub make_parts-requires-clause-exits : goal.make_parts-requires-clause-exits
make_parts-requires-clause-exits g c =
    let plan = c.args.apart.plan in
    let layout = layout_of plan in
    let wired = c.args.wired in
    let wires = wired.wires.items in
    let seated = c.requires.1.1.1.1.1.1.1.0.seated in
    c.deal-2.ensures.exits
    ∙ ap (λ (ws : List TableId). exits_dealt layout (target_due layout ws g.net) (length layout.links)) seated.targets_are
    ∙ all_exits layout wires g.net
    ∙ ap (λ (exits : List ExitState). map (λ k. exit_due layout wires (get_or (links_out layout) k 0) (get_or exits k fresh_exit)) (below (length (links_out layout))))
    (c.requires.1.1.1.0 ∙ sym c.take_lists-lists.ensures.exits)
    ∙ ap (λ (p : Plan _). map (λ k. exit_due (layout_of p) wires (get_or (links_out (layout_of p)) k 0) (get_or c.take_lists-lists.result.exits.items k fresh_exit)) (below (length (links_out (layout_of p)))))
    (sym c.take_lists-lists.ensures.plan)

pub make_parts-requires-clause-waiting : goal.make_parts-requires-clause-waiting
make_parts-requires-clause-waiting g c =
    c.requires.1.1.1.1.1.0.waiting ∙ ap (map waits_in) (c.requires.1.1.0 ∙ sym c.take_lists-lists.ensures.inputs)

pub make_parts-requires-clause-nodes_begun : goal.make_parts-requires-clause-nodes_begun
make_parts-requires-clause-nodes_begun g c =
    c.take_lists-lists.ensures.nodes ∙ sym c.requires.1.0 ∙ sym c.requires.1.1.1.1.1.1.1.1.0

pub make_parts-requires-clause-inputs_begun : goal.make_parts-requires-clause-inputs_begun
make_parts-requires-clause-inputs_begun g c =
    c.take_lists-lists.ensures.inputs ∙ sym c.requires.1.1.0 ∙ sym c.requires.1.1.1.1.1.1.1.1.1.0

pub make_parts-requires-clause-exits_begun : goal.make_parts-requires-clause-exits_begun
make_parts-requires-clause-exits_begun g c =
    c.take_lists-lists.ensures.exits ∙ sym c.requires.1.1.1.0 ∙ sym c.requires.1.1.1.1.1.1.1.1.1.1

pub returns-clause-received : goal.returns-clause-received
returns-clause-received g c = c.make_parts.ensures.received ∙ c.requires.1.1.1.1.1.1.1.1.1.1

pub invariant_of-board-clause-opens_are : goal.invariant_of-board-clause-opens_are
invariant_of-board-clause-opens_are g c = c.requires.1.1.1.1.1.0.opens ∙ ap (map stays_open) (sym c.requires.1.1.1.1.1.1.1.1.1.0)

pub invariant_of-board-clause-open_ones_post : goal.invariant_of-board-clause-open_ones_post
invariant_of-board-clause-open_ones_post g c =
    let order = c.requires.1.1.1.1.1.1.0 in
    let same = c.requires.1.1.1.1.1.1.1.1.1.0 in
    let layout = layout_of c.args.apart.plan in
    none_posts (apart_in c.args.begun.value) (length (links_of_inputs layout)) (ap length same ∙ order.input_count)
    (λ q low. subst (λ (inputs : List InputState). ∥ InputLaw (get_or inputs q no_input) ∥₁) (sym same) (order.inputs_law q low))

pub invariant_of-board-clause-inputs_are : goal.invariant_of-board-clause-inputs_are
invariant_of-board-clause-inputs_are g c =
    c.requires.1.1.1.1.1.0.input_links ∙ ap (λ (plan : Plan _). links_of_inputs (layout_of plan)) (sym c.take_lists-lists.ensures.plan)

pub invariant_of-board-clause-exits_are : goal.invariant_of-board-clause-exits_are
invariant_of-board-clause-exits_are g c =
    c.requires.1.1.1.1.1.0.exit_links ∙ ap (λ (plan : Plan _). links_out (layout_of plan)) (sym c.take_lists-lists.ensures.plan)

pub returns-clause-untouched : goal.returns-clause-untouched
returns-clause-untouched g c =
    subst (λ (board : Board _). AllUntouched board c.make_parts.result.entries.items) (sym c.make_parts.ensures.board)
    c.make_parts.ensures.untouched
