use Rattle.std.proofs.Common.{[], List, length, map, get_or, vec_capacity, ap, ◌∙◌, subst, arith}
use Rattle.flow_link.specs.Lists.{below}
use Rattle.flow_block.specs.Node.{NodeState}
use Rattle.flow_core.specs.MovesFit.{in_count, out_count}
use Rattle.flow_core.specs.State.{no_node}
use Rattle.flow_task.specs.Dealt.{HasRooms, HasRoomsIn}
use Rattle.flow_task.specs.Entries.{waits_in}
use Rattle.flow_task.specs.Inputs.{stays_open}
use Rattle.flow_task.proofs.frame.Frame.new.Goals as goal

pub returns : goal.returns
returns g c =
    let apart = c.args.apart.now in
    let lanes = c.in_ok-lanes.lanes.lanes in
    let sources = c.in_ok-with_room.ensures in
    let targets = c.in_ok-with_room-2.ensures in
    let outs = c.in_ok-with_room.field-0.outs.items in
    let ins = c.in_ok-with_room-2.field-0.ins.items in
    let nodes = c.deref.ensures.value in
    let nodes_too = c.deref-2.ensures.value in
    record {
      outs = sources.outs ∙ ap (λ (nodes : List NodeState). map (λ b. []) (below (length nodes))) nodes;
      no_input = sources.inputs;
      outs_rooms = subst (λ (nodes : List NodeState). HasRooms vec_capacity (λ b. out_count (get_or nodes b no_node)) outs) nodes sources.rooms;
      inputs_room = omega (arith, sources.room, c.len-inputs.ensures, apart.inputs.ok.0);
      ins = targets.ins
          ∙ ap (λ (nodes : List NodeState). map (λ b. map (λ p. []) (below (length (get_or nodes b no_node).block.ports))) (below (length nodes))) nodes_too;
      no_exit_end = targets.exits;
      ins_rooms = subst
          (λ (nodes : List NodeState). HasRoomsIn (λ ports. ports.items) vec_capacity (λ b p. in_count p (get_or nodes b no_node)) ins) nodes_too
          targets.rooms;
      exits_room = omega (arith, targets.room, c.len-exits.ensures, apart.exits.ok.0);
      no_task = c.in_ok-with_capacity.ensures.items;
      rows = c.in_ok-lanes.ensures.rows;
      lanes = c.in_ok-lanes.ensures.lanes;
      tasks_room = omega (
        arith,
        c.len.ensures,
        lanes.ok.0,
        c.in_ok-lanes.ensures.lanes,
        c.len-blocks.ensures,
        apart.nodes.ok.0,
        c.len-inputs.ensures,
        apart.inputs.ok.0,
        c.in_ok-with_capacity.ensures.capacity,
      );
      no_entry = c.in_ok-with_capacity-2.ensures.items;
      entries_room = omega (arith, c.in_ok-with_capacity-2.ensures.capacity, c.len-inputs.ensures, apart.inputs.ok.0);
      no_exit = c.in_ok-with_capacity-3.ensures.items;
      parts_room = omega (arith, c.in_ok-with_capacity-3.ensures.capacity, c.len-exits.ensures, apart.exits.ok.0);
      no_watch = c.in_ok-with_capacity-4.ensures.items;
      watches_room = omega (arith, c.in_ok-with_capacity-4.ensures.capacity, c.len-blocks.ensures, apart.nodes.ok.0);
      input_links = c.in_ok-input_links.ensures;
      exit_links = c.in_ok-exit_links.ensures;
      opens = c.in_ok-open_inputs.ensures ∙ ap (map stays_open) c.deref-3.ensures.value;
      waiting = c.in_ok-waiting_parcels.ensures ∙ ap (map waits_in) c.deref-4.ensures.value;
      cells = (let many = c.in_ok-empty_cells.ensures in omega (arith, many, c.len-blocks.ensures, apart.nodes.ok.0));
    }
