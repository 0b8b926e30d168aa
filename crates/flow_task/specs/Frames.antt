-- What there is room for before the parts of a network are made, and that its lanes are made.
use Rattle.std.specs.Prelude.{◌≡◌, ◌+◌, ◌≤◌, List, [], length, map, get_or, vec_capacity}
use Rattle.flow_link.specs.Lists.{below}
use Rattle.flow_link.specs.Layout.{Layout}
use Rattle.flow_block.specs.Node.{NodeState}
use Rattle.flow_block.specs.Planned.{links_out}
use Rattle.flow_core.specs.MovesFit.{in_count, out_count}
use Rattle.flow_core.specs.State.{no_node}
use Rattle.flow_exit.specs.Exit.{ExitState}
use Rattle.flow_input.specs.Input.{InputState}
use Rattle.flow_task.specs.Dealt.{HasRooms, HasRoomsIn}
use Rattle.flow_task.specs.Entries.{waits_in}
use Rattle.flow_task.specs.Inputs.{links_of_inputs, stays_open}
use Rattle.flow_task.specs.Lanes.{lane_count}
use Rattle.flow_task.specs.Known.{in_known, out_known}
use Rattle.flow_task.specs.declared.frame.Frame.{Frame}

pub record IsRoomFor {W : Type 0} {w : _} {e : _} (layout : Layout W) (nodes : List NodeState) (inputs : List InputState)
    (exits : List ExitState) (frame : Frame W w e) : Type 0 where
  pub outs : map (λ row. map out_known row.items) frame.sources.outs.items ≡ map (λ b. []) (below (length nodes))
  pub no_input : frame.sources.inputs.items ≡ []
  pub outs_rooms : HasRooms vec_capacity (λ b. out_count (get_or nodes b no_node)) frame.sources.outs.items
  pub inputs_room : length inputs ≤ vec_capacity frame.sources.inputs
  pub ins : map (λ ports. map (λ row. map in_known row.items) ports.items) frame.targets.ins.items
      ≡ map (λ b. map (λ p. []) (below (length (get_or nodes b no_node).block.ports))) (below (length nodes))
  pub no_exit_end : frame.targets.exits.items ≡ []
  pub ins_rooms : HasRoomsIn (λ ports. ports.items) vec_capacity (λ b p. in_count p (get_or nodes b no_node)) frame.targets.ins.items
  pub exits_room : length exits ≤ vec_capacity frame.targets.exits
  pub no_task : frame.tasks.items ≡ []
  pub rows : length frame.lanes.rows.items ≡ length layout.blocks
  pub lanes : length frame.lanes.lanes.items ≡ lane_count layout
  pub tasks_room : length nodes + length inputs + lane_count layout ≤ vec_capacity frame.tasks
  pub no_entry : frame.entries.items ≡ []
  pub entries_room : length inputs ≤ vec_capacity frame.entries
  pub no_exit : frame.exits.items ≡ []
  pub parts_room : length exits ≤ vec_capacity frame.exits
  pub no_watch : frame.watches.items ≡ []
  pub watches_room : length nodes ≤ vec_capacity frame.watches
  pub input_links : frame.inputs.items ≡ links_of_inputs layout
  pub exit_links : frame.outs.items ≡ links_out layout
  pub opens : frame.opens.items ≡ map stays_open inputs
  pub waiting : map (λ row. row.items) frame.waiting.items ≡ map waits_in inputs
  pub cells : length frame.cells.items ≡ length nodes
