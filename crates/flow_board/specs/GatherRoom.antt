-- What there is room for before parts are taken apart.
use Rattle.std.specs.Prelude.{◌≡◌, ◌≤◌, [], length, vec_capacity}
use Rattle.flow_task.specs.Parts.{board_layout}
use Rattle.flow_board.specs.declared.gathering.Apart.{Apart}
use Rattle.flow_task.specs.declared.numbered.Parts.{Parts}

pub record IsRoomToGather {W : Type 0} {w : _} {e : _} (parts : Parts W w e) (apart : Apart) : Type 0 where
  pub no_node : apart.blocks.nodes.items ≡ []
  pub no_out : apart.blocks.outs.items ≡ []
  pub no_in : apart.blocks.ins.items ≡ []
  pub nodes_room : length (board_layout parts.board).blocks ≤ vec_capacity apart.blocks.nodes
  pub outs_room : length (board_layout parts.board).blocks ≤ vec_capacity apart.blocks.outs
  pub ins_room : length (board_layout parts.board).blocks ≤ vec_capacity apart.blocks.ins
  pub no_input : apart.inputs.inputs.items ≡ []
  pub no_input_end : apart.inputs.ends.items ≡ []
  pub inputs_room : length parts.board.opens.items ≤ vec_capacity apart.inputs.inputs
  pub input_ends_room : length parts.board.opens.items ≤ vec_capacity apart.inputs.ends
  pub no_exit : apart.exits.exits.items ≡ []
  pub no_exit_end : apart.exits.ends.items ≡ []
  pub exits_room : length parts.exits.items ≤ vec_capacity apart.exits.exits
  pub exit_ends_room : length parts.exits.items ≤ vec_capacity apart.exits.ends
