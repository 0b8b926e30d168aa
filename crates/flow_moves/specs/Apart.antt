-- What a contract sees of a network that is taken apart.
use Rattle.flow_link.specs.Layout.{Layout}
use Rattle.flow_link.specs.Planned.{layout_of}
use Rattle.flow_core.specs.State.{NetState}
use Rattle.flow_moves.specs.declared.apart.NetParts.{NetParts}

abbrev pub apart_layout : {W : Type 0} → NetParts W → Layout W
apart_layout apart = layout_of apart.plan

abbrev pub apart_in : {W : Type 0} → NetParts W → NetState
apart_in apart = record {
  nodes = apart.nodes.items;
  inputs = apart.inputs.items;
  exits = apart.exits.items;
  lines = apart.lines.items;
}
