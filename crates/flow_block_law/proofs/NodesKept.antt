-- Each call that may be made keeps a node in order, part by part.
use Rattle.flow_block_law.specs.NodeKeeps.{NodesKept}
use Rattle.flow_block_law.proofs.CopiesHold.{copies_kept}
use Rattle.flow_block_law.proofs.EndsHold.{ends_kept}
use Rattle.flow_block_law.proofs.ExitsHold.{exits_kept}
use Rattle.flow_block_law.proofs.GaveHolds.{gave_kept}
use Rattle.flow_block_law.proofs.JobsHold.{jobs_kept}
use Rattle.flow_block_law.proofs.LoadHolds.{load_kept}
use Rattle.flow_block_law.proofs.MakesHold.{makes_kept}
use Rattle.flow_block_law.proofs.MarksHold.{marks_kept}
use Rattle.flow_block_law.proofs.OnceHolds.{none_held_kept}
use Rattle.flow_block_law.proofs.PortsHold.{ports_kept}
use Rattle.flow_block_law.proofs.RoundHolds.{round_stays}
use Rattle.flow_block_law.proofs.RowsHold.{rows_kept}
use Rattle.flow_block_law.proofs.ShapeHolds.{shape_kept}
use Rattle.flow_block_law.proofs.TuplesHold.{tuples_kept_so}
use Rattle.flow_block_law.proofs.GroupsHold.{groups_kept_so, group_load_kept}

pub nodes_kept : (W : Type 0) → NodesKept W
nodes_kept W layout meaning b node call law may = record {
  by_number = law.by_number;
  shape = shape_kept W layout meaning b node call law may;
  ports = ports_kept W layout meaning b node call law may;
  exits = exits_kept W layout meaning b node call law may;
  copies = copies_kept W layout meaning b node call law may;
  none_held = none_held_kept W layout meaning b node call law may;
  gave = gave_kept W layout meaning b node call law may;
  makes = makes_kept W layout meaning b node call law may;
  rows = rows_kept W layout meaning b node call law may;
  tuples = tuples_kept_so W layout meaning b node call law may;
  jobs = jobs_kept W layout meaning b node call law may;
  load = load_kept W layout meaning b node call law may;
  groups = groups_kept_so W layout meaning b node call law may;
  group_load = group_load_kept W layout meaning b node call law may;
  round = round_stays W layout meaning b node call law may;
  marks = marks_kept W layout meaning b node call law may;
  ends = ends_kept W layout meaning b node call law may;
}
