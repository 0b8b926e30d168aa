use Rattle.flow_task.proofs.LanesStayOut.{all_free}
use Rattle.flow_task.proofs.lane_rows.LaneRows.add.Goals as goal

pub invariant_of-push : goal.invariant_of-push
invariant_of-push g c = record { free = all_free c.in_ok-row.row.sides c.in_ok-row.ensures.free }
