use Rattle.std.proofs.Common.{rules, ◌≡◌, true, refl, ap, ◌∙◌}
use Rattle.std.specs.List.{list_any}
use Rattle.std.proofs.lemmas.Grind.{merely}
use Rattle.flow_block.specs.Peeks.{may_begin}
use Rattle.flow_exec.specs.Execution.{next_ticket}
use Rattle.flow_lane.specs.BlockLanes.{has_room}
use Rattle.flow_lane.specs.Items.{state_of}
use Rattle.flow_task.specs.Events.{BlockEvent}
use Rattle.flow_task.proofs.LanesStayOut.{begun_stays}
use Rattle.flow_task.proofs.task.BlockTask.begin_in_lane.Goals as goal

pub returns-clause-does : goal.returns-clause-does
returns-clause-does g c =
    let would : may_begin c.args.self.now.node.block ≡ true = search rules in
    merely (BlockEvent.begin, record { comes = would; leaves = c.in_ok-begin.ensures.begun })

pub returns-clause-out : goal.returns-clause-out
returns-clause-out g c =
    let room : list_any has_room c.args.lanes.now.sides ≡ true = search rules in
    begun_stays c.put.result _ c.args.self.now.node c.begin.new.self.node c.args.lanes.now c.put.new.self (state_of c.in_ok-job.job) refl room
    (c.in_ok-job.ensures.ticket ∙ ap next_ticket c.block-2.ensures) c.in_ok-begin.ensures.begun c.put.ensures.put c.put.ensures.kept
