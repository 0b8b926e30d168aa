-- Threads may share a board, where they may share its works: the plan, what the network is put together with again, and the wires.
use denote.Param.Send.{IsSync, sendable}
use denote.Param.SendFields.{declared_sync}
use denote.RattleType.{RattleType}
use Rattle.std.proofs.Crossing.{crosses}
use Rattle.once_cell.specs.contracts.race.once_box.OnceBox as once_box
use Rattle.flow_link.specs.contracts.plan.Plan as plan
use Rattle.flow_link.specs.contracts.trace.Outcome as outcome
use Rattle.flow_link.specs.contracts.trace.LinkState as line
use Rattle.flow_block.specs.contracts.node.Node as node
use Rattle.flow_block.specs.contracts.planned.Route as route
use Rattle.flow_exit.specs.contracts.exit_end.ExitEnd as exit_end
use Rattle.flow_input.specs.contracts.input.Input as input
use Rattle.flow_moves.specs.contracts.agenda.Agenda as agenda
use Rattle.flow_moves.specs.contracts.agenda.Spot as spot
use Rattle.flow_moves.specs.contracts.apart.NetParts as parts
use Rattle.flow_wire.specs.contracts.table.Wire as wire
use Rattle.flow_task.specs.contracts.board.Board as board

spot_row : IsSync spot.the_row
spot_row = search (sendable, crosses) depth 12

agenda_row : IsSync agenda.the_row
agenda_row = declared_sync agenda.the_type (search (spot_row, sendable, crosses) depth 9, (search (spot_row, sendable, crosses) depth 9, (search (sendable, crosses) depth 9, (search (sendable, crosses) depth 9, (search (sendable, crosses) depth 9, tt)))))

pub parts_row : (W : RattleType) → IsSync (plan.the_row W) → IsSync node.the_row → IsSync input.the_row → IsSync exit_end.the_row
    → IsSync line.the_row → IsSync route.the_row → IsSync (parts.the_row W)
parts_row W plans nodes inputs exits lines routes = declared_sync (parts.the_type W) (plans, (search (sendable, crosses) depth 9, (search (sendable, crosses) depth 9, (search (sendable, crosses) depth 9, (search (sendable, crosses) depth 9, (search (sendable, crosses) depth 9, (agenda_row, tt)))))))

pub board_row : (W : RattleType) → IsSync (parts.the_row W) → IsSync wire.the_row → IsSync (once_box.the_row outcome.the_row)
    → IsSync (board.the_row W)
board_row W rest wires cells = declared_sync (board.the_type W) (rest, (search (sendable, crosses) depth 9, (search (sendable, crosses) depth 9, (search (sendable, crosses) depth 9, (search (sendable, crosses) depth 9, (search (sendable, crosses) depth 9, (search (sendable, crosses) depth 9, tt)))))))
