-- A task may go to another thread: a block with its lanes or an input, with its ends of links, or a lane. Its board it knows by a
-- snapshot, which is nothing.
use denote.Param.Send.{IsSend, sendable}
use denote.Param.SendFields.{declared_send, variants_send}
use denote.RattleType.{RattleType}
use Rattle.std.proofs.Crossing.{crosses}
use Rattle.std.specs.declared.cmp.Eq as decides
use Rattle.std.specs.declared.cmp.PartialEq as eq
use Rattle.flow_value.specs.contracts.parcel.Parcel as parcel
use Rattle.flow_value.specs.declared.work.Runs as runs
use Rattle.once_cell.specs.contracts.race.note.Note as note
use Rattle.flow_link.specs.contracts.trace.Outcome as outcome
use Rattle.flow_block.specs.contracts.node.Node as node
use Rattle.flow_exit.specs.contracts.exit_end.ExitEnd as exit_end
use Rattle.flow_input.specs.contracts.input.Input as input
use Rattle.flow_wire.specs.contracts.source.SourceEnd as source
use Rattle.flow_wire.specs.contracts.target.TargetEnd as target
use Rattle.flow_lane.specs.contracts.job_lane.JobLane as job_lane
use Rattle.flow_lane.specs.contracts.job_lanes.JobLanes as job_lanes
use Rattle.flow_task.specs.contracts.input_task.InputTask as input_task
use Rattle.flow_task.specs.contracts.lane_task.BlockLane as block_lane
use Rattle.flow_task.specs.contracts.lane_task.LaneTask as lane_task
use Rattle.flow_task.specs.contracts.laned.LanedTask as laned_task
use Rattle.flow_task.specs.contracts.numbered.Entry as entry
use Rattle.flow_task.specs.contracts.numbered.Exit as exit
use Rattle.flow_task.specs.contracts.numbered.Kind as kind
use Rattle.flow_task.specs.contracts.numbered.Task as task
use Rattle.flow_task.specs.contracts.numbered.Watch as watch
use Rattle.flow_task.specs.contracts.task.BlockTask as block_task

module _ (W : RattleType) (w : runs.Ghosts W.Denot) (e : eq.Ghosts W.Denot) where
  pub block_row : IsSend node.the_row → IsSend source.the_row → IsSend target.the_row → IsSend (note.the_row outcome.the_row)
      → IsSend (block_task.the_row W w e)
  block_row nodes sources targets notes = declared_send (block_task.the_type W w e) (search (sendable, crosses) depth 9, (search (sendable, crosses) depth 9, (search (sendable, crosses) depth 9, (search (sendable, crosses) depth 9, (search (sendable, crosses) depth 9, (search (sendable, crosses) depth 9, (search (sendable, crosses) depth 9, (search (sendable, crosses) depth 9, tt))))))))

  pub watch_row : IsSend (note.the_row outcome.the_row) → IsSend (watch.the_row W w e)
  watch_row notes = declared_send (watch.the_type W w e) (search (sendable, crosses) depth 9, (search (sendable, crosses) depth 9, (search (sendable, crosses) depth 9, tt)))

  pub input_row : IsSend input.the_row → IsSend source.the_row → IsSend (input_task.the_row W w e)
  input_row inputs sources = declared_send (input_task.the_type W w e) (search (sendable, crosses) depth 9, (search (sendable, crosses) depth 9, (search (sendable, crosses) depth 9, (search (sendable, crosses) depth 9, tt))))

  -- what has to do with lanes
  module _ (d : decides.Ghosts W.Denot) where
    pub laned_row : IsSend (block_task.the_row W w e) → IsSend (job_lanes.the_row W w d e) → IsSend (laned_task.the_row W w e d)
    laned_row block lanes = declared_send (laned_task.the_type W w e d) (block, (search (sendable, crosses) depth 9, tt))

    block_lane_row : IsSend (job_lane.the_row W w d e) → IsSend (block_lane.the_row W w d e)
    block_lane_row lane = declared_send (block_lane.the_type W w d e) (search (sendable, crosses) depth 9, (lane, tt))

    pub lane_row : IsSend (job_lane.the_row W w d e) → IsSend (lane_task.the_row W w d e)
    lane_row lane = declared_send (lane_task.the_type W w d e) (search (sendable, crosses) depth 9, (block_lane_row lane, tt))

    module _ (block : IsSend (laned_task.the_row W w e d)) (from_outside : IsSend (input_task.the_row W w e))
        (lane : IsSend (lane_task.the_row W w d e)) where
      kind_row : IsSend (kind.the_row W w e d)
      kind_row = variants_send (kind.enum W w e d) ((block, tt), ((from_outside, tt), ((lane, tt), tt)))

      pub task_row : IsSend (task.the_row W w e d)
      task_row = declared_send (task.the_type W w e d) (search (sendable, crosses) depth 9, (kind_row, tt))

  pub entry_row : IsSend (input_task.the_row W w e) → IsSend parcel.the_row → IsSend (entry.the_row W w e)
  entry_row from_outside parcels = declared_send (entry.the_type W w e) (search (sendable, crosses) depth 9, (from_outside, (search (sendable, crosses) depth 9, tt)))

  pub exit_row : IsSend exit_end.the_row → IsSend target.the_row → IsSend (exit.the_row W w e)
  exit_row exits targets = declared_send (exit.the_type W w e) (search (sendable, crosses) depth 9, (search (sendable, crosses) depth 9, (search (sendable, crosses) depth 9, (search (sendable, crosses) depth 9, (search (sendable, crosses) depth 9, tt)))))
