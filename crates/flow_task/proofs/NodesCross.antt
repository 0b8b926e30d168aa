-- A node may go to another thread: each part of it, from the inside out.
use denote.Param.Send.{IsSend, sendable, view_send}
use denote.Param.SendFields.{declared_send}
use denote.Struct.Declared as S
use denote.Struct.Record as Rec
use Rattle.std.proofs.Crossing.{crosses}
use Rattle.flow_value.specs.contracts.value.Value as content
use Rattle.flow_link.specs.contracts.trace.Mark as mark
use Rattle.flow_link.specs.contracts.trace.Outcome as outcome
use Rattle.flow_link.specs.contracts.draft.BlockKind as kind
use Rattle.flow_intake.specs.contracts.intake.Intake as intake
use Rattle.flow_outlet.specs.contracts.outlet.Outlet as outlet
use Rattle.flow_spread.specs.contracts.spread.Spread as spread
use Rattle.flow_group.specs.contracts.round.Round as round
use Rattle.flow_block.specs.contracts.jobs.Jobs as jobs
use Rattle.flow_block.specs.contracts.jobs.Jobs.TheInside as jobs_in
use Rattle.flow_block.specs.contracts.jobs.Answer as answer
use Rattle.flow_block.specs.contracts.block.Block as block
use Rattle.flow_block.specs.contracts.block.Block.TheInside as inside
use Rattle.flow_block.specs.contracts.node.Node as node
use Rattle.flow_block.specs.contracts.node.Node.TheInside as node_in

-- what a field of a block is made of
kind_row : IsSend kind.the_row
kind_row = search (sendable, crosses) depth 12

outcome_row : IsSend outcome.the_row
outcome_row = search (sendable, crosses) depth 12

round_row : IsSend round.the_row
round_row = search (sendable, crosses) depth 12

-- a block, its jobs and its node, as records of their fields
abbrev BlockFields : S.Declared
BlockFields = Rec.declared inside.struct inside.the_propositions

abbrev JobFields : S.Declared
JobFields = Rec.declared jobs_in.struct jobs_in.the_propositions

abbrev NodeFields : S.Declared
NodeFields = Rec.declared node_in.struct node_in.the_propositions

module _ (values : IsSend content.the_row) (marks : IsSend mark.the_row) (intakes : IsSend intake.the_row) (outlets : IsSend outlet.the_row)
    (spreads : IsSend spread.the_row) where
  answer_row : IsSend answer.the_row
  answer_row = search (sendable, crosses) depth 9

  jobs_inside : IsSend (S.row JobFields)
  jobs_inside = declared_send JobFields (search (answer_row, sendable, crosses) depth 9, (search (answer_row, sendable, crosses) depth 9, (search (answer_row, sendable, crosses) depth 9, (search (answer_row, sendable, crosses) depth 9, tt))))

  jobs_row : IsSend jobs.the_row
  jobs_row = view_send (S.row JobFields) _ _ _ _ jobs_inside

  block_inside : IsSend (S.row BlockFields)
  block_inside = declared_send BlockFields (search (kind_row, outcome_row, jobs_row, sendable, crosses) depth 9, (search (kind_row, outcome_row, jobs_row, sendable, crosses) depth 9, (search (kind_row, outcome_row, jobs_row, sendable, crosses) depth 9, (search (kind_row, outcome_row, jobs_row, sendable, crosses) depth 9, (search (kind_row, outcome_row, jobs_row, sendable, crosses) depth 9, (search (kind_row, outcome_row, jobs_row, sendable, crosses) depth 9, (search (kind_row, outcome_row, jobs_row, sendable, crosses) depth 9, (search (kind_row, outcome_row, jobs_row, sendable, crosses) depth 9, (search (kind_row, outcome_row, jobs_row, sendable, crosses) depth 9, tt)))))))))

  block_row : IsSend block.the_row
  block_row = view_send (S.row BlockFields) _ _ _ _ block_inside

  node_inside : IsSend (S.row NodeFields)
  node_inside = declared_send NodeFields (search (block_row, round_row, sendable, crosses) depth 9, (search (block_row, round_row, sendable, crosses) depth 9, (search (block_row, round_row, sendable, crosses) depth 9, (search (block_row, round_row, sendable, crosses) depth 9, tt))))

  pub node_row : IsSend node.the_row
  node_row = view_send (S.row NodeFields) _ _ _ _ node_inside
