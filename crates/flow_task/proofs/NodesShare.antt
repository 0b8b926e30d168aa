-- Threads may share a node: each part of it, from the inside out.
use denote.Param.Send.{IsSync, sendable, view_sync}
use denote.Param.SendFields.{declared_sync}
use denote.Struct.Declared as S
use denote.Struct.Record as Rec
use Rattle.std.proofs.Crossing.{crosses}
use Rattle.flow_value.specs.contracts.value.Value as content
use Rattle.flow_link.specs.contracts.trace.Mark as mark
use Rattle.flow_link.specs.contracts.trace.Outcome as outcome
use Rattle.flow_link.specs.contracts.draft.BlockKind as kind
use Rattle.flow_intake.specs.contracts.intake.Intake as intake
use Rattle.flow_outlet.specs.contracts.outlet.Outlet as outlet
use Rattle.flow_spread.specs.contracts.spread.Spread as spread
use Rattle.flow_group.specs.contracts.round.Round as round
use Rattle.flow_block.specs.contracts.jobs.Jobs as jobs
use Rattle.flow_block.specs.contracts.jobs.Jobs.TheInside as jobs_in
use Rattle.flow_block.specs.contracts.jobs.Answer as answer
use Rattle.flow_block.specs.contracts.block.Block as block
use Rattle.flow_block.specs.contracts.block.Block.TheInside as inside
use Rattle.flow_block.specs.contracts.node.Node as node
use Rattle.flow_block.specs.contracts.node.Node.TheInside as node_in

-- what a field of a block is made of
kind_row : IsSync kind.the_row
kind_row = search (sendable, crosses) depth 12

outcome_row : IsSync outcome.the_row
outcome_row = search (sendable, crosses) depth 12

round_row : IsSync round.the_row
round_row = search (sendable, crosses) depth 12

-- a block, its jobs and its node, as records of their fields
abbrev BlockFields : S.Declared
BlockFields = Rec.declared inside.struct inside.the_propositions

abbrev JobFields : S.Declared
JobFields = Rec.declared jobs_in.struct jobs_in.the_propositions

abbrev NodeFields : S.Declared
NodeFields = Rec.declared node_in.struct node_in.the_propositions

module _ (values : IsSync content.the_row) (marks : IsSync mark.the_row) (intakes : IsSync intake.the_row) (outlets : IsSync outlet.the_row)
    (spreads : IsSync spread.the_row) where
  answer_row : IsSync answer.the_row
  answer_row = search (sendable, crosses) depth 9

  jobs_inside : IsSync (S.row JobFields)
  jobs_inside = declared_sync JobFields (search (sendable, crosses) depth 9, (search (sendable, crosses) depth 9, (search (answer_row, sendable, crosses) depth 9, (search (sendable, crosses) depth 9, tt))))

  jobs_row : IsSync jobs.the_row
  jobs_row = view_sync (S.row JobFields) _ _ _ _ jobs_inside

  block_inside : IsSync (S.row BlockFields)
  block_inside = declared_sync BlockFields (search (kind_row, sendable, crosses) depth 9, (search (sendable, crosses) depth 9, (search (sendable, crosses) depth 9, (search (sendable, crosses) depth 9, (search (sendable, crosses) depth 9, (search (jobs_row, sendable, crosses) depth 9, (search (sendable, crosses) depth 9, (search (sendable, crosses) depth 9, (search (outcome_row, sendable, crosses) depth 9, tt)))))))))

  block_row : IsSync block.the_row
  block_row = view_sync (S.row BlockFields) _ _ _ _ block_inside

  node_inside : IsSync (S.row NodeFields)
  node_inside = declared_sync NodeFields (search (sendable, crosses) depth 9, (search (block_row, sendable, crosses) depth 9, (search (sendable, crosses) depth 9, (search (round_row, sendable, crosses) depth 9, tt))))

  pub node_row : IsSync node.the_row
  node_row = view_sync (S.row NodeFields) _ _ _ _ node_inside
