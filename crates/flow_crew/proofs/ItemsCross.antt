-- A task of a round may go to another thread.
use denote.Param.Send.{IsSend, sendable, view_send}
use denote.Param.SendFields.{declared_send}
use denote.RattleType.{RattleType}
use denote.Struct.Declared as S
use denote.Struct.Record as Rec
use Rattle.std.proofs.Crossing.{crosses}
use Rattle.std.specs.declared.cmp.Eq as decides
use Rattle.std.specs.declared.cmp.PartialEq as eq
use Rattle.flow_value.specs.declared.work.Runs as runs
use Rattle.flow_task.specs.contracts.numbered.Task as task
use Rattle.flow_crew.specs.declared.item.Round as round
use Rattle.flow_crew.specs.contracts.item.Item as item
use Rattle.flow_crew.specs.contracts.item.Item.TheInside as inside

module _ (W J : RattleType) (w : runs.Ghosts W.Denot) (e : eq.Ghosts W.Denot) (d : decides.Ghosts W.Denot)
    (r : round.Ghosts J.Denot W.Denot) where
  -- its fields, as a record
  abbrev ItemFields : S.Declared
  ItemFields = Rec.declared (inside.struct W J w e d r) (inside.the_propositions W.Denot J.Denot w e)

  item_inside : IsSend (task.the_row W w e d) → IsSend (S.row ItemFields)
  item_inside tasks = declared_send ItemFields (search (tasks, sendable, crosses) depth 9, (search (sendable, crosses) depth 9, tt))

  pub item_row : IsSend (task.the_row W w e d) → IsSend (item.the_row W J w e d r)
  item_row tasks = view_send (S.row ItemFields) _ _ _ _ (item_inside tasks)
