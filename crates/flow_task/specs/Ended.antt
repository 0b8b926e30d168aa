-- When a task has ended.
use Rattle.std.specs.Prelude.{◌≡◌, true}
use Rattle.flow_outlet.specs.End.{is_over}
use Rattle.flow_lane.specs.Views.{LaneStage}
use Rattle.flow_task.specs.Cells.{last_outcome}
use Rattle.flow_task.specs.Turns.{IsOver, are_links_over}
use Rattle.flow_task.specs.declared.numbered.Kind.{Kind}
use Rattle.flow_task.specs.declared.numbered.Kind.TheVariants as kind
use Rattle.flow_task.specs.declared.numbered.Task.{Task}

module _ {W : Type 0} {w : _} {e : _} where
  -- a block, by its last mark and all its links, and its watches can know how; an input, by its link; a lane, once no job comes
  abbrev pub EndedBy : Kind W w e → Type 0
  EndedBy (kind.Block task) =
      IsOver task.block.node.journal × ((are_links_over task.block.node ≡ true) × (task.block.note.known ≡ last_outcome task.block.node.journal))
  EndedBy (kind.Input task) = is_over task.input.stage ≡ true
  EndedBy (kind.Lane task) = task.its.lane.side.stage ≡ LaneStage.ended

  abbrev pub HasEnded : Task W w e → Type 0
  HasEnded task = EndedBy task.kind

  -- a task to which nothing was done: its block, with what it knows of the end, or its input, is as it was
  abbrev pub StaysBy : Kind W w e → Kind W w e → Type 0
  StaysBy (kind.Block old) (kind.Block new) =
      (new.block.of.value ≡ old.block.of.value)
      × ((new.block.number ≡ old.block.number) × ((new.block.node ≡ old.block.node) × (new.block.note.known ≡ old.block.note.known)))
  StaysBy (kind.Input old) (kind.Input new) = (new.of.value ≡ old.of.value) × ((new.link ≡ old.link) × (new.input ≡ old.input))
  StaysBy (kind.Lane old) (kind.Lane new) = (new.of.value ≡ old.of.value) × (new.its ≡ old.its)
  StaysBy old new = ⊥

  pub record StaysSo (old new : Task W w e) : Type 0 where
    pub number : new.number ≡ old.number
    pub kind : StaysBy old.kind new.kind
