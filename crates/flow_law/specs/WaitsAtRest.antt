-- A network at rest in which one message waits for room and one for a partner: its parts keep their laws and have
-- nothing left to do, so these can be kept.
use Rattle.std.specs.Prelude.{ℕ, zero, suc, [], ◌∷◌}
use Rattle.flow_link.specs.declared.draft.BlockKind.TheVariants.{Buffer}
use Rattle.flow_link.specs.declared.phase.Phase.TheVariants.{Postponed}
use Rattle.flow_link.specs.declared.trace.Mark.TheVariants.{Took, Gave}
use Rattle.flow_link.specs.Views.{SourceStage, TargetStage}
use Rattle.flow_link.specs.Layout.{input_link}
use Rattle.flow_link.specs.Trace.{Run}
use Rattle.flow_law.specs.Examples.{Work, block, with_input, with_capacity, reserving_join, link, to_port, digit, leaves, leaves_nothing, joins, posted_open, same, run_of}
use Rattle.flow_law.specs.MidMove.{stands, rests_after}
use Rattle.flow_lawful.specs.Composes.{Ends, PartsKeep}
use Rattle.flow_lawful.specs.RestsByParts.{PartsRest, EndsAreStill}

-- two buffers in a row lead to one port of a reserving join, and a third to the other. The second has room for one
-- message and keeps it, for nothing comes to the other port; the first one's next message waits for that room
abbrev pub two_wait : Run Work
two_wait = run_of
    (with_input (block Buffer) ∷ with_capacity 1 (block Buffer) ∷ reserving_join ∷ with_input (block Buffer) ∷ [])
    (link 0 1 ∷ link 1 2 ∷ to_port 2 1 (link 3 2) ∷ input_link 0 ∷ input_link 3 ∷ [])
    same
    (leaves (Took 0 3 (digit 1) ∷ Gave 0 (digit 1) ∷ Took 0 3 (digit 2) ∷ []) (digit 2 ∷ [])
    ∷ leaves (Took 0 0 (digit 1) ∷ []) (digit 1 ∷ [])
    ∷ joins []
    ∷ leaves_nothing []
    ∷ [])
    (posted_open (digit 1 ∷ digit 2 ∷ []) ∷ posted_open [] ∷ [])

abbrev pub ends_of_two : ℕ → Ends
ends_of_two zero = stands (Postponed 2) (digit 1 ∷ []) (SourceStage.waiting 2) (TargetStage.postponed 2)
ends_of_two (suc zero) = stands (Postponed 1) [] (SourceStage.waiting 1) (TargetStage.postponed 1)
ends_of_two (suc (suc zero)) = rests_after []
ends_of_two (suc (suc (suc zero))) = rests_after (digit 1 ∷ digit 2 ∷ [])
ends_of_two (suc (suc (suc (suc _)))) = rests_after []

pub record TwoWaitAtRest : Type 0 where
  pub keep : PartsKeep two_wait ends_of_two
  pub still : EndsAreStill two_wait ends_of_two
  pub rest : PartsRest two_wait ends_of_two
