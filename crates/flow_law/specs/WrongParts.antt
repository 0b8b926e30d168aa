-- Networks in which a part does not keep a law of its own, though each link is in order and the run so far is lawful.
-- Such a part would make the run unlawful, or leave work undone, some time later.
use Rattle.std.specs.Prelude.{ℕ, zero, suc, ◌<◌, [], ◌∷◌, length}
use Rattle.flow_link.specs.declared.draft.BlockKind.TheVariants.{Buffer, Action, Transform}
use Rattle.flow_link.specs.declared.phase.Phase.TheVariants.{Held, Refused, Ended}
use Rattle.flow_link.specs.declared.phase.LinkEnd.TheVariants.{Plain}
use Rattle.flow_link.specs.declared.trace.Mark.TheVariants.{Took, Gave}
use Rattle.flow_link.specs.Views.{SourceStage, TargetStage, Refusal}
use Rattle.flow_link.specs.Layout.{input_link}
use Rattle.flow_link.specs.Trace.{Run}
use Rattle.flow_lawful.specs.Lawful.{Lawful}
use Rattle.flow_law.specs.Examples.{Work, block, with_input, reserving_join, link, kept_apart, digit, row, leaves, leaves_nothing, holds, joins, posted_open, same, read_digit, run_of, with_refused}
use Rattle.flow_law.specs.MidMove.{stands, rests_after}
use Rattle.flow_lawful.specs.Composes.{Ends, SourceKeeps, TargetKeeps, SpeaksForOne, LinkKeeps, PartsKeep}

-- a buffer that is open ends its link, and has its message left
abbrev pub left_behind : Run Work
left_behind = run_of
    (with_input (block Buffer) ∷ block Action ∷ [])
    (kept_apart (link 0 1) ∷ input_link 0 ∷ [])
    same
    (leaves (Took 0 1 (digit 1) ∷ []) (digit 1 ∷ []) ∷ leaves_nothing [] ∷ [])
    (posted_open (digit 1 ∷ []) ∷ [])

abbrev pub ends_left_behind : ℕ → Ends
ends_left_behind zero = stands (Ended Plain) [] (SourceStage.ended Plain) TargetStage.free
ends_left_behind (suc _) = rests_after (digit 1 ∷ [])

-- a buffer keeps its one message for two reserving joins
abbrev pub kept_for_two : Run Work
kept_for_two = run_of
    (with_input (block Buffer) ∷ reserving_join ∷ reserving_join ∷ [])
    (link 0 1 ∷ link 0 2 ∷ input_link 0 ∷ [])
    same
    (leaves (Took 0 2 (digit 1) ∷ []) (digit 1 ∷ []) ∷ joins [] ∷ joins [] ∷ [])
    (posted_open (digit 1 ∷ []) ∷ [])

abbrev pub kept_for_it : Ends
kept_for_it = stands (Held 1) [] (SourceStage.reserved 1) (TargetStage.holding 1)

abbrev pub ends_kept_for_two : ℕ → Ends
ends_kept_for_two zero = kept_for_it
ends_kept_for_two (suc zero) = kept_for_it
ends_kept_for_two (suc (suc _)) = rests_after (digit 1 ∷ [])

-- a transform whose work faulted refuses because its port has ended, which it has not
abbrev pub wrong_reason : Run Work
wrong_reason = with_refused 0 (run_of
    (with_input (block Buffer) ∷ block Transform ∷ [])
    (link 0 1 ∷ input_link 0 ∷ [])
    read_digit
    (leaves_nothing (Took 0 1 (row []) ∷ Gave 0 (row []) ∷ [])
    ∷ holds (Took 0 0 (row []) ∷ []) ((row [] ∷ []) ∷ [])
    ∷ [])
    (posted_open (row [] ∷ []) ∷ []))

abbrev pub ends_wrong_reason : ℕ → Ends
ends_wrong_reason zero = stands Refused (row [] ∷ []) SourceStage.refused (TargetStage.refused Refusal.port_ended)
ends_wrong_reason (suc _) = rests_after (row [] ∷ [])

-- this law of one part refuses the network, and neither its links nor the run so far show it
pub record OnlyPartsShow (law : Type 0) (run : Run Work) (ends : ℕ → Ends) : Type 0 where
  pub broken : law → ⊥
  pub refused : PartsKeep run ends → ⊥
  pub in_order : (l : ℕ) → l < length run.layout.links → LinkKeeps run ends l
  pub lawful : Lawful run

pub record WrongPartsAreRefused : Type 0 where
  pub ended_early : OnlyPartsShow (SourceKeeps left_behind ends_left_behind 0 0) left_behind ends_left_behind
  pub two_kept : OnlyPartsShow (SpeaksForOne kept_for_two ends_kept_for_two 0) kept_for_two ends_kept_for_two
  pub other_reason : OnlyPartsShow (TargetKeeps wrong_reason ends_wrong_reason 0 1 0) wrong_reason ends_wrong_reason
