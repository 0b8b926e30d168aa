-- A network while a message is under way: each of its parts keeps its own laws, so these can be kept.
use Rattle.std.specs.Prelude.{ℕ, zero, suc, List, [], ◌∷◌, length, Some, None}
use Rattle.flow_value.specs.declared.value.Value.{Value}
use Rattle.flow_link.specs.declared.draft.BlockKind.TheVariants.{Buffer, Action}
use Rattle.flow_link.specs.declared.phase.Phase.{Phase}
use Rattle.flow_link.specs.declared.phase.Phase.TheVariants.{Idle, Given}
use Rattle.flow_link.specs.declared.trace.Mark.TheVariants.{Took, Gave}
use Rattle.flow_link.specs.Views.{SourceStage, TargetStage}
use Rattle.flow_link.specs.Layout.{input_link}
use Rattle.flow_link.specs.Trace.{Run}
use Rattle.flow_law.specs.Examples.{Work, block, with_input, link, digit, leaves_nothing, posted, same, run_of}
use Rattle.flow_lawful.specs.Composes.{Ends, PartsKeep}

-- the ends of a link over which these values were given and taken, and nothing is under way: they stand so, or at rest
abbrev pub stands : Phase → List Value → SourceStage → TargetStage Value → Ends
stands phase values source target = record {
  phase = phase;
  slot = None;
  source = record { before = 0; given = values; last = length values; stage = source };
  target = record { before = 0; taken = values; stage = target };
}

abbrev pub rests_after : List Value → Ends
rests_after values = stands Idle values SourceStage.free TargetStage.free

-- the buffer has given its message, and the action has not taken it yet; another waits at the input
abbrev pub message_under_way : Run Work
message_under_way = run_of
    (with_input (block Buffer) ∷ block Action ∷ [])
    (link 0 1 ∷ input_link 0 ∷ [])
    same
    (leaves_nothing (Took 0 1 (digit 1) ∷ Gave 0 (digit 1) ∷ []) ∷ leaves_nothing [] ∷ [])
    (posted (digit 1 ∷ digit 2 ∷ []) ∷ [])

abbrev pub in_the_slot : Ends
in_the_slot = record {
  phase = Given 1;
  slot = Some (digit 1);
  source = record { before = 0; given = digit 1 ∷ []; last = 1; stage = SourceStage.crossing };
  target = record { before = 0; taken = []; stage = TargetStage.arrived 1 };
}

abbrev pub ends_under_way : ℕ → Ends
ends_under_way zero = in_the_slot
ends_under_way (suc _) = rests_after (digit 1 ∷ [])

abbrev pub KeptInMidMove : Type 0
KeptInMidMove = PartsKeep message_under_way ends_under_way
