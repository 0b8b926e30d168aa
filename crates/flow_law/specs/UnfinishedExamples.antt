-- Lawful runs in which something is left to do: none is quiet, each by one part of that.
use Rattle.std.specs.Prelude.{◌≡◌, not, count_by, [], ◌∷◌}
use Rattle.flow_link.specs.declared.draft.BlockKind.TheVariants.{Buffer, Broadcast, Action}
use Rattle.flow_link.specs.declared.trace.Mark.TheVariants.{Took, Gave, Complete, Fault}
use Rattle.flow_link.specs.Layout.{input_link}
use Rattle.flow_link.specs.Trace.{Run}
use Rattle.flow_lawful.specs.Quiet.{Quiet}
use Rattle.flow_lawful.specs.Lawful.{Lawful}
use Rattle.flow_law.specs.Tests.{quiet_tests}
use Rattle.flow_law.specs.Examples.{Work, block, with_input, link, digit, leaves, leaves_nothing, holds, posted, posted_open, same, run_of}
use Rattle.flow_law.specs.LawfulExamples.{faulting_batch}

-- everything lies at the input
abbrev pub nothing_moved : Run Work
nothing_moved = run_of
    (with_input (block Buffer) ∷ block Action ∷ [])
    (link 0 1 ∷ input_link 0 ∷ [])
    same
    (leaves_nothing [] ∷ leaves_nothing [] ∷ [])
    (posted (digit 1 ∷ digit 2 ∷ []) ∷ [])

-- a message is given and lies on the way
abbrev pub message_on_the_way : Run Work
message_on_the_way = run_of
    (with_input (block Buffer) ∷ block Action ∷ [])
    (link 0 1 ∷ input_link 0 ∷ [])
    same
    (leaves_nothing (Took 0 1 (digit 1) ∷ Gave 0 (digit 1) ∷ []) ∷ leaves_nothing [] ∷ [])
    (posted_open (digit 1 ∷ []) ∷ [])

-- an action holds what it could work on
abbrev pub work_not_done : Run Work
work_not_done = run_of
    (with_input (block Action) ∷ [])
    (input_link 0 ∷ [])
    same
    (holds (Took 0 0 (digit 1) ∷ Complete 0 ∷ []) ((digit 1 ∷ []) ∷ []) ∷ [])
    (posted (digit 1 ∷ []) ∷ [])

-- all is given, and the buffer does not say that it is done
abbrev pub done_not_marked : Run Work
done_not_marked = run_of
    (with_input (block Buffer) ∷ [])
    (input_link 0 ∷ [])
    same
    (leaves_nothing (Complete 0 ∷ []) ∷ [])
    (posted [] ∷ [])

-- the input is at its end, and its block does not complete
abbrev pub end_not_handed_on : Run Work
end_not_handed_on = run_of (with_input (block Buffer) ∷ []) (input_link 0 ∷ []) same (leaves_nothing [] ∷ []) (posted [] ∷ [])

-- a buffer keeps its message from an action that would take it
abbrev pub value_not_given : Run Work
value_not_given = run_of
    (with_input (block Buffer) ∷ block Action ∷ [])
    (link 0 1 ∷ input_link 0 ∷ [])
    same
    (leaves (Took 0 1 (digit 1) ∷ Complete 0 ∷ []) (digit 1 ∷ []) ∷ leaves_nothing [] ∷ [])
    (posted (digit 1 ∷ []) ∷ [])

-- a broadcast keeps its newest message from an action that would take it
abbrev pub copy_not_given : Run Work
copy_not_given = run_of
    (with_input (block Broadcast) ∷ block Action ∷ [])
    (link 0 1 ∷ input_link 0 ∷ [])
    same
    (leaves (Took 0 1 (digit 1) ∷ Complete 0 ∷ []) (digit 1 ∷ []) ∷ leaves_nothing [] ∷ [])
    (posted (digit 1 ∷ []) ∷ [])

-- a batch whose port has completed keeps a rest, because a fault came later
abbrev pub rest_not_made : Run Work
rest_not_made = faulting_batch (holds (Took 0 0 (digit 1) ∷ Complete 0 ∷ Fault 5 ∷ []) ((digit 1 ∷ []) ∷ []))

-- the run is lawful, and something is left to do; all but one of the tests of quiet pass
pub record IsUnfinished (run : Run Work) : Type 0 where
  pub lawful : Lawful run
  pub not_quiet : Quiet run → ⊥
  pub others_hold : count_by (λ test. not test) (quiet_tests run) ≡ 1

pub record UnfinishedRunsAreNotQuiet : Type 0 where
  pub not_moved : IsUnfinished nothing_moved
  pub on_the_way : IsUnfinished message_on_the_way
  pub not_worked : IsUnfinished work_not_done
  pub not_marked : IsUnfinished done_not_marked
  pub not_handed_on : IsUnfinished end_not_handed_on
  pub not_given : IsUnfinished value_not_given
  pub not_copied : IsUnfinished copy_not_given
  pub not_made : IsUnfinished rest_not_made
