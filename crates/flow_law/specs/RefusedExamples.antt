-- Runs that a wrong program would leave: each is not lawful, by one law.
use Rattle.std.specs.Prelude.{◌≡◌, not, count_by, List, [], ◌∷◌, ◌++◌}
use Rattle.flow_link.specs.declared.draft.BlockKind.TheVariants.{Buffer, Broadcast, WriteOnce, Action, Transform, TransformMany, Batch, Join, BatchedJoin}
use Rattle.flow_link.specs.declared.trace.Mark.TheVariants.{Took, Gave, Complete, Fault, Done}
use Rattle.flow_link.specs.Layout.{input_link}
use Rattle.flow_link.specs.Trace.{BlockTrace, InputTrace, Run}
use Rattle.flow_lawful.specs.Law.{LinkLaw, OneTaker, Counts, LinkOrder}
use Rattle.flow_link.specs.Making.{Making}
use Rattle.flow_link.specs.Copies.{Copies}
use Rattle.flow_lawful.specs.Endings.{Endings}
use Rattle.flow_lawful.specs.Shape.{Shape}
use Rattle.flow_law.specs.Tests.{law_tests}
use Rattle.flow_law.specs.Examples.{Work, block, with_input, with_size, with_capacity, reserving_join, link, to_port, when_even, at_most, int, digit, row, digits_to, took_all, gave_all, ended_well, leaves, leaves_nothing, holds, joins, records, posted, posted_open, posted_with_fault, same, read_digit, read_up_to, run_of, with_refused}

-- a buffer gives its one message to each of two links, whose targets have little room
abbrev pub head_given_twice : Run Work
head_given_twice = run_of
    (with_input (block Buffer) ∷ with_capacity 1 (block Action) ∷ with_capacity 1 (block Action) ∷ [])
    (link 0 1 ∷ link 0 2 ∷ input_link 0 ∷ [])
    same
    (leaves_nothing (Took 0 2 (digit 1) ∷ Gave 0 (digit 1) ∷ Gave 1 (digit 1) ∷ ended_well)
    ∷ records (Took 0 0 (digit 1) ∷ ended_well) (digit 1 ∷ [])
    ∷ records (Took 0 1 (digit 1) ∷ ended_well) (digit 1 ∷ [])
    ∷ [])
    (posted (digit 1 ∷ []) ∷ [])

-- a transform gives the second result before the first
abbrev pub results_as_they_finish : Run Work
results_as_they_finish = run_of
    (with_input (block Buffer) ∷ block Transform ∷ block Action ∷ [])
    (link 0 1 ∷ link 1 2 ∷ input_link 0 ∷ [])
    read_digit
    (leaves_nothing (took_all 0 2 (digit 1 ∷ digit 2 ∷ []) ++ gave_all 0 (digit 1 ∷ digit 2 ∷ []) ++ ended_well)
    ∷ leaves_nothing (took_all 0 0 (digit 1 ∷ digit 2 ∷ []) ++ gave_all 1 (int 2 ∷ int 1 ∷ []) ++ ended_well)
    ∷ records (took_all 0 1 (int 2 ∷ int 1 ∷ []) ++ ended_well) (int 2 ∷ int 1 ∷ [])
    ∷ [])
    (posted (digit 1 ∷ digit 2 ∷ []) ∷ [])

-- a reserving join takes at one port, and faults before it takes at the other
abbrev pub torn_join : Run Work
torn_join = run_of
    (with_input (block Buffer) ∷ with_input (block Buffer) ∷ reserving_join ∷ [])
    (link 0 2 ∷ to_port 2 1 (link 1 2) ∷ input_link 0 ∷ input_link 1 ∷ [])
    same
    (leaves_nothing (Took 0 2 (digit 1) ∷ Gave 0 (digit 1) ∷ ended_well)
    ∷ leaves (Took 0 3 (digit 9) ∷ Fault 5 ∷ []) (digit 9 ∷ [])
    ∷ holds (Took 0 0 (digit 1) ∷ Fault 5 ∷ []) ((digit 1 ∷ []) ∷ [] ∷ [])
    ∷ [])
    (posted (digit 1 ∷ []) ∷ posted_with_fault 5 (digit 9 ∷ []) ∷ [])

-- an action takes a message after its port has completed
abbrev pub taken_after_complete : Run Work
taken_after_complete = run_of
    (with_input (block Buffer) ∷ block Action ∷ [])
    (link 0 1 ∷ input_link 0 ∷ [])
    same
    (leaves_nothing (took_all 0 1 (digit 1 ∷ digit 2 ∷ []) ++ gave_all 0 (digit 1 ∷ digit 2 ∷ []) ++ ended_well)
    ∷ records (Took 0 0 (digit 1) ∷ Complete 0 ∷ Took 0 0 (digit 2) ∷ Done ∷ []) (digit 1 ∷ digit 2 ∷ [])
    ∷ [])
    (posted (digit 1 ∷ digit 2 ∷ []) ∷ [])

-- the second link carries what the first would have taken at once
abbrev pub later_link_first : Run Work
later_link_first = run_of
    (with_input (block Buffer) ∷ block Transform ∷ block Action ∷ block Action ∷ [])
    (link 0 1 ∷ when_even (link 1 2) ∷ link 1 3 ∷ input_link 0 ∷ [])
    read_digit
    (leaves_nothing (Took 0 3 (digit 2) ∷ Gave 0 (digit 2) ∷ ended_well)
    ∷ leaves_nothing (Took 0 0 (digit 2) ∷ Gave 2 (int 2) ∷ ended_well)
    ∷ records ended_well []
    ∷ records (Took 0 2 (int 2) ∷ ended_well) (int 2 ∷ [])
    ∷ [])
    (posted (digit 2 ∷ []) ∷ [])

-- a broadcast skips its second message for a target that takes each at once
abbrev pub element_skipped : Run Work
element_skipped = run_of
    (with_input (block Broadcast) ∷ block Action ∷ [])
    (link 0 1 ∷ input_link 0 ∷ [])
    same
    (leaves_nothing (took_all 0 1 (digit 1 ∷ digit 2 ∷ digit 3 ∷ []) ++ gave_all 0 (digit 1 ∷ digit 3 ∷ []) ++ ended_well)
    ∷ records (took_all 0 0 (digit 1 ∷ digit 3 ∷ []) ++ ended_well) (digit 1 ∷ digit 3 ∷ [])
    ∷ [])
    (posted (digit 1 ∷ digit 2 ∷ digit 3 ∷ []) ∷ [])

-- a broadcast gives nothing to a buffer with little room, which no other link leads to
abbrev pub all_elements_skipped : Run Work
all_elements_skipped = run_of
    (with_input (block Broadcast) ∷ with_capacity 1 (block Buffer) ∷ [])
    (link 0 1 ∷ input_link 0 ∷ [])
    same
    (leaves_nothing (took_all 0 1 (digit 1 ∷ digit 2 ∷ []) ++ ended_well)
    ∷ leaves_nothing ended_well
    ∷ [])
    (posted (digit 1 ∷ digit 2 ∷ []) ∷ [])

-- a write-once block drops its element and is done
abbrev pub element_dropped : Run Work
element_dropped = run_of
    (with_input (block WriteOnce) ∷ block Action ∷ [])
    (link 0 1 ∷ input_link 0 ∷ [])
    same
    (leaves_nothing (Took 0 1 (digit 1) ∷ ended_well) ∷ records ended_well [] ∷ [])
    (posted (digit 1 ∷ []) ∷ [])

-- the target closes the link over its first message, and the message is gone
abbrev pub value_lost_at_close : Run Work
value_lost_at_close = run_of
    (with_input (block Buffer) ∷ block Action ∷ [])
    (link 0 1 ∷ input_link 0 ∷ [])
    same
    (leaves_nothing (took_all 0 1 (digit 1 ∷ digit 2 ∷ []) ++ gave_all 0 (digit 1 ∷ digit 2 ∷ []) ++ ended_well)
    ∷ records (Took 0 0 (digit 2) ∷ ended_well) (digit 2 ∷ [])
    ∷ [])
    (posted (digit 1 ∷ digit 2 ∷ []) ∷ [])

-- a batch of three makes a group of two because nothing comes for a while
abbrev pub short_batch_when_idle : Run Work
short_batch_when_idle = run_of
    (with_input (with_size 3 (block Batch)) ∷ block Action ∷ [])
    (link 0 1 ∷ input_link 0 ∷ [])
    same
    (leaves_nothing (took_all 0 1 (digit 1 ∷ digit 2 ∷ []) ++ Gave 0 (row (digit 1 ∷ digit 2 ∷ [])) ∷ ended_well)
    ∷ records (took_all 0 0 (row (digit 1 ∷ digit 2 ∷ []) ∷ []) ++ ended_well) (row (digit 1 ∷ digit 2 ∷ []) ∷ [])
    ∷ [])
    (posted (digit 1 ∷ digit 2 ∷ []) ∷ [])

-- a link that has carried all that it may hands its source's completion on
abbrev pub cut_link_completes : Run Work
cut_link_completes = run_of
    (with_input (block Buffer) ∷ block Action ∷ block Action ∷ [])
    (at_most 1 (link 0 1) ∷ link 0 2 ∷ input_link 0 ∷ [])
    same
    (leaves_nothing (took_all 0 2 (digit 1 ∷ digit 2 ∷ []) ++ Gave 0 (digit 1) ∷ Gave 1 (digit 2) ∷ ended_well)
    ∷ records (Took 0 0 (digit 1) ∷ ended_well) (digit 1 ∷ [])
    ∷ records (Took 0 1 (digit 2) ∷ ended_well) (digit 2 ∷ [])
    ∷ [])
    (posted (digit 1 ∷ digit 2 ∷ []) ∷ [])

-- a buffer completes though its input is still open
abbrev pub completed_while_open : Run Work
completed_while_open = run_of (with_input (block Buffer) ∷ []) (input_link 0 ∷ []) same
    (leaves_nothing ended_well ∷ [])
    (posted_open [] ∷ [])

-- a message vanishes over a link that is not there
abbrev pub given_to_nobody : Run Work
given_to_nobody = run_of (with_input (block Buffer) ∷ []) (input_link 0 ∷ []) same
    (leaves_nothing (Took 0 0 (digit 1) ∷ Gave 7 (digit 1) ∷ ended_well) ∷ [])
    (posted (digit 1 ∷ []) ∷ [])

-- a block faults with a number that is not its work's
abbrev pub wrong_number : Run Work
wrong_number = run_of
    (with_input (block Buffer) ∷ block Transform ∷ [])
    (link 0 1 ∷ input_link 0 ∷ [])
    read_up_to
    (leaves_nothing (Took 0 1 (digit 2) ∷ Gave 0 (digit 2) ∷ ended_well)
    ∷ holds (Took 0 0 (digit 2) ∷ Fault 1 ∷ []) ((digit 2 ∷ []) ∷ [])
    ∷ [])
    (posted (digit 2 ∷ []) ∷ [])

-- a buffer with room for two messages takes three
abbrev pub more_than_room : Run Work
more_than_room = run_of
    (with_input (block Buffer) ∷ with_capacity 2 (block Buffer) ∷ [])
    (link 0 1 ∷ input_link 0 ∷ [])
    same
    (leaves_nothing (took_all 0 1 (digits_to 3) ++ gave_all 0 (digits_to 3) ++ ended_well)
    ∷ leaves (took_all 0 0 (digits_to 3) ++ Complete 0 ∷ []) (digits_to 3)
    ∷ [])
    (posted (digits_to 3) ∷ [])

-- an odd number goes over a link that admits even ones
abbrev pub against_the_predicate : Run Work
against_the_predicate = run_of
    (with_input (block Buffer) ∷ block Action ∷ [])
    (when_even (link 0 1) ∷ input_link 0 ∷ [])
    same
    (leaves_nothing (Took 0 1 (int 1) ∷ Gave 0 (int 1) ∷ ended_well)
    ∷ records (Took 0 0 (int 1) ∷ ended_well) (int 1 ∷ [])
    ∷ [])
    (posted (int 1 ∷ []) ∷ [])

-- two messages cross a link that may carry one
abbrev pub more_than_max : Run Work
more_than_max = run_of
    (with_input (block Buffer) ∷ block Action ∷ [])
    (at_most 1 (link 0 1) ∷ input_link 0 ∷ [])
    same
    (leaves_nothing (took_all 0 1 (digits_to 2) ++ gave_all 0 (digits_to 2) ++ ended_well)
    ∷ records (took_all 0 0 (digits_to 2) ++ ended_well) (digits_to 2)
    ∷ [])
    (posted (digits_to 2) ∷ [])

-- a buffer takes another value than was posted
abbrev pub taken_not_posted : Run Work
taken_not_posted = run_of
    (with_input (block Buffer) ∷ [])
    (input_link 0 ∷ [])
    same
    (leaves (Took 0 0 (digit 2) ∷ Complete 0 ∷ []) (digit 2 ∷ []) ∷ [])
    (posted (digit 1 ∷ []) ∷ [])

-- a buffer says that it is done, and then gives its message
abbrev pub given_after_done : Run Work
given_after_done = run_of
    (with_input (block Buffer) ∷ block Action ∷ [])
    (link 0 1 ∷ input_link 0 ∷ [])
    same
    (leaves_nothing (Took 0 1 (digit 1) ∷ Complete 0 ∷ Done ∷ Gave 0 (digit 1) ∷ [])
    ∷ records (Took 0 0 (digit 1) ∷ ended_well) (digit 1 ∷ [])
    ∷ [])
    (posted (digit 1 ∷ []) ∷ [])

-- a buffer says that it is done, and has its message left
abbrev pub done_with_a_value_left : Run Work
done_with_a_value_left = run_of
    (with_input (block Buffer) ∷ [])
    (input_link 0 ∷ [])
    same
    (leaves (Took 0 0 (digit 1) ∷ ended_well) (digit 1 ∷ []) ∷ [])
    (posted (digit 1 ∷ []) ∷ [])

-- an action that is open and has no fault refuses what comes, and the message goes over the second link
abbrev pub refused_for_nothing : Run Work
refused_for_nothing = with_refused 0 (run_of
    (with_input (block Buffer) ∷ block Action ∷ block Action ∷ [])
    (link 0 1 ∷ link 0 2 ∷ input_link 0 ∷ [])
    same
    (leaves_nothing (Took 0 2 (digit 1) ∷ Gave 1 (digit 1) ∷ ended_well)
    ∷ records [] []
    ∷ records (Took 0 1 (digit 1) ∷ ended_well) (digit 1 ∷ [])
    ∷ [])
    (posted (digit 1 ∷ []) ∷ []))

-- an action has something left to give, and is never done
abbrev pub action_has_something_left : Run Work
action_has_something_left = run_of
    (with_input (block Action) ∷ [])
    (input_link 0 ∷ [])
    same
    (record (records (Took 0 0 (digit 1) ∷ Complete 0 ∷ []) (digit 1 ∷ [])) { left = digit 2 ∷ [] } ∷ [])
    (posted (digit 1 ∷ []) ∷ [])

-- a join puts the second message of one port beside the first of the other
abbrev pub partners_mixed_up : Run Work
partners_mixed_up = run_of
    (with_input (block Buffer) ∷ with_input (block Buffer) ∷ block Join ∷ [])
    (link 0 2 ∷ to_port 2 1 (link 1 2) ∷ input_link 0 ∷ input_link 1 ∷ [])
    same
    (leaves_nothing (took_all 0 2 (digits_to 2) ++ gave_all 0 (digits_to 2) ++ ended_well)
    ∷ leaves_nothing (Took 0 3 (digit 9) ∷ Gave 1 (digit 9) ∷ ended_well)
    ∷ record {
      journal = took_all 0 0 (digits_to 2) ++ Took 1 1 (digit 9) ∷ [];
      held = (digit 1 ∷ []) ∷ [] ∷ [];
      left = row (digit 2 ∷ digit 9 ∷ []) ∷ [];
      recorded = [];
    }
    ∷ [])
    (posted (digits_to 2) ∷ posted (digit 9 ∷ []) ∷ [])

-- a transform that gives many leaves out the last of its results
abbrev pub result_left_out : Run Work
result_left_out = run_of
    (with_input (block Buffer) ∷ block TransformMany ∷ [])
    (link 0 1 ∷ input_link 0 ∷ [])
    read_up_to
    (leaves_nothing (Took 0 1 (digit 2) ∷ Gave 0 (digit 2) ∷ ended_well)
    ∷ leaves (Took 0 0 (digit 2) ∷ Complete 0 ∷ []) (int 0 ∷ [])
    ∷ [])
    (posted (digit 2 ∷ []) ∷ [])

-- a batched join puts the messages of each port into the row of the other
abbrev pub rows_mixed_up : Run Work
rows_mixed_up = run_of
    (with_input (block Buffer) ∷ with_input (block Buffer) ∷ with_size 2 (block BatchedJoin) ∷ [])
    (link 0 2 ∷ to_port 2 1 (link 1 2) ∷ input_link 0 ∷ input_link 1 ∷ [])
    same
    (leaves_nothing (Took 0 2 (digit 1) ∷ Gave 0 (digit 1) ∷ ended_well)
    ∷ leaves_nothing (Took 0 3 (digit 9) ∷ Gave 1 (digit 9) ∷ ended_well)
    ∷ record (joins (Took 0 0 (digit 1) ∷ Took 1 1 (digit 9) ∷ [])) {
      left = row (row (digit 9 ∷ []) ∷ row (digit 1 ∷ []) ∷ []) ∷ [];
    }
    ∷ [])
    (posted (digit 1 ∷ []) ∷ posted (digit 9 ∷ []) ∷ [])

-- a network of one block that is an input, where nothing is told of the block, or nothing of its input
abbrev pub one_buffer : List BlockTrace → List InputTrace → Run Work
one_buffer = run_of (with_input (block Buffer) ∷ []) (input_link 0 ∷ []) same

abbrev pub block_not_told : Run Work
block_not_told = one_buffer [] (posted [] ∷ [])

abbrev pub input_not_told : Run Work
input_not_told = one_buffer (leaves_nothing [] ∷ []) []

-- a buffer, which has one port, holds a message at a second one
abbrev pub held_at_no_port : Run Work
held_at_no_port = one_buffer (holds [] ([] ∷ (digit 1 ∷ []) ∷ []) ∷ []) (posted [] ∷ [])

-- one law refuses the run, and of the tests of all laws this one alone fails
pub record BreaksOnly (law : Type 0) (run : Run Work) : Type 0 where
  pub broken : law → ⊥
  pub others_hold : count_by (λ test. not test) (law_tests run) ≡ 1

pub record WrongRunsAreRefused : Type 0 where
  pub head_twice : BreaksOnly (Making head_given_twice) head_given_twice
  pub finish_order : BreaksOnly (Making results_as_they_finish) results_as_they_finish
  pub torn : BreaksOnly (Counts torn_join) torn_join
  pub after_complete : BreaksOnly (Endings taken_after_complete) taken_after_complete
  pub later_first : BreaksOnly (LinkOrder later_link_first) later_link_first
  pub skipped : BreaksOnly (Copies element_skipped) element_skipped
  pub all_skipped : BreaksOnly (Copies all_elements_skipped) all_elements_skipped
  pub dropped : BreaksOnly (Copies element_dropped) element_dropped
  pub lost : BreaksOnly (LinkLaw value_lost_at_close) value_lost_at_close
  pub short_group : BreaksOnly (Making short_batch_when_idle) short_batch_when_idle
  pub cut_completes : BreaksOnly (Endings cut_link_completes) cut_link_completes
  pub open_completes : BreaksOnly (Endings completed_while_open) completed_while_open
  pub to_nobody : BreaksOnly (OneTaker given_to_nobody) given_to_nobody
  pub other_number : BreaksOnly (Endings wrong_number) wrong_number
  pub too_many_held : BreaksOnly (Counts more_than_room) more_than_room
  pub not_admitted : BreaksOnly (LinkLaw against_the_predicate) against_the_predicate
  pub too_many_given : BreaksOnly (LinkLaw more_than_max) more_than_max
  pub not_posted : BreaksOnly (LinkLaw taken_not_posted) taken_not_posted
  pub after_the_end : BreaksOnly (Endings given_after_done) given_after_done
  pub done_too_early : BreaksOnly (Endings done_with_a_value_left) done_with_a_value_left
  pub no_reason : BreaksOnly (Endings refused_for_nothing) refused_for_nothing
  pub action_gives : BreaksOnly (Making action_has_something_left) action_has_something_left
  pub mixed_up : BreaksOnly (Making partners_mixed_up) partners_mixed_up
  pub left_out : BreaksOnly (Making result_left_out) result_left_out
  pub other_row : BreaksOnly (Making rows_mixed_up) rows_mixed_up
  pub no_blocks : BreaksOnly (Shape block_not_told) block_not_told
  pub no_inputs : BreaksOnly (Shape input_not_told) input_not_told
  pub no_port : BreaksOnly (Shape held_at_no_port) held_at_no_port
