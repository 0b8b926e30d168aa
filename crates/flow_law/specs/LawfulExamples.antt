-- Runs of small networks that are lawful and quiet.
use Rattle.std.specs.Prelude.{List, [], ◌∷◌, ◌++◌}
use Rattle.flow_link.specs.declared.draft.BlockDef.{BlockDef}
use Rattle.flow_link.specs.declared.draft.BlockKind.TheVariants.{Buffer, Broadcast, WriteOnce, Action, Transform, TransformMany, Batch, Join, BatchedJoin}
use Rattle.flow_value.specs.declared.value.Value.{Value}
use Rattle.flow_link.specs.declared.trace.Mark.{Mark}
use Rattle.flow_link.specs.declared.trace.Mark.TheVariants.{Took, Gave, Complete, Fault, Done}
use Rattle.flow_link.specs.Layout.{input_link, exit_link}
use Rattle.flow_link.specs.Trace.{BlockTrace, Run}
use Rattle.flow_lawful.specs.Lawful.{Lawful}
use Rattle.flow_lawful.specs.Quiet.{Quiet}
use Rattle.flow_law.specs.Examples.{Work, block, with_input, with_size, with_capacity, reserving_join, link, to_port, when_even, at_most, kept_apart, int, digit, row, took_all, gave_all, ended_well, leaves, leaves_nothing, holds, joins, records, posted, posted_with_fault, same, read_digit, read_up_to, run_of, with_refused, word_a, word_b, digits_to, ints_to}

pub record IsLawfulAndQuiet (run : Run Work) : Type 0 where
  pub lawful : Lawful run
  pub quiet : Quiet run

-- a buffer is linked to an action; two values are posted
abbrev pub two_records : Run Work
two_records = run_of
    (with_input (block Buffer) ∷ block Action ∷ [])
    (link 0 1 ∷ input_link 0 ∷ [])
    same
    (leaves_nothing (took_all 0 1 (word_a ∷ word_b ∷ []) ++ gave_all 0 (word_a ∷ word_b ∷ []) ++ ended_well)
    ∷ records (took_all 0 0 (word_a ∷ word_b ∷ []) ++ ended_well) (word_a ∷ word_b ∷ [])
    ∷ [])
    (posted (word_a ∷ word_b ∷ []) ∷ [])

-- a transform between them reads numbers
abbrev pub parse_three : Run Work
parse_three = run_of
    (with_input (block Buffer) ∷ block Transform ∷ block Action ∷ [])
    (link 0 1 ∷ link 1 2 ∷ input_link 0 ∷ [])
    read_digit
    (leaves_nothing (took_all 0 2 (digit 1 ∷ digit 2 ∷ digit 3 ∷ []) ++ gave_all 0 (digit 1 ∷ digit 2 ∷ digit 3 ∷ []) ++ ended_well)
    ∷ leaves_nothing (took_all 0 0 (digit 1 ∷ digit 2 ∷ digit 3 ∷ []) ++ gave_all 1 (int 1 ∷ int 2 ∷ int 3 ∷ []) ++ ended_well)
    ∷ records (took_all 0 1 (int 1 ∷ int 2 ∷ int 3 ∷ []) ++ ended_well) (int 1 ∷ int 2 ∷ int 3 ∷ [])
    ∷ [])
    (posted (digit 1 ∷ digit 2 ∷ digit 3 ∷ []) ∷ [])

-- a transform that gives many reads a number and counts up to it
abbrev pub upto_flattens : Run Work
upto_flattens = run_of
    (with_input (block Buffer) ∷ block TransformMany ∷ block Action ∷ [])
    (link 0 1 ∷ link 1 2 ∷ input_link 0 ∷ [])
    read_up_to
    (leaves_nothing (took_all 0 2 (digit 2 ∷ digit 0 ∷ digit 3 ∷ []) ++ gave_all 0 (digit 2 ∷ digit 0 ∷ digit 3 ∷ []) ++ ended_well)
    ∷ leaves_nothing (took_all 0 0 (digit 2 ∷ digit 0 ∷ digit 3 ∷ []) ++ gave_all 1 (int 0 ∷ int 1 ∷ int 0 ∷ int 1 ∷ int 2 ∷ []) ++ ended_well)
    ∷ records (took_all 0 1 (int 0 ∷ int 1 ∷ int 0 ∷ int 1 ∷ int 2 ∷ []) ++ ended_well) (int 0 ∷ int 1 ∷ int 0 ∷ int 1 ∷ int 2 ∷ [])
    ∷ [])
    (posted (digit 2 ∷ digit 0 ∷ digit 3 ∷ []) ∷ [])

-- only even numbers may go on, and an odd one holds back those behind it
abbrev pub unrouted_head : Run Work
unrouted_head = run_of
    (with_input (block Buffer) ∷ block Transform ∷ block Action ∷ [])
    (link 0 1 ∷ when_even (link 1 2) ∷ input_link 0 ∷ [])
    read_digit
    (leaves_nothing (took_all 0 2 (digit 2 ∷ digit 1 ∷ digit 4 ∷ []) ++ gave_all 0 (digit 2 ∷ digit 1 ∷ digit 4 ∷ []) ++ ended_well)
    ∷ leaves (took_all 0 0 (digit 2 ∷ digit 1 ∷ digit 4 ∷ []) ++ Gave 1 (int 2) ∷ Complete 0 ∷ []) (int 1 ∷ int 4 ∷ [])
    ∷ records (Took 0 1 (int 2) ∷ []) (int 2 ∷ [])
    ∷ [])
    (posted (digit 2 ∷ digit 1 ∷ digit 4 ∷ []) ∷ [])

-- two messages may cross the first link, and the others go over the second
abbrev pub link_limit : Run Work
link_limit = run_of
    (with_input (block Buffer) ∷ block Transform ∷ block Action ∷ block Action ∷ [])
    (link 0 1 ∷ at_most 2 (link 1 2) ∷ link 1 3 ∷ input_link 0 ∷ [])
    read_digit
    (leaves_nothing (took_all 0 3 (digits_to 5) ++ gave_all 0 (digits_to 5) ++ ended_well)
    ∷ leaves_nothing (took_all 0 0 (digits_to 5) ++ gave_all 1 (int 1 ∷ int 2 ∷ []) ++ gave_all 2 (int 3 ∷ int 4 ∷ int 5 ∷ []) ++ ended_well)
    ∷ records (took_all 0 1 (int 1 ∷ int 2 ∷ [])) (int 1 ∷ int 2 ∷ [])
    ∷ records (took_all 0 2 (int 3 ∷ int 4 ∷ int 5 ∷ []) ++ ended_well) (int 3 ∷ int 4 ∷ int 5 ∷ [])
    ∷ [])
    (posted (digits_to 5) ∷ [])

abbrev pub row_123 : Value
row_123 = row (int 1 ∷ int 2 ∷ int 3 ∷ [])

abbrev pub row_456 : Value
row_456 = row (int 4 ∷ int 5 ∷ int 6 ∷ [])

abbrev pub row_7 : Value
row_7 = row (int 7 ∷ [])

-- a batch of three makes the rest a smaller group when all has come
abbrev pub batch_remainder : Run Work
batch_remainder = run_of
    (with_input (block Buffer) ∷ block Transform ∷ with_size 3 (block Batch) ∷ block Action ∷ [])
    (link 0 1 ∷ link 1 2 ∷ link 2 3 ∷ input_link 0 ∷ [])
    read_digit
    (leaves_nothing (took_all 0 3 (digits_to 7) ++ gave_all 0 (digits_to 7) ++ ended_well)
    ∷ leaves_nothing (took_all 0 0 (digits_to 7) ++ gave_all 1 (ints_to 7) ++ ended_well)
    ∷ leaves_nothing (took_all 0 1 (ints_to 7) ++ gave_all 2 (row_123 ∷ row_456 ∷ []) ++ Complete 0 ∷ Gave 2 row_7 ∷ Done ∷ [])
    ∷ records (took_all 0 2 (row_123 ∷ row_456 ∷ row_7 ∷ []) ++ ended_well) (row_123 ∷ row_456 ∷ row_7 ∷ [])
    ∷ [])
    (posted (digits_to 7) ∷ [])

-- two sources, a join, and an action behind it; no link hands an end on
abbrev pub joined : BlockDef Work → List BlockTrace → Run Work
joined join traces = run_of
    (with_input (block Buffer) ∷ with_input (block Buffer) ∷ join ∷ block Action ∷ [])
    (kept_apart (link 0 2) ∷ kept_apart (to_port 2 1 (link 1 2)) ∷ kept_apart (link 2 3) ∷ input_link 0 ∷ input_link 1 ∷ [])
    same traces
    (posted (digit 1 ∷ digit 2 ∷ digit 3 ∷ []) ∷ posted (digit 9 ∷ []) ∷ [])

-- what the second source and the action leave: one row
abbrev pub nine_joined : BlockTrace
nine_joined = leaves_nothing (Took 0 4 (digit 9) ∷ Gave 1 (digit 9) ∷ ended_well)

abbrev pub one_row : BlockTrace
one_row = records (Took 0 2 (row (digit 1 ∷ digit 9 ∷ [])) ∷ []) (row (digit 1 ∷ digit 9 ∷ []) ∷ [])

-- a greedy join takes what comes, and holds what finds no partner
abbrev pub greedy_join_leaves : Run Work
greedy_join_leaves = joined (block Join)
    (leaves_nothing (took_all 0 3 (digit 1 ∷ digit 2 ∷ digit 3 ∷ []) ++ gave_all 0 (digit 1 ∷ digit 2 ∷ digit 3 ∷ []) ++ ended_well)
    ∷ nine_joined
    ∷ holds (took_all 0 0 (digit 1 ∷ digit 2 ∷ digit 3 ∷ []) ++ Took 1 1 (digit 9) ∷ Gave 2 (row (digit 1 ∷ digit 9 ∷ [])) ∷ [])
    ((digit 2 ∷ digit 3 ∷ []) ∷ [] ∷ [])
    ∷ one_row ∷ [])

-- a reserving join takes only what has a partner, and leaves the rest at its source
abbrev pub reserving_join_leaves : Run Work
reserving_join_leaves = joined reserving_join
    (leaves (took_all 0 3 (digit 1 ∷ digit 2 ∷ digit 3 ∷ []) ++ Gave 0 (digit 1) ∷ Complete 0 ∷ []) (digit 2 ∷ digit 3 ∷ [])
    ∷ nine_joined
    ∷ joins (Took 0 0 (digit 1) ∷ Took 1 1 (digit 9) ∷ Gave 2 (row (digit 1 ∷ digit 9 ∷ [])) ∷ [])
    ∷ one_row ∷ [])

-- a write-once block takes the first message, and the others wait at its input
abbrev pub write_once_takes_one : Run Work
write_once_takes_one = run_of
    (with_input (block WriteOnce) ∷ block Action ∷ [])
    (link 0 1 ∷ input_link 0 ∷ [])
    same
    (leaves_nothing (Took 0 1 (digit 7) ∷ Gave 0 (digit 7) ∷ ended_well)
    ∷ records (Took 0 0 (digit 7) ∷ ended_well) (digit 7 ∷ [])
    ∷ [])
    (posted (digit 7 ∷ digit 8 ∷ digit 9 ∷ []) ∷ [])

-- two actions have each copy of a broadcast; a reserving join with an empty port has none, and holds nothing back
abbrev pub broadcast_beside_a_join : Run Work
broadcast_beside_a_join = run_of
    (with_input (block Buffer) ∷ block Broadcast ∷ block Action ∷ block Action ∷ reserving_join ∷ [])
    (link 0 1 ∷ link 1 2 ∷ link 1 3 ∷ kept_apart (link 1 4) ∷ input_link 0 ∷ [])
    same
    (leaves_nothing (took_all 0 4 (digits_to 3) ++ gave_all 0 (digits_to 3) ++ ended_well)
    ∷ leaves_nothing (Took 0 0 (digit 1) ∷ Gave 1 (digit 1) ∷ Gave 2 (digit 1) ∷ Took 0 0 (digit 2) ∷ Gave 2 (digit 2) ∷ Gave 1 (digit 2)
    ∷ Took 0 0 (digit 3) ∷ Gave 1 (digit 3) ∷ Gave 2 (digit 3) ∷ ended_well)
    ∷ records (took_all 0 1 (digits_to 3) ++ ended_well) (digits_to 3)
    ∷ records (took_all 0 2 (digits_to 3) ++ ended_well) (digits_to 3)
    ∷ joins []
    ∷ [])
    (posted (digits_to 3) ∷ [])

-- a batched join of three counts the messages of both its ports, and makes a row for each
abbrev pub batched_join_groups : Run Work
batched_join_groups = run_of
    (with_input (block Buffer) ∷ with_input (block Buffer) ∷ with_size 3 (block BatchedJoin) ∷ block Action ∷ [])
    (link 0 2 ∷ to_port 2 1 (link 1 2) ∷ link 2 3 ∷ input_link 0 ∷ input_link 1 ∷ [])
    same
    (leaves_nothing (took_all 0 3 (digit 1 ∷ digit 2 ∷ []) ++ gave_all 0 (digit 1 ∷ digit 2 ∷ []) ++ ended_well)
    ∷ leaves_nothing (Took 0 4 (digit 9) ∷ Gave 1 (digit 9) ∷ ended_well)
    ∷ joins (Took 0 0 (digit 1) ∷ Took 1 1 (digit 9) ∷ Took 0 0 (digit 2)
    ∷ Gave 2 (row (row (digit 1 ∷ digit 2 ∷ []) ∷ row (digit 9 ∷ []) ∷ [])) ∷ Complete 1 ∷ Complete 0 ∷ Done ∷ [])
    ∷ records (Took 0 2 (row (row (digit 1 ∷ digit 2 ∷ []) ∷ row (digit 9 ∷ []) ∷ [])) ∷ ended_well) (row (row (digit 1 ∷ digit 2 ∷ []) ∷ row (digit 9 ∷ []) ∷ []) ∷ [])
    ∷ [])
    (posted (digit 1 ∷ digit 2 ∷ []) ∷ posted (digit 9 ∷ []) ∷ [])

-- a work faults on the second of three messages, and its fault is handed on; one message is still at the input
abbrev pub fault_in_the_middle : Run Work
fault_in_the_middle = run_of
    (with_input (block Buffer) ∷ block Transform ∷ block Action ∷ [])
    (link 0 1 ∷ link 1 2 ∷ input_link 0 ∷ [])
    read_digit
    (leaves (took_all 0 2 (digit 1 ∷ row [] ∷ digit 3 ∷ []) ++ gave_all 0 (digit 1 ∷ row [] ∷ []) ++ Complete 0 ∷ []) (digit 3 ∷ [])
    ∷ holds (took_all 0 0 (digit 1 ∷ row [] ∷ []) ++ Gave 1 (int 1) ∷ Fault 1 ∷ []) ((row [] ∷ []) ∷ [])
    ∷ records (Took 0 1 (int 1) ∷ Fault 1 ∷ []) (int 1 ∷ [])
    ∷ [])
    (posted (digit 1 ∷ row [] ∷ digit 3 ∷ []) ∷ [])

-- a broadcast to an action and to a buffer with room for one message, which keeps it: the buffer misses the others
abbrev pub bounded_buffer_misses : Run Work
bounded_buffer_misses = run_of
    (with_input (block Broadcast) ∷ block Action ∷ with_capacity 1 (block Buffer) ∷ [])
    (link 0 1 ∷ kept_apart (link 0 2) ∷ input_link 0 ∷ [])
    same
    (leaves_nothing (Took 0 2 (digit 1) ∷ Gave 1 (digit 1) ∷ Gave 0 (digit 1) ∷ Took 0 2 (digit 2) ∷ Gave 0 (digit 2) ∷ ended_well)
    ∷ records (took_all 0 0 (digit 1 ∷ digit 2 ∷ []) ++ ended_well) (digit 1 ∷ digit 2 ∷ [])
    ∷ leaves (Took 0 1 (digit 1) ∷ []) (digit 1 ∷ [])
    ∷ [])
    (posted (digit 1 ∷ digit 2 ∷ []) ∷ [])

-- an input ends with a fault, which its block hands on; the message is either worked on first, or left
abbrev pub faulting_input : List Mark → List Value → BlockTrace → Run Work
faulting_input gave left action = run_of
    (with_input (block Buffer) ∷ block Action ∷ [])
    (link 0 1 ∷ input_link 0 ∷ [])
    same
    (leaves (Took 0 1 (digit 1) ∷ gave ++ Fault 5 ∷ []) left ∷ action ∷ [])
    (posted_with_fault 5 (digit 1 ∷ []) ∷ [])

abbrev pub fault_after_work : Run Work
fault_after_work = faulting_input (Gave 0 (digit 1) ∷ []) [] (records (Took 0 0 (digit 1) ∷ Fault 5 ∷ []) (digit 1 ∷ []))

abbrev pub fault_before_work : Run Work
fault_before_work = faulting_input [] (digit 1 ∷ []) (records (Fault 5 ∷ []) [])

-- a transform whose work gives two values faults
abbrev pub more_than_one_result : Run Work
more_than_one_result = run_of
    (with_input (block Buffer) ∷ block Transform ∷ [])
    (link 0 1 ∷ input_link 0 ∷ [])
    read_up_to
    (leaves_nothing (Took 0 1 (digit 2) ∷ Gave 0 (digit 2) ∷ ended_well)
    ∷ holds (Took 0 0 (digit 2) ∷ Fault 7 ∷ []) ((digit 2 ∷ []) ∷ [])
    ∷ [])
    (posted (digit 2 ∷ []) ∷ [])

-- a buffer keeps its messages until the caller receives them
abbrev pub kept_for_the_caller : Run Work
kept_for_the_caller = run_of
    (with_input (block Buffer) ∷ [])
    (input_link 0 ∷ exit_link 0 ∷ [])
    same
    (leaves (took_all 0 0 (digit 1 ∷ digit 2 ∷ []) ++ Gave 1 (digit 1) ∷ Complete 0 ∷ []) (digit 2 ∷ []) ∷ [])
    (posted (digit 1 ∷ digit 2 ∷ []) ∷ [])

-- a buffer with room for two messages holds the third back
abbrev pub room_for_two : Run Work
room_for_two = run_of
    (with_input (block Buffer) ∷ with_capacity 2 (block Buffer) ∷ [])
    (link 0 1 ∷ input_link 0 ∷ [])
    same
    (leaves (took_all 0 1 (digits_to 3) ++ gave_all 0 (digits_to 2) ++ Complete 0 ∷ []) (digit 3 ∷ [])
    ∷ leaves (took_all 0 0 (digits_to 2)) (digits_to 2)
    ∷ [])
    (posted (digits_to 3) ∷ [])

-- a transform that has faulted refuses what comes, and that goes over the second link
abbrev pub refused_and_passed_on : Run Work
refused_and_passed_on = with_refused 0 (run_of
    (with_input (block Buffer) ∷ block Transform ∷ block Action ∷ [])
    (link 0 1 ∷ link 0 2 ∷ input_link 0 ∷ [])
    read_digit
    (leaves_nothing (took_all 0 2 (row [] ∷ digit 3 ∷ []) ++ Gave 0 (row []) ∷ Gave 1 (digit 3) ∷ ended_well)
    ∷ holds (Took 0 0 (row []) ∷ Fault 1 ∷ []) ((row [] ∷ []) ∷ [])
    ∷ records (Took 0 1 (digit 3) ∷ ended_well) (digit 3 ∷ [])
    ∷ [])
    (posted (row [] ∷ digit 3 ∷ []) ∷ []))

-- of the two sources of a batch of three the first is done, and the second faults
abbrev pub faulting_batch : BlockTrace → Run Work
faulting_batch batch = run_of
    (with_input (block Buffer) ∷ with_input (block Buffer) ∷ with_size 3 (block Batch) ∷ [])
    (link 0 2 ∷ link 1 2 ∷ input_link 0 ∷ input_link 1 ∷ [])
    same
    (leaves_nothing (Took 0 2 (digit 1) ∷ Gave 0 (digit 1) ∷ ended_well) ∷ leaves_nothing (Fault 5 ∷ []) ∷ batch ∷ [])
    (posted (digit 1 ∷ []) ∷ posted_with_fault 5 [] ∷ [])

-- where its port has completed first the batch makes the rest a smaller group, and then faults
abbrev pub rest_made_before_fault : Run Work
rest_made_before_fault = faulting_batch (leaves (Took 0 0 (digit 1) ∷ Complete 0 ∷ Fault 5 ∷ []) (row (digit 1 ∷ []) ∷ []))

-- where the fault comes first the batch keeps the rest
abbrev pub rest_kept_at_fault : Run Work
rest_kept_at_fault = faulting_batch (holds (Took 0 0 (digit 1) ∷ Fault 5 ∷ []) ((digit 1 ∷ []) ∷ []))

pub record GoodRunsAreLawful : Type 0 where
  pub two_records_is : IsLawfulAndQuiet two_records
  pub parse_three_is : IsLawfulAndQuiet parse_three
  pub upto_flattens_is : IsLawfulAndQuiet upto_flattens
  pub unrouted_head_is : IsLawfulAndQuiet unrouted_head
  pub link_limit_is : IsLawfulAndQuiet link_limit
  pub batch_remainder_is : IsLawfulAndQuiet batch_remainder
  pub greedy_join_leaves_is : IsLawfulAndQuiet greedy_join_leaves
  pub reserving_join_leaves_is : IsLawfulAndQuiet reserving_join_leaves
  pub write_once_takes_one_is : IsLawfulAndQuiet write_once_takes_one
  pub broadcast_beside_a_join_is : IsLawfulAndQuiet broadcast_beside_a_join
  pub batched_join_groups_is : IsLawfulAndQuiet batched_join_groups
  pub fault_in_the_middle_is : IsLawfulAndQuiet fault_in_the_middle
  pub bounded_buffer_misses_is : IsLawfulAndQuiet bounded_buffer_misses
  pub fault_after_work_is : IsLawfulAndQuiet fault_after_work
  pub fault_before_work_is : IsLawfulAndQuiet fault_before_work
  pub more_than_one_result_is : IsLawfulAndQuiet more_than_one_result
  pub kept_for_the_caller_is : IsLawfulAndQuiet kept_for_the_caller
  pub room_for_two_is : IsLawfulAndQuiet room_for_two
  pub refused_and_passed_on_is : IsLawfulAndQuiet refused_and_passed_on
  pub rest_made_before_fault_is : IsLawfulAndQuiet rest_made_before_fault
  pub rest_kept_at_fault_is : IsLawfulAndQuiet rest_kept_at_fault
