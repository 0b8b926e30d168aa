-- What a block makes of what it took: for each kind, how its outputs, and what it holds, follow from its messages.
use Rattle.std.specs.Prelude.{◌≡◌, ℕ, ◌+◌, ◌-◌, ◌==◌, leb, ltb, Bool, true, false, cond, ◌&&◌, ◌||◌, List, [], ◌∷◌, ◌++◌, length, get_or, take, drop, map, unwrap_or, Option, Some, None, Result, Ok, Err, pos}
use Rattle.flow_value.specs.View.{values_of}
use Rattle.flow_value.specs.declared.value.Value.{Value}
use Rattle.flow_value.specs.declared.value.Value.TheVariants.{Int, Row}
use Rattle.flow_link.specs.declared.draft.BlockKind.{BlockKind}
use Rattle.flow_link.specs.declared.draft.BlockKind.TheVariants.{Buffer, Broadcast, WriteOnce, Action, Transform, TransformMany, Batch, Join, BatchedJoin}
use Rattle.flow_link.specs.declared.trace.Mark.{Mark}
use Rattle.flow_link.specs.declared.trace.Mark.TheVariants.{Took, Gave, Complete, Fault, Done}
use Rattle.flow_link.specs.Lists.{every, is_empty, concat, same_values}
use Rattle.flow_link.specs.Trace.{Run, took, took_at, gave, has_complete, block_of, trace_of, marks_of, held_at, left_at, ports_of, block_numbers, partly_left}

-- the fault of a transform whose work gives another number of values than one
abbrev pub not_one : ℕ
not_one = 7

-- what a block makes of one message, by what its work gives for it
abbrev pub result_of : BlockKind → Result (List Value) ℕ → Result (List Value) ℕ
result_of Buffer result = result
result_of Broadcast result = result
result_of WriteOnce result = result
result_of Action result = result
result_of Transform (Ok (value ∷ [])) = Ok (value ∷ [])
result_of Transform (Ok _) = Err not_one
result_of Transform (Err number) = Err number
result_of TransformMany result = result
result_of Batch result = result
result_of Join result = result
result_of BatchedJoin result = result

abbrev pub with_result : Result (List Value) ℕ → Option (List (List Value)) → Option (List (List Value))
with_result (Ok values) (Some results) = Some (values ∷ results)
with_result _ _ = None

-- the result of each message, where none faults
abbrev pub results_of : (Value → Result (List Value) ℕ) → List Value → Option (List (List Value))
results_of result [] = Some []
results_of result (value ∷ values) = with_result (result value) (results_of result values)

-- no result is a fault, and all of them together are these values
abbrev pub is_made : Option (List (List Value)) → List Value → Bool
is_made None outputs = false
is_made (Some results) outputs = same_values (concat results) outputs

abbrev pub items_of : Value → List Value
items_of (Row items) = values_of items
items_of _ = []

abbrev pub is_row : ℕ → Value → Bool
is_row size (Row items) = length (values_of items) == size
is_row size _ = false

abbrev pub all_items : List Value → List Value
all_items rows = concat (map items_of rows)

-- the values that stand at one place of each row
abbrev pub column : ℕ → List Value → List Value
column p rows = map (λ row. get_or (items_of row) p (Int (pos 0))) rows

-- each group is as great as it may be, but for the last, which is not empty
abbrev pub are_groups : (Value → ℕ) → ℕ → List Value → Bool
are_groups weight size [] = true
are_groups weight size (group ∷ []) = ltb 0 (weight group) && leb (weight group) size
are_groups weight size (group ∷ groups) = weight group == size && are_groups weight size groups

-- the marks before a port's Complete, and all of them where it has none
abbrev pub before_complete : ℕ → List Mark → List Mark
before_complete p [] = []
before_complete p (Complete port ∷ marks) = cond (port == p) [] (Complete port ∷ before_complete p marks)
before_complete p (Took port link value ∷ marks) = Took port link value ∷ before_complete p marks
before_complete p (Gave link value ∷ marks) = Gave link value ∷ before_complete p marks
before_complete p (Fault number ∷ marks) = Fault number ∷ before_complete p marks
before_complete p (Done ∷ marks) = Done ∷ before_complete p marks

-- until the port has Complete, whatever is given is a whole group, and so is what is left
abbrev pub whole_until : (Value → ℕ) → ℕ → List Mark → List Value → ℕ → Bool
whole_until weight size marks left p =
    every (λ group. weight group == size) (gave (before_complete p marks))
    && (has_complete p marks || every (λ group. weight group == size) left)

-- a message that came, with its port
pub record Arrival : Type 0 where
  pub port : ℕ
  pub value : Value

abbrev pub arrivals : List Mark → List Arrival
arrivals [] = []
arrivals (Took port link value ∷ marks) = record { port = port; value = value } ∷ arrivals marks
arrivals (Gave _ _ ∷ marks) = arrivals marks
arrivals (Complete _ ∷ marks) = arrivals marks
arrivals (Fault _ ∷ marks) = arrivals marks
arrivals (Done ∷ marks) = arrivals marks

abbrev pub arrived_at : ℕ → List Arrival → List Value
arrived_at p [] = []
arrived_at p (arrival ∷ rest) = cond (arrival.port == p) (arrival.value ∷ arrived_at p rest) (arrived_at p rest)

-- how many messages a row of rows has
abbrev pub row_weight : Value → ℕ
row_weight row = length (items_of row)

abbrev pub rows_weight : Value → ℕ
rows_weight row = length (all_items (items_of row))

abbrev pub is_any_row : Value → Bool
is_any_row (Row _) = true
is_any_row _ = false

-- the row has a row for each port, of the messages that came there, in order
abbrev pub is_group : List ℕ → List Arrival → Value → Bool
is_group ports group row =
    is_row (length ports) row && every is_any_row (items_of row)
    && every (λ p. same_values (arrived_at p group) (items_of (get_or (items_of row) p row))) ports

-- what came is cut into the groups of these rows, and what is held
abbrev pub are_cut : List ℕ → (ℕ → List Value) → List Arrival → List Value → Bool
are_cut ports held came [] = every (λ p. same_values (arrived_at p came) (held p)) ports
are_cut ports held came (row ∷ rows) =
    is_group ports (take (rows_weight row) came) row && are_cut ports held (drop (rows_weight row) came) rows

module _ {W : Type 0} (run : Run W) (b : ℕ) where
  -- what the block's work makes of a message
  abbrev pub block_result : Value → Result (List Value) ℕ
  block_result value = result_of (block_of run b).kind (run.meaning b value)

  -- each output crossed one link or is left
  abbrev pub outputs : List Value
  outputs = gave (marks_of run b) ++ left_at run b

  -- the messages taken before those that are held
  abbrev pub worked : List Value
  worked = take (length (took (marks_of run b)) - length (held_at run b 0)) (took (marks_of run b))

  abbrev pub group_size : ℕ
  group_size = unwrap_or (block_of run b).size 0

  -- each message is handed on as it is
  abbrev pub buffer_makes : Bool
  buffer_makes = same_values (took (marks_of run b)) (outputs ++ held_at run b 0)

  -- the results of the messages taken, in their order
  abbrev pub work_makes : List Value → Bool
  work_makes made =
      same_values (took (marks_of run b)) (worked ++ held_at run b 0)
      && is_made (results_of block_result worked) made

  -- an action records its results, and has none to give
  abbrev pub action_makes : Bool
  action_makes = work_makes (trace_of run b).recorded && is_empty (left_at run b)

  -- the messages taken, in rows
  abbrev pub batch_makes : Bool
  batch_makes =
      same_values (took (marks_of run b)) (all_items outputs ++ held_at run b 0)
      && are_groups row_weight group_size outputs
      && whole_until row_weight group_size (marks_of run b) (left_at run b) 0

  -- rows of one message from each port
  abbrev pub join_makes : Bool
  join_makes =
      every (is_row (length (ports_of run b))) outputs
      && every (λ p. same_values (took_at p (marks_of run b)) (column p outputs ++ held_at run b p)) (ports_of run b)

  -- the messages taken, in rows of a row for each port
  abbrev pub batched_join_makes : Bool
  batched_join_makes =
      are_cut (ports_of run b) (held_at run b) (arrivals (marks_of run b)) outputs
      && are_groups rows_weight group_size outputs
      && every (whole_until rows_weight group_size (marks_of run b) (left_at run b)) (ports_of run b)

  -- a broadcast or write-once block copies, which is a law of its own
  abbrev pub makes_as : BlockKind → Bool
  makes_as Buffer = buffer_makes
  makes_as Broadcast = true
  makes_as WriteOnce = true
  makes_as Action = action_makes
  makes_as Transform = work_makes outputs
  makes_as TransformMany = work_makes outputs
  makes_as Batch = batch_makes
  makes_as Join = join_makes
  makes_as BatchedJoin = batched_join_makes

  abbrev pub makes : Bool
  makes = makes_as (block_of run b).kind

  -- of how many messages taken at a port the block has something still to give, or has made nothing yet
  abbrev pub part_left : Option (List (List Value)) → ℕ
  part_left None = 0
  part_left (Some results) = partly_left (length (gave (marks_of run b))) results

  abbrev pub load_as : BlockKind → ℕ → ℕ
  load_as Buffer p = length (held_at run b p) + length (left_at run b)
  load_as Broadcast p = length (held_at run b p) + length (left_at run b)
  load_as WriteOnce p = length (held_at run b p) + length (left_at run b)
  load_as Action p = length (held_at run b p) + length (left_at run b)
  load_as Transform p = length (held_at run b p) + length (left_at run b)
  load_as TransformMany p = length (held_at run b p) + part_left (results_of block_result worked)
  load_as Batch p = length (held_at run b p) + length (all_items (left_at run b))
  load_as Join p = length (held_at run b p) + length (left_at run b)
  load_as BatchedJoin p = length (held_at run b p) + length (all_items (column p (left_at run b)))

  abbrev pub load : ℕ → ℕ
  load p = load_as (block_of run b).kind p

-- each block makes what its kind makes
pub record Making {W : Type 0} (run : Run W) : Type 0 where
  pub each_block : every (makes run) (block_numbers run) ≡ true
