-- What the blocks of a layout make of a message: what their works mean, by the numbers of faults.
use Rattle.std.specs.Prelude.{ℕ, List, [], ◌∷◌, unwrap_or, Option, Some, None, Result, Ok, Err}
use Rattle.flow_value.specs.Fault.{number_of}
use Rattle.flow_value.specs.declared.value.Value.{Value}
use Rattle.flow_value.specs.declared.work.WorkFault.{WorkFault}
use Rattle.flow_link.specs.Layout.{Layout}
use Rattle.flow_link.specs.declared.draft.BlockKind.{BlockKind}
use Rattle.flow_link.specs.Making.{result_of}
use Rattle.flow_link.specs.Plan.{block_in}

abbrev pub result_by_number : Result (List Value) WorkFault → Result (List Value) ℕ
result_by_number (Ok values) = Ok values
result_by_number (Err fault) = Err (unwrap_or (number_of fault) 0)

-- a block without a work gives the message
abbrev pub worked_by : {W : Type 0} → (W → Value → Result (List Value) WorkFault) → Option W → Value → Result (List Value) ℕ
worked_by meaning None value = Ok (value ∷ [])
worked_by meaning (Some work) value = result_by_number (meaning work value)

-- what a block of this kind makes of a message
abbrev pub results_by : {W : Type 0} → Option W → BlockKind → (W → Value → Result (List Value) WorkFault) → Value → Result (List Value) ℕ
results_by work kind meaning value = result_of kind (worked_by meaning work value)

-- what each block of a layout makes of a message
abbrev pub works_of : {W : Type 0} → (W → Value → Result (List Value) WorkFault) → Layout W → ℕ → Value → Result (List Value) ℕ
works_of meaning layout b value = worked_by meaning (block_in layout.blocks b).work value
