-- What a caller sees of the inputs of a plan: its layout, and what is posted to each input.
use Rattle.std.specs.Prelude.{ℕ, List, [], ◌∷◌, ◌++◌, map, slice_set, slice_index_or}
use Rattle.flow_value.specs.declared.value.Value.{Value}
use Rattle.flow_link.specs.declared.trace.Ending.{Ending}
use Rattle.flow_link.specs.declared.trace.Ending.TheVariants as ending
use Rattle.flow_link.specs.Layout.{Layout}
use Rattle.flow_link.specs.Planned.{layout_of}
use Rattle.flow_link.specs.Trace.{InputTrace}
use Rattle.flow_link.specs.Posted.{input_of}
use Rattle.flow_front.specs.declared.inputs.Inputs.{Inputs}
use Rattle.flow_front.specs.declared.refused.PostRefused.{PostRefused}
use Rattle.flow_front.specs.declared.refused.PostRefused.TheVariants.{NoInput, Memory}

abbrev pub layout_in : {W : Type 0} → Inputs W → Layout W
layout_in inputs = layout_of inputs.plan

-- one list for each block that is an input, in the order of these blocks
abbrev pub posted_in : {W : Type 0} → Inputs W → List InputTrace
posted_in inputs = map input_of inputs.lists.items

-- an input to which nothing is posted, and nothing will be
abbrev pub nothing_posted : InputTrace
nothing_posted = record { posted = []; ending = ending.Complete }

abbrev pub with_value : Value → InputTrace → InputTrace
with_value value input = record { posted = input.posted ++ value ∷ []; ending = input.ending }

abbrev pub with_ending : Ending → InputTrace → InputTrace
with_ending last input = record { posted = input.posted; ending = last }

-- the inputs with the one at this place changed
abbrev pub changed_at : ℕ → (InputTrace → InputTrace) → List InputTrace → List InputTrace
changed_at place change inputs = slice_set inputs place (change (slice_index_or inputs place nothing_posted))

-- the value that was not posted
abbrev pub value_in : PostRefused → Value
value_in (NoInput value) = value
value_in (Memory value) = value
