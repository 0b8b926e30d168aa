-- What is posted to an input, as a run's trace has it, and that it ends in a way in which an input can end.
use Rattle.std.specs.Prelude.{ltb, Bool, true}
use Rattle.flow_link.specs.Trace.{InputTrace}
use Rattle.flow_link.specs.declared.posted.Posted.{Posted}
use Rattle.flow_link.specs.declared.trace.Ending.{Ending}
use Rattle.flow_link.specs.declared.trace.Ending.TheVariants.{Fault}

abbrev pub input_of : Posted → InputTrace
input_of posted = record { posted = posted.values.items; ending = posted.ending }

-- a fault by which an input ends has a number of at least 1
abbrev pub is_numbered_ending : Ending → Bool
is_numbered_ending (Fault number) = ltb 0 number
is_numbered_ending _ = true

abbrev pub ends_by_number : InputTrace → Bool
ends_by_number input = is_numbered_ending input.ending
