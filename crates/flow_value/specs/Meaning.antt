-- When a run of a work answers what the work means.
use Rattle.std.specs.Prelude.{◌≡◌, ◌≢◌, List, [], ◌∷◌, Option, Some, None, Result, Ok, Err}
use Rattle.std.specs.declared.vec.Vec.{Vec}
use Rattle.std.specs.declared.alloc.Global.{Global}
use Rattle.flow_value.specs.declared.value.Value.{Value}
use Rattle.flow_value.specs.declared.work.WorkFault.{WorkFault}
use Rattle.flow_value.specs.declared.work.WorkFault.TheVariants.{Memory}

-- values are the meaning's values, and a fault is the meaning's, unless memory was out
abbrev pub RunsAs : Result (List Value) WorkFault → Result (Vec Value Global) WorkFault → Type 0
RunsAs meaning (Ok values) = meaning ≡ Ok values.items
RunsAs meaning (Err fault) = fault ≢ Memory → meaning ≡ Err fault

-- a value is the only one of the meaning's, and a fault is the meaning's, unless memory was out; no value says nothing
abbrev pub RunsOneAs : Result (List Value) WorkFault → Result (Option Value) WorkFault → Type 0
RunsOneAs meaning (Ok (Some value)) = meaning ≡ Ok (value ∷ [])
RunsOneAs meaning (Ok None) = Unit {0}
RunsOneAs meaning (Err fault) = fault ≢ Memory → meaning ≡ Err fault
