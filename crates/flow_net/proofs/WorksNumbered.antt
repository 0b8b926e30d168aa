-- No work means fault 0: each fault that has a meaning has a number.
use Rattle.std.proofs.Common.{◌≢◌, List, unwrap_or, Option, Some, None, Result, Ok, Err, refl, ap}
use Rattle.flow_value.specs.Fault.{number_of}
use Rattle.flow_value.specs.declared.value.Value.{Value}
use Rattle.flow_value.specs.declared.work.WorkFault.{WorkFault}
use Rattle.flow_value.specs.declared.work.WorkFault.TheVariants.{NotInt, NotText, NotRow, NoField, Range, Rejected}
use Rattle.flow_value.specs.declared.work.WorkFault.TheVariants.{Memory}
use Rattle.flow_exec.specs.Works.{result_by_number, worked_by}
use Rattle.flow_net.specs.Numbers.{WorksFaultByNumber}

number_is : (fault : WorkFault) → fault ≢ Memory → unwrap_or (number_of fault) 0 ≢ 0
number_is NotInt never e = cc
number_is NotText never e = cc
number_is NotRow never e = cc
number_is NoField never e = cc
number_is Range never e = cc
number_is Rejected never e = cc
number_is Memory never e = never refl

result_is : (result : Result (List Value) WorkFault) → result ≢ Err Memory → result_by_number result ≢ Err 0
result_is (Ok values) never e = cc
result_is (Err fault) never e = number_is fault (λ is. never (ap Err is)) cc

module _ (W : Type 0) (meaning : W → Value → Result (List Value) WorkFault)
    (never : (work : W) (value : Value) → meaning work value ≢ Err Memory) where
  work_is : (work : Option W) (value : Value) → worked_by meaning work value ≢ Err 0
  work_is None value e = cc
  work_is (Some work) value e = result_is (meaning work value) (never work value) e

  pub works_fault_by_number : WorksFaultByNumber W meaning
  works_fault_by_number layout b value e = work_is _ value e
