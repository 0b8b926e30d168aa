-- What a call tells of an event is told of the event as a driver names it.
use Rattle.std.proofs.Common.{◌≡◌, List, Result, Err, OnOk, sym, subst}
use Rattle.flow_value.specs.declared.value.Value.{Value}
use Rattle.flow_value.specs.declared.work.WorkFault.{WorkFault}
use Rattle.flow_net.specs.Dues.{event_of}
use Rattle.flow_net.specs.Engine.{MayHappenIn, parts_after}
use Rattle.flow_net.specs.declared.due.Due.{Due}
use Rattle.flow_net.specs.declared.engine.Engine.{Engine}
use Rattle.flow_net.specs.declared.fault.NetFault.{NetFault}
use Rattle.flow_net.specs.declared.fault.NetFault.TheVariants.{Ids}

module _ {W : Type 0} (meaning : W → Value → Result (List Value) WorkFault) (old : Engine W) where
  pub done_as : (new : Engine W) {event due : Due} → event ≡ due → {T : Type 0} (result : Result T NetFault)
      → OnOk result (new.parts ≡ parts_after meaning old (event_of due))
      → OnOk result (new.parts ≡ parts_after meaning old (event_of event))
  done_as new is result done =
      subst (λ (it : Due). OnOk result (new.parts ≡ parts_after meaning old (event_of it))) (sym is) done

  pub may_as : {event due : Due} → event ≡ due → {T : Type 0} (result : Result T NetFault)
      → OnOk result (MayHappenIn meaning old (event_of due)) → OnOk result (MayHappenIn meaning old (event_of event))
  may_as is result may = subst (λ (it : Due). OnOk result (MayHappenIn meaning old (event_of it))) (sym is) may

  pub used_up_as : {event due : Due} → event ≡ due → {T : Type 0} (result : Result T NetFault)
      → (result ≡ Err Ids → MayHappenIn meaning old (event_of due) → ⊥)
      → result ≡ Err Ids → MayHappenIn meaning old (event_of event) → ⊥
  used_up_as is result used_up =
      subst (λ (it : Due). result ≡ Err Ids → MayHappenIn meaning old (event_of it) → ⊥) (sym is) used_up

  pub memory_as : {event due : Due} → event ≡ due → {T : Type 0} (result : Result T NetFault)
      → MayHappenIn meaning old (event_of due) → MayHappenIn meaning old (event_of event)
  memory_as is result may = subst (λ (it : Due). MayHappenIn meaning old (event_of it)) (sym is) may
