-- What becomes of a network's engine that takes an event of the program: all that the answer says, in one.
use Rattle.std.specs.Prelude.{◌≡◌, Bool, List, Result, IfOk, IfErr, OnOk, OnErr}
use Rattle.flow_value.specs.declared.value.Value.{Value}
use Rattle.flow_value.specs.declared.work.WorkFault.{WorkFault}
use Rattle.flow_link.specs.Planned.{layout_of}
use Rattle.flow_exec.specs.Works.{works_of}
use Rattle.flow_net.specs.Engine.{MayHappenIn, parts_after}
use Rattle.flow_net.specs.Events.{Answers, IsOfOwnJob, IsRefused, net_event}
use Rattle.flow_net.specs.declared.engine.Engine.{Engine}
use Rattle.flow_net.specs.declared.event.Event.{Event}
use Rattle.flow_net.specs.declared.event.Stepped.{Stepped}
use Rattle.flow_net.specs.declared.fault.NetFault.{NetFault}

-- the event is done, if it may happen; else it comes back, and nothing has changed
pub record Takes {W : Type 0} {w : _} {e : _} (equal : W → W → Bool) (meaning : W → Value → Result (List Value) WorkFault)
    (old new : Engine W) (event : Event W w e) (answer : Result (Stepped W) (Event W w e × NetFault)) : Type 0 where
  pub same_plan : new.plan ≡ old.plan
  pub enabled : OnOk answer (MayHappenIn meaning old (net_event event))
  pub moved : OnOk answer (new.parts ≡ parts_after meaning old (net_event event))
  pub answers : IfOk answer (Answers equal (layout_of old.plan) old.parts event)
  pub own : OnOk answer (IsOfOwnJob equal (layout_of old.plan) old.parts event)
  pub kept : OnErr answer (new.parts ≡ old.parts)
  pub why : IfErr answer (λ refused. IsRefused equal (layout_of old.plan) (works_of meaning (layout_of old.plan)) old.parts event
      refused.1)
  pub back : IfErr answer (λ refused. refused.0 ≡ event)
