use Rattle.std.proofs.Common.{◌≡◌}
use Rattle.flow_task.specs.Events.{InputHappens, InputLooks, TurnsBy}
use Rattle.flow_task.proofs.input_task.InputTask.turn.Given as goal

-- it is the same input, so many events were done, and before the first event it has given nothing more
abbrev pub invariant-loop-events : goal.invariant-loop-events
invariant-loop-events g l = record {
  of : l.self.of.value ≡ l.fn.self.of.value;
  link : l.self.link ≡ l.fn.self.link;
  turned : ∥ TurnsBy InputLooks InputHappens l.events l.fn.self.input l.self.input ∥₁;
  first : l.events ≡ 0 → InputLooks l.fn.self.input l.self.input;
  kept : l.events ≡ 0 → l.self.input.sent ≡ l.fn.self.input.sent;
}
