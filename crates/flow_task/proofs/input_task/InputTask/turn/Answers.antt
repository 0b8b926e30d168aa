use Rattle.std.proofs.Common.{◌≡◌, ℕ, suc, ◌+◌, Bool, true, Ok, ap, ◌∙◌, subst, arith, false, Err, sym}
use Rattle.std.proofs.lemmas.Grind.{merely}
use Rattle.flow_input.specs.Input.{InputState}
use Rattle.flow_task.specs.Events.{InputHappens, InputLooks, TurnsBy}
use Rattle.flow_task.proofs.InputTells.{look_gives_nothing}
use Rattle.flow_task.proofs.TurnsHappen.{looked_turns, one_look, step_turns, steps_so}
use Rattle.flow_task.proofs.input_task.InputTask.turn.Goals as goal

pub loop-events-init : goal.loop-events-init
loop-events-init g c =
    let first = c.args.self.now.input in
    let looked = c.look.ensures.looked in
    record {
      of = c.look.ensures.of;
      link = c.look.ensures.link;
      turned = merely (one_look InputLooks first c.look.new.self.input (record { phase = looked.0; leaves = looked.1 }));
      first = λ none. record { phase = looked.0; leaves = looked.1 };
      kept = λ none. ap (λ (input : InputState). input.sent) looked.1 ∙ look_gives_nothing looked.0 first;
    }

pub loop-events-preserved : goal.loop-events-preserved
loop-events-preserved g c =
    let i = c.loop-events.invariant in
    let first = c.args.self.now.input in
    let old = c.loop-events.self.input in
    let new = c.step.new.self.input in
    let steps = steps_so InputLooks InputHappens c.step.result (Ok true) old new
    (c.in-Ok-true.is ∙ ap (λ (did : Bool). Ok did) c.in-Ok-true.field-0-test) c.step.ensures.steps in
    let more : suc c.loop-events.events ≡ c.loop-events.events + 1 = omega arith in
    record {
      of = c.step.ensures.of ∙ i.of;
      link = c.step.ensures.link ∙ i.link;
      turned = subst (λ (n : ℕ). ∥ TurnsBy InputLooks InputHappens n first new ∥₁) more
          (step_turns InputLooks InputHappens c.loop-events.events first old new i.turned steps);
      first = λ none. absurd (omega (arith, none));
      kept = λ none. absurd (omega (arith, none));
    }

pub returns-in-Ok-false-clause-happens : goal.returns-in-Ok-false-clause-happens
returns-in-Ok-false-clause-happens g c =
    let first = c.args.self.now.input in
    let old = c.loop-events.self.input in
    let new = c.step.new.self.input in
    let looked = steps_so InputLooks InputHappens c.step.result (Ok false) old new
    (c.in-Ok-false.is ∙ ap (λ (did : Bool). Ok did) c.in-Ok-false.field-0-test) c.step.ensures.steps in
    subst (λ (n : ℕ). ∥ TurnsBy InputLooks InputHappens n first new ∥₁) (sym c.turned.ensures.events)
    (looked_turns InputLooks InputHappens c.loop-events.events first old new c.loop-events.invariant.turned looked)

pub returns-then-events-eq0-clause-looked : goal.returns-then-events-eq0-clause-looked
returns-then-events-eq0-clause-looked g c =
    let first = c.args.self.now.input in
    let old = c.loop-events.self.input in
    let new = c.step.new.self.input in
    looked_turns InputLooks InputHappens 0 first old new
    (subst (λ (n : ℕ). ∥ TurnsBy InputLooks InputHappens n first old ∥₁) c.if-events-eq0.true c.loop-events.invariant.turned)
    (steps_so InputLooks InputHappens c.step.result (Err c.in-Err.fault) old new c.in-Err.is c.step.ensures.steps)

pub returns-in-Err-clause-happens : goal.returns-in-Err-clause-happens
returns-in-Err-clause-happens g c =
    let first = c.args.self.now.input in
    let old = c.loop-events.self.input in
    let new = c.step.new.self.input in
    let looked = steps_so InputLooks InputHappens c.step.result (Err c.in-Err.fault) old new c.in-Err.is c.step.ensures.steps in
    subst (λ (n : ℕ). ∥ TurnsBy InputLooks InputHappens n first new ∥₁) (sym c.turned-in-Err.ensures.events)
    (looked_turns InputLooks InputHappens c.loop-events.events first old new c.loop-events.invariant.turned looked)
