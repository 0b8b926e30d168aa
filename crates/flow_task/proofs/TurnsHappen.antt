-- What a step of a turn does is an event, with looks before it at most; and so step after step.
use Rattle.std.proofs.Common.{◌≡◌, ℕ, zero, suc, Bool, true, false, List, Result, Ok, Err, IfOk, OnOk, OnErr, refl, sym, subst}
use Rattle.std.specs.declared.alloc.AllocError.{AllocError}
use Rattle.std.proofs.Math.Logic.{∥∥₁_elim, ∥∥₁_map, ∥∥₁_prop}
use Rattle.flow_value.specs.declared.value.Value.{Value}
use Rattle.flow_block.specs.Node.{NodeState}
use Rattle.flow_task.specs.Events.{Does, HasEvent, HasLooked, LooksBy, StepsBy, TurnsBy}

-- a move, if it was not too late for it, nor memory out
pub moved_does : {ends : Bool} (makes : Value → Result (List Value) ℕ) (Moved : Type 0) (result : Result Bool AllocError) (node new : NodeState)
    → (Moved → ∥ HasEvent ends makes node new ∥₁) → IfOk result (λ moved. moved ≡ true → Moved)
    → IfOk result (λ moved. moved ≡ false → new ≡ node) → OnErr result (new ≡ node) → Does ends makes result node new
moved_does makes Moved (Ok true) node new event moved missed kept = event (moved refl)
moved_does makes Moved (Ok false) node new event moved missed kept = missed refl
moved_does makes Moved (Err fault) node new event moved missed kept = kept

-- what a block does by itself, unless an id or memory is wanting
pub undone_does : {A E : Type 0} (ends : Bool) (makes : Value → Result (List Value) ℕ) (done : Result A E) (result : Result Bool AllocError)
    (node new : NodeState) → OnOk done (result ≡ Ok true) → OnErr done (IfOk result (λ did. did ≡ false))
    → OnOk done (∥ HasEvent ends makes node new ∥₁) → OnErr done (new ≡ node) → Does ends makes result node new
undone_does ends makes (Ok value) (Ok true) node new is not event kept = event
undone_does ends makes (Ok value) (Ok false) node new is not event kept = absurd (cc)
undone_does ends makes (Ok value) (Err fault) node new is not event kept = absurd (cc)
undone_does ends makes (Err lack) (Ok true) node new is not event kept = absurd (cc)
undone_does ends makes (Err lack) (Ok false) node new is not event kept = kept
undone_does ends makes (Err lack) (Err fault) node new is not event kept = kept

module _ {S : Type 0} (Looks : S → S → Type 0) where
  pub stays : (old : S) → HasLooked Looks old old
  stays old = (0, refl)

  pub stays_so : (old new : S) → new ≡ old → HasLooked Looks old new
  stays_so old new same = (0, same)

  pub one_look : (old new : S) → Looks old new → HasLooked Looks old new
  one_look old new looks = (1, (old, (refl, looks)))

  looks_on : (n : ℕ) (first old new : S) → HasLooked Looks first old → LooksBy Looks n old new → HasLooked Looks first new
  looks_on zero first old new before same = subst (HasLooked Looks first) (sym same) before
  looks_on (suc n) first old new before more =
      let mid = looks_on n first old more.0 before more.1.0 in
      (suc mid.0, (more.0, (mid.1, more.1.1)))

  pub looks_further : (first old new : S) → HasLooked Looks first old → HasLooked Looks old new → HasLooked Looks first new
  looks_further first old new before more = looks_on more.0 first old new before more.1

  module _ (Happens : S → S → Type 0) where
    looked_on : (n : ℕ) (first old new : S) → TurnsBy Looks Happens n first old → HasLooked Looks old new → TurnsBy Looks Happens n first new
    looked_on zero first old new turned looked = looks_further first old new turned looked
    looked_on (suc n) first old new turned looked =
        (turned.0, (turned.1.0, (turned.1.1.0, (turned.1.1.1.0, looks_further turned.1.1.0 old new turned.1.1.1.1 looked))))

    pub looked_turns : (n : ℕ) (first old new : S) → ∥ TurnsBy Looks Happens n first old ∥₁ → ∥ HasLooked Looks old new ∥₁
        → ∥ TurnsBy Looks Happens n first new ∥₁
    looked_turns n first old new turned looked =
        ∥∥₁_elim turned ∥∥₁_prop (λ t. ∥∥₁_map looked (λ l. looked_on n first old new t l))

    -- one event more
    pub step_turns : (n : ℕ) (first old new : S) → ∥ TurnsBy Looks Happens n first old ∥₁ → StepsBy Looks Happens (Ok true) old new
        → ∥ TurnsBy Looks Happens (suc n) first new ∥₁
    step_turns n first old new turned step =
        ∥∥₁_elim turned ∥∥₁_prop (λ t.
        ∥∥₁_map step (λ s. (s.0, (looked_on n first old s.0 t s.1.0, (new, (s.1.1, stays new))))))

    -- the result of the step was this
    pub steps_so : (result came : Result Bool AllocError) (old new : S) → result ≡ came → StepsBy Looks Happens result old new
        → StepsBy Looks Happens came old new
    steps_so result came old new is steps = subst (λ (r : Result Bool AllocError). StepsBy Looks Happens r old new) is steps

    -- an event at once
    pub event_steps : (old new : S) → ∥ Happens old new ∥₁ → StepsBy Looks Happens (Ok true) old new
    event_steps old new event = ∥∥₁_map event (λ e. (old, (stays old, e)))
