-- A value is begun at an entry, as its caller sees it.
use Rattle.std.proofs.Common.{◌≡◌, not, Bool, true, false, Result, Ok, Err, OnOk, refl, sym, subst}
use Rattle.flow_value.specs.declared.value.Value.{Value}
use Rattle.flow_input.specs.Input.{InputState, InputCall, after_input}
use Rattle.flow_input.specs.InputKeeps.{InputLaw}
use Rattle.flow_input.specs.Sends.{begun_as, has_id, is_idle, sends_of}
use Rattle.flow_input.proofs.OneProof.{idle_merely}
use Rattle.flow_input.proofs.TellsMay.{inputs_tell}
use Rattle.flow_poll.specs.Sends.{Begins}
use Rattle.flow_task.specs.Entries.{with_parcel}

module _ (old new : InputState) (value : Value) (may_postpone : Bool) where
  abbrev BeginsSo : Type 0
  BeginsSo = Begins (record { value = value; may_postpone = may_postpone }) (has_id old) (sends_of old) (sends_of new)

  by_state : (state : InputState) (at_once : Bool) → not at_once ≡ may_postpone → new ≡ state
      → Begins (begun_as at_once value) (has_id old) (sends_of old) (sends_of state) → BeginsSo
  by_state state at_once so is begins =
      subst (λ (input : InputState). Begins (record { value = value; may_postpone = may_postpone }) (has_id old) (sends_of old) (sends_of input))
      (sym is)
      (subst (λ (b : Bool). Begins (record { value = value; may_postpone = b }) (has_id old) (sends_of old) (sends_of state)) so begins)

  on_ok : {A E P Q : Type 0} (result : Result A E) → (P → Q) → OnOk result P → OnOk result Q
  on_ok (Ok x) f p = f p
  on_ok (Err e) f p = tt

  pub later_begins : {A E : Type 0} (result : Result A E) → may_postpone ≡ true → ∥ InputLaw old ∥₁ → is_idle old ≡ true → has_id old ≡ true
      → OnOk result (new ≡ with_parcel (after_input (InputCall.begin value) old)) → OnOk result BeginsSo
  later_begins result may law idle id = on_ok result (λ is.
      by_state (with_parcel (after_input (InputCall.begin value) old)) false (sym may) is
      (inputs_tell.begins old value (idle_merely old law idle) id))

  pub post_begins : {A E : Type 0} (result : Result A E) → may_postpone ≡ false → ∥ InputLaw old ∥₁ → is_idle old ≡ true → has_id old ≡ true
      → OnOk result (new ≡ after_input (InputCall.post value) old) → OnOk result BeginsSo
  post_begins result may law idle id = on_ok result (λ is.
      by_state (after_input (InputCall.post value) old) true (sym may) is (inputs_tell.posts old value (idle_merely old law idle) id))

  pub back_begins : ∥ InputLaw old ∥₁ → is_idle old ≡ true → has_id old ≡ true → new ≡ after_input (InputCall.send_back value (not may_postpone)) old
      → BeginsSo
  back_begins law idle id is =
      by_state (after_input (InputCall.send_back value (not may_postpone)) old) (not may_postpone) (twice may_postpone) is
      (inputs_tell.sends_back old value (not may_postpone) (idle_merely old law idle) id)
    where
      twice : (b : Bool) → not (not b) ≡ b
      twice true = refl
      twice false = refl
