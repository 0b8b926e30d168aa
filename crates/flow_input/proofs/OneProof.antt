-- What a caller is told has one proof at most, so it follows where the input merely is in order.
use Rattle.std.proofs.Common.{◌≡◌, ◌≢◌, true, false, List, [], ◌∷◌, Option}
use Rattle.std.proofs.Math.Logic.{∥∥₁_elim}
use Rattle.std.proofs.Math.Nat.{ℕ_set}
use Rattle.std.specs.Coded.{codes}
use Rattle.flow_value.specs.declared.value.Value.{Value}
use Rattle.flow_value.specs.contracts.value.Value as content
use Rattle.flow_poll.specs.Sends.{AcceptsFirst, Begun, DeclinesFirst, ReturnsFirst, SendView, Tells}
use Rattle.flow_poll.specs.declared.send.Sent.{Sent}
use Rattle.flow_poll.specs.declared.send.Sent.TheVariants as sent
use Rattle.flow_input.specs.Input.{InputState}
use Rattle.flow_input.specs.InputKeeps.{InputLaw, IsIdle}
use Rattle.flow_input.specs.Sends.{after_told, is_idle, sends_of, told_next}
use Rattle.flow_input.proofs.TellsMay.{inputs_tell}

Options-set : IsSet (Option Value)
Options-set = hlevel (codes, content.the_row.coded)

Begun-set : IsSet Begun
Begun-set = hlevel (codes, content.the_row.coded)

All-begun-set : IsSet (List Begun)
All-begun-set = hlevel (codes, content.the_row.coded)

Views-set : IsSet SendView
Views-set = hlevel (codes, content.the_row.coded)

Value-set : IsSet Value
Value-set = hlevel (codes, content.the_row.coded)

accepts_prop : (begun : List Begun) (before : List Value) (new : SendView) → IsProp (AcceptsFirst begun before new)
accepts_prop [] before new = hlevel
accepts_prop (first ∷ rest) before new = Views-set _ _

declines_prop : (begun : List Begun) (before : List Value) (value : Value) (new : SendView) → IsProp (DeclinesFirst begun before value new)
declines_prop [] before value new = hlevel
declines_prop (first ∷ rest) before value new = hlevel (Begun-set, Views-set)

returns_prop : (begun : List Begun) (before : List Value) (value : Value) (new : SendView) → IsProp (ReturnsFirst begun before value new)
returns_prop [] before value new = hlevel
returns_prop (first ∷ rest) before value new = hlevel (Value-set, Views-set)

tells_prop : (told : Sent) (old new : SendView) → IsProp (Tells told old new)
tells_prop sent.Idle old new = hlevel (All-begun-set, Views-set)
tells_prop sent.Waiting old new = hlevel (All-begun-set, Views-set)
tells_prop sent.Accepted old new = accepts_prop old.begun old.accepted new
tells_prop (sent.Declined value) old new = declines_prop old.begun old.accepted value new
tells_prop (sent.Permanently value) old new = returns_prop old.begun old.accepted value new

idle_prop : (input : InputState) → IsProp (IsIdle input)
idle_prop input = hlevel (ℕ_set, Options-set)

pub told_merely : (input : InputState) → ∥ InputLaw input ∥₁
    → Tells (told_next input).answer (sends_of input) (sends_of (after_told (told_next input).call input))
told_merely input law =
    ∥∥₁_elim law (tells_prop (told_next input).answer (sends_of input) (sends_of (after_told (told_next input).call input)))
    (λ law. inputs_tell.tells input law)

pub idle_merely : (input : InputState) → ∥ InputLaw input ∥₁ → is_idle input ≡ true → IsIdle input
idle_merely input law idle = ∥∥₁_elim law (idle_prop input) (λ law. inputs_tell.idle input law idle)

pub busy_merely : (input : InputState) → ∥ InputLaw input ∥₁ → is_idle input ≡ false → (sends_of input).begun ≢ []
busy_merely input law busy none =
    let none_prop : IsProp ⊥ = hlevel in
    ∥∥₁_elim law none_prop (λ law. inputs_tell.busy input law busy none)
