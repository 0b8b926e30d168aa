-- An entry is made of an input.
use Rattle.std.proofs.Common.{◌≡◌, ℕ, true, List, sym, subst}
use Rattle.std.proofs.lemmas.Grind.{merely}
use Rattle.flow_value.specs.declared.value.Value.{Value}
use Rattle.flow_link.specs.Planned.{layout_of}
use Rattle.flow_input.specs.Input.{InputState}
use Rattle.flow_task.specs.Begun.{begun_input}
use Rattle.flow_task.specs.Entries.{EntryLaw}
use Rattle.flow_task.specs.Numbers.{is_entry_number}
use Rattle.flow_task.specs.declared.board.Board.{Board}
use Rattle.flow_task.specs.declared.input_task.InputTask.{InputTask}
use Rattle.flow_task.proofs.TakenApart.{known_there}

module _ {W : Type 0} {w : _} {e : _} (board : Board W) (link : ℕ) where
  pub made_number : (number : ℕ) (new : InputTask W w e) → new.of.value ≡ board → new.link ≡ link
      → is_entry_number (layout_of board.rest.plan) board.opens.items link number ≡ true
      → is_entry_number (layout_of new.of.value.rest.plan) new.of.value.opens.items new.link number ≡ true
  made_number number new of at is =
      known_there (λ (b : Board W) (l : ℕ). is_entry_number (layout_of b.rest.plan) b.opens.items l number ≡ true)
      board new.of.value link new.link (sym of) (sym at) is

  pub made_by : (input : InputState) (new : InputTask W w e) → new.of.value ≡ board → new.link ≡ link → input ≡ begun_input board link
      → (ready : List Value) (state : InputState) → new.input ≡ state → EntryLaw input state ready
      → ∥ EntryLaw (begun_input new.of.value new.link) new.input ready ∥₁
  made_by input new of at begun ready state is law =
      known_there (λ (b : Board W) (l : ℕ). ∥ EntryLaw (begun_input b l) new.input ready ∥₁) board new.of.value link new.link (sym of) (sym at)
      (merely (subst (λ (i : InputState). EntryLaw (begun_input board link) i ready) (sym is)
      (subst (λ (i : InputState). EntryLaw i state ready) begun law)))
