-- Senders at their entries, and receivers at their exits: all stay, all go on, and one goes on.
use Rattle.std.proofs.Common.{◌≡◌, ℕ, ◌<◌, List, Option, length, get_or, set, refl}
use Rattle.flow_value.specs.declared.value.Value.{Value}
use Rattle.flow_board.specs.Parts.{entry_state, exit_state}
use Rattle.flow_task.specs.declared.numbered.Entry.{Entry}
use Rattle.flow_task.specs.declared.numbered.Exit.{Exit}
use Rattle.flow_open.specs.declared.sender.Sender.{Sender}
use Rattle.flow_open.specs.Sends.{EachSends, Sends}
use Rattle.flow_open.specs.Takes.{EachTakes, Takes}
use Rattle.flow_open.proofs.Pairs.{each_at, each_further, each_stays}
use Rattle.flow_open.proofs.Sending.{sends_none, sends_on}
use Rattle.flow_open.proofs.Taking.{takes_none, takes_on}

module _ {W : Type 0} {w : _} {e : _} {S : Type 0} (gives : S → Option Value → S → Type 0) where
  abbrev SendsAt : Entry W w e → Sender S → Entry W w e → Sender S → Type 0
  SendsAt entry sender entry_then sender_then = Sends gives (entry_state entry) sender (entry_state entry_then) sender_then

  sends_at_on : (a₁ a₂ a₃ : Entry W w e) (b₁ b₂ b₃ : Sender S) → SendsAt a₁ b₁ a₂ b₂ → SendsAt a₂ b₂ a₃ b₃ → SendsAt a₁ b₁ a₃ b₃
  sends_at_on a₁ a₂ a₃ b₁ b₂ b₃ head tail =
      sends_on gives (entry_state a₁) (entry_state a₂) (entry_state a₃) b₁ b₂ b₃ head tail

  pub each_sends_none : (entries : List (Entry W w e)) (senders : List (Sender S)) → EachSends gives entries senders entries senders
  each_sends_none entries senders = each_stays SendsAt (λ a b. sends_none gives (entry_state a) b) entries senders

  pub each_sends_on : (old mid new : List (Entry W w e)) (from by to : List (Sender S)) → EachSends gives old from mid by
      → EachSends gives mid by new to → EachSends gives old from new to
  each_sends_on old mid new from by to head tail = each_further SendsAt sends_at_on old mid new from by to head tail

  pub each_sends_at : (old mid : List (Entry W w e)) (from by : List (Sender S)) (place : ℕ) (a₁ a₂ : Entry W w e) (b₁ b₂ : Sender S)
      → EachSends gives old from mid by → place < length mid → place < length by → a₁ ≡ get_or mid place a₁ → b₁ ≡ get_or by place b₁
      → Sends gives (entry_state a₁) b₁ (entry_state a₂) b₂ → EachSends gives old from (set mid place a₂) (set by place b₂)
  each_sends_at old mid from by place a₁ a₂ b₁ b₂ each low other is_a is_b goes =
      each_at SendsAt sends_at_on old mid from by place a₁ a₂ b₁ b₂ each low other is_a is_b goes

module _ {W : Type 0} {w : _} {e : _} {F : Type 0} (takes : F → Value → F → Type 0) where
  abbrev TakesAt : Exit W w e → F → Exit W w e → F → Type 0
  TakesAt exit receiver exit_then receiver_then = Takes takes (exit_state exit).received receiver (exit_state exit_then).received receiver_then

  takes_at_on : (a₁ a₂ a₃ : Exit W w e) (b₁ b₂ b₃ : F) → TakesAt a₁ b₁ a₂ b₂ → TakesAt a₂ b₂ a₃ b₃ → TakesAt a₁ b₁ a₃ b₃
  takes_at_on a₁ a₂ a₃ b₁ b₂ b₃ head tail =
      takes_on takes (exit_state a₁).received (exit_state a₂).received (exit_state a₃).received b₁ b₂ b₃ head tail

  pub each_takes_none : (exits : List (Exit W w e)) (receivers : List F) → EachTakes takes exits receivers exits receivers
  each_takes_none exits receivers =
      each_stays TakesAt (λ a b. takes_none takes (exit_state a).received (exit_state a).received b refl) exits receivers

  pub each_takes_on : (old mid new : List (Exit W w e)) (from by to : List F) → EachTakes takes old from mid by → EachTakes takes mid by new to
      → EachTakes takes old from new to
  each_takes_on old mid new from by to head tail = each_further TakesAt takes_at_on old mid new from by to head tail

  pub each_takes_at : (old mid : List (Exit W w e)) (from by : List F) (place : ℕ) (a₁ a₂ : Exit W w e) (b₁ b₂ : F)
      → EachTakes takes old from mid by → place < length mid → place < length by → a₁ ≡ get_or mid place a₁ → b₁ ≡ get_or by place b₁
      → Takes takes (exit_state a₁).received b₁ (exit_state a₂).received b₂ → EachTakes takes old from (set mid place a₂) (set by place b₂)
  each_takes_at old mid from by place a₁ a₂ b₁ b₂ each low other is_a is_b goes =
      each_at TakesAt takes_at_on old mid from by place a₁ a₂ b₁ b₂ each low other is_a is_b goes
