-- What becomes of the values that senders give: each is told as accepted, is under way or comes back, once and in order.
use Rattle.std.specs.Prelude.{◌≡◌, true, false, List, [], ◌∷◌, ◌++◌, map, Option, Some, None}
use Rattle.std.specs.List.{FoldsTo}
use Rattle.flow_value.specs.declared.value.Value.{Value}
use Rattle.flow_lawful.specs.Quiet.{is_open}
use Rattle.flow_input.specs.Input.{InputState}
use Rattle.flow_input.specs.Sends.{sends_of}
use Rattle.flow_poll.specs.Sends.{SendView}
use Rattle.flow_board.specs.Parts.{entry_state}
use Rattle.flow_task.specs.declared.numbered.Entry.{Entry}
use Rattle.flow_open.specs.declared.sender.Sender.{Sender}
use Rattle.flow_open.specs.declared.sender.SenderState.TheVariants.{Through}
use Rattle.flow_open.specs.Pairs.{EachPair}
use Rattle.flow_open.specs.Senders.{back_in, is_sending}

-- the values among the answers of an iterator
abbrev pub given : List (Option Value) → List Value
given [] = []
given (None ∷ rest) = given rest
given (Some value ∷ rest) = value ∷ given rest

-- the values that an entry told as accepted, the one that came back to its sender, and those that are under way
abbrev pub values_at : {S : Type 0} → SendView → Sender S → List Value
values_at view sender = view.accepted ++ (back_in sender.state ++ map (λ begun. begun.value) view.begun)

-- the last answer was that there is none any more, nothing is under way, and the input is to end
pub record AllAreSent (answers : List (Option Value)) (new : InputState) : Type 0 where
  pub before : List (Option Value)
  pub none_more : answers ≡ before ++ None ∷ []
  pub none_begun : (sends_of new).begun ≡ []
  pub to_end : is_open new.ending ≡ false

-- nothing was asked for, and nothing changed
pub record IsStill {S : Type 0} (answers : List (Option Value)) (old : InputState) (from : Sender S) (new : InputState) (to : Sender S) : Type 0 where
  pub none_asked : answers ≡ []
  pub same_input : new ≡ old
  pub same_sender : to ≡ from

module _ {S : Type 0} (gives : S → Option Value → S → Type 0) where
  -- a sender was asked for values, each time after the last one, and these came behind the values that were there; what was told as
  -- accepted stays told; it is through only when all are sent, and one that sends no more is asked no more
  pub record Sends (old : InputState) (from : Sender S) (new : InputState) (to : Sender S) : Type 0 where
    pub answers : List (Option Value)
    pub asked : FoldsTo gives from.values answers to.values
    pub each_once : values_at (sends_of new) to ≡ values_at (sends_of old) from ++ given answers
    pub told : List Value
    pub told_more : (sends_of new).accepted ≡ (sends_of old).accepted ++ told
    pub through : is_sending from.state ≡ true → to.state ≡ Through → AllAreSent answers new
    pub still : is_sending from.state ≡ false → IsStill answers old from new to

  -- each sender at its entry, by their places
  abbrev pub EachSends : {W : Type 0} {w : _} {e : _} → List (Entry W w e) → List (Sender S) → List (Entry W w e) → List (Sender S) → Type 0
  EachSends = EachPair (λ entry sender entry_then sender_then. Sends (entry_state entry) sender (entry_state entry_then) sender_then)
