-- Parts that were run are gathered, and what comes back of them is of the network that was scattered.
use Rattle.std.proofs.Common.{◌≡◌, ℕ, List, Option, Result, map, refl, subst, ◌∙◌}
use Rattle.flow_value.specs.declared.value.Value.{Value}
use Rattle.flow_value.specs.declared.work.WorkFault.{WorkFault}
use Rattle.flow_link.specs.Layout.{Layout}
use Rattle.flow_core.specs.Inputs.{InputsStay}
use Rattle.flow_core.specs.State.{NetState}
use Rattle.flow_net.specs.Net.{layout_in, parts_of}
use Rattle.flow_net.specs.declared.net.Net.{Net}
use Rattle.flow_board.specs.Begun.{JournalsExtend, begun_in}
use Rattle.flow_board.specs.Gathers.{AreBack, IsWhyNot}
use Rattle.flow_board.specs.Parts.{board_layout, entry_number, exit_number, exit_state}
use Rattle.flow_board.specs.Home.{HasComeHome}
use Rattle.flow_board.specs.Untouched.{AllUntouched}
use Rattle.flow_board.specs.declared.gathering.GatherFault.TheVariants.{Missing}
use Rattle.flow_board.proofs.EventsGrow.{extends_on, home_callers}
use Rattle.flow_task.specs.declared.board.Board.{Board}
use Rattle.flow_task.specs.declared.numbered.Parts.{Parts}
use Rattle.flow_crew.specs.Numbers.{SameNumbers}
use Rattle.flow_crew.proofs.Once.{never_missing}
use Rattle.flow_open.specs.declared.fault.OpenFault.{OpenFault}
use Rattle.flow_open.specs.declared.fault.OpenFault.TheVariants as fault
use Rattle.flow_open.specs.declared.sender.Sender.{Sender}
use Rattle.flow_open.specs.Opened.{AreWhole, IsBack, IsLeftOf, IsScattered}

module _ {W : Type 0} {w : _} {e : _} where
  -- parts with the numbers that they had before are not missed
  pub none_missing : (before after back : Parts W w e) (n : ℕ) → AreWhole before → after.board ≡ before.board
      → SameNumbers before.tasks.items after.tasks.items → map entry_number after.entries.items ≡ map entry_number before.entries.items
      → map exit_number after.exits.items ≡ map exit_number before.exits.items → AreBack after back → IsWhyNot back (Missing n) → ⊥
  none_missing before after back n whole board tasks entries exits are why =
      never_missing before.board (record { board = before.board; tasks = before.tasks; entries = after.entries; exits = after.exits }) after back n
      (record {
        tasks_are = whole.there.tasks_are;
        entries_are = entries ∙ whole.there.entries_are;
        exits_are = exits ∙ whole.there.exits_are;
      })
      board tasks refl refl are why

  -- journals that go on over a board go on over its network
  pub extends_over : (old : Net W w e) (board : Board W) (new : NetState) → board_layout board ≡ layout_in old
      → JournalsExtend (layout_in old) (parts_of old) (begun_in board) → JournalsExtend (board_layout board) (begun_in board) new
      → JournalsExtend (layout_in old) (parts_of old) new
  extends_over old board new same first rest =
      extends_on (layout_in old) (parts_of old) (begun_in board) new first
      (subst (λ (layout : Layout W). JournalsExtend layout (begun_in board) new) same rest)

  -- what `scatter` says, together
  pub scatters : (meaning : W → Value → Result (List Value) WorkFault) (net : Net W w e) (parts : Parts W w e) → AreWhole parts
      → board_layout parts.board ≡ layout_in net → InputsStay (parts_of net) (begun_in parts.board)
      → JournalsExtend (layout_in net) (parts_of net) (begun_in parts.board)
      → HasComeHome meaning (layout_in net) (parts_of net) (begun_in parts.board) → AllUntouched parts.board parts.entries.items
      → map exit_state parts.exits.items ≡ (begun_in parts.board).exits → IsScattered net parts
  scatters meaning net parts whole same stay extends home untouched received = record {
    whole = whole;
    of = record {
      same_layout = same;
      inputs_stay = stay;
      journals = extends;
      callers = home_callers (layout_in net) meaning (parts_of net) (begun_in parts.board) home;
    };
    untouched = untouched;
    received = received;
  }

module _ {W : Type 0} {w : _} {e : _} {S F : Type 0} (meaning : W → Value → Result (List Value) WorkFault) (gives : S → Option Value → S → Type 0)
    (takes : F → Value → F → Type 0) where
  pub left_back : (old : Net W w e) (before : Parts W w e) (senders : List (Sender S)) (receivers : List F) (found : OpenFault W S F w e)
      → IsScattered old before → IsLeftOf gives takes before senders receivers found → IsBack meaning gives takes old senders receivers found
  left_back old before senders receivers (fault.Net net senders_then receivers_then) scattered left = absurd left
  left_back old before senders receivers (fault.Parts parts senders_then receivers_then) scattered left = (before, (scattered, left))
