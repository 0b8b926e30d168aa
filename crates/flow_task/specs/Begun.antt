-- What a network was when it was scattered, and what became of its parts since then.
use Rattle.std.specs.Prelude.{◌≡◌, ℕ, ◌<◌, false, List, length}
use Rattle.flow_link.specs.declared.trace.Mark.{Mark}
use Rattle.flow_link.specs.Layout.{Layout}
use Rattle.flow_link.specs.Planned.{layout_of}
use Rattle.flow_core.specs.Inputs.{input_of}
use Rattle.flow_core.specs.State.{NetState, node_at}
use Rattle.flow_input.specs.Input.{InputState, input_trace}
use Rattle.flow_moves.specs.Apart.{apart_in}
use Rattle.flow_poll.specs.Turns.{Extends}
use Rattle.flow_task.specs.Numbers.{is_open, place_in}
use Rattle.flow_task.specs.declared.board.Board.{Board}

-- the network that was scattered over a board, as it was then
abbrev pub begun_in : {W : Type 0} → Board W → NetState
begun_in board = apart_in board.begun.value

-- the marks with which a block of it began, and the input over whose link it posts
abbrev pub begun_journal : {W : Type 0} → Board W → ℕ → List Mark
begun_journal board b = (node_at (begun_in board) b).journal

abbrev pub begun_input : {W : Type 0} → Board W → ℕ → InputState
begun_input board l = input_of (begun_in board) (place_in (layout_of board.rest.plan) l)

-- the journal of each block of one network goes on in another of the same layout
abbrev pub JournalsExtend : {W : Type 0} → Layout W → NetState → NetState → Type 0
JournalsExtend layout old new = (b : ℕ) → b < length layout.blocks → Extends (node_at old b).journal (node_at new b).journal

-- the journal of each block goes on from the one with which it began
abbrev pub JournalsGoOn : {W : Type 0} → Board W → NetState → Type 0
JournalsGoOn board net = JournalsExtend (layout_of board.rest.plan) (begun_in board) net

-- each input that is no entry has the values that were posted to it, and ends as it was to end
abbrev pub ClosedInputsStay : {W : Type 0} → Board W → NetState → Type 0
ClosedInputsStay board net =
    (q : ℕ) → q < length board.opens.items → is_open (layout_of board.rest.plan) board.opens.items q ≡ false
    → input_trace (input_of net q) ≡ input_trace (input_of (begun_in board) q)
