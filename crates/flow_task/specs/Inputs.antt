-- What the end of an input's link is, where that link begins, what comes of a turn, and when an input has nothing to do.
use Rattle.std.specs.Prelude.{◌≡◌, ℕ, ◌<◌, ◌^◌, ltb, cond, Bool, true, false, List, filter, length, slice_get, Some}
use Rattle.flow_link.specs.Lists.{below}
use Rattle.atomic_table.specs.Seated.{TableId}
use Rattle.flow_link.specs.declared.phase.Move.{Move}
use Rattle.flow_link.specs.declared.phase.Move.TheVariants as move
use Rattle.flow_link.specs.declared.plan.LinkSource.{LinkSource}
use Rattle.flow_link.specs.declared.plan.LinkSource.TheVariants.{Block, Input}
use Rattle.flow_link.specs.declared.trace.Ending.{Ending}
use Rattle.flow_link.specs.declared.trace.Ending.TheVariants.{Open}
use Rattle.flow_link.specs.Facts.{facts_in}
use Rattle.flow_link.specs.Layout.{Layout}
use Rattle.flow_link.specs.Plan.{link_in}
use Rattle.flow_core.specs.Inputs.{input_of}
use Rattle.flow_core.specs.State.{NetState}
use Rattle.flow_outlet.specs.End.{is_over}
use Rattle.flow_outlet.specs.Law.{is_posted}
use Rattle.flow_poll.specs.declared.actor.TurnState.{TurnState}
use Rattle.flow_poll.specs.declared.actor.TurnState.TheVariants as turn
use Rattle.flow_input.specs.Input.{InputState, input_move, input_view}
use Rattle.flow_task.specs.Known.{OutKnown}

abbrev pub is_of_input : LinkSource → Bool
is_of_input (Input b) = true
is_of_input (Block b) = false

module _ {W : Type 0} (layout : Layout W) where
  -- the link begins at an input
  abbrev pub begins_at_input : ℕ → Bool
  begins_at_input l = is_of_input (link_in layout.links l).source

  abbrev pub links_of_inputs : List ℕ
  links_of_inputs = filter begins_at_input (below (length layout.links))

  -- what its end is to be, where the input knows this
  abbrev pub input_due : List TableId → ℕ → InputState → OutKnown
  input_due wires l input = record { table = slice_get wires l; facts = facts_in layout l; view = input_view input }

-- callers may post to it still
abbrev pub is_open_ending : Ending → Bool
is_open_ending Open = true
is_open_ending _ = false

abbrev pub stays_open : InputState → Bool
stays_open input = is_open_ending input.ending

-- only to an input that stays open a value is posted that the target has yet to answer
abbrev pub OpenOnesPost : NetState → Type 0
OpenOnesPost net = (q : ℕ) → stays_open (input_of net q) ≡ false → is_posted (input_of net q).stage ≡ false

-- there is an id for what it offers
abbrev pub HasId : Move → Type 0
HasId (move.Offer id) = id < 2 ^ 59
HasId _ = Unit {0}

-- what comes of a turn in which so many events were done
abbrev pub state_after : ℕ → InputState → TurnState
state_after events input = cond (ltb 0 events) turn.Moved (cond (is_over input.stage) turn.Ended turn.Idle)

-- it would make no move for which there is an id
abbrev pub InputIsStill : InputState → Type 0
InputIsStill input = (next : Move) → input_move input ≡ Some next → HasId next → ⊥
