-- What an entry is to whoever posts into it, what it keeps, and what becomes of it.
use Rattle.std.specs.Prelude.{◌≡◌, ◌+◌, ◌≤◌, Bool, true, false, cond, is_none, is_some, List, [], drop, length, take}
use Rattle.flow_value.specs.declared.value.Value.{Value}
use Rattle.flow_link.specs.Lists.{is_front}
use Rattle.flow_outlet.specs.Law.{is_refused}
use Rattle.flow_poll.specs.declared.send.Sent.{Sent}
use Rattle.flow_poll.specs.declared.send.Sent.TheVariants as sent
use Rattle.flow_input.specs.Input.{InputState, end_by, has_next, next_value}
use Rattle.flow_input.specs.Sends.{settled, takes_more}
use Rattle.flow_task.specs.Inputs.{stays_open}

-- the values that wait where callers may post still
abbrev pub waits_in : InputState → List Value
waits_in input = cond (stays_open input) (drop input.sent input.posted) []

-- those that were taken, as far as the input knows
abbrev pub took_at : InputState → List Value
took_at input = take (settled input) input.posted

-- the parcel of the next value is made
abbrev pub with_parcel : InputState → InputState
with_parcel input = record input { parcel = next_value input }

pub record EntryLaw (begun input : InputState) (ready : List Value) : Type 0 where
  -- unless the target refuses, the parcel of the next value is made, and those of the values behind it are ready
  pub first : is_refused input.stage ≡ false → has_next input ≡ true → is_some input.parcel ≡ true
  pub rest : is_refused input.stage ≡ false → ready ≡ drop (input.sent + 1) input.posted
  -- what it told as accepted goes on from what was taken when it began, and it gave at most one value more
  pub goes_on : is_front (took_at begun) (take input.told input.posted) ≡ true
  pub one_more : input.sent ≤ input.told + 1
  -- nothing is under way where it is to end
  pub ended : is_none (end_by input.ending) ≡ false → input.told ≡ length input.posted

-- what an answer says of what comes next: while a value is under way the target may take it; one that comes back at first may be
-- followed by others, and one that comes back for good may not
abbrev pub Says : Sent → InputState → Type 0
Says sent.Idle input = Unit {0}
Says sent.Waiting input = (is_refused input.stage ≡ false) × (is_none (end_by input.ending) ≡ true)
Says sent.Accepted input = Unit {0}
Says (sent.Declined value) input = takes_more input ≡ true
Says (sent.Permanently value) input = takes_more input ≡ false

-- nothing is to be told
abbrev pub tells_nothing : Sent → Bool
tells_nothing sent.Idle = true
tells_nothing sent.Waiting = true
tells_nothing _ = false
