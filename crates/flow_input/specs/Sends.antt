-- What a caller sees of an input: which of its values were told as accepted, which are begun, and what the next look tells.
use Rattle.std.specs.Prelude.{ℕ, ◌+◌, ◌-◌, ◌^◌, ◌==◌, ltb, Bool, true, false, ◌&&◌, ◌||◌, not, cond, is_none, is_some, List, ◌++◌, length, drop, take, map, Option, Some, None, option_to_list}
use Rattle.flow_value.specs.declared.value.Value.{Value}
use Rattle.flow_link.specs.declared.stage.SourceStage.{SourceStage}
use Rattle.flow_link.specs.declared.stage.SourceStage.TheVariants.{Crossing}
use Rattle.flow_outlet.specs.End.{is_free}
use Rattle.flow_outlet.specs.Law.{is_refused}
use Rattle.flow_poll.specs.Sends.{Begun, SendView}
use Rattle.flow_poll.specs.declared.send.Sent.{Sent}
use Rattle.flow_poll.specs.declared.send.Sent.TheVariants as sent
use Rattle.flow_input.specs.Input.{InputState, InputCall, next_value, has_next, end_by, after_input}

abbrev pub is_crossing : SourceStage → Bool
is_crossing Crossing = true
is_crossing _ = false

-- how many of the values that it gave were taken: all, or all but the one that crosses the link
abbrev pub settled : InputState → ℕ
settled input = cond (is_crossing input.stage) (input.sent - 1) input.sent

abbrev pub begun_as : Bool → Value → Begun
begun_as at_once value = record { value = value; may_postpone = not at_once }

abbrev pub begun_of : InputState → List Value
begun_of input = drop input.told input.posted ++ option_to_list input.back

abbrev pub sends_of : InputState → SendView
sends_of input = record { accepted = take input.told input.posted; begun = map (begun_as input.at_once) (begun_of input) }

-- nothing is begun that is not told
abbrev pub is_idle : InputState → Bool
is_idle input = input.told == length input.posted && is_none input.back

-- there is an id for one more value
abbrev pub has_id : InputState → Bool
has_id input = ltb (length input.posted + 1) (2 ^ 59)

-- it stands so that a value may go to its target
abbrev pub takes_more : InputState → Bool
takes_more input = is_free input.stage && is_none (end_by input.ending)

-- what a look tells, and the call that it then is
pub record Told : Type 0 where
  pub answer : Sent
  pub call : Option InputCall

abbrev pub tells_back : Bool → Value → Told
tells_back more value = record { answer = cond more (sent.Declined value) (sent.Permanently value); call = Some InputCall.hand_back }

abbrev pub tells_waiting : Bool → Told
tells_waiting true = record { answer = sent.Waiting; call = None }
tells_waiting false = record { answer = sent.Idle; call = None }

abbrev pub tells_refused : Option Value → Told
tells_refused (Some value) = record { answer = sent.Permanently value; call = Some InputCall.refuse_back }
tells_refused None = record { answer = sent.Idle; call = None }

abbrev pub tells_rest : InputState → Option Value → Told
tells_rest input (Some value) = tells_back (takes_more input) value
tells_rest input None = cond (is_refused input.stage) (tells_refused (next_value input)) (tells_waiting (is_crossing input.stage || has_next input))

abbrev pub told_next : InputState → Told
told_next input =
    cond (ltb input.told (settled input)) (record { answer = sent.Accepted; call = Some InputCall.tell }) (tells_rest input input.back)

-- it is known what became of a value
abbrev pub has_answer : InputState → Bool
has_answer input = ltb input.told (settled input) || is_some input.back || (is_refused input.stage && has_next input)

abbrev pub after_told : Option InputCall → InputState → InputState
after_told None input = input
after_told (Some call) input = after_input call input
