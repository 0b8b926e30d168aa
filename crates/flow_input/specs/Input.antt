-- An input as plain data: values that are posted, which it gives over one link, in order, and what its caller was told of them.
use Rattle.std.specs.Prelude.{ℕ, ◌+◌, ltb, Bool, true, false, cond, List, [], ◌∷◌, ◌++◌, length, drop, take, Option, Some, None}
use Rattle.flow_value.specs.declared.value.Value.{Value}
use Rattle.flow_link.specs.declared.phase.LinkEnd.{LinkEnd}
use Rattle.flow_link.specs.declared.phase.LinkEnd.TheVariants as link_end
use Rattle.flow_link.specs.declared.phase.Move.{Move}
use Rattle.flow_link.specs.declared.phase.Move.TheVariants.{Offer, Give, End}
use Rattle.flow_link.specs.declared.phase.Phase.{Phase}
use Rattle.flow_link.specs.declared.phase.Phase.TheVariants.{Idle, Opened, Wanted}
use Rattle.flow_link.specs.declared.stage.SourceStage.{SourceStage}
use Rattle.flow_link.specs.declared.stage.SourceStage.TheVariants.{Free, Posted, Out, Accepted, Wished, Crossing, Ended}
use Rattle.flow_link.specs.declared.trace.Ending.{Ending}
use Rattle.flow_link.specs.declared.trace.Ending.TheVariants as ending
use Rattle.flow_link.specs.Stage.{source_stage_of, source_looks}
use Rattle.flow_link.specs.Trace.{InputTrace}
use Rattle.flow_link.specs.Views.{SourceView}
use Rattle.flow_intake.specs.Calls.{first_of}

pub record InputState : Type 0 where
  pub posted : List Value
  -- how many of them it gave
  pub sent : ℕ
  pub ending : Ending
  pub stage : SourceStage
  -- the parcel of the next one, once it is made
  pub parcel : Option Value
  -- how many of those that were taken were told to the caller as accepted
  pub told : ℕ
  -- a value that goes back to the caller
  pub back : Option Value
  -- the value that the caller began is to be taken at once, and may not be put off
  pub at_once : Bool

abbrev pub fresh_input : InputTrace → InputState
fresh_input input = record {
  posted = input.posted;
  sent = 0;
  ending = input.ending;
  stage = Free;
  parcel = None;
  told = 0;
  back = None;
  at_once = false;
}

abbrev pub no_input : InputState
no_input = fresh_input (record { posted = []; ending = ending.Open })

-- the value that it gives next, and its id
abbrev pub next_value : InputState → Option Value
next_value input = first_of (drop input.sent input.posted)

abbrev pub next_id : InputState → ℕ
next_id input = input.sent + 1

abbrev pub has_next : InputState → Bool
has_next input = ltb input.sent (length input.posted)

-- how its link ends when all is given
abbrev pub end_by : Ending → Option LinkEnd
end_by ending.Open = None
end_by ending.Complete = Some link_end.Complete
end_by (ending.Fault number) = Some (link_end.Fault number)

abbrev pub end_move : Option LinkEnd → Option Move
end_move None = None
end_move (Some how) = Some (End how)

-- what it does next by itself; what is to be taken at once is posted by a call of its caller
abbrev pub move_from : InputState → SourceStage → Option Move
move_from input Free = cond (has_next input) (Some (Offer (next_id input))) (end_move (end_by input.ending))
move_from input (Accepted _) = Some Give
move_from input (Wished _) = Some Give
move_from input _ = None

abbrev pub input_move : InputState → Option Move
input_move input = move_from input input.stage

-- the target wants what it was offered
abbrev pub is_wanted : SourceStage → Bool
is_wanted (Accepted _) = true
is_wanted (Wished _) = true
is_wanted _ = false

-- the target turned down what was posted
abbrev pub is_turned_down : SourceStage → Phase → Bool
is_turned_down (Posted _) Idle = true
is_turned_down _ _ = false

-- its calls, and what they make of it
pub data InputCall : Type 0 where
  offer : InputCall
  give : InputCall
  end_link : LinkEnd → InputCall
  look : Phase → InputCall
  -- its caller's: a value is posted to the target, begun so that it may be put off, or sent back since none is taken any more
  post : Value → InputCall
  begin : Value → InputCall
  send_back : Value → Bool → InputCall
  -- what became of a value is told: it was taken, it went back, or it was not given before the target refused
  tell : InputCall
  hand_back : InputCall
  refuse_back : InputCall
  -- no value comes any more, and it ends so
  finish : Ending → InputCall

abbrev pub stands_at : SourceStage → InputState → InputState
stands_at stage input = record input { stage = stage }

-- a value that was posted and not taken goes back
abbrev pub takes_back : InputState → InputState
takes_back input = record input { posted = take input.sent input.posted; stage = Free; parcel = None; back = next_value input }

abbrev pub looks : Phase → InputState → InputState
looks phase input = cond (is_turned_down input.stage phase) (takes_back input) (stands_at (source_looks input.stage phase) input)

abbrev pub without_next : InputState → List Value
without_next input = take input.sent input.posted ++ drop (input.sent + 1) input.posted

abbrev pub after_input : InputCall → InputState → InputState
after_input InputCall.offer input = record input { stage = Out (next_id input); parcel = next_value input }
after_input InputCall.give input = record input { sent = input.sent + 1; stage = Crossing; parcel = None }
after_input (InputCall.end_link how) input = stands_at (Ended how) input
after_input (InputCall.look phase) input = looks phase input
after_input (InputCall.post value) input =
    record input { posted = input.posted ++ value ∷ []; stage = Posted (next_id input); parcel = Some value; at_once = true }
after_input (InputCall.begin value) input = record input { posted = input.posted ++ value ∷ []; at_once = false }
after_input (InputCall.send_back value at_once) input = record input { back = Some value; at_once = at_once }
after_input InputCall.tell input = record input { told = input.told + 1 }
after_input InputCall.hand_back input = record input { back = None }
after_input InputCall.refuse_back input = record input { posted = without_next input; parcel = None }
after_input (InputCall.finish how) input = record input { ending = how }

-- the calls that the network makes
abbrev pub is_of_net : InputCall → Bool
is_of_net InputCall.offer = true
is_of_net InputCall.give = true
is_of_net (InputCall.end_link _) = true
is_of_net (InputCall.look _) = true
is_of_net _ = false

-- the calls of its caller that its link knows nothing of
abbrev pub is_unseen : InputCall → Bool
is_unseen (InputCall.begin _) = true
is_unseen (InputCall.send_back _ _) = true
is_unseen InputCall.tell = true
is_unseen InputCall.hand_back = true
is_unseen InputCall.refuse_back = true
is_unseen (InputCall.finish _) = true
is_unseen _ = false

-- a message that goes over its link in one call, with id i: it is offered, wanted, given and taken
abbrev pub input_sends : ℕ → InputState → InputState
input_sends i input =
    after_input (InputCall.look Idle) (after_input (InputCall.look (Opened i)) (after_input InputCall.give
    (after_input (InputCall.look (Wanted i)) (after_input InputCall.offer input))))

abbrev pub input_view : InputState → SourceView Value
input_view input = record { before = 0; given = take input.sent input.posted; last = input.sent; stage = source_stage_of input.stage }

abbrev pub input_trace : InputState → InputTrace
input_trace input = record { posted = input.posted; ending = input.ending }
