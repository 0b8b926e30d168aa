-- The calls that name a link, with the caller in the place of the target: what they answer, and what they leave.
use Rattle.std.specs.Prelude.{◌≡◌, ℕ, ◌<◌, ◌==◌, ltb, cond, Bool, true, false, not, ◌&&◌, ◌||◌, List, length, position, Option, Some, None, is_some, unwrap_or}
use Rattle.std.specs.Bool.{OnTrue}
use Rattle.flow_value.specs.declared.value.Value.{Value}
use Rattle.flow_value.specs.declared.message.MessageStatus.{MessageStatus}
use Rattle.flow_value.specs.declared.message.MessageStatus.TheVariants as status
use Rattle.flow_link.specs.declared.phase.Phase.TheVariants.{Idle, Wanted, Asked, Postponed}
use Rattle.flow_link.specs.declared.stage.SourceStage.TheVariants.{Out, Waiting, Reserved}
use Rattle.flow_link.specs.LinkOk.{HasRoom}
use Rattle.flow_outlet.specs.ByLink.{answer_stage, answer_declined, is_offered, is_waiting_for, is_kept_for, is_taken, has_room}
use Rattle.flow_outlet.specs.declared.ends.OutEnd.{OutEnd}
use Rattle.flow_spread.specs.declared.end.CopyEnd.{CopyEnd}
use Rattle.flow_spread.specs.Spread.{SpreadState, end_at, link_at, stage_at, next_place, prepares, offers, moves, looks, gives, holds}

-- the place of a link's end; where there is none, behind the last
abbrev pub place_of : ℕ → List CopyEnd → ℕ
place_of link ends = unwrap_or (position (λ (end : CopyEnd). end.link.rule.id == link) ends) (length ends)

-- the next offer: its link, and the element's header
abbrev pub named_at : SpreadState → Option ℕ → Option (ℕ × ℕ)
named_at s None = None
named_at s (Some k) = Some ((link_at s k).rule.id, s.id)

abbrev pub offer_named : SpreadState → Option (ℕ × ℕ)
offer_named s = named_at s (next_place s)

abbrev pub offers_at : SpreadState → Option ℕ → SpreadState
offers_at s None = s
offers_at s (Some k) = offers k (prepares k s)

abbrev pub offers_next : SpreadState → SpreadState
offers_next s = offers_at s (next_place s)

-- the link's offer of this message is out, and not answered
pub record IsAsked (link header : ℕ) (s : SpreadState) : Type 0 where
  pub known : place_of link s.ends < length s.ends
  pub unanswered : stage_at s (place_of link s.ends) ≡ Out header

-- a target that takes none any more has answered; one that declines or puts off has, unless the block takes once; one that
-- accepts has when it is given the element
abbrev pub still_owes : MessageStatus → Bool → Bool → Bool
still_owes status.Accepted once owes = owes
still_owes status.Declined once owes = owes && once
still_owes status.Postponed once owes = owes && once
still_owes status.NotAvailable once owes = owes && once
still_owes status.DecliningPermanently once owes = false

abbrev pub answered_link : MessageStatus → ℕ → OutEnd → OutEnd
answered_link status header link =
    record link { declined = answer_declined status header link.declined; stage = answer_stage status header }

abbrev pub answered : MessageStatus → ℕ → ℕ → SpreadState → SpreadState
answered status header k s =
    moves k (answered_link status header (link_at s k)) (still_owes status s.once (end_at s k).owes) s

-- the message is the element, and the target accepted it or put it off
abbrev pub is_there : ℕ → ℕ → SpreadState → Bool
is_there k header s = header == s.id && is_taken s.id false (stage_at s k)

pub record MayTake (k : ℕ) (s : SpreadState) : Type 0 where
  pub ready : is_some (end_at s k).share ≡ true
  pub room : HasRoom (link_at s k).rule.max (link_at s k).given

-- there is such a link, and what is there may go over it
pub record MayConsume (link header : ℕ) (s : SpreadState) : Type 0 where
  pub known : place_of link s.ends < length s.ends
  pub there : OnTrue (is_there (place_of link s.ends) header s) (MayTake (place_of link s.ends) s)

abbrev pub consumed : ℕ → ℕ → SpreadState → Option Value
consumed link header s = cond (is_there (place_of link s.ends) header s) s.element None

-- the source finds the message wanted, gives it, and finds it home
abbrev pub gives_home : ℕ → ℕ → SpreadState → SpreadState
gives_home k header s = looks k Idle (gives k (looks k (Wanted header) s))

abbrev pub consumes : ℕ → ℕ → SpreadState → SpreadState
consumes link header s =
    cond (is_there (place_of link s.ends) header s) (gives_home (place_of link s.ends) header s) s

-- Tests of what these calls require

abbrev pub tests_asked : ℕ → ℕ → SpreadState → Bool
tests_asked k header s = ltb k (length s.ends) && is_offered header (stage_at s k)

abbrev pub tests_take : ℕ → SpreadState → Bool
tests_take k s = is_some (end_at s k).share && has_room (link_at s k).rule.max (link_at s k).given

abbrev pub tests_consume : ℕ → ℕ → SpreadState → Bool
tests_consume k header s = ltb k (length s.ends) && (not (is_there k header s) || tests_take k s)

-- What is kept for a link

-- its target postponed this message
pub record MayReserve (link header : ℕ) (s : SpreadState) : Type 0 where
  pub known : place_of link s.ends < length s.ends
  pub waits : stage_at s (place_of link s.ends) ≡ Waiting header

abbrev pub reserved : ℕ → SpreadState → Bool
reserved header s = header == s.id

abbrev pub reserves : ℕ → ℕ → SpreadState → SpreadState
reserves link header s = cond (reserved header s) (holds (place_of link s.ends) (looks (place_of link s.ends) (Asked header) s)) s

-- this message is kept for the link
pub record IsReserved (link header : ℕ) (s : SpreadState) : Type 0 where
  pub known : place_of link s.ends < length s.ends
  pub kept : stage_at s (place_of link s.ends) ≡ Reserved header

-- it waits again
abbrev pub releases : ℕ → ℕ → SpreadState → SpreadState
releases link header s = looks (place_of link s.ends) (Postponed header) s

-- tests of what these two require
abbrev pub tests_reserve : ℕ → ℕ → SpreadState → Bool
tests_reserve k header s = ltb k (length s.ends) && is_waiting_for header (stage_at s k)

abbrev pub tests_reserved : ℕ → ℕ → SpreadState → Bool
tests_reserved k header s = ltb k (length s.ends) && is_kept_for header (stage_at s k)
