-- The calls that name a link, with the caller in the place of the target: what they answer, and what they leave.
use Rattle.std.specs.Prelude.{◌≡◌, ℕ, ◌<◌, ◌==◌, ltb, cond, Bool, true, false, not, ◌&&◌, ◌||◌, List, length, map, position, Option, Some, None, is_some, unwrap_or}
use Rattle.std.specs.Bool.{OnTrue}
use Rattle.flow_value.specs.declared.value.Value.{Value}
use Rattle.flow_value.specs.declared.message.MessageStatus.{MessageStatus}
use Rattle.flow_value.specs.declared.message.MessageStatus.TheVariants as status
use Rattle.flow_link.specs.declared.phase.Phase.TheVariants.{Idle, Wanted, Asked, Postponed}
use Rattle.flow_link.specs.declared.stage.SourceStage.{SourceStage}
use Rattle.flow_link.specs.declared.stage.SourceStage.TheVariants.{Free, Out, Waiting, Accepted, Wished, Reserved, Refused}
use Rattle.flow_link.specs.LinkOk.{HasRoom}
use Rattle.flow_outlet.specs.Outlet.{OutletState, end_at, stage_at, head_of, is_empty, is_at, may_offer, prepares, offers, changes, looks, gives, holds, has_offer_out}
use Rattle.flow_outlet.specs.declared.ends.OutEnd.{OutEnd}

-- the place of a link's end; where there is none, behind the last
abbrev pub place_of : ℕ → List OutEnd → ℕ
place_of link ends = unwrap_or (position (λ (end : OutEnd). end.rule.id == link) ends) (length ends)

-- the next offer: its link, and the header of the head
abbrev pub named_at : OutletState → Option ℕ → Option (ℕ × ℕ)
named_at o None = None
named_at o (Some k) = Some ((end_at o k).rule.id, o.next)

abbrev pub offer_named : OutletState → Option (ℕ × ℕ)
offer_named o = named_at o (may_offer o)

abbrev pub offers_at : OutletState → Option ℕ → OutletState
offers_at o None = o
offers_at o (Some k) = offers k (prepares o)

abbrev pub offers_next : OutletState → OutletState
offers_next o = offers_at o (may_offer o)

-- the link's offer of this message is out, and not answered
pub record IsAsked (link header : ℕ) (o : OutletState) : Type 0 where
  pub known : place_of link o.ends < length o.ends
  pub unanswered : stage_at o (place_of link o.ends) ≡ Out header
  pub out : o.offer ≡ Some (place_of link o.ends)

abbrev pub answer_stage : MessageStatus → ℕ → SourceStage
answer_stage status.Accepted header = Accepted header
answer_stage status.Declined header = Free
answer_stage status.Postponed header = Waiting header
answer_stage status.NotAvailable header = Free
answer_stage status.DecliningPermanently header = Refused

-- a message that was declined is not offered there again
abbrev pub answer_declined : MessageStatus → ℕ → ℕ → ℕ
answer_declined status.Declined header declined = header
answer_declined status.NotAvailable header declined = header
answer_declined _ header declined = declined

-- an offer that is accepted is out until the message is given
abbrev pub answer_offer : MessageStatus → Option ℕ → Option ℕ
answer_offer status.Accepted offer = offer
answer_offer _ offer = None

abbrev pub answered : MessageStatus → ℕ → ℕ → OutletState → OutletState
answered status header k o =
    record (changes k (answer_stage status header) (answer_declined status header (end_at o k).declined) o) { offer = answer_offer status o.offer }

-- the message is the head: it was not given
abbrev pub is_head : ℕ → OutletState → Bool
is_head header o = header == o.next && not (is_empty o.left)

-- the head is kept for another
abbrev pub is_kept_elsewhere : ℕ → OutletState → Bool
is_kept_elsewhere k o = is_some o.offer && not (is_at o.offer k) && not (has_offer_out o)

-- the target may have the message, for all that others do
abbrev pub is_there : ℕ → ℕ → OutletState → Bool
is_there k header o = is_head header o && not (is_kept_elsewhere k o)

-- the target accepted the message, or reserved it; or it postponed it, and it is spoken for nowhere
abbrev pub is_taken : ℕ → Bool → SourceStage → Bool
is_taken next out (Accepted i) = i == next
is_taken next out (Reserved i) = i == next
is_taken next out (Waiting i) = i == next && not out
is_taken next out (Wished i) = i == next && not out
is_taken next out _ = false

pub record MayTake (k : ℕ) (o : OutletState) : Type 0 where
  pub taken : is_taken o.next (is_some o.offer) (stage_at o k) ≡ true
  pub ready : is_some o.parcel ≡ true
  pub room : HasRoom (end_at o k).rule.max (end_at o k).given

-- where the message is still there, the target may take it
pub record MayConsume (link header : ℕ) (o : OutletState) : Type 0 where
  pub known : place_of link o.ends < length o.ends
  pub there : OnTrue (is_there (place_of link o.ends) header o) (MayTake (place_of link o.ends) o)

abbrev pub consumed : ℕ → ℕ → OutletState → Option Value
consumed link header o = cond (is_there (place_of link o.ends) header o) (head_of o) None

-- that an offer was postponed is forgotten
abbrev pub forgotten_stage : SourceStage → SourceStage
forgotten_stage (Waiting _) = Free
forgotten_stage stage = stage

abbrev pub forgotten : OutEnd → OutEnd
forgotten end = record end { stage = forgotten_stage end.stage }

abbrev pub forgets : OutletState → OutletState
forgets o = record o { ends = map forgotten o.ends }

-- the source finds the message wanted, gives it, and finds it home; then it forgets all answers for it
abbrev pub gives_home : ℕ → ℕ → OutletState → OutletState
gives_home k header o = forgets (looks k Idle (gives k (looks k (Wanted header) o)))

abbrev pub consumes : ℕ → ℕ → OutletState → OutletState
consumes link header o = cond (is_there (place_of link o.ends) header o) (gives_home (place_of link o.ends) header o) o

-- Tests of what these calls require

abbrev pub is_offered : ℕ → SourceStage → Bool
is_offered header (Out i) = i == header
is_offered header _ = false

abbrev pub has_room : Option ℕ → ℕ → Bool
has_room None given = true
has_room (Some max) given = ltb given max

abbrev pub tests_asked : ℕ → ℕ → OutletState → Bool
tests_asked k header o = ltb k (length o.ends) && is_offered header (stage_at o k) && is_at o.offer k

abbrev pub is_waiting_for : ℕ → SourceStage → Bool
is_waiting_for header (Waiting i) = i == header
is_waiting_for header _ = false

abbrev pub is_kept_for : ℕ → SourceStage → Bool
is_kept_for header (Reserved i) = i == header
is_kept_for header _ = false

abbrev pub tests_take : ℕ → OutletState → Bool
tests_take k o =
    is_taken o.next (is_some o.offer) (stage_at o k) && is_some o.parcel && has_room (end_at o k).rule.max (end_at o k).given

abbrev pub tests_consume : ℕ → ℕ → OutletState → Bool
tests_consume k header o = ltb k (length o.ends) && (not (is_there k header o) || tests_take k o)

-- What is kept for a link

-- its target postponed this message, and no offer is out
pub record MayReserve (link header : ℕ) (o : OutletState) : Type 0 where
  pub known : place_of link o.ends < length o.ends
  pub waits : stage_at o (place_of link o.ends) ≡ Waiting header
  pub none_out : has_offer_out o ≡ false

-- it is the head, and kept for nobody
abbrev pub reserved : ℕ → OutletState → Bool
reserved header o = is_head header o && not (is_some o.offer)

abbrev pub keeps : ℕ → ℕ → OutletState → OutletState
keeps k header o = holds k (looks k (Asked header) o)

abbrev pub reserves : ℕ → ℕ → OutletState → OutletState
reserves link header o = cond (reserved header o) (keeps (place_of link o.ends) header o) o

-- this message is kept for the link
pub record IsReserved (link header : ℕ) (o : OutletState) : Type 0 where
  pub known : place_of link o.ends < length o.ends
  pub kept : stage_at o (place_of link o.ends) ≡ Reserved header

-- all answers for this message are forgotten, also that it was declined
abbrev pub forgotten_for : ℕ → OutEnd → OutEnd
forgotten_for id end = record end { declined = cond (end.declined == id) 0 end.declined; stage = forgotten_stage end.stage }

abbrev pub forgets_all : OutletState → OutletState
forgets_all o = record o { ends = map (forgotten_for o.next) o.ends }

abbrev pub releases : ℕ → ℕ → OutletState → OutletState
releases link header o = forgets_all (looks (place_of link o.ends) (Postponed header) o)

-- tests of what these two require
abbrev pub tests_reserve : ℕ → ℕ → OutletState → Bool
tests_reserve k header o = ltb k (length o.ends) && is_waiting_for header (stage_at o k) && not (has_offer_out o)

abbrev pub tests_reserved : ℕ → ℕ → OutletState → Bool
tests_reserved k header o = ltb k (length o.ends) && is_kept_for header (stage_at o k)
