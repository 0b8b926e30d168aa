-- What an answer tells of the port.
use Rattle.std.proofs.Common.{◌≡◌, ℕ, ◌+◌, Bool, true, false, ◌&&◌, cond, Option, Some, None, refl, ap, is_some}
use Rattle.std.proofs.lemmas.Bool.{and_parts}
use Rattle.flow_value.specs.declared.message.MessageStatus.TheVariants.{Accepted, Declined, Postponed, DecliningPermanently}
use Rattle.flow_link.specs.declared.stage.Refusal.{Refusal}
use Rattle.flow_link.specs.Lists.{is_empty}
use Rattle.flow_intake.specs.Port.{PortState, is_below, has_room, is_coming}
use Rattle.flow_intake.specs.Calls.{answer_where, answer_to, first_of, next_where, next_place}
use Rattle.flow_intake.specs.PortLaw.{has_ended}
use Rattle.flow_intake.specs.ByLink.{place_of, with_link_at, with_link}
use Rattle.flow_intake.proofs.CountsOfEnds.{count_added}

-- what is accepted found room, and nobody waiting
pub accepted_where : (refusing : Option Refusal) (reserves free may_postpone : Bool)
    → answer_where refusing reserves free (cond may_postpone Postponed Declined) ≡ Accepted → free ≡ true
accepted_where (Some _) reserves free may_postpone is = absurd (cc)
accepted_where None true free true is = absurd (cc)
accepted_where None true free false is = absurd (cc)
accepted_where None false true may_postpone is = refl
accepted_where None false false true is = absurd (cc)
accepted_where None false false false is = absurd (cc)

pub accepted_has_room : (may_postpone : Bool) (port : PortState) → answer_to may_postpone port ≡ Accepted → has_room port ≡ true
accepted_has_room may_postpone port is =
    (and_parts (has_room port) (is_empty port.queue)
    (accepted_where port.refusing port.reserves (has_room port && is_empty port.queue) may_postpone is)).0

-- a new link takes no room
room_with_link_at : (place : Option ℕ) (link : ℕ) (port : PortState) → has_room (with_link_at place link port) ≡ has_room port
room_with_link_at (Some _) link port = refl
room_with_link_at None link port = ap (λ (n : ℕ). is_below (port.load + n) port.capacity) (count_added is_coming port.ends link refl)

pub room_with_link : (link : ℕ) (port : PortState) → has_room (with_link link port) ≡ has_room port
room_with_link link port = room_with_link_at (place_of link port.ends) link port

-- what is accepted, the port takes
open_where : (refusing : Option Refusal) (reserves free may_postpone : Bool)
    → answer_where refusing reserves free (cond may_postpone Postponed Declined) ≡ Accepted → has_ended refusing ≡ false
open_where (Some _) reserves free may_postpone is = absurd (cc)
open_where None reserves free may_postpone is = refl

pub accepted_is_open : (may_postpone : Bool) (port : PortState) → answer_to may_postpone port ≡ Accepted → has_ended port.refusing ≡ false
accepted_is_open may_postpone port is = open_where port.refusing port.reserves (has_room port && is_empty port.queue) may_postpone is

-- what declines for good, takes no message any more
declining_where : (refusing : Option Refusal) (reserves free may_postpone : Bool)
    → answer_where refusing reserves free (cond may_postpone Postponed Declined) ≡ DecliningPermanently → is_some refusing ≡ true
declining_where (Some _) reserves free may_postpone is = refl
declining_where None true free true is = absurd (cc)
declining_where None true free false is = absurd (cc)
declining_where None false true may_postpone is = absurd (cc)
declining_where None false false true is = absurd (cc)
declining_where None false false false is = absurd (cc)

pub declining_is_refusing : (may_postpone : Bool) (port : PortState) → answer_to may_postpone port ≡ DecliningPermanently → is_some port.refusing ≡ true
declining_is_refusing may_postpone port is = declining_where port.refusing port.reserves (has_room port && is_empty port.queue) may_postpone is

-- the end that consumes next stands first in the queue, and there is room
pub record NextTells (port : PortState) (place : ℕ) : Type 0 where
  pub first : first_of port.queue ≡ Some place
  pub room : has_room port ≡ true
  pub going : has_ended port.refusing ≡ false

record NextIs (refusing : Option Refusal) (reserves room : Bool) (first : Option ℕ) (place : ℕ) : Type 0 where
  pub first_is : first ≡ Some place
  pub room_is : room ≡ true
  pub going_is : has_ended refusing ≡ false

next_is : (refusing : Option Refusal) (reserves room : Bool) (first : Option ℕ) (place : ℕ) → next_where refusing reserves room first ≡ Some place → NextIs refusing reserves room first place
next_is None false true first place is = record { first_is = is; room_is = refl; going_is = refl }
next_is None false false first place is = absurd (cc)
next_is None true room first place is = absurd (cc)
next_is (Some _) reserves room first place is = absurd (cc)

pub next_tells : (port : PortState) (place : ℕ) → next_place port ≡ Some place → NextTells port place
next_tells port place is =
    let next = next_is port.refusing port.reserves (has_room port) (first_of port.queue) place is in
    record { first = next.first_is; room = next.room_is; going = next.going_is }
