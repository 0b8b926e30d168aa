-- What the answers and the wishes of a port leave of it: all but its ends, the queue of their offers, and memory that is set aside.
use Rattle.std.proofs.Common.{◌≡◌, ℕ, Bool, true, false, cond, [], Option, Some, None, refl}
use Rattle.flow_value.specs.declared.message.MessageStatus.{MessageStatus}
use Rattle.flow_value.specs.declared.message.MessageStatus.TheVariants as status
use Rattle.flow_link.specs.declared.traits.WishAnswer.{WishAnswer}
use Rattle.flow_link.specs.declared.traits.WishAnswer.TheVariants as answer
use Rattle.flow_intake.specs.Port.{PortState, stage_at}
use Rattle.flow_intake.specs.Calls.{is_postponed, consumes as port_consumes}
use Rattle.flow_intake.specs.ByLink.{place_of, with_link_at, closes_link, answered, drops_at, consumes_at}
use Rattle.flow_block.specs.Traits.{holds_at, notes}

abbrev pub rest_of : PortState → PortState
rest_of port = record port { ends = []; queue = []; ready = false }

known_rest : (link : ℕ) (port : PortState) (place : Option ℕ) → rest_of (with_link_at place link port) ≡ rest_of port
known_rest link port None = refl
known_rest link port (Some k) = refl

closed_rest : (port : PortState) (place : Option ℕ) → rest_of (closes_link place port) ≡ rest_of port
closed_rest port None = refl
closed_rest port (Some k) = refl

pub answered_rest : (link header : ℕ) (how : MessageStatus) (port : PortState) → rest_of (answered link header how port) ≡ rest_of port
answered_rest link header status.Accepted port = known_rest link port (place_of link port.ends)
answered_rest link header status.Postponed port = known_rest link port (place_of link port.ends)
answered_rest link header status.DecliningPermanently port = closed_rest port (place_of link port.ends)
answered_rest link header status.Declined port = refl
answered_rest link header status.NotAvailable port = refl

pub consumed_rest : (port : PortState) (place : Option ℕ) → rest_of (consumes_at place port) ≡ rest_of port
consumed_rest port None = refl
consumed_rest port (Some k) = where_postponed (is_postponed (stage_at k port))
  where
    where_postponed : (postponed : Bool) → rest_of (cond postponed (port_consumes k port) port) ≡ rest_of port
    where_postponed true = refl
    where_postponed false = refl

dropped_rest : (port : PortState) (place : Option ℕ) → rest_of (drops_at place port) ≡ rest_of port
dropped_rest port None = refl
dropped_rest port (Some k) = refl

held_rest : (port : PortState) (place : Option ℕ) → rest_of (holds_at place port) ≡ rest_of port
held_rest port None = refl
held_rest port (Some k) = refl

pub noted_rest : (told : WishAnswer) (link : ℕ) (port : PortState) → rest_of (notes told link port) ≡ rest_of port
noted_rest answer.Coming link port = refl
noted_rest answer.Held link port = held_rest port (place_of link port.ends)
noted_rest answer.NotAvailable link port = dropped_rest port (place_of link port.ends)
noted_rest answer.Withdrawn link port = dropped_rest port (place_of link port.ends)
