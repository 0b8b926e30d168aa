-- What the calls of a port that name a link leave of the room that it gave out.
use Rattle.std.proofs.Common.{◌≡◌, ℕ, Bool, true, false, cond, Option, Some, None, Result, Ok, Err, IfOk, OnErr, subst, sym}
use Rattle.flow_value.specs.declared.value.Value.{Value}
use Rattle.flow_value.specs.declared.message.MessageStatus.{MessageStatus}
use Rattle.flow_value.specs.declared.message.MessageStatus.TheVariants as status
use Rattle.flow_link.specs.declared.traits.WishAnswer.{WishAnswer}
use Rattle.flow_link.specs.declared.traits.WishAnswer.TheVariants as answer
use Rattle.flow_intake.specs.Port.{PortState, stage_at}
use Rattle.flow_intake.specs.Calls.{next_place, is_postponed, consumes}
use Rattle.flow_intake.specs.ByLink.{place_of, with_link_at, answered, closes_link, arrives, arrives_at, drops_at, consumes_at, consumes_next}
use Rattle.flow_block.specs.BlockFits.{GaveOut}
use Rattle.flow_block.specs.Traits.{holds_at, notes}
use Rattle.flow_block.proofs.RoomFits.{out_closed}

module _ (weight : ℕ) where
  known_out : (place : Option ℕ) (link : ℕ) (port : PortState) → GaveOut weight port → GaveOut weight (with_link_at place link port)
  known_out None link port out = out
  known_out (Some k) link port out = out

  closes_out : (place : Option ℕ) (port : PortState) → GaveOut weight port → GaveOut weight (closes_link place port)
  closes_out None port out = out
  closes_out (Some k) port out = out

  pub answered_out : (link header : ℕ) (how : MessageStatus) (port : PortState) → GaveOut weight port
      → GaveOut weight (answered link header how port)
  answered_out link header status.Accepted port out = known_out (place_of link port.ends) link port out
  answered_out link header status.Postponed port out = known_out (place_of link port.ends) link port out
  answered_out link header status.DecliningPermanently port out = closes_out (place_of link port.ends) port out
  answered_out link header status.Declined port out = out
  answered_out link header status.NotAvailable port out = out

  arrived_where : (place : Option ℕ) (value : Value) (port : PortState) → GaveOut weight port → GaveOut weight (arrives_at place value port)
  arrived_where None value port out = out
  arrived_where (Some k) value port out = out_closed weight k value port out

  pub arrived_out : (link : ℕ) (value : Value) (old new : PortState) → new ≡ arrives link value old → GaveOut weight old → GaveOut weight new
  arrived_out link value old new is out =
      subst (λ (port : PortState). GaveOut weight port) (sym is) (arrived_where (place_of link old.ends) value old out)

  consumed_by : (postponed : Bool) (k : ℕ) (port : PortState) → GaveOut weight port → GaveOut weight (cond postponed (consumes k port) port)
  consumed_by true k port out = out
  consumed_by false k port out = out

  consumed_where : (place : Option ℕ) (port : PortState) → GaveOut weight port → GaveOut weight (consumes_at place port)
  consumed_where None port out = out
  consumed_where (Some k) port out = consumed_by (is_postponed (stage_at k port)) k port out

  pub consumed_out : (old new : PortState) → new ≡ consumes_next old → GaveOut weight old → GaveOut weight new
  consumed_out old new is out =
      subst (λ (port : PortState). GaveOut weight port) (sym is) (consumed_where (next_place old) old out)

  held_out : (place : Option ℕ) (port : PortState) → GaveOut weight port → GaveOut weight (holds_at place port)
  held_out None port out = out
  held_out (Some k) port out = out

  dropped_out : (place : Option ℕ) (port : PortState) → GaveOut weight port → GaveOut weight (drops_at place port)
  dropped_out None port out = out
  dropped_out (Some k) port out = out

  noted_where : (told : WishAnswer) (link : ℕ) (port : PortState) → GaveOut weight port → GaveOut weight (notes told link port)
  noted_where answer.Coming link port out = out
  noted_where answer.Held link port out = held_out (place_of link port.ends) port out
  noted_where answer.NotAvailable link port out = dropped_out (place_of link port.ends) port out
  noted_where answer.Withdrawn link port out = dropped_out (place_of link port.ends) port out

  pub noted_out : (told : WishAnswer) (link : ℕ) (old new : PortState) → new ≡ notes told link old → GaveOut weight old → GaveOut weight new
  noted_out told link old new is out = subst (λ (port : PortState). GaveOut weight port) (sym is) (noted_where told link old out)

  -- an offer that is answered, or is not for want of memory
  pub offered_out : {E : Type 0} (result : Result MessageStatus E) (link header : ℕ) (old new : PortState)
      → IfOk result (λ how. new ≡ answered link header how old) → OnErr result (new ≡ old) → GaveOut weight old → GaveOut weight new
  offered_out (Ok how) link header old new is kept out =
      subst (λ (port : PortState). GaveOut weight port) (sym is) (answered_out link header how old out)
  offered_out (Err _) link header old new is kept out = subst (λ (port : PortState). GaveOut weight port) (sym kept) out
