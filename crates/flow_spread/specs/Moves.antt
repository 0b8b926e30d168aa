-- What an end does next by itself is what its calls allow, and over which link the element is offered next.
use Rattle.std.specs.Prelude.{◌≡◌, ℕ, ◌<◌, ◌↔◌, Bool, true, false, length, Option, Some, None}
use Rattle.flow_link.specs.declared.phase.LinkEnd.{LinkEnd}
use Rattle.flow_link.specs.declared.phase.Move.TheVariants.{Offer, Withdraw, Hold, Give, End}
use Rattle.flow_link.specs.declared.trace.Outcome.{Outcome}
use Rattle.flow_outlet.specs.End.{is_free, is_waiting}
use Rattle.flow_outlet.specs.Outlet.{end_of}
use Rattle.flow_spread.specs.Spread.{SpreadState, link_at, stage_at, may_offer, may_give, is_asked_by, next_place, out_move}
use Rattle.flow_spread.specs.Law.{SpreadLaw}

-- a fact of an end of a spread that keeps its law, where this move is its next
abbrev pub WhereItMoves : (Option Outcome → Bool → SpreadState → ℕ → Type 0) → Type 0
WhereItMoves P =
    (first : ℕ) (pending : Bool) (stopped : Option Outcome) (held_up : Bool) (s : SpreadState) → SpreadLaw first pending stopped s
    → (k : ℕ) → k < length s.ends → P stopped held_up s k

pub record MovesAreAllowed : Type 0 where
  pub offers : WhereItMoves λ stopped held_up s k.
      (id : ℕ) → out_move k stopped held_up s ≡ Some (Offer id) → (may_offer k s ≡ true) × (id ≡ s.id) × (stopped ≡ None)
  pub gives : WhereItMoves λ stopped held_up s k. out_move k stopped held_up s ≡ Some Give → may_give k s ≡ true
  pub holds : WhereItMoves λ stopped held_up s k. out_move k stopped held_up s ≡ Some Hold → is_asked_by (stage_at s k) ≡ true
  pub withdraws : WhereItMoves λ stopped held_up s k.
      out_move k stopped held_up s ≡ Some Withdraw → (is_waiting (stage_at s k) ≡ true) × (held_up ≡ true)
  pub ends : WhereItMoves λ stopped held_up s k.
      (how : LinkEnd) → out_move k stopped held_up s ≡ Some (End how)
      → (is_free (stage_at s k) ≡ true) × (end_of (link_at s k) stopped ≡ Some how)

-- the first link, in order, over which the element may be offered
pub record IsNextOffer (s : SpreadState) (k : ℕ) : Type 0 where
  pub there : k < length s.ends
  pub may : may_offer k s ≡ true
  pub earlier : (j : ℕ) → j < k → may_offer j s ≡ false

-- the next offer goes over that link, and nowhere only where it may be made over none
pub record OffersInOrder : Type 0 where
  pub named : (s : SpreadState) (k : ℕ) → (next_place s ≡ Some k) ↔ IsNextOffer s k
  pub none : (s : SpreadState) → next_place s ≡ None → (k : ℕ) → k < length s.ends → may_offer k s ≡ false
