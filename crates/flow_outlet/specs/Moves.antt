-- What an end does next by itself is what its calls allow.
use Rattle.std.specs.Prelude.{◌≡◌, ℕ, ◌<◌, Bool, true, length, Option, Some}
use Rattle.flow_link.specs.declared.phase.LinkEnd.{LinkEnd}
use Rattle.flow_link.specs.declared.phase.Move.TheVariants.{Offer, Withdraw, Deny, Hold, Give, End}
use Rattle.flow_link.specs.declared.trace.Outcome.{Outcome}
use Rattle.flow_outlet.specs.End.{is_free, is_waiting}
use Rattle.flow_outlet.specs.Outlet.{OutletState, end_at, stage_at, may_offer, may_give, may_hold, is_wish, end_of, out_move}
use Rattle.flow_outlet.specs.Law.{OutletLaw}

-- a fact of an end of an outlet that keeps its law, where this move is its next
abbrev pub WhereItMoves : (Option Outcome → Bool → OutletState → ℕ → Type 0) → Type 0
WhereItMoves P =
    (pending : Bool) (stopped : Option Outcome) (held_up : Bool) (o : OutletState) → OutletLaw pending stopped o
    → (k : ℕ) → k < length o.ends → P stopped held_up o k

pub record MovesAreAllowed : Type 0 where
  pub offers : WhereItMoves λ stopped held_up o k.
      (id : ℕ) → out_move k stopped held_up o ≡ Some (Offer id) → (may_offer o ≡ Some k) × (id ≡ o.next)
  pub gives : WhereItMoves λ stopped held_up o k. out_move k stopped held_up o ≡ Some Give → may_give k o ≡ true
  pub holds : WhereItMoves λ stopped held_up o k. out_move k stopped held_up o ≡ Some Hold → may_hold k o ≡ true
  pub denies : WhereItMoves λ stopped held_up o k. out_move k stopped held_up o ≡ Some Deny → is_wish (stage_at o k) ≡ true
  pub withdraws : WhereItMoves λ stopped held_up o k.
      out_move k stopped held_up o ≡ Some Withdraw → is_waiting (stage_at o k) ≡ true
  pub ends : WhereItMoves λ stopped held_up o k.
      (how : LinkEnd) → out_move k stopped held_up o ≡ Some (End how)
      → (is_free (stage_at o k) ≡ true) × (end_of (end_at o k) stopped ≡ Some how)
