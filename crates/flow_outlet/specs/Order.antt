-- Over which link the head is offered next.
use Rattle.std.specs.Prelude.{◌≡◌, ℕ, ◌<◌, ◌≤◌, ◌↔◌, true, false, length, Some, None}
use Rattle.flow_outlet.specs.End.{is_free, is_passed}
use Rattle.flow_outlet.specs.Outlet.{OutletState, head_of, is_empty, end_at, stage_at, is_renewing, may_offer}

-- the head goes past the link at place k: it is closed, it rejects the head, or the head was offered over it
abbrev pub GoesPast : OutletState → ℕ → Type 0
GoesPast o k = is_passed o.next (head_of o) (end_at o k) ≡ true

abbrev pub StopsAt : OutletState → ℕ → Type 0
StopsAt o k = is_passed o.next (head_of o) (end_at o k) ≡ false

-- it is the first link, in order, that the head does not go past, and nothing is under way there
pub record IsNextOffer (o : OutletState) (k : ℕ) : Type 0 where
  pub there : k < length o.ends
  pub some_left : is_empty o.left ≡ false
  pub none_out : o.offer ≡ None
  pub none_back : is_renewing o ≡ false
  pub stops : StopsAt o k
  pub free : is_free (stage_at o k) ≡ true
  pub earlier : (j : ℕ) → j < k → GoesPast o j

-- a link before this one, or it itself, that the head does not go past, where something is still under way
pub record IsHeldBack (o : OutletState) (k : ℕ) : Type 0 where
  pub place : ℕ
  pub before : place ≤ k
  pub stops : StopsAt o place
  pub busy : is_free (stage_at o place) ≡ false

-- the next offer is the one that link order names, and there is none only where there is none to make
pub record OffersInOrder : Type 0 where
  pub named : (o : OutletState) (k : ℕ) → (may_offer o ≡ Some k) ↔ IsNextOffer o k
  pub none : (o : OutletState) → may_offer o ≡ None → is_empty o.left ≡ false → o.offer ≡ None → is_renewing o ≡ false
      → (k : ℕ) → k < length o.ends → StopsAt o k → IsHeldBack o k
