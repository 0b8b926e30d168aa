-- Each call keeps the outlet's law, and what the law says of each give.
use Rattle.std.specs.Prelude.{◌≡◌, ℕ, ◌^◌, ◌<◌, ◌≤◌, Bool, true, false, List, length, Option, Some, None}
use Rattle.std.specs.Bool.{OnTrue}
use Rattle.flow_value.specs.declared.value.Value.{Value}
use Rattle.flow_link.specs.declared.phase.LinkEnd.{LinkEnd}
use Rattle.flow_link.specs.declared.phase.Phase.{Phase}
use Rattle.flow_link.specs.declared.trace.Outcome.{Outcome}
use Rattle.flow_link.specs.LinkOk.{HasRoom}
use Rattle.flow_link.specs.Stage.{source_looks}
use Rattle.flow_outlet.specs.declared.ends.LinkRule.{LinkRule}
use Rattle.flow_outlet.specs.End.{is_free, is_waiting, speaks_of}
use Rattle.flow_outlet.specs.Outlet.{OutletState, head_of, end_at, stage_at, fresh_outlet, lacks_ids, lacks_ids_for, puts, sets_aside, puts_aside, prepares, may_offer, offers, looks, may_give, gives, may_hold, holds, is_wish, denies, withdraws, end_of, ends_link}
use Rattle.flow_outlet.specs.Law.{OutletLaw, is_put_off, admits_head, may_go_past}

-- a fact of each outlet that keeps its law, at each of its ends
abbrev pub AtEachEnd : (Bool → Option Outcome → OutletState → ℕ → Type 0) → Type 0
AtEachEnd P =
    (pending : Bool) (stopped : Option Outcome) (o : OutletState) → OutletLaw pending stopped o
    → (k : ℕ) → k < length o.ends → P pending stopped o k

pub record CallsKeepLaw : Type 0 where
  pub fresh : (pending : Bool) (stopped : Option Outcome) (rules : List LinkRule) (first : ℕ) → 1 ≤ first → first ≤ 2 ^ 59
      → OutletLaw pending stopped (fresh_outlet rules first)
  pub put : (pending : Bool) (stopped : Option Outcome) (o : OutletState) → OutletLaw pending stopped o
      → (values : List Value) (weight : ℕ) → lacks_ids values o ≡ false → OutletLaw pending stopped (puts values weight o)
  pub set_aside : (pending : Bool) (stopped : Option Outcome) (o : OutletState) → OutletLaw pending stopped o
      → (count : ℕ) → lacks_ids_for count o ≡ false → OutletLaw pending stopped (sets_aside count o)
  -- what is put aside has its ids already
  pub put_aside : (pending : Bool) (stopped : Option Outcome) (o : OutletState) → OutletLaw pending stopped o
      → (values : List Value) (weight : ℕ) → length values ≤ o.spare → OutletLaw pending stopped (puts_aside values weight o)
  pub prepare : (pending : Bool) (stopped : Option Outcome) (o : OutletState) → OutletLaw pending stopped o
      → OutletLaw pending stopped (prepares o)
  pub room_back : (pending : Bool) (stopped : Option Outcome) (o : OutletState) → OutletLaw pending stopped o
      → OutletLaw pending stopped (record o { room = 0 })
  -- a block that has stopped makes no offer
  pub offer : (pending : Bool) (o : OutletState) → OutletLaw pending None o → (k : ℕ) → may_offer o ≡ Some k
      → o.parcel ≡ head_of o → OutletLaw pending None (offers k o)
  -- what is offered over a steady link is not put off, which the link being in order says
  pub look : AtEachEnd λ pending stopped o k.
      (phase : Phase) → OnTrue (is_put_off (source_looks (stage_at o k) phase)) ((end_at o k).rule.steady ≡ false)
      → OutletLaw pending stopped (looks k phase o)
  pub give : AtEachEnd λ pending stopped o k.
      may_give k o ≡ true → HasRoom (end_at o k).rule.max (end_at o k).given → OutletLaw pending stopped (gives k o)
  pub hold : AtEachEnd λ pending stopped o k. may_hold k o ≡ true → OutletLaw pending stopped (holds k o)
  pub deny : AtEachEnd λ pending stopped o k. is_wish (stage_at o k) ≡ true → OutletLaw pending stopped (denies k o)
  -- the head's offer is withdrawn only where the block faults, or the head is to be offered anew
  pub withdraw : AtEachEnd λ pending stopped o k.
      is_waiting (stage_at o k) ≡ true → (o.renewing ≡ false → speaks_of o.next (stage_at o k) ≡ true → pending ≡ true)
      → OutletLaw pending stopped (withdraws k o)
  pub ends : AtEachEnd λ pending stopped o k.
      (how : LinkEnd) → is_free (stage_at o k) ≡ true → end_of (end_at o k) stopped ≡ Some how
      → OutletLaw pending stopped (ends_link k how o)
  -- the block comes to fault, and stops
  pub fault : (stopped : Option Outcome) (o : OutletState) → OutletLaw false stopped o → OutletLaw true stopped o
  pub stop : (pending : Bool) (outcome : Outcome) (o : OutletState) → OutletLaw pending None o
      → OutletLaw pending (Some outcome) o

-- a message is given only where the predicate admits it, and each earlier link rejects it, need not take it at once, or is
-- cut or refused
pub record GivesInOrder : Type 0 where
  pub admitted : AtEachEnd λ pending stopped o k.
      may_give k o ≡ true → admits_head (end_at o k).rule.when (head_of o) ≡ true
  pub earlier : AtEachEnd λ pending stopped o k.
      may_give k o ≡ true → (j : ℕ) → j < k → may_go_past (head_of o) (end_at o j) ≡ true
