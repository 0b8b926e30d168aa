-- What the wishes of a join that reserves tell of its round and of its ports.
use Rattle.std.specs.Prelude.{◌≡◌, ℕ, ◌+◌, ◌<◌, ◌≤◌, true, length, None}
use Rattle.flow_link.specs.declared.traits.Wish.TheVariants as wish
use Rattle.flow_intake.specs.Port.{link_in, stage_at, is_holding}
use Rattle.flow_group.specs.declared.round.RoundStep.TheVariants as steps
use Rattle.flow_group.specs.Round.{port_in, none_comes}
use Rattle.flow_group.specs.RoundTells.{AsksNow, ClaimsNow}
use Rattle.flow_kinds.specs.ReservingJoin.{ReservingState}
use Rattle.flow_kinds.specs.Wishes.{wishes_at, asks_at, claims_from, fails_now, next_wish, after_wish}

-- the end at place k of port p is that of the link
pub record IsOver (link p k : ℕ) (join : ReservingState) : Type 0 where
  pub there : p < length join.block.ports
  pub place : k < length (port_in join.block.ports p).ends
  pub named : link_in k (port_in join.block.ports p).ends ≡ link

-- it asks for what waits in front of an open port, in its turn, where each port has an offer and this one has room
pub data AsksFor (link : ℕ) (join : ReservingState) : Type 0 where
  asks : (p k : ℕ) → IsOver link p k join → AsksNow p k join.round join.block.ports → (port_in join.block.ports p).refusing ≡ None
      → after_wish join ≡ asks_at p k join → AsksFor link join

-- it claims what is kept in front of a port, where a message of each port is kept or the rest are claimed
pub data ClaimsIt (link : ℕ) (join : ReservingState) : Type 0 where
  claims : (p k : ℕ) → IsOver link p k join → ClaimsNow p k join.round join.block.ports → after_wish join ≡ claims_from p k join
      → ClaimsIt link join

-- it gives up what is kept in front of a port, where an offer has gone or would be asked for in vain
pub data ReleasesIt (link : ℕ) (join : ReservingState) : Type 0 where
  failed : (p k : ℕ) → IsOver link p k join → is_holding (stage_at k (port_in join.block.ports p)) ≡ true → join.round.step ≡ steps.Releases
      → ReleasesIt link join
  fails : (p k : ℕ) → IsOver link p k join → is_holding (stage_at k (port_in join.block.ports p)) ≡ true → fails_now join ≡ true
      → ReleasesIt link join

pub record WishesTell : Type 0 where
  pub asks : (join : ReservingState) (link : ℕ) → next_wish join ≡ wish.Ask link → AsksFor link join
  pub claims : (join : ReservingState) (link : ℕ) → next_wish join ≡ wish.Claim link → ClaimsIt link join
  pub releases : (join : ReservingState) (link : ℕ) → next_wish join ≡ wish.Release link → ReleasesIt link join
  pub never_consumes : (join : ReservingState) (link : ℕ) → next_wish join ≡ wish.Consume link → ⊥
  -- it wishes for something as long as there is something to be done at some port
  pub goes_on : (join : ReservingState) (p : ℕ) → p < length join.block.ports
      → wishes_at (fails_now join) join.round join.block.ports p ≡ true → next_wish join ≡ wish.None → ⊥

abbrev pub waiting_at : ℕ → ReservingState → ℕ
waiting_at p join = length (port_in join.block.ports p).waiting

-- no port has more than one message ahead of another, and none has unless it claims, or where nothing comes
pub record PortsLevel (join : ReservingState) : Type 0 where
  pub near : (p q : ℕ) → p < length join.block.ports → q < length join.block.ports → waiting_at p join ≤ waiting_at q join + 1
  pub same : (join.round.step ≡ steps.Claims → ⊥) → (p q : ℕ) → p < length join.block.ports → q < length join.block.ports
      → waiting_at p join ≡ waiting_at q join
  pub still : none_comes join.block.ports ≡ true → (p q : ℕ) → p < length join.block.ports → q < length join.block.ports
      → waiting_at p join ≡ waiting_at q join
