-- In a block in order: at each link it stands as its end does, and no call that names a link turns away what it could do.
use Rattle.std.specs.Prelude.{◌≡◌, ◌≢◌, ℕ, ◌<◌, ◌==◌, cond, Bool, true, false, not, List, length, Option, Some, None}
use Rattle.flow_link.specs.SourceCalls.{MayConsume, MayReserve}
use Rattle.flow_link.specs.declared.stage.SourceStage.{SourceStage}
use Rattle.flow_link.specs.declared.stage.SourceStage.TheVariants as source
use Rattle.flow_link.specs.declared.trace.Outcome.{Outcome}
use Rattle.flow_intake.specs.Port.{PortState, stage_at as port_stage, link_in, is_coming, coming}
use Rattle.flow_intake.specs.ByLink.{place_of as port_place, next_wish}
use Rattle.flow_outlet.specs.Outlet.{OutletState, end_at, stage_at, may_offer, has_offer_out}
use Rattle.flow_outlet.specs.ByLink.{place_of, is_there as is_head_there, is_kept_elsewhere}
use Rattle.flow_outlet.specs.Law.{OutletLaw}
use Rattle.flow_spread.specs.Spread.{SpreadState, link_at, stage_at as copy_stage, next_place}
use Rattle.flow_spread.specs.ByLink.{place_of as copy_place}
use Rattle.flow_spread.specs.Law.{SpreadLaw}
use Rattle.flow_block.specs.Block.{BlockState, port_in}
use Rattle.flow_block.specs.Peeks.{nothing_comes}
use Rattle.flow_block.specs.Traits.{source_over, is_busy, offers_over, may_take, may_keep, copy_over, copies_over, may_take_copy, may_keep_copy, shares, source_at, offer_next, taken_by, kept_by, port_into, target_over, wishing_port}

-- Where it shares its messages out

-- the stage of an end as it is, but that nobody waits for a message that is gone
abbrev pub without_gone : ℕ → SourceStage → SourceStage
without_gone next (source.Waiting i) = cond (i == next) (source.Waiting i) source.Free
without_gone next stage = stage

-- each end is the one that its link names
abbrev pub OwnEnds : OutletState → Type 0
OwnEnds o = (k : ℕ) → k < length o.ends → place_of (end_at o k).rule.id o.ends ≡ k

module _ (pending : Bool) (stopped : Option Outcome) (o : OutletState) where
  -- where the exits are in order
  abbrev pub InOrder : Type 0 → Type 0
  InOrder Holds = OutletLaw pending stopped o → OwnEnds o → Holds

  abbrev pub OfEachEnd : (ℕ → Type 0) → Type 0
  OfEachEnd Holds = InOrder ((k : ℕ) → k < length o.ends → Holds k)

  pub record StandsInOrder : Type 0 where
    -- it stands at each link as its end does
    pub stages : OfEachEnd (λ k. source_over o (end_at o k).rule.id ≡ without_gone o.next (stage_at o k))
    -- what a link may consume it has, unless the message is gone, or kept for another
    pub gives : OfEachEnd (λ k.
        (header : ℕ) → MayConsume header (is_busy o) (source_over o (end_at o k).rule.id)
        → may_take (end_at o k).rule.id header o ≡ is_head_there k header o)
    -- what may be kept for a link is, unless it is kept for another
    pub keeps : OfEachEnd (λ k.
        (header : ℕ) → MayReserve header (is_busy o) (source_over o (end_at o k).rule.id)
        → may_keep (end_at o k).rule.id header o ≡ not (is_kept_elsewhere k o))
    -- it is busy while an offer is out, and what may be offered it offers
    pub busy : InOrder (has_offer_out o ≡ true → is_busy o ≡ true)
    pub offers : InOrder ((k : ℕ) → may_offer o ≡ Some k → offers_over o (may_offer o) ≡ Some k)

abbrev pub BlocksStandInOrder : Type 0
BlocksStandInOrder = (pending : Bool) (stopped : Option Outcome) (o : OutletState) → StandsInOrder pending stopped o

-- And in any block that shares its messages out a message is kept for one link alone

abbrev pub WhereKept : (BlockState → ℕ → Type 0) → Type 0
WhereKept Holds =
    (block : BlockState) (link header : ℕ) → shares block ≡ true → source_at block link ≡ source.Reserved header → Holds block link

pub record KeptForOne : Type 0 where
  pub alone : WhereKept (λ block link. (other header : ℕ) → source_at block other ≡ source.Reserved header → other ≡ link)
  -- until it is given up it is offered to nobody, and neither given over another link nor kept for another
  pub unoffered : WhereKept (λ block link. offer_next block ≡ None)
  pub ungiven : WhereKept (λ block link. (other header : ℕ) → other ≢ link → taken_by true other header block ≡ None)
  pub unkept : WhereKept (λ block link. (other header : ℕ) → other ≢ link → kept_by true other header block ≡ false)

-- Where it copies

abbrev pub OwnCopies : SpreadState → Type 0
OwnCopies s = (k : ℕ) → k < length s.ends → copy_place (link_at s k).rule.id s.ends ≡ k

module _ (first : ℕ) (pending : Bool) (stopped : Option Outcome) (s : SpreadState) where
  abbrev pub CopiesInOrder : Type 0 → Type 0
  CopiesInOrder Holds = SpreadLaw first pending stopped s → OwnCopies s → Holds

  abbrev pub OfEachCopy : (ℕ → Type 0) → Type 0
  OfEachCopy Holds = CopiesInOrder ((k : ℕ) → k < length s.ends → Holds k)

  pub record CopiesStand : Type 0 where
    -- it stands at each link as its end does
    pub stages : OfEachCopy (λ k. copy_over s (link_at s k).rule.id ≡ copy_stage s k)
    -- what a link may consume it has
    pub gives : OfEachCopy (λ k.
        (header : ℕ) → MayConsume header false (copy_over s (link_at s k).rule.id)
        → may_take_copy (link_at s k).rule.id header s ≡ true)
    -- what may be kept for a link is
    pub keeps : OfEachCopy (λ k.
        (header : ℕ) → MayReserve header false (copy_over s (link_at s k).rule.id)
        → may_keep_copy (link_at s k).rule.id header s ≡ true)
    -- and what may be offered it offers
    pub offers : CopiesInOrder ((k : ℕ) → next_place s ≡ Some k → copies_over s (next_place s) ≡ Some k)

abbrev pub CopiesStandInOrder : Type 0
CopiesStandInOrder =
    (first : ℕ) (pending : Bool) (stopped : Option Outcome) (s : SpreadState) → CopiesStand first pending stopped s

-- Where it takes

-- each end is the one that its link names, at the port into which its link leads
pub record OwnEnd (ports : List PortState) (p k : ℕ) : Type 0 where
  pub port : port_into (link_in k (port_in ports p).ends) ports ≡ p
  pub place : port_place (link_in k (port_in ports p).ends) (port_in ports p).ends ≡ Some k

abbrev pub OwnPorts : List PortState → Type 0
OwnPorts ports = (p k : ℕ) → p < length ports → k < length (port_in ports p).ends → OwnEnd ports p k

pub record PortsStand (ports : List PortState) : Type 0 where
  -- it stands at each link as its end does
  pub stages : (p k : ℕ) → p < length ports → k < length (port_in ports p).ends
      → target_over ports (link_in k (port_in ports p).ends) ≡ port_stage k (port_in ports p)
  -- where nothing comes over any link into a port, nothing comes there
  pub at_rest : (p : ℕ) → p < length ports
      → ((link : ℕ) → port_into link ports ≡ p → is_coming (target_over ports link) ≡ false)
      → coming (port_in ports p) ≡ 0
  -- it wishes for nothing only where no port would consume an offer
  pub wishes : wishing_port ports ≡ None → (p : ℕ) → p < length ports → next_wish (port_in ports p) ≡ None

abbrev pub PortsStandInOrder : Type 0
PortsStandInOrder = (ports : List PortState) → OwnPorts ports → PortsStand ports

-- and in any block: where nothing comes at a port, nothing comes over a link into it
pub record PortsAtRest : Type 0 where
  pub over_a_link : (ports : List PortState) (p : ℕ) → coming (port_in ports p) ≡ 0 → (link : ℕ) → port_into link ports ≡ p
      → is_coming (target_over ports link) ≡ false
  pub over_all_links : (ports : List PortState) → nothing_comes ports ≡ true → (link : ℕ)
      → is_coming (target_over ports link) ≡ false
