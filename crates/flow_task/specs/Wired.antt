-- The wires of links, and both ends of each: each end knows what it knew of its link.
use Rattle.std.specs.Prelude.{◌≡◌, ℕ, ◌<◌, false, List, [], ◌∷◌, ◌++◌, length, map, get_or, slice_get, slice_index_or, None}
use Rattle.atomic_table.specs.Seated.{TableId}
use Rattle.flow_link.specs.Lists.{below}
use Rattle.flow_link.specs.declared.phase.Phase.TheVariants.{Idle}
use Rattle.flow_link.specs.declared.trace.LinkState.{LinkState}
use Rattle.flow_link.specs.Facts.{facts_in}
use Rattle.flow_link.specs.Layout.{Layout}
use Rattle.flow_link.specs.LinkOk.{LinkOk}
use Rattle.flow_link.specs.Plan.{link_in}
use Rattle.flow_core.specs.State.{NetState, source_from, target_from}
use Rattle.flow_wire.specs.Ends.{Start, SourceOf, TargetOf, starts_out, starts_in, is_crossing, fills}
use Rattle.flow_wire.specs.Sides.{SourceSide, TargetSide}
use Rattle.flow_task.specs.Known.{OutKnown, InKnown}

-- a link is in order with what its ends know, and its slot is empty and at home
pub record IsReady (start : Start) (line : LinkState) : Type 0 where
  pub in_order : LinkOk start.facts line.phase line.slot start.source start.target
  pub empty : is_crossing line.phase ≡ false
  pub home : fills start.source.stage ≡ false

abbrev pub idle : LinkState
idle = record { phase = Idle; slot = None }

abbrev pub AllReady : (ℕ → Start) → List LinkState → Type 0
AllReady starts lines = (l : ℕ) → l < length lines → IsReady (starts l) (get_or lines l idle)

abbrev pub source_side : SourceOf → SourceSide
source_side end = end.side

abbrev pub target_side : TargetOf → TargetSide
target_side end = end.side

abbrev pub source_table : SourceOf → TableId
source_table end = end.table

abbrev pub target_table : TargetOf → TableId
target_table end = end.table

-- the ends are those of the wires, in their order
pub record AreSeated (wires : List TableId) (sources : List SourceOf) (targets : List TargetOf) : Type 0 where
  pub sources_are : map source_table sources ≡ wires
  pub targets_are : map target_table targets ≡ wires

-- so many wires, with the ends of each
pub record AreWired (starts : ℕ → Start) (n : ℕ) (wires : List TableId) (sources : List SourceOf) (targets : List TargetOf) : Type 0 where
  pub count : length wires ≡ n
  pub seated : AreSeated wires sources targets
  pub sources_know : map source_side sources ≡ map (λ l. starts_out (starts l)) (below n)
  pub targets_know : map target_side targets ≡ map (λ l. starts_in (starts l)) (below n)

-- no source has the slot of its link out of its place
abbrev pub AllHome : List SourceOf → Type 0
AllHome sources = (l : ℕ) (d : SourceOf) → l < length sources → fills (slice_index_or sources l d).side.view.stage ≡ false

-- so many links are in order with what their ends know
abbrev pub AreClosed : ℕ → List SourceOf → List TargetOf → List LinkState → Type 0
AreClosed n sources targets lines =
    (l : ℕ) (d : SourceOf) (e : TargetOf) → l < n
    → LinkOk (slice_index_or sources l d).side.facts (get_or lines l idle).phase (get_or lines l idle).slot
    (slice_index_or sources l d).side.view (slice_index_or targets l e).side.view

-- one more wire, with its ends
pub record OneMore (start : Start) (wires wires' : List TableId) (sources sources' : List SourceOf) (targets targets' : List TargetOf) : Type 0 where
  pub table : TableId
  pub wires_are : wires' ≡ wires ++ table ∷ []
  pub sources_are : sources' ≡ sources ++ record { table = table; side = starts_out start } ∷ []
  pub targets_are : targets' ≡ targets ++ record { table = table; side = starts_in start } ∷ []

-- wires, and what the ends of each knew of its link when it was made
pub record Made : Type 0 where
  pub tables : List TableId
  pub starts : ℕ → Start

-- what the ends of these wires are to be, where each end knows of its link what it knew
abbrev pub source_said : Made → ℕ → OutKnown
source_said made l = record { table = slice_get made.tables l; facts = (made.starts l).facts; view = (made.starts l).source }

abbrev pub target_said : Made → ℕ → InKnown
target_said made l = record { table = slice_get made.tables l; facts = (made.starts l).facts; view = (made.starts l).target }

-- no source has the slot of its link out of its place
abbrev pub AllSlotsHome : (ℕ → Start) → ℕ → Type 0
AllSlotsHome starts n = (l : ℕ) → l < n → fills (starts l).source.stage ≡ false

-- so many links are in order with what their ends know
abbrev pub AllInOrder : (ℕ → Start) → ℕ → List LinkState → Type 0
AllInOrder starts n lines =
    (l : ℕ) → l < n
    → LinkOk (starts l).facts (get_or lines l idle).phase (get_or lines l idle).slot (starts l).source (starts l).target

-- what the ends of a network's links know
abbrev pub starts_of : {W : Type 0} → Layout W → NetState → ℕ → Start
starts_of layout net l = record {
  facts = facts_in layout l;
  source = source_from layout net l (link_in layout.links l).source;
  target = target_from layout net l (link_in layout.links l).target;
}
