-- What the finders of events tell: that an end of a link is where its way says, that what it would do is due, and when a block
-- would do nothing.
use Rattle.std.proofs.Common.{◌≡◌, ℕ, ◌+◌, ◌<◌, ◌≤◌, Bool, true, false, List, length, get_or, map, Option, Some, None}
use Rattle.std.proofs.Common.{IsTrue, ◌↔◌, Result, ap, sym, ◌∙◌, subst, arith, ⊎_elim}
use Rattle.std.proofs.Math.Bridge.{le_prop}
use Rattle.std.proofs.Math.Logic.{∥∥₁_elim}
use Rattle.std.proofs.Math.Nat.{eq-or-lt_of_le}
use Rattle.std.proofs.lemmas.List.{length-map}
use Rattle.flow_value.specs.declared.value.Value.{Value}
use Rattle.flow_value.specs.declared.work.WorkFault.{WorkFault}
use Rattle.flow_link.specs.declared.phase.Move.{Move}
use Rattle.flow_link.specs.declared.phase.Move.TheVariants.{Offer}
use Rattle.flow_link.specs.declared.plan.Plan.{Plan}
use Rattle.flow_link.specs.Layout.{Layout}
use Rattle.flow_link.specs.Plan.{block_in}
use Rattle.flow_link.specs.Planned.{layout_of}
use Rattle.flow_link.proofs.PortsAreFew.{at_most_three}
use Rattle.flow_link.specs.Lists.{below}
use Rattle.flow_link.proofs.ListTests.{length_numbers}
use Rattle.flow_block.specs.declared.planned.Route.{Route}
use Rattle.flow_block.specs.Routes.{route_of}
use Rattle.flow_block.proofs.PlanMade.{mapped_at}
use Rattle.flow_block.specs.Block.{BlockState}
use Rattle.flow_block.specs.Peeks.{may_make, may_begin, may_end}
use Rattle.flow_core.specs.Events.{NetEvent, LinkMay, HasIds, is_of_source}
use Rattle.flow_core.specs.Keeps.{NetKeeps}
use Rattle.flow_core.specs.State.{NetState, node_at}
use Rattle.flow_moves.specs.Ready.{IsThere, SourceIsThere, TargetIsThere}
use Rattle.flow_moves.specs.Statements.{HasNothingToDo, source_would, target_would}
use Rattle.flow_moves.specs.Ways.{lacks_id, source_next, target_next}
use Rattle.flow_exec.specs.Works.{works_of}
use Rattle.flow_moves.proofs.PlansRun.{plan_runs}
use Rattle.flow_moves.proofs.MerelyKept.{links_there}
use Rattle.std.specs.Option.{IfNone, option_eq}
use Rattle.flow_net.specs.Opens.{IsOpen}
use Rattle.flow_net.specs.There.{IsDue, NeedsId, OffersAnId}
use Rattle.flow_net.specs.declared.due.Due.{Due}
use Rattle.flow_net.proofs.IdsLeft.{source_is_due, target_is_due, source_would_do, target_would_do, needs_id, not_enabled}

-- The ways of the links

-- each link has one, at its number
module _ {W : Type 0} (layout : Layout W) (routes : List Route)
    (routed : routes ≡ map (route_of layout) (below (length layout.links))) (l : ℕ) (there : l < length layout.links) where
  pub route_there : l < length routes
  route_there =
      let count : length routes ≡ length layout.links =
      ap length routed ∙ length-map (below (length layout.links)) (route_of layout) ∙ length_numbers 0 (length layout.links) in
      omega (arith, there, count)

  pub route_at : (d : Route) → get_or routes l d ≡ route_of layout l
  route_at d = mapped_at (route_of layout) routes (length layout.links) l d routed there

-- What has been looked at one by one

-- one more place
pub one_more : (P : ℕ → Type 0) (n : ℕ) → ((k : ℕ) → k < n → P k) → P n → (k : ℕ) → k < n + 1 → P k
one_more P n all last k small =
    let at_most : k ≤ n = omega arith in
    ⊎_elim (λ (same : k ≡ n). subst P (sym same) last) (λ (less : k < n). all k less) (eq-or-lt_of_le at_most)

-- The two ends of a link

-- a move whose message has an id needs no other
pub id_of_move : {W : Type 0} (layout : Layout W) (meaning : ℕ → Value → Result (List Value) ℕ) (net : NetState) (l : ℕ)
    (next : Move) → OffersAnId next → HasIds layout meaning (NetEvent.at_link l next) net
id_of_move layout meaning net l (Offer id) has = has
id_of_move layout meaning net l _ has = tt

module _ {W : Type 0} (works : W → Value → Result (List Value) WorkFault) (plan : Plan W) (net : NetState)
    (kept : ∥ NetKeeps (layout_of plan) (works_of works (layout_of plan)) net ∥₁) (l : ℕ)
    (there : l < length (layout_of plan).links) (route : Route) (is : route ≡ route_of (layout_of plan) l) where
  abbrev layout : Layout W
  layout = layout_of plan

  abbrev meaning : ℕ → Value → Result (List Value) ℕ
  meaning = works_of works (layout_of plan)

  link_there : IsThere net l route
  link_there = subst (IsThere net l) (sym is) (links_there layout meaning net kept (plan_runs plan) l there)

  pub source_there : SourceIsThere net route.source route.source_place
  source_there = link_there.source

  pub target_there : TargetIsThere net route.target route.target_place
  target_there = link_there.target

  -- what is told by the way is told of the link
  source_same : source_next net route.source route.source_place ≡ source_would layout net l
  source_same = ap (λ (r : Route). source_next net r.source r.source_place) is

  target_same : target_next net route.target route.target_place ≡ target_would layout net l
  target_same = ap (λ (r : Route). target_next net r.target r.target_place) is

  lacks_same : (lacks : Bool) → lacks ≡ lacks_id net route.source route.source_place
      → lacks ≡ lacks_id net (route_of layout l).source (route_of layout l).source_place
  lacks_same lacks e = e ∙ ap (λ (r : Route). lacks_id net r.source r.source_place) is

  -- what is found at the target is due, and is what the target may do
  module _ (found : Option Move) (e : found ≡ target_next net route.target route.target_place) where
    pub target_found : (next : Move) → found ≡ Some next → IsDue layout meaning net (NetEvent.at_link l next)
    target_found next some =
        target_is_due layout meaning net l kept (plan_runs plan) there next (sym (e ∙ target_same) ∙ some)

    pub target_told : (next : Move) (told : Bool) → is_of_source next ≡ false
        → (told ≡ true → found ≡ Some next) → (found ≡ Some next → told ≡ true)
        → IsTrue told ↔ LinkMay layout net l next
    target_told next told other to from = (
      λ due. (target_found next (to due)).enabled,
      λ may. from (e ∙ target_same ∙ target_would_do layout net l next may other),
    )

  module _ (lacks : Bool) (lacks_is : lacks ≡ lacks_id net route.source route.source_place) where
    -- what is found at the source is so too, where it lacks no id
    module _ (left : lacks ≡ false) (found : Option Move)
        (next_is : lacks_id net route.source route.source_place ≡ false
        → found ≡ source_next net route.source route.source_place) where
      source_is : found ≡ source_would layout net l
      source_is = next_is (sym lacks_is ∙ left) ∙ source_same

      pub source_found : (next : Move) → found ≡ Some next → IsDue layout meaning net (NetEvent.at_link l next)
      source_found next some =
          source_is_due layout meaning net l kept (plan_runs plan) there next (sym (lacks_same lacks lacks_is) ∙ left)
          (sym source_is ∙ some)

      pub source_told : (next : Move) (told : Bool) → is_of_source next ≡ true
          → (told ≡ true → found ≡ Some next) → (found ≡ Some next → told ≡ true)
          → IsTrue told ↔ LinkMay layout net l next
      source_told next told own to from = (
        λ due. (source_found next (to due)).enabled,
        λ may. from (source_is ∙ source_would_do layout net l next may own),
      )

    -- where it lacks one, that is wanting, and none of its moves is enabled
    pub lacking_needs : lacks ≡ true → NeedsId layout meaning net
    lacking_needs e = needs_id layout meaning net l kept (plan_runs plan) there (sym (lacks_same lacks lacks_is) ∙ e)

    pub lacking_told : lacks ≡ true → (next : Move) → is_of_source next ≡ true → OffersAnId next
        → IsTrue false ↔ LinkMay layout net l next
    lacking_told e next own id = (
      λ wrong. absurd (cc),
      λ may. absurd (not_enabled layout meaning net l kept (plan_runs plan) there (sym (lacks_same lacks lacks_is) ∙ e) next own
          (id_of_move layout meaning net l next id) may),
    )

-- what is found is told to be the same as itself
pub found_same : (same : Move → Move → Bool) (found : Option Move) (next : Move) (told : Bool)
    → told ≡ option_eq same found (Some next) → same next next ≡ true → found ≡ Some next → told ≡ true
found_same same found next told is itself e = is ∙ ap (λ (o : Option Move). option_eq same o (Some next)) e ∙ itself

-- A block

-- a plan gives no block more than three ports
pub few_ports : {W : Type 0} (plan : Plan W) (meaning : ℕ → Value → Result (List Value) ℕ) (net : NetState)
    → ∥ NetKeeps (layout_of plan) meaning net ∥₁ → (b : ℕ) → b < length (layout_of plan).blocks
    → length (node_at net b).block.ports ≤ 3
few_ports plan meaning net kept b low =
    ∥∥₁_elim kept le_prop (λ keeps.
    subst (λ (count : ℕ). count ≤ 3) (sym (keeps.nodes b low).shape.port_count_is)
    (at_most_three (block_in plan.blocks.items b) (plan.well_formed.options b low)))

-- it would do nothing by itself where it would do none of these
pub nothing_to_do : (block : BlockState)
    → may_make block ≡ false → may_begin block ≡ false → ((ticket : ℕ) → may_end ticket block ≡ false) → IsOpen block
    → HasNothingToDo block
nothing_to_do block make begin end is_open = record {
  make = make;
  begin = begin;
  end = end;
  complete = is_open.ports;
  fault = is_open.fault;
  finish = is_open.goes_on;
}

-- and so where it would make nothing, and is found to be open
pub nothing_where_open : (block : BlockState)
    → may_make block ≡ false → may_begin block ≡ false → ((ticket : ℕ) → may_end ticket block ≡ false)
    → (found : Option Due) → IfNone found (IsOpen block) → IfNone found (HasNothingToDo block)
nothing_where_open block make begin end None is_open = nothing_to_do block make begin end is_open
nothing_where_open block make begin end (Some due) is_open = is_open
