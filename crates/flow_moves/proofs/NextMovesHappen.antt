-- What an end of a link would do next is a move that may happen.
use Rattle.std.proofs.Common.{◌≡◌, ℕ, ◌<◌, Bool, true, false, List, length, Some, Result, refl, sym, ◌∙◌, subst}
use Rattle.flow_value.specs.declared.value.Value.{Value}
use Rattle.flow_link.specs.declared.phase.Move.{Move}
use Rattle.flow_link.specs.declared.plan.LinkSource.{LinkSource}
use Rattle.flow_link.specs.declared.plan.LinkSource.TheVariants.{Block, Input}
use Rattle.flow_link.specs.declared.plan.LinkTarget.{LinkTarget}
use Rattle.flow_link.specs.declared.plan.LinkTarget.TheVariants.{Port, Exit}
use Rattle.flow_link.specs.Layout.{Layout}
use Rattle.flow_link.specs.Plan.{link_in}
use Rattle.flow_core.specs.Events.{LinkMay, is_of_source, source_peek, target_peek, peek_by}
use Rattle.flow_core.specs.Keeps.{IsRun, NetKeeps}
use Rattle.flow_core.specs.State.{NetState}
use Rattle.flow_core.proofs.NextIsAllowed.{of_source, of_target, next_is_allowed}
use Rattle.flow_moves.specs.Statements.{SourcesMay, TargetsMay}
use Rattle.flow_moves.specs.Ways.{source_next, target_next}
use Rattle.flow_block.specs.Routes.{source_place, target_place}

module _ {W : Type 0} (layout : Layout W) (net : NetState) (l : ℕ) where
  -- what an end would do next is the same, whether it is told by the link or by the link's way
  source_alike : (source : LinkSource)
      → source_peek layout net l source ≡ source_next net source (source_place layout source l)
  source_alike (Block s) = refl
  source_alike (Input b) = refl

  target_alike : (target : LinkTarget)
      → target_peek layout net l target ≡ target_next net target (target_place layout target l)
  target_alike (Port t p) = refl
  target_alike Exit = refl

  -- the mover's next move may happen, as the link's phase allows it
  module _ (meaning : ℕ → Value → Result (List Value) ℕ) (run : IsRun layout) (keeps : NetKeeps layout meaning net)
      (there : l < length layout.links) (next : Move) where
    may_happen : (by_source : Bool) → is_of_source next ≡ by_source
        → peek_by layout by_source net l (link_in layout.links l) ≡ Some next → LinkMay layout net l next
    may_happen by_source is peek =
        let own = subst (λ (b : Bool). peek_by layout b net l (link_in layout.links l) ≡ Some next) (sym is) peek in
        record { there = there; allowed = next_is_allowed layout meaning run net l next keeps there own; peek = own }

pub sources_may : (W : Type 0) → SourcesMay W
sources_may W layout meaning run net keeps l next there would =
    let peek = source_alike layout net l (link_in layout.links l).source ∙ would in
    may_happen layout net l meaning run keeps there next true (of_source layout net l next peek) peek

pub targets_may : (W : Type 0) → TargetsMay W
targets_may W layout meaning run net keeps l next there would =
    let peek = target_alike layout net l (link_in layout.links l).target ∙ would in
    may_happen layout net l meaning run keeps there next false (of_target layout net l next peek) peek
