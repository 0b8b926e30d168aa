-- A value that the caller of an input posts goes along its link's way.
use Rattle.std.proofs.Common.{◌≡◌, ℕ, List, Result, refl, ap, sym, ◌∙◌}
use Rattle.flow_value.specs.declared.value.Value.{Value}
use Rattle.flow_link.specs.declared.phase.Phase.{Phase}
use Rattle.flow_link.specs.declared.phase.Phase.TheVariants.{Posted}
use Rattle.flow_link.specs.declared.plan.LinkSource.{LinkSource}
use Rattle.flow_link.specs.declared.plan.LinkSource.TheVariants.{Input}
use Rattle.flow_link.specs.declared.plan.LinkTarget.{LinkTarget}
use Rattle.flow_link.specs.declared.plan.LinkTarget.TheVariants.{Port, Exit}
use Rattle.flow_link.specs.Layout.{Layout}
use Rattle.flow_link.specs.Plan.{link_in}
use Rattle.flow_block.specs.Planned.{block_makes, input_place}
use Rattle.flow_block.specs.Routes.{route_of, source_place, target_place}
use Rattle.flow_input.specs.Input.{InputCall, after_input, next_id}
use Rattle.flow_core.specs.Events.{target_sees, with_input, with_line}
use Rattle.flow_core.specs.State.{NetState, input_at, line_at}
use Rattle.flow_moves.specs.Statements.{PostsGoAlong}
use Rattle.flow_moves.specs.Ways.{input_in, target_looked, with_input_in}

pub sees_along : {W : Type 0} (layout : Layout W) (meaning : ℕ → Value → Result (List Value) ℕ) (l : ℕ) (phase : Phase) (target : LinkTarget) (net : NetState)
    → target_sees layout meaning l phase target net ≡ target_looked (block_makes layout meaning) phase target (target_place layout target l) net
sees_along layout meaning l phase (Port t p) net = refl
sees_along layout meaning l phase Exit net = refl

pub input_place_is : {W : Type 0} (layout : Layout W) (l b : ℕ) → (link_in layout.links l).source ≡ Input b
    → (route_of layout l).source_place ≡ input_place layout b
input_place_is layout l b from = ap (λ (source : LinkSource). source_place layout source l) from

module _ {W : Type 0} (layout : Layout W) (meaning : ℕ → Value → Result (List Value) ℕ) (net : NetState) (l : ℕ) (value : Value) where
  -- the post, where the input stands at this place
  abbrev posted_at : ℕ → NetState
  posted_at k =
      let id = next_id (input_in net k) in
      target_looked (block_makes layout meaning) (Posted id) (link_in layout.links l).target (target_place layout (link_in layout.links l).target l)
      (with_line l (record { phase = Posted id; slot = (line_at net l).slot }) (with_input_in k (after_input (InputCall.post value)) net))

pub posts_go_along : {W : Type 0} → PostsGoAlong W
posts_go_along layout meaning net l b value from =
    let id = next_id (input_at layout net b) in
    sees_along layout meaning l (Posted id) (link_in layout.links l).target
    (with_line l (record { phase = Posted id; slot = (line_at net l).slot })
    (with_input layout b (after_input (InputCall.post value)) net))
    ∙ ap (λ (k : ℕ). posted_at layout meaning net l value k) (sym (input_place_is layout l b from))
