-- A look of both ends of a link goes along the link's way.
use Rattle.std.proofs.Common.{◌≡◌, ℕ, List, Result, refl, ap, ◌∙◌}
use Rattle.flow_value.specs.declared.value.Value.{Value}
use Rattle.flow_link.specs.declared.phase.Phase.{Phase}
use Rattle.flow_link.specs.declared.plan.LinkSource.{LinkSource}
use Rattle.flow_link.specs.declared.plan.LinkSource.TheVariants.{Block, Input}
use Rattle.flow_link.specs.Layout.{Layout}
use Rattle.flow_link.specs.Plan.{link_in}
use Rattle.flow_block.specs.Planned.{block_makes}
use Rattle.flow_block.specs.Routes.{route_of, source_place}
use Rattle.flow_core.specs.Events.{source_sees, target_sees}
use Rattle.flow_core.specs.InOrder.{looked_at}
use Rattle.flow_core.specs.State.{NetState, line_at}
use Rattle.flow_moves.specs.Ways.{looked_along, source_looked}
use Rattle.flow_moves.proofs.PostsGoAlong.{sees_along}

source_sees_along : {W : Type 0} (layout : Layout W) (meaning : ℕ → Value → Result (List Value) ℕ) (l : ℕ) (phase : Phase)
    (source : LinkSource) (net : NetState)
    → source_sees layout meaning l phase source net ≡ source_looked (block_makes layout meaning) phase source (source_place layout source l) net
source_sees_along layout meaning l phase (Block s) net = refl
source_sees_along layout meaning l phase (Input b) net = refl

pub looks_go_along : {W : Type 0} (layout : Layout W) (meaning : ℕ → Value → Result (List Value) ℕ) (l : ℕ) (net : NetState)
    → looked_at layout meaning l net ≡ looked_along (block_makes layout meaning) l (route_of layout l) net
looks_go_along layout meaning l net =
    let phase = (line_at net l).phase in
    let link = link_in layout.links l in
    source_sees_along layout meaning l phase link.source (target_sees layout meaning l phase link.target net)
    ∙ ap (λ (mid : NetState). source_looked (block_makes layout meaning) phase link.source (source_place layout link.source l) mid)
    (sees_along layout meaning l phase link.target net)
