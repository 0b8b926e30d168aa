use Rattle.std.proofs.Common.{ap, sym, ◌∙◌}
use Rattle.flow_lane.specs.Items.{JobState, ticket_of}
use Rattle.flow_lane.specs.Sides.{BlockOf}
use Rattle.flow_lane.specs.Views.{is_ready}
use Rattle.flow_lane.proofs.StandingsTell.{ready_is}
use Rattle.flow_lane.proofs.block_side.BlockSide.is_ready.Goals as goal

pub returns : goal.returns
returns g c =
    c.is_ready.ensures ∙ sym (ready_is ticket_of _ _ c.self.invariant.told) ∙ ap (λ (e : BlockOf (JobState g.row.W.Denot)). is_ready e.side.stage) c.self.view_is
