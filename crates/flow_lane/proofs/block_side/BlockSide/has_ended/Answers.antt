use Rattle.std.proofs.Common.{ap, sym, ◌∙◌}
use Rattle.flow_lane.specs.BlockLanes.{is_ended}
use Rattle.flow_lane.specs.Items.{JobState}
use Rattle.flow_lane.specs.Sides.{BlockOf}
use Rattle.flow_lane.proofs.StandingsTell.{ended_is}
use Rattle.flow_lane.proofs.block_side.BlockSide.has_ended.Goals as goal

pub returns : goal.returns
returns g c =
    c.is_ended.ensures ∙ sym (ended_is _ _ c.self.invariant.told) ∙ ap (λ (e : BlockOf (JobState g.row.W.Denot)). is_ended e.side.stage) c.self.view_is
