use Rattle.std.proofs.Common.{refl, ap, ◌∙◌}
use Rattle.flow_lane.specs.BlockLanes.{LanesState, stage_at, tables_of, ticket_at}
use Rattle.flow_lane.specs.Items.{JobState}
use Rattle.flow_lane.specs.Sides.{BlockOf, ending}
use Rattle.flow_lane.specs.Views.{is_free}
use Rattle.flow_lane.specs.Items.{state_in}
use Rattle.flow_lane.proofs.LanesStayApart.{is_there, none_apart}
use Rattle.flow_lane.proofs.OneSideChanges.{free_no_hand, same_table, still_in_hand, tables_now}
use Rattle.flow_lane.proofs.block_lanes.BlockLanes.end.Goals as goal

pub invariant_of-self : goal.invariant_of-self
invariant_of-self g c =
    let sides = c.self.inside.sides.items in
    let at = ap (λ (l : LanesState g.row.W.Denot). is_free (stage_at c.args.place l)) c.self.view_is ∙ ap is_free c.requires.free in
    let there = is_there is_free refl sides c.args.place at in
    (none_apart sides c.args.place c.end.new.self there c.self.invariant.0 (ap (λ (s : BlockOf (JobState g.row.W.Denot)). ticket_at s.side.stage) c.end.ensures), still_in_hand sides c.args.place there c.end.new.self c.self.inside.kept state_in (λ job. free_no_hand _ job at) c.self.invariant.1)

pub returns-clause-tables : goal.returns-clause-tables
returns-clause-tables g c =
    let sides = c.self.inside.sides.items in
    let at = ap (λ (l : LanesState g.row.W.Denot). is_free (stage_at c.args.place l)) c.self.view_is ∙ ap is_free c.requires.free in
    let there = is_there is_free refl sides c.args.place at in
    tables_now sides c.args.place there c.end.new.self (same_table sides c.args.place there ending c.index_mut.result.now c.end.new.self c.index_mut.ensures.value c.end.ensures)
    ∙ ap (λ (l : LanesState g.row.W.Denot). tables_of l.sides) c.self.view_is ∙ c.requires.table
