use Rattle.std.proofs.Common.{refl, ap, sym, ◌∙◌}
use Rattle.flow_lane.specs.BlockLanes.{LanesState, stage_at, tables_of, ticket_at}
use Rattle.flow_lane.specs.Items.{JobState}
use Rattle.flow_lane.specs.Sides.{BlockOf, fetching}
use Rattle.flow_lane.specs.Views.{BlockStage, is_ready}
use Rattle.flow_lane.specs.Items.{state_in}
use Rattle.flow_lane.proofs.LanesStayApart.{is_there, same_apart}
use Rattle.flow_lane.proofs.OneSideChanges.{here_is, ready_no_hand, same_table, stands_now, still_in_hand, tables_now}
use Rattle.flow_lane.proofs.block_lanes.BlockLanes.fetch.Goals as goal

pub invariant_of-self : goal.invariant_of-self
invariant_of-self g c =
    let sides = c.self.inside.sides.items in
    let at = ap (λ (l : LanesState g.row.W.Denot). is_ready (stage_at c.args.place l)) c.self.view_is ∙ c.requires.ready in
    let there = is_there is_ready refl sides c.args.place at in
    (same_apart sides c.args.place c.fetch.new.self there c.self.invariant.0 (ap (λ (s : BlockOf (JobState g.row.W.Denot)). ticket_at s.side.stage) c.fetch.ensures.side ∙ sym (ap (λ (b : BlockStage (JobState g.row.W.Denot)). ticket_at b) (ap (λ (s : BlockOf (JobState g.row.W.Denot)). s.side.stage) (sym (here_is sides c.args.place there c.index_mut.result.now c.index_mut.ensures.value)) ∙ c.fetch.ensures.of_job))), still_in_hand sides c.args.place there c.fetch.new.self c.self.inside.kept state_in (λ job. ready_no_hand _ job at) c.self.invariant.1)

pub returns-clause-tables : goal.returns-clause-tables
returns-clause-tables g c =
    let sides = c.self.inside.sides.items in
    let at = ap (λ (l : LanesState g.row.W.Denot). is_ready (stage_at c.args.place l)) c.self.view_is ∙ c.requires.ready in
    let there = is_there is_ready refl sides c.args.place at in
    tables_now sides c.args.place there c.fetch.new.self (same_table sides c.args.place there (fetching (state_in c.fetch.result)) c.index_mut.result.now c.fetch.new.self c.index_mut.ensures.value c.fetch.ensures.side)
    ∙ ap (λ (l : LanesState g.row.W.Denot). tables_of l.sides) c.self.view_is ∙ c.requires.table

pub returns-clause-in_hand : goal.returns-clause-in_hand
returns-clause-in_hand g c =
    let sides = c.self.inside.sides.items in
    let at = ap (λ (l : LanesState g.row.W.Denot). is_ready (stage_at c.args.place l)) c.self.view_is ∙ c.requires.ready in
    let there = is_there is_ready refl sides c.args.place at in
    ap (λ (s : BlockOf (JobState g.row.W.Denot)). s.side.stage) (stands_now sides c.args.place there c.fetch.new.self ∙ c.fetch.ensures.side)
