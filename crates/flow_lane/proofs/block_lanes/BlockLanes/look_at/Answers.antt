use Rattle.std.proofs.Common.{◌<◌, length, ap, sym, subst, ◌∙◌}
use Rattle.flow_lane.specs.BlockLanes.{LanesState, tables_of, ticket_at}
use Rattle.flow_lane.specs.Items.{JobState, state_in}
use Rattle.flow_lane.specs.Sides.{BlockOf, block_looked}
use Rattle.flow_lane.specs.Views.{is_sent}
use Rattle.flow_lane.proofs.LanesStayApart.{same_apart}
use Rattle.flow_lane.proofs.OneSideChanges.{finds_ticket, here_is, same_table, sent_no_hand, still_in_hand, tables_now}
use Rattle.flow_lane.proofs.block_lanes.BlockLanes.look_at.Goals as goal

pub invariant_of-self : goal.invariant_of-self
invariant_of-self g c =
    let sides = c.self.inside.sides.items in
    let place = c.args.place in
    let there = subst (λ (l : LanesState g.row.W.Denot). place < length l.sides) (sym c.self.view_is) c.requires.there in
    let sent = ap (λ (s : BlockOf (JobState g.row.W.Denot)). is_sent s.side.stage) (sym (here_is sides place there c.index.result.now c.index.ensures))
    ∙ sym c.is_sent.ensures ∙ c.if-is_sent.true in
    let same = ap (λ (s : BlockOf (JobState g.row.W.Denot)). ticket_at s.side.stage) c.look.ensures.side
    ∙ finds_ticket c.index_mut.result.now.side.stage c.look.result
    ∙ ap (λ (s : BlockOf (JobState g.row.W.Denot)). ticket_at s.side.stage) (here_is sides place there c.index_mut.result.now c.index_mut.ensures.value) in (
      same_apart sides place c.look.new.self there c.self.invariant.0 same,
      still_in_hand sides place there c.look.new.self c.self.inside.kept state_in (λ job. sent_no_hand _ job sent) c.self.invariant.1,
    )

pub returns-then-is_sent-clause-tables : goal.returns-then-is_sent-clause-tables
returns-then-is_sent-clause-tables g c =
    let sides = c.self.inside.sides.items in
    let place = c.args.place in
    let there = subst (λ (l : LanesState g.row.W.Denot). place < length l.sides) (sym c.self.view_is) c.requires.there in
    tables_now sides place there c.look.new.self
    (same_table sides place there (block_looked c.look.result) c.index_mut.result.now c.look.new.self c.index_mut.ensures.value c.look.ensures.side)
    ∙ ap (λ (l : LanesState g.row.W.Denot). tables_of l.sides) c.self.view_is ∙ c.requires.table
