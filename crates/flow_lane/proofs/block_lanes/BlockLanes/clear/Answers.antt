use Rattle.std.proofs.Common.{◌≡◌, true, refl, ap, ◌∙◌}
use Rattle.std.proofs.lemmas.Bool.{eq-eqb}
use Rattle.flow_lane.specs.BlockLanes.{LanesState, has_ticket, is_ticket, side_in, stage_at, tables_of, ticket_at}
use Rattle.flow_lane.specs.Items.{JobState}
use Rattle.flow_lane.specs.Sides.{BlockOf, clearing}
use Rattle.flow_lane.specs.Views.{has_in_hand}
use Rattle.flow_lane.proofs.LanesStayApart.{is_there, none_apart, one_gone}
use Rattle.flow_lane.proofs.OneSideChanges.{none_held, same_table, tables_now}
use Rattle.flow_lane.proofs.block_lanes.BlockLanes.clear.Goals as goal

pub invariant_of-self : goal.invariant_of-self
invariant_of-self g c =
    let sides = c.self.inside.sides.items in
    let at = ap (λ (l : LanesState g.row.W.Denot). has_in_hand (stage_at c.args.place l)) c.self.view_is ∙ c.requires.in_hand in
    let there = is_there has_in_hand refl sides c.args.place at in
    (none_apart sides c.args.place c.clear.new.self there c.self.invariant.0 (ap (λ (s : BlockOf (JobState g.row.W.Denot)). ticket_at s.side.stage) c.clear.ensures), none_held c.self.inside.kept _ (ap (λ (l : LanesState g.row.W.Denot). l.kept) c.self.view_is ∙ c.requires.none_kept))

pub returns-clause-tables : goal.returns-clause-tables
returns-clause-tables g c =
    let sides = c.self.inside.sides.items in
    let at = ap (λ (l : LanesState g.row.W.Denot). has_in_hand (stage_at c.args.place l)) c.self.view_is ∙ c.requires.in_hand in
    let there = is_there has_in_hand refl sides c.args.place at in
    tables_now sides c.args.place there c.clear.new.self (same_table sides c.args.place there clearing c.index_mut.result.now c.clear.new.self c.index_mut.ensures.value c.clear.ensures)
    ∙ ap (λ (l : LanesState g.row.W.Denot). tables_of l.sides) c.self.view_is ∙ c.requires.table

pub returns-clause-gone : goal.returns-clause-gone
returns-clause-gone g c = λ ticket is.
    let sides = c.self.inside.sides.items in
    let at = ap (λ (l : LanesState g.row.W.Denot). has_in_hand (stage_at c.args.place l)) c.self.view_is ∙ c.requires.in_hand in
    let there = is_there has_in_hand refl sides c.args.place at in
    let stood : has_ticket ticket (side_in sides c.args.place) ≡ true =
    ap (is_ticket ticket) (ap (λ (l : LanesState g.row.W.Denot). ticket_at (stage_at c.args.place l)) c.self.view_is ∙ is) ∙ eq-eqb ticket ticket refl in
    one_gone sides c.args.place ticket c.clear.new.self there c.self.invariant.0 stood
    (ap (λ (s : BlockOf (JobState g.row.W.Denot)). has_ticket ticket s) c.clear.ensures)
