use Rattle.std.proofs.Common.{◌≡◌, ℕ, ◌<◌, cond, slice_get, slice_index_or, vec_len, Some, ap, sym, ◌∙◌, subst, arith}
use Rattle.flow_link.specs.Plan.{is_one_taker}
use Rattle.flow_link.specs.Planned.{layout_of}
use Rattle.flow_outlet.specs.Outlet.{end_at}
use Rattle.flow_spread.specs.Spread.{link_at}
use Rattle.flow_block.specs.Block.{BlockState}
use Rattle.flow_exec.specs.Works.{works_of}
use Rattle.flow_task.specs.Known.{link_from}
use Rattle.flow_task.specs.declared.board.Board.{Board}
use Rattle.flow_task.proofs.Places.{stands_there}
use Rattle.flow_task.proofs.TaskSteps.{link_is, wire_low}
use Rattle.flow_task.proofs.task.BlockTask.wire_out.Goals as goal

pub index-requires : goal.index-requires
index-requires g c =
    let s = c.args.self.now in
    let plan = s.of.value.rest.plan in
    let wires = s.of.value.wires.items in
    let works = works_of g.W.Runs.meaning (layout_of plan) in
    let place = c.args.place in
    let is =
    c.link_out.ensures
    ∙ ap (λ (b : BlockState). (cond (is_one_taker b.kind) (end_at b.exits place).rule (link_at b.copies place).rule).id) c.block.ensures
    ∙ link_is (layout_of plan) works wires s.number plan.well_formed s.there s.node s.law place c.requires.there in
    let low = wire_low (layout_of plan) works wires s.number plan.well_formed s.there s.node s.law place c.requires.there s.outs.items s.outs_know in
    subst (λ (board : Board _). c.link_out.result < vec_len board.wires) c.requires.of
    (omega (arith, is, low, s.of.value.wires.ok.0))

pub returns : goal.returns
returns g c =
    let s = c.args.self.now in
    let plan = s.of.value.rest.plan in
    let wires = s.of.value.wires.items in
    let works = works_of g.W.Runs.meaning (layout_of plan) in
    let place = c.args.place in
    let link = link_from (layout_of plan) wires s.number place in
    let is =
    c.link_out.ensures
    ∙ ap (λ (b : BlockState). (cond (is_one_taker b.kind) (end_at b.exits place).rule (link_at b.copies place).rule).id) c.block.ensures
    ∙ link_is (layout_of plan) works wires s.number plan.well_formed s.there s.node s.law place c.requires.there in
    let low = wire_low (layout_of plan) works wires s.number plan.well_formed s.there s.node s.law place c.requires.there s.outs.items s.outs_know in
    let wire = c.index.result.now in
    let Found : Board _ → Type 0 = λ board. wire ≡ slice_index_or board.wires.items c.link_out.result wire
    → slice_get board.wires.items (link_from (layout_of board.rest.plan) board.wires.items s.number place) ≡ Some wire in
    subst Found c.requires.of
    (λ found. stands_there wires link wire low ∙ ap Some (ap (λ (n : ℕ). slice_index_or wires n wire) (sym is) ∙ sym found))
    c.index.ensures
