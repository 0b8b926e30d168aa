use Rattle.std.proofs.Common.{◌≡◌, ℕ, ◌<◌, slice_get, slice_index_or, vec_len, Some, ap, sym, ◌∙◌, subst, arith}
use Rattle.flow_link.specs.Planned.{layout_of}
use Rattle.flow_intake.specs.Port.{end_in}
use Rattle.flow_block.specs.Block.{BlockState, port_at}
use Rattle.flow_exec.specs.Works.{works_of}
use Rattle.flow_task.specs.Known.{link_to}
use Rattle.flow_task.specs.declared.board.Board.{Board}
use Rattle.flow_task.proofs.Places.{stands_there}
use Rattle.flow_task.proofs.TaskSteps.{link_in_is, wire_at_port}
use Rattle.flow_task.proofs.task.BlockTask.wire_in.Goals as goal

pub index-requires : goal.index-requires
index-requires g c =
    let s = c.args.self.now in
    let plan = s.of.value.rest.plan in
    let wires = s.of.value.wires.items in
    let works = works_of g.W.Runs.meaning (layout_of plan) in
    let is =
    c.in_link.ensures ∙ ap (λ (b : BlockState). (end_in c.args.place (port_at c.args.port b).ends).link) c.block.ensures
    ∙ link_in_is (layout_of plan) works wires s.number plan.well_formed s.there s.node s.law c.args.port c.args.place c.requires.port c.requires.there in
    let low = wire_at_port (layout_of plan) works wires s.number plan.well_formed s.there s.node s.law c.args.port c.args.place c.requires.port c.requires.there
    (λ port. port.items) s.ins.items s.ins_know in
    subst (λ (board : Board _). c.in_link.result < vec_len board.wires) c.requires.of
    (omega (arith, is, low, s.of.value.wires.ok.0))

pub returns : goal.returns
returns g c =
    let s = c.args.self.now in
    let plan = s.of.value.rest.plan in
    let wires = s.of.value.wires.items in
    let works = works_of g.W.Runs.meaning (layout_of plan) in
    let link = link_to (layout_of plan) wires s.number c.args.port c.args.place in
    let is =
    c.in_link.ensures ∙ ap (λ (b : BlockState). (end_in c.args.place (port_at c.args.port b).ends).link) c.block.ensures
    ∙ link_in_is (layout_of plan) works wires s.number plan.well_formed s.there s.node s.law c.args.port c.args.place c.requires.port c.requires.there in
    let low = wire_at_port (layout_of plan) works wires s.number plan.well_formed s.there s.node s.law c.args.port c.args.place c.requires.port c.requires.there
    (λ port. port.items) s.ins.items s.ins_know in
    let wire = c.index.result.now in
    let Found : Board _ → Type 0 = λ board. wire ≡ slice_index_or board.wires.items c.in_link.result wire
    → slice_get board.wires.items (link_to (layout_of board.rest.plan) board.wires.items s.number c.args.port c.args.place) ≡ Some wire in
    subst Found c.requires.of
    (λ found. stands_there wires link wire low ∙ ap Some (ap (λ (n : ℕ). slice_index_or wires n wire) (sym is) ∙ sym found))
    c.index.ensures
