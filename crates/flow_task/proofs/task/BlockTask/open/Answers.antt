use Rattle.std.proofs.Common.{◌≡◌, ℕ, ◌<◌, length, map, Option, Some, None, slice_get, refl, ap, sym, ◌∙◌, subst}
use Rattle.std.proofs.lemmas.Grind.{merely}
use Rattle.std.specs.Vec.{with_item}
use Rattle.flow_link.specs.declared.phase.Move.TheVariants.{Open}
use Rattle.flow_link.specs.Facts.{facts_in}
use Rattle.flow_link.specs.Planned.{layout_of}
use Rattle.flow_intake.specs.Port.{stage_at}
use Rattle.flow_block.specs.Block.{port_at}
use Rattle.flow_block.specs.Node.{in_view, hand_at}
use Rattle.flow_block_law.specs.NodeLaw.{NodeLaw}
use Rattle.flow_core.specs.MovesFit.{in_count}
use Rattle.flow_exec.specs.Works.{works_of}
use Rattle.flow_task.specs.Known.{InKnown, in_known, in_due, port_due, link_to}
use Rattle.flow_task.specs.Words.{MayMoveIn, moved_in, opened_so, header_of}
use Rattle.flow_task.specs.declared.board.Board.{Board}
use Rattle.flow_task.proofs.Places.{count_is}
use Rattle.flow_task.proofs.TaskSteps.{InStep, its_wire_in, port_here, in_here, in_law, in_outs, in_ins, in_knows, moves_in, enters_may}
use Rattle.flow_task.proofs.task.BlockTask.open.Goals as goal

pub index_mut-requires : goal.index_mut-requires
index_mut-requires g c =
    let s = c.args.self.now in
    let due = port_due (layout_of s.of.value.rest.plan) s.of.value.wires.items s.number s.node in
    subst (λ (n : ℕ). c.args.port < n)
    (sym (s.ins.ok.0 ∙ count_is (λ port. map in_known port.items) due (length s.node.block.ports) s.ins.items s.ins_know)) c.requires.port

pub index_mut-requires-2 : goal.index_mut-requires-2
index_mut-requires-2 g c =
    let s = c.args.self.now in
    let plan = s.of.value.rest.plan in
    let layout = layout_of plan in
    let wires = s.of.value.wires.items in
    let works = works_of g.W.Runs.meaning layout in
    let row = c.index_mut.result.now in
    let know = port_here layout works wires s.number plan.well_formed s.there s.node s.law c.args.port c.args.place c.requires.port c.requires.there
    (λ port. port.items) s.ins.items s.ins_know row c.index_mut.ensures.value in
    subst (λ (n : ℕ). c.args.place < n)
    (sym (row.ok.0 ∙ count_is in_known (in_due layout wires s.number c.args.port s.node) (in_count c.args.port s.node) row.items know))
    c.requires.there

pub open-parcel-requires-clause-table : goal.open-parcel-requires-clause-table
open-parcel-requires-clause-table g c =
    let s = c.args.self.now in
    let plan = s.of.value.rest.plan in
    let layout = layout_of plan in
    let wires = s.of.value.wires.items in
    let works = works_of g.W.Runs.meaning layout in
    let port = c.args.port in
    let place = c.args.place in
    let row = c.index_mut.result.now in
    let end = c.index_mut-2.result.now in
    let wire = c.wire_in-wire.result.now in
    let here = in_here layout works wires s.number plan.well_formed s.there s.node s.law port place c.requires.port c.requires.there
    (λ port. port.items) s.ins.items s.ins_know row end c.index_mut.ensures.value c.index_mut-2.ensures.value in
    its_wire_in layout works wires s.number plan.well_formed s.there s.node s.law port place c.requires.port c.requires.there end here wire
    (subst (λ (board : Board _). slice_get board.wires.items (link_to (layout_of board.rest.plan) board.wires.items s.number port place) ≡ Some wire)
    (sym c.requires.of) c.wire_in-wire.ensures)

pub open-parcel-requires-clause-may : goal.open-parcel-requires-clause-may
open-parcel-requires-clause-may g c =
    let s = c.args.self.now in
    let plan = s.of.value.rest.plan in
    let layout = layout_of plan in
    let wires = s.of.value.wires.items in
    let works = works_of g.W.Runs.meaning layout in
    let port = c.args.port in
    let place = c.args.place in
    let row = c.index_mut.result.now in
    let end = c.index_mut-2.result.now in
    let here = in_here layout works wires s.number plan.well_formed s.there s.node s.law port place c.requires.port c.requires.there
    (λ port. port.items) s.ins.items s.ins_know row end c.index_mut.ensures.value c.index_mut-2.ensures.value in
    let stage = stage_at place (port_at port s.node.block) in
    let header : c.header_in-header.result ≡ header_of stage = c.header_in-header.ensures ∙ ap header_of c.stage_in.ensures in
    let may = enters_may layout works wires s.number plan.well_formed s.there s.node s.law port place c.requires.port c.requires.there Open c.requires.next None stage (hand_at port place s.node) refl in
    subst (λ (known : InKnown). MayMoveIn Open c.header_in-header.result None known.facts known.view) (sym here)
    (subst (λ (id : Option ℕ). MayMoveIn Open id None (facts_in layout (link_to layout wires s.number port place)) (in_view port place s.node)) (sym header) may)

pub invariant_of-self : goal.invariant_of-self
invariant_of-self g c =
    let s = c.args.self.now in
    let plan = s.of.value.rest.plan in
    let layout = layout_of plan in
    let wires = s.of.value.wires.items in
    let works = works_of g.W.Runs.meaning layout in
    let port = c.args.port in
    let place = c.args.place in
    let row = c.index_mut.result.now in
    let end = c.index_mut-2.result.now in
    let here = in_here layout works wires s.number plan.well_formed s.there s.node s.law port place c.requires.port c.requires.there
    (λ port. port.items) s.ins.items s.ins_know row end c.index_mut.ensures.value c.index_mut-2.ensures.value in
    let parcel = c.open-parcel.result in
    let refusing = (port_at port s.node.block).refusing in
    let seen = moved_in Open refusing (Some parcel) (in_view port place s.node) in
    let new = c.open.new.self in
    let changed = c.open-parcel.new.end in
    let step : NodeLaw layout works s.number s.node
    → InStep layout works wires s.number plan.well_formed s.there s.node s.law port place c.requires.port c.requires.there seen new =
    moves_in layout works wires s.number plan.well_formed s.there s.node s.law port place c.requires.port c.requires.there Open c.requires.next (Some parcel) (λ is. refl) new
    (λ result. c.open.ensures) in
    record {
      there = s.there;
      noted = s.noted;
      knows = s.knows;
      law = in_law layout works wires s.number plan.well_formed s.there s.node s.law port place c.requires.port c.requires.there seen new step;
      outs_know = s.outs_know
          ∙ in_outs layout works wires s.number plan.well_formed s.there s.node s.law port place c.requires.port c.requires.there seen new step;
      ins_know = in_ins layout works wires s.number plan.well_formed s.there s.node s.law port place c.requires.port c.requires.there seen new step
          (λ port. port.items) s.ins.items s.ins_know row (with_item row place changed) changed c.index_mut.ensures.value refl
          (c.open-parcel.ensures ∙ ap (λ (known : InKnown). in_knows (opened_so (Some parcel) known.view) known) here);
    }

pub returns-clause-opened : goal.returns-clause-opened
returns-clause-opened g c = merely (Some c.open-parcel.result, λ result. c.open.ensures)
