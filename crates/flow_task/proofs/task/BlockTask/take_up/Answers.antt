use Rattle.std.proofs.Common.{rules, ◌≡◌, ℕ, ◌<◌, length, map, true, false, Option, Some, None, slice_get, refl, ap, sym, ◌∙◌, subst}
use Rattle.std.proofs.Math.Seq.{map-set_same}
use Rattle.std.specs.Vec.{with_item}
use Rattle.flow_link.specs.Facts.{facts_in}
use Rattle.flow_link.specs.Planned.{layout_of}
use Rattle.flow_intake.specs.Port.{stage_at}
use Rattle.flow_block.specs.Block.{port_at}
use Rattle.flow_block.specs.Node.{in_view, hand_at}
use Rattle.flow_block_law.specs.NodeLaw.{NodeLaw}
use Rattle.flow_core.specs.MovesFit.{in_count}
use Rattle.flow_exec.specs.Works.{works_of}
use Rattle.flow_task.specs.Known.{InKnown, in_known, in_due, port_due, link_to}
use Rattle.flow_task.specs.Words.{MayMoveIn, moved_in, header_of, is_late}
use Rattle.flow_task.specs.declared.board.Board.{Board}
use Rattle.flow_task.proofs.Misses.{in_missed, ins_miss_still}
use Rattle.flow_task.proofs.Places.{count_is}
use Rattle.flow_task.proofs.Reasons.{done_anyway, late_is_second, late_keeps, reason_may, reason_moved}
use Rattle.flow_task.proofs.TaskSteps.{InStep, its_wire_in, port_here, in_here, in_law, in_outs, in_ins, in_knows, moves_in, enters_may, enters_ready}
use Rattle.flow_task.proofs.WordsFit.{late_alike}
use Rattle.flow_task.proofs.task.BlockTask.take_up.Goals as goal

pub answer_at-requires : goal.answer_at-requires
answer_at-requires g c =
    let s = c.args.self.now in
    let plan = s.of.value.rest.plan in
    let layout = layout_of plan in
    let wires = s.of.value.wires.items in
    let works = works_of g.W.Runs.meaning layout in
    let port = c.args.port in
    let place = c.args.place in
    let next = c.args.next in
    enters_ready layout works wires s.number plan.well_formed s.there s.node s.law port place c.requires.port c.requires.there next c.requires.next None
    (λ is. sym (late_keeps c.args.next (stage_at c.args.place (port_at c.args.port c.args.self.now.node.block)) c.requires.late) ∙ is)

pub index_mut-requires : goal.index_mut-requires
index_mut-requires g c =
    let s = c.args.self.now in
    let due = port_due (layout_of s.of.value.rest.plan) s.of.value.wires.items s.number s.node in
    subst (λ (n : ℕ). c.args.port < n)
    (sym (s.ins.ok.0 ∙ count_is (λ port. map in_known port.items) due (length s.node.block.ports) s.ins.items s.ins_know)) c.requires.port

pub index_mut-requires-2 : goal.index_mut-requires-2
index_mut-requires-2 g c =
    let s = c.args.self.now in
    let plan = s.of.value.rest.plan in
    let layout = layout_of plan in
    let wires = s.of.value.wires.items in
    let works = works_of g.W.Runs.meaning layout in
    let row = c.index_mut.result.now in
    let know = port_here layout works wires s.number plan.well_formed s.there s.node s.law c.args.port c.args.place c.requires.port c.requires.there
    (λ port. port.items) s.ins.items s.ins_know row c.index_mut.ensures.value in
    subst (λ (n : ℕ). c.args.place < n)
    (sym (row.ok.0 ∙ count_is in_known (in_due layout wires s.number c.args.port s.node) (in_count c.args.port s.node) row.items know))
    c.requires.there

pub take_up-won-requires-clause-table : goal.take_up-won-requires-clause-table
take_up-won-requires-clause-table g c =
    let s = c.args.self.now in
    let plan = s.of.value.rest.plan in
    let layout = layout_of plan in
    let wires = s.of.value.wires.items in
    let works = works_of g.W.Runs.meaning layout in
    let port = c.args.port in
    let place = c.args.place in
    let wire = c.wire_in-wire.result.now in
    let row = c.index_mut.result.now in
    let end = c.index_mut-2.result.now in
    let here = in_here layout works wires s.number plan.well_formed s.there s.node s.law port place c.requires.port c.requires.there
    (λ port. port.items) s.ins.items s.ins_know row end c.index_mut.ensures.value c.index_mut-2.ensures.value in
    its_wire_in layout works wires s.number plan.well_formed s.there s.node s.law port place c.requires.port c.requires.there end here wire
    (subst (λ (board : Board _). slice_get board.wires.items (link_to (layout_of board.rest.plan) board.wires.items s.number port place) ≡ Some wire)
    (sym c.requires.of) c.wire_in-wire.ensures)

pub take_up-won-requires-clause-late : goal.take_up-won-requires-clause-late
take_up-won-requires-clause-late g c =
    let s = c.args.self.now in
    let plan = s.of.value.rest.plan in
    let layout = layout_of plan in
    let wires = s.of.value.wires.items in
    let works = works_of g.W.Runs.meaning layout in
    let port = c.args.port in
    let place = c.args.place in
    let next = c.args.next in
    let row = c.index_mut.result.now in
    let end = c.index_mut-2.result.now in
    let here = in_here layout works wires s.number plan.well_formed s.there s.node s.law port place c.requires.port c.requires.there
    (λ port. port.items) s.ins.items s.ins_know row end c.index_mut.ensures.value c.index_mut-2.ensures.value in
    let stage = stage_at place (port_at port s.node.block) in
    ap (λ (known : InKnown). is_late next known.view.stage) here ∙ late_alike next stage (hand_at port place s.node) ∙ c.requires.late

pub take_up-won-requires-clause-may : goal.take_up-won-requires-clause-may
take_up-won-requires-clause-may g c =
    let s = c.args.self.now in
    let plan = s.of.value.rest.plan in
    let layout = layout_of plan in
    let wires = s.of.value.wires.items in
    let works = works_of g.W.Runs.meaning layout in
    let port = c.args.port in
    let place = c.args.place in
    let next = c.args.next in
    let row = c.index_mut.result.now in
    let end = c.index_mut-2.result.now in
    let here = in_here layout works wires s.number plan.well_formed s.there s.node s.law port place c.requires.port c.requires.there
    (λ port. port.items) s.ins.items s.ins_know row end c.index_mut.ensures.value c.index_mut-2.ensures.value in
    let stage = stage_at place (port_at port s.node.block) in
    let refusing = (port_at port s.node.block).refusing in
    let why = c.reason_at-why.result in
    let facts = facts_in layout (link_to layout wires s.number port place) in
    let view = in_view port place s.node in
    let header : c.header_in-header.result ≡ header_of stage = c.header_in-header.ensures ∙ ap header_of c.stage_in.ensures in
    let may = enters_may layout works wires s.number plan.well_formed s.there s.node s.law port place c.requires.port c.requires.there next c.requires.next None stage (hand_at port place s.node) refl in
    subst (λ (known : InKnown). MayMoveIn next c.header_in-header.result (Some why) known.facts known.view) (sym here)
    (subst (λ (id : Option ℕ). MayMoveIn next id (Some why) facts view) (sym header)
    (reason_may refusing why (header_of stage) facts view next may))

pub invariant_of-self : goal.invariant_of-self
invariant_of-self g c =
    let s = c.args.self.now in
    let plan = s.of.value.rest.plan in
    let layout = layout_of plan in
    let wires = s.of.value.wires.items in
    let works = works_of g.W.Runs.meaning layout in
    let port = c.args.port in
    let place = c.args.place in
    let next = c.args.next in
    let row = c.index_mut.result.now in
    let end = c.index_mut-2.result.now in
    let here = in_here layout works wires s.number plan.well_formed s.there s.node s.law port place c.requires.port c.requires.there
    (λ port. port.items) s.ins.items s.ins_know row end c.index_mut.ensures.value c.index_mut-2.ensures.value in
    let stage = stage_at place (port_at port s.node.block) in
    let refusing = (port_at port s.node.block).refusing in
    let why = c.reason_at-why.result in
    let facts = facts_in layout (link_to layout wires s.number port place) in
    let view = in_view port place s.node in
    let may = enters_may layout works wires s.number plan.well_formed s.there s.node s.law port place c.requires.port c.requires.there next c.requires.next None stage (hand_at port place s.node) refl in
    let seen = moved_in next refusing None view in
    let same = reason_moved refusing why (header_of stage) facts view next may c.reason_at-why.ensures None in
    let new = c.answer_at.new.node in
    let changed = c.take_up-won.new.end in
    let won : c.take_up-won.result ≡ true = search rules in
    let step : NodeLaw layout works s.number s.node
    → InStep layout works wires s.number plan.well_formed s.there s.node s.law port place c.requires.port c.requires.there seen new =
    moves_in layout works wires s.number plan.well_formed s.there s.node s.law port place c.requires.port c.requires.there next c.requires.next None
    (λ is. sym (late_keeps c.args.next (stage_at c.args.place (port_at c.args.port c.args.self.now.node.block)) c.requires.late) ∙ is) new
    (done_anyway c.answer_at.result next c.answer_at.ensures.done c.answer_at.ensures.memory (late_is_second next stage c.requires.late)) in
    record {
      there = s.there;
      noted = s.noted;
      knows = s.knows;
      law = in_law layout works wires s.number plan.well_formed s.there s.node s.law port place c.requires.port c.requires.there seen new step;
      outs_know = s.outs_know
          ∙ in_outs layout works wires s.number plan.well_formed s.there s.node s.law port place c.requires.port c.requires.there seen new step;
      ins_know = in_ins layout works wires s.number plan.well_formed s.there s.node s.law port place c.requires.port c.requires.there seen new step
          (λ port. port.items) s.ins.items s.ins_know row (with_item row place changed) changed c.index_mut.ensures.value refl
          (c.take_up-won.ensures.done won ∙ ap (λ (known : InKnown). in_knows (moved_in next (Some why) None known.view) known) here
          ∙ ap (λ view. in_knows view (in_due layout wires s.number port s.node place)) same);
    }

pub invariant_of-self-else-won : goal.invariant_of-self-else-won
invariant_of-self-else-won g c =
    let s = c.args.self.now in
    let row = c.index_mut.result.now in
    let end = c.index_mut-2.result.now in
    let changed = c.take_up-won.new.end in
    let lost : c.take_up-won.result ≡ false = search rules in
    record {
      there = s.there;
      noted = s.noted;
      knows = s.knows;
      law = s.law;
      outs_know = s.outs_know;
      ins_know = map-set_same (λ port. map in_known port.items) s.ins.items c.args.port (with_item row c.args.place changed) row
          (map-set_same in_known row.items c.args.place changed end
          (c.take_up-won.ensures.not_done lost ∙ ap in_known c.index_mut-2.ensures.value)
          ∙ ap (λ port. map in_known port.items) c.index_mut.ensures.value) ∙ s.ins_know;
    }

pub returns-else-won-clause-tried : goal.returns-else-won-clause-tried
returns-else-won-clause-tried g c =
    let s = c.args.self.now in
    let plan = s.of.value.rest.plan in
    let layout = layout_of plan in
    let wires = s.of.value.wires.items in
    let works = works_of g.W.Runs.meaning layout in
    let port = c.args.port in
    let place = c.args.place in
    let row = c.index_mut.result.now in
    let changed = c.take_up-won.new.end in
    let know = port_here layout works wires s.number plan.well_formed s.there s.node s.law port place c.requires.port c.requires.there
    (λ port. port.items) s.ins.items s.ins_know row c.index_mut.ensures.value in
    let ports = subst (λ (n : ℕ). port < n) (sym (count_is (λ port. map in_known port.items)
    (port_due layout wires s.number s.node) (length s.node.block.ports) s.ins.items s.ins_know)) c.requires.port in
    let there = subst (λ (n : ℕ). place < n)
    (sym (count_is in_known (in_due layout wires s.number port s.node) (in_count port s.node) row.items know)) c.requires.there in
    let lost : c.take_up-won.result ≡ false = search rules in
    λ said. in_missed s.ins.items port place row (with_item row place changed) changed c.index_mut.ensures.value refl ports there
    (c.take_up-won.ensures.missed lost)

pub returns-else-won-clause-others : goal.returns-else-won-clause-others
returns-else-won-clause-others g c =
    let s = c.args.self.now in
    let plan = s.of.value.rest.plan in
    let layout = layout_of plan in
    let wires = s.of.value.wires.items in
    let works = works_of g.W.Runs.meaning layout in
    let port = c.args.port in
    let place = c.args.place in
    let row = c.index_mut.result.now in
    let changed = c.take_up-won.new.end in
    let know = port_here layout works wires s.number plan.well_formed s.there s.node s.law port place c.requires.port c.requires.there
    (λ port. port.items) s.ins.items s.ins_know row c.index_mut.ensures.value in
    let ports = subst (λ (n : ℕ). port < n) (sym (count_is (λ port. map in_known port.items)
    (port_due layout wires s.number s.node) (length s.node.block.ports) s.ins.items s.ins_know)) c.requires.port in
    let there = subst (λ (n : ℕ). place < n)
    (sym (count_is in_known (in_due layout wires s.number port s.node) (in_count port s.node) row.items know)) c.requires.there in
    let lost : c.take_up-won.result ≡ false = search rules in
    λ said. ins_miss_still s.ins.items port place row (with_item row place changed) changed c.index_mut.ensures.value refl ports there
    (c.take_up-won.ensures.missed lost)
