use Rattle.std.proofs.Common.{◌≡◌, ℕ, ◌<◌, slice_get, Some, ap, sym, ◌∙◌, subst}
use Rattle.flow_link.specs.Looks.{looking_out}
use Rattle.flow_link.specs.Planned.{layout_of}
use Rattle.flow_block.specs.Node.{source_view}
use Rattle.flow_block_law.specs.NodeLaw.{NodeLaw}
use Rattle.flow_core.specs.MovesFit.{out_count}
use Rattle.flow_exec.specs.Works.{works_of}
use Rattle.flow_task.specs.Known.{OutKnown, out_known, out_due, link_from}
use Rattle.flow_task.specs.declared.board.Board.{Board}
use Rattle.flow_task.proofs.Places.{count_is}
use Rattle.flow_task.proofs.TaskSteps.{OutStep, its_wire, out_here, out_law, out_ins, out_outs, out_knows, looks_out}
use Rattle.flow_task.proofs.task.BlockTask.look_out.Goals as goal

pub index_mut-requires : goal.index_mut-requires
index_mut-requires g c =
    let s = c.args.self.now in
    let due = out_due (layout_of s.of.value.rest.plan) s.of.value.wires.items s.number s.node in
    subst (λ (n : ℕ). c.args.place < n) (sym (s.outs.ok.0 ∙ count_is out_known due (out_count s.node) s.outs.items s.outs_know)) c.requires.there

pub look-phase-requires : goal.look-phase-requires
look-phase-requires g c =
    let s = c.args.self.now in
    let plan = s.of.value.rest.plan in
    let wires = s.of.value.wires.items in
    let works = works_of g.W.Runs.meaning (layout_of plan) in
    let end = c.index_mut.result.now in
    let wire = c.wire_out-wire.result.now in
    let here = out_here (layout_of plan) works wires s.number plan.well_formed s.there s.node s.law c.args.place c.requires.there s.outs.items end
    s.outs_know c.index_mut.ensures.value in
    its_wire (layout_of plan) works wires s.number plan.well_formed s.there s.node s.law c.args.place c.requires.there end here wire
    (subst (λ (board : Board _). slice_get board.wires.items (link_from (layout_of board.rest.plan) board.wires.items s.number c.args.place) ≡ Some wire)
    (sym c.requires.of) c.wire_out-wire.ensures)

pub invariant_of-self : goal.invariant_of-self
invariant_of-self g c =
    let s = c.args.self.now in
    let plan = s.of.value.rest.plan in
    let layout = layout_of plan in
    let wires = s.of.value.wires.items in
    let works = works_of g.W.Runs.meaning layout in
    let place = c.args.place in
    let end = c.index_mut.result.now in
    let phase = c.look-phase.result in
    let seen = looking_out phase (source_view place s.node) in
    let new = c.look_exit.new.node in
    let here = out_here layout works wires s.number plan.well_formed s.there s.node s.law place c.requires.there s.outs.items end s.outs_know
    c.index_mut.ensures.value in
    let step : NodeLaw layout works s.number s.node
    → OutStep layout works wires s.number plan.well_formed s.there s.node s.law place c.requires.there seen new =
    looks_out layout works wires s.number plan.well_formed s.there s.node s.law place c.requires.there end.side.facts phase end.side.view
    c.look-phase.ensures.found (ap (λ (known : OutKnown). known.facts) here) (ap (λ (known : OutKnown). known.view) here) new c.look_exit.ensures in
    record {
      there = s.there;
      noted = s.noted;
      knows = s.knows;
      law = out_law layout works wires s.number plan.well_formed s.there s.node s.law place c.requires.there seen new step;
      outs_know = out_outs layout works wires s.number plan.well_formed s.there s.node s.law place c.requires.there seen new step s.outs.items
          c.look-phase.new.self s.outs_know
          (ap out_known c.look-phase.ensures.end ∙ ap (λ (known : OutKnown). out_knows (looking_out phase known.view) known) here);
      ins_know = s.ins_know
          ∙ out_ins layout works wires s.number plan.well_formed s.there s.node s.law place c.requires.there seen new step;
    }
