use Rattle.std.proofs.Common.{rules, ◌≡◌, ℕ, ◌<◌, cond, true, false, Option, slice_get, Some, ap, sym, ◌∙◌, subst}
use Rattle.std.proofs.Math.Seq.{map-set_same}
use Rattle.flow_link.specs.declared.phase.Move.TheVariants.{Withdraw}
use Rattle.flow_link.specs.Plan.{is_one_taker}
use Rattle.flow_link.specs.Planned.{layout_of}
use Rattle.flow_outlet.specs.End.{id_of}
use Rattle.flow_outlet.specs.Outlet.{stage_at}
use Rattle.flow_spread.specs.Spread.{stage_at as copy_stage}
use Rattle.flow_block.specs.Block.{BlockState}
use Rattle.flow_block.specs.Node.{given_next, source_view}
use Rattle.flow_block_law.specs.NodeLaw.{NodeLaw}
use Rattle.flow_core.specs.MovesFit.{out_count}
use Rattle.flow_exec.specs.Works.{works_of}
use Rattle.flow_moves.specs.Calls.{handed}
use Rattle.flow_task.specs.Known.{OutKnown, out_known, out_due, link_from}
use Rattle.flow_task.specs.Words.{MayWithdraw, moved_out}
use Rattle.flow_task.specs.declared.board.Board.{Board}
use Rattle.flow_task.proofs.Misses.{out_missed, outs_miss_still}
use Rattle.flow_task.proofs.Places.{count_is}
use Rattle.flow_task.proofs.TaskSteps.{OutStep, its_wire, out_here, out_law, out_ins, out_outs, out_knows, moves_out, moves_ready, moves_may, stage_is, stage_kept}
use Rattle.flow_task.proofs.task.BlockTask.withdraw.Goals as goal

pub index_mut-requires : goal.index_mut-requires
index_mut-requires g c =
    let s = c.args.self.now in
    let due = out_due (layout_of s.of.value.rest.plan) s.of.value.wires.items s.number s.node in
    subst (λ (n : ℕ). c.args.place < n) (sym (s.outs.ok.0 ∙ count_is out_known due (out_count s.node) s.outs.items s.outs_know)) c.requires.there

pub withdraw-won-requires-clause-table : goal.withdraw-won-requires-clause-table
withdraw-won-requires-clause-table g c =
    let s = c.args.self.now in
    let plan = s.of.value.rest.plan in
    let wires = s.of.value.wires.items in
    let works = works_of g.W.Runs.meaning (layout_of plan) in
    let end = c.index_mut.result.now in
    let wire = c.wire_out-wire.result.now in
    let here = out_here (layout_of plan) works wires s.number plan.well_formed s.there s.node s.law c.args.place c.requires.there s.outs.items end
    s.outs_know c.index_mut.ensures.value in
    its_wire (layout_of plan) works wires s.number plan.well_formed s.there s.node s.law c.args.place c.requires.there end here wire
    (subst (λ (board : Board _). slice_get board.wires.items (link_from (layout_of board.rest.plan) board.wires.items s.number c.args.place) ≡ Some wire)
    (sym c.requires.of) c.wire_out-wire.ensures)

pub withdraw_exit-requires : goal.withdraw_exit-requires
withdraw_exit-requires g c =
    let s = c.args.self.now in
    let plan = s.of.value.rest.plan in
    let works = works_of g.W.Runs.meaning (layout_of plan) in
    moves_ready (layout_of plan) works s.of.value.wires.items s.number plan.well_formed s.there s.node s.law c.args.place c.requires.there Withdraw
    c.requires.next

pub withdraw-won-requires-clause-may : goal.withdraw-won-requires-clause-may
withdraw-won-requires-clause-may g c =
    let s = c.args.self.now in
    let plan = s.of.value.rest.plan in
    let layout = layout_of plan in
    let wires = s.of.value.wires.items in
    let works = works_of g.W.Runs.meaning layout in
    let place = c.args.place in
    let end = c.index_mut.result.now in
    let here = out_here layout works wires s.number plan.well_formed s.there s.node s.law place c.requires.there s.outs.items end s.outs_know
    c.index_mut.ensures.value in
    let stage = stage_kept place s.node in
    let header : c.header_out-header.result ≡ id_of stage =
    c.header_out-header.ensures ∙ ap id_of (c.stage_out.ensures
    ∙ ap (λ (b : BlockState). cond (is_one_taker b.kind) (stage_at b.exits place) (copy_stage b.copies place)) c.block.ensures) in
    let may = moves_may layout works wires s.number plan.well_formed s.there s.node s.law place c.requires.there Withdraw c.requires.next stage
    (stage_is place s.node) in
    subst (λ (known : OutKnown). MayWithdraw c.header_out-header.result known.view) (sym here)
    (subst (λ (id : Option ℕ). MayWithdraw id (source_view place s.node)) (sym header) may)

pub invariant_of-self : goal.invariant_of-self
invariant_of-self g c =
    let s = c.args.self.now in
    let plan = s.of.value.rest.plan in
    let layout = layout_of plan in
    let wires = s.of.value.wires.items in
    let works = works_of g.W.Runs.meaning layout in
    let place = c.args.place in
    let end = c.index_mut.result.now in
    let given = handed Withdraw (given_next s.node) in
    let seen = moved_out Withdraw given (source_view place s.node) in
    let new = c.withdraw_exit.new.node in
    let won : c.withdraw-won.result ≡ true = search rules in
    let here = out_here layout works wires s.number plan.well_formed s.there s.node s.law place c.requires.there s.outs.items end s.outs_know
    c.index_mut.ensures.value in
    let step : NodeLaw layout works s.number s.node
    → OutStep layout works wires s.number plan.well_formed s.there s.node s.law place c.requires.there seen new =
    moves_out layout works wires s.number plan.well_formed s.there s.node s.law place c.requires.there Withdraw c.requires.next new
    c.withdraw_exit.ensures in
    record {
      there = s.there;
      noted = s.noted;
      knows = s.knows;
      law = out_law layout works wires s.number plan.well_formed s.there s.node s.law place c.requires.there seen new step;
      outs_know = out_outs layout works wires s.number plan.well_formed s.there s.node s.law place c.requires.there seen new step s.outs.items
          c.withdraw-won.new.end s.outs_know
          (c.withdraw-won.ensures.done won ∙ ap (λ (known : OutKnown). out_knows (moved_out Withdraw given known.view) known) here);
      ins_know = s.ins_know
          ∙ out_ins layout works wires s.number plan.well_formed s.there s.node s.law place c.requires.there seen new step;
    }

pub invariant_of-self-else-won : goal.invariant_of-self-else-won
invariant_of-self-else-won g c =
    let s = c.args.self.now in
    let end = c.index_mut.result.now in
    let lost : c.withdraw-won.result ≡ false = search rules in
    record {
      there = s.there;
      noted = s.noted;
      knows = s.knows;
      law = s.law;
      outs_know = map-set_same out_known s.outs.items c.args.place c.withdraw-won.new.end end
          (c.withdraw-won.ensures.not_done lost ∙ ap out_known c.index_mut.ensures.value) ∙ s.outs_know;
      ins_know = s.ins_know;
    }

pub returns-else-won-clause-tried : goal.returns-else-won-clause-tried
returns-else-won-clause-tried g c =
    let s = c.args.self.now in
    let due = out_due (layout_of s.of.value.rest.plan) s.of.value.wires.items s.number s.node in
    let there = subst (λ (n : ℕ). c.args.place < n) (sym (count_is out_known due (out_count s.node) s.outs.items s.outs_know)) c.requires.there in
    let lost : c.withdraw-won.result ≡ false = search rules in
    λ said. out_missed s.outs.items c.args.place c.withdraw-won.new.end there (c.withdraw-won.ensures.missed lost)

pub returns-else-won-clause-others : goal.returns-else-won-clause-others
returns-else-won-clause-others g c =
    let s = c.args.self.now in
    let due = out_due (layout_of s.of.value.rest.plan) s.of.value.wires.items s.number s.node in
    let there = subst (λ (n : ℕ). c.args.place < n) (sym (count_is out_known due (out_count s.node) s.outs.items s.outs_know)) c.requires.there in
    let lost : c.withdraw-won.result ≡ false = search rules in
    λ said. outs_miss_still s.outs.items c.args.place c.withdraw-won.new.end there (c.withdraw-won.ensures.missed lost)
