use Rattle.std.proofs.Common.{◌≡◌, ℕ, ◌<◌, slice_index_or, vec_len, Option, ap, sym, ◌∙◌, subst, arith}
use Rattle.flow_value.specs.declared.value.Value.{Value}
use Rattle.flow_link.specs.Facts.{facts_in}
use Rattle.flow_link.specs.Planned.{layout_of}
use Rattle.flow_outlet.specs.End.{id_of}
use Rattle.flow_input.specs.Input.{InputState, input_view}
use Rattle.flow_input.specs.InputKeeps.{InputLaw}
use Rattle.flow_moves.proofs.PlansRun.{plan_runs}
use Rattle.flow_task.specs.Inputs.{input_due}
use Rattle.flow_task.specs.Known.{OutKnown, out_known}
use Rattle.flow_task.specs.Words.{MayMoveOut, moved_out}
use Rattle.flow_task.specs.declared.board.Board.{Board}
use Rattle.flow_task.proofs.InputSteps.{move_law, move_knows, move_may, move_ready}
use Rattle.flow_task.proofs.InputTells.{ready_is_own}
use Rattle.flow_task.proofs.Places.{found_low, found_there}
use Rattle.flow_task.proofs.TaskSteps.{out_knows}
use Rattle.flow_task.proofs.input_task.InputTask.go.Goals as goal

pub index-wire-requires : goal.index-wire-requires
index-wire-requires g c =
    let s = c.args.self.now in
    let wires = s.of.value.wires.items in
    let low = found_low wires s.link s.out.table (sym (ap (λ (known : OutKnown). known.table) s.knows)) in
    subst (λ (board : Board _). s.link < vec_len board.wires) c.requires.of (omega (arith, low, s.of.value.wires.ok.0))

pub move_input-requires : goal.move_input-requires
move_input-requires g c =
    let s = c.args.self.now in
    let plan = s.of.value.rest.plan in
    let layout = layout_of plan in
    let wires = s.of.value.wires.items in
    let run = plan_runs plan in
    move_ready layout run wires s.link s.there s.begins s.input s.law c.args.next c.requires.next c.requires.id

pub write_source-requires-clause-table : goal.write_source-requires-clause-table
write_source-requires-clause-table g c =
    let s = c.args.self.now in
    let wires = s.of.value.wires.items in
    let wire = c.index-wire.result.now in
    let is = subst (λ (board : Board _). wire ≡ slice_index_or board.wires.items s.link wire) (sym c.requires.of) c.index-wire.ensures in
    sym (is ∙ found_there wires s.link s.out.table wire (sym (ap (λ (known : OutKnown). known.table) s.knows)))

pub write_source-requires-clause-own : goal.write_source-requires-clause-own
write_source-requires-clause-own g c =
    let s = c.args.self.now in
    let plan = s.of.value.rest.plan in
    let layout = layout_of plan in
    let wires = s.of.value.wires.items in
    let run = plan_runs plan in
    ready_is_own c.args.next s.input
    (move_ready layout run wires s.link s.there s.begins s.input s.law c.args.next c.requires.next c.requires.id)

pub write_source-requires-clause-may : goal.write_source-requires-clause-may
write_source-requires-clause-may g c =
    let s = c.args.self.now in
    let plan = s.of.value.rest.plan in
    let layout = layout_of plan in
    let wires = s.of.value.wires.items in
    let run = plan_runs plan in
    let next = c.args.next in
    let header : c.header_out-header.result ≡ id_of s.input.stage = c.header_out-header.ensures ∙ ap id_of c.stage.ensures in
    let facts = facts_in layout s.link in
    let view = input_view s.input in
    let may = move_may layout run wires s.link s.there s.begins s.input s.law next c.requires.next in
    subst (λ (known : OutKnown). MayMoveOut next c.header_out-header.result c.in_ok-given.given known.facts known.view) (sym s.knows)
    (subst (λ (id : Option ℕ). MayMoveOut next id c.in_ok-given.given facts view) (sym header)
    (subst (λ (given : Option Value). MayMoveOut next (id_of s.input.stage) given facts view) (sym c.in_ok-given.ensures.given) may))

pub invariant_of-self-2 : goal.invariant_of-self-2
invariant_of-self-2 g c =
    let s = c.args.self.now in
    let plan = s.of.value.rest.plan in
    let layout = layout_of plan in
    let wires = s.of.value.wires.items in
    let run = plan_runs plan in
    let next = c.args.next in
    let is = c.in_ok-given.ensures.done in
    let view = input_view s.input in
    let due = input_due layout wires s.link s.input in
    record {
      there = s.there;
      begins = s.begins;
      law = subst (λ (input : InputState). ∥ InputLaw input ∥₁) (sym is)
          (move_law layout run wires s.link s.there s.begins s.input s.law next c.requires.next);
      knows = move_knows layout run wires s.link s.there s.begins s.input s.law next c.requires.next (out_known c.write_source.new.end)
          (c.write_source.ensures
          ∙ ap (λ (known : OutKnown). out_knows (moved_out next c.in_ok-given.given known.view) known) s.knows
          ∙ ap (λ (value : Option Value). out_knows (moved_out next value view) due) c.in_ok-given.ensures.given)
          ∙ ap (input_due layout wires s.link) (sym is);
    }
