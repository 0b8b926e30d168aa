use Rattle.std.proofs.Common.{◌≡◌, ◌<◌, slice_index_or, vec_len, ap, sym, ◌∙◌, subst, arith}
use Rattle.flow_link.specs.Looks.{looking_out}
use Rattle.flow_link.specs.Planned.{layout_of}
use Rattle.flow_input.specs.Input.{InputState}
use Rattle.flow_input.specs.InputKeeps.{InputLaw}
use Rattle.flow_moves.proofs.PlansRun.{plan_runs}
use Rattle.flow_task.specs.Inputs.{input_due}
use Rattle.flow_task.specs.Known.{OutKnown, out_known}
use Rattle.flow_task.specs.declared.board.Board.{Board}
use Rattle.flow_task.proofs.InputSteps.{look_law, look_knows}
use Rattle.flow_task.proofs.Places.{found_low, found_there}
use Rattle.flow_task.proofs.TaskSteps.{out_knows}
use Rattle.flow_task.proofs.input_task.InputTask.look.Goals as goal

pub index-wire-requires : goal.index-wire-requires
index-wire-requires g c =
    let s = c.args.self.now in
    let wires = s.of.value.wires.items in
    let low = found_low wires s.link s.out.table (sym (ap (λ (known : OutKnown). known.table) s.knows)) in
    subst (λ (board : Board _). s.link < vec_len board.wires) c.requires.of (omega (arith, low, s.of.value.wires.ok.0))

pub look-phase-requires : goal.look-phase-requires
look-phase-requires g c =
    let s = c.args.self.now in
    let wires = s.of.value.wires.items in
    let wire = c.index-wire.result.now in
    let is = subst (λ (board : Board _). wire ≡ slice_index_or board.wires.items s.link wire) (sym c.requires.of) c.index-wire.ensures in
    sym (is ∙ found_there wires s.link s.out.table wire (sym (ap (λ (known : OutKnown). known.table) s.knows)))

pub invariant_of-self : goal.invariant_of-self
invariant_of-self g c =
    let s = c.args.self.now in
    let plan = s.of.value.rest.plan in
    let layout = layout_of plan in
    let wires = s.of.value.wires.items in
    let run = plan_runs plan in
    let phase = c.look-phase.result in
    let new = c.look.new.self in
    let is = c.look.ensures in
    record {
      there = s.there;
      begins = s.begins;
      law = subst (λ (input : InputState). ∥ InputLaw input ∥₁) (sym is) (look_law layout run wires s.link s.there s.begins s.input s.law phase);
      knows = look_knows layout run wires s.link s.there s.begins s.input s.law phase (out_known c.look-phase.new.self)
          (ap out_known c.look-phase.ensures.end ∙ ap (λ (known : OutKnown). out_knows (looking_out phase known.view) known) s.knows)
          ∙ ap (input_due layout wires s.link) (sym is);
    }
