use Rattle.std.proofs.Common.{◌≡◌, ◌<◌, slice_index_or, vec_len, ap, sym, ◌∙◌, subst, arith}
use Rattle.flow_link.specs.Looks.{looking_in}
use Rattle.flow_link.specs.Planned.{layout_of}
use Rattle.flow_exit.specs.Exit.{ExitState}
use Rattle.flow_exit.specs.ExitKeeps.{ExitLaw}
use Rattle.flow_task.specs.Exits.{exit_due}
use Rattle.flow_task.specs.Known.{InKnown, in_known}
use Rattle.flow_task.specs.declared.board.Board.{Board}
use Rattle.flow_task.proofs.ExitSteps.{look_knows, look_law}
use Rattle.flow_task.proofs.Places.{found_low, found_there}
use Rattle.flow_task.proofs.TaskSteps.{in_knows}
use Rattle.flow_task.proofs.numbered.Exit.look.Goals as goal

pub index-wire-requires : goal.index-wire-requires
index-wire-requires g c =
    let s = c.args.self.now in
    let wires = s.of.value.wires.items in
    let low = found_low wires s.link s.end.table (sym (ap (λ (known : InKnown). known.table) s.knows)) in
    subst (λ (board : Board _). s.link < vec_len board.wires) c.requires.of (omega (arith, low, s.of.value.wires.ok.0))

pub look-phase-requires : goal.look-phase-requires
look-phase-requires g c =
    let s = c.args.self.now in
    let wires = s.of.value.wires.items in
    let wire = c.index-wire.result.now in
    let is = subst (λ (board : Board _). wire ≡ slice_index_or board.wires.items s.link wire) (sym c.requires.of) c.index-wire.ensures in
    sym (is ∙ found_there wires s.link s.end.table wire (sym (ap (λ (known : InKnown). known.table) s.knows)))

pub invariant_of-self : goal.invariant_of-self
invariant_of-self g c =
    let s = c.args.self.now in
    let layout = layout_of s.of.value.rest.plan in
    let wires = s.of.value.wires.items in
    let phase = c.look-phase.result in
    let is = c.look.ensures in
    record {
      there = s.there;
      leads = s.leads;
      law = subst (λ (exit : ExitState). ∥ ExitLaw exit ∥₁) (sym is) (look_law layout wires s.link s.leads s.exit s.law phase);
      knows = look_knows layout wires s.link s.leads s.exit s.law phase (in_known c.look-phase.new.self)
          (ap in_known c.look-phase.ensures.end ∙ ap (λ (known : InKnown). in_knows (looking_in phase known.view) known) s.knows)
          ∙ ap (exit_due layout wires s.link) (sym is);
      numbered = s.numbered;
    }
