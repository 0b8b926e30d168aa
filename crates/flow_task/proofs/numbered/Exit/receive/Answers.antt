use Rattle.std.proofs.Common.{◌≡◌, refl, sym, ap, ◌∙◌, subst}
use Rattle.flow_link.specs.Planned.{layout_of}
use Rattle.flow_exit.specs.Exit.{ExitCall, ExitState}
use Rattle.flow_exit.specs.ExitKeeps.{ExitLaw}
use Rattle.flow_task.specs.Exits.{exit_due}
use Rattle.flow_task.specs.Known.{in_known}
use Rattle.flow_task.proofs.ExitSteps.{either_way, received_law, unseen_knows}
use Rattle.flow_task.proofs.numbered.Exit.receive.Goals as goal

pub invariant_of-self : goal.invariant_of-self
invariant_of-self g c =
    let s = c.args.self.now in
    let layout = layout_of s.of.value.rest.plan in
    let wires = s.of.value.wires.items in
    let new = c.receive.new.self in
    record {
      there = s.there;
      leads = s.leads;
      law = either_way c.receive.result c.receive.ensures.done c.receive.ensures.kept
          (λ is. subst (λ (exit : ExitState). ∥ ExitLaw exit ∥₁) (sym is) (received_law layout wires s.link s.leads s.exit s.law))
          (λ same. subst (λ (exit : ExitState). ∥ ExitLaw exit ∥₁) (sym same) s.law);
      knows = either_way {R = in_known s.end ≡ exit_due layout wires s.link new} c.receive.result c.receive.ensures.done c.receive.ensures.kept
          (λ is.
          unseen_knows layout wires s.link s.leads s.exit s.law ExitCall.receive refl (in_known s.end) s.knows
          ∙ ap (exit_due layout wires s.link) (sym is))
          (λ same. s.knows ∙ ap (exit_due layout wires s.link) (sym same));
      numbered = s.numbered;
    }
