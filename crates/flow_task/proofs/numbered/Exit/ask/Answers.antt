use Rattle.std.proofs.Common.{true, false, refl, sym, ◌∙◌, ap, subst}
use Rattle.flow_link.specs.Planned.{layout_of}
use Rattle.flow_exit.specs.Exit.{ExitCall, ExitState}
use Rattle.flow_exit.specs.ExitKeeps.{ExitLaw}
use Rattle.flow_task.specs.Exits.{exit_due}
use Rattle.flow_task.specs.Known.{in_known}
use Rattle.flow_task.proofs.ExitSteps.{asked_law, unseen_knows}
use Rattle.flow_task.proofs.numbered.Exit.ask.Goals as goal

pub invariant_of-self : goal.invariant_of-self
invariant_of-self g c =
    let s = c.args.self.now in
    let layout = layout_of s.of.value.rest.plan in
    let wires = s.of.value.wires.items in
    let is = c.ask.ensures in
    record {
      there = s.there;
      leads = s.leads;
      law = subst (λ (exit : ExitState). ∥ ExitLaw exit ∥₁) (sym is) (asked_law layout wires s.link s.leads s.exit s.law true);
      knows = unseen_knows layout wires s.link s.leads s.exit s.law (ExitCall.ask true) refl (in_known s.end) s.knows
          ∙ ap (exit_due layout wires s.link) (sym is);
      numbered = s.numbered;
    }

pub invariant_of-self-else-waits : goal.invariant_of-self-else-waits
invariant_of-self-else-waits g c =
    let s = c.args.self.now in
    let layout = layout_of s.of.value.rest.plan in
    let wires = s.of.value.wires.items in
    let is = c.ask_no_more.ensures in
    record {
      there = s.there;
      leads = s.leads;
      law = subst (λ (exit : ExitState). ∥ ExitLaw exit ∥₁) (sym is) (asked_law layout wires s.link s.leads s.exit s.law false);
      knows = unseen_knows layout wires s.link s.leads s.exit s.law (ExitCall.ask false) refl (in_known s.end) s.knows
          ∙ ap (exit_due layout wires s.link) (sym is);
      numbered = s.numbered;
    }
