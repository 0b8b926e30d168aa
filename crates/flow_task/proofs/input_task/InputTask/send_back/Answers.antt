use Rattle.std.proofs.Common.{refl, sym, ap, ◌∙◌, subst}
use Rattle.flow_link.specs.Planned.{layout_of}
use Rattle.flow_input.specs.Input.{InputCall, InputState}
use Rattle.flow_input.specs.InputKeeps.{InputLaw}
use Rattle.flow_task.specs.Inputs.{input_due}
use Rattle.flow_task.specs.Known.{out_known}
use Rattle.flow_task.proofs.EntrySteps.{unseen_knows, unseen_law}
use Rattle.flow_task.proofs.input_task.InputTask.send_back.Goals as goal

pub invariant_of-self : goal.invariant_of-self
invariant_of-self g c =
    let s = c.args.self.now in
    let layout = layout_of s.of.value.rest.plan in
    let wires = s.of.value.wires.items in
    let is = c.send_back.ensures in
    record {
      there = s.there;
      begins = s.begins;
      law = subst (λ (input : InputState). ∥ InputLaw input ∥₁) (sym is) (unseen_law layout wires s.link s.input s.law (InputCall.send_back c.args.value c.args.at_once) c.requires);
      knows = unseen_knows layout wires s.link s.input s.law (InputCall.send_back c.args.value c.args.at_once) refl c.requires (out_known s.out) s.knows
          ∙ ap (input_due layout wires s.link) (sym is);
    }
