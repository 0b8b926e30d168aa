use Rattle.std.proofs.Common.{ℕ, ap, sym, ◌∙◌, subst}
use Rattle.flow_link.specs.Facts.{facts_in}
use Rattle.flow_link.specs.Moves.{posting}
use Rattle.flow_link.specs.Planned.{layout_of}
use Rattle.flow_input.specs.Input.{InputCall, InputState, input_view}
use Rattle.flow_input.specs.InputKeeps.{InputLaw}
use Rattle.flow_moves.proofs.PlansRun.{plan_runs}
use Rattle.flow_task.specs.Inputs.{input_due}
use Rattle.flow_task.specs.Known.{OutKnown, out_known}
use Rattle.flow_task.specs.Words.{MayOffer}
use Rattle.flow_task.proofs.EntrySteps.{post_knows, post_may, unseen_law}
use Rattle.flow_task.proofs.TaskSteps.{out_knows}
use Rattle.flow_task.proofs.input_task.InputTask.post.Goals as goal

pub post-requires-in-Ok-clause-may : goal.post-requires-in-Ok-clause-may
post-requires-in-Ok-clause-may g c =
    let s = c.args.self.now in
    let plan = s.of.value.rest.plan in
    let layout = layout_of plan in
    let wires = s.of.value.wires.items in
    let may = post_may layout wires s.link s.input s.law (plan_runs plan) s.there s.begins c.args.value c.requires.may in
    subst (λ (known : OutKnown). MayOffer known.facts c.in-Ok.header known.view) (sym s.knows)
    (subst (λ (i : ℕ). MayOffer (facts_in layout s.link) i (input_view s.input)) (sym c.in-Ok.ensures.header) may)

pub invariant_of-self : goal.invariant_of-self
invariant_of-self g c =
    let s = c.args.self.now in
    let plan = s.of.value.rest.plan in
    let layout = layout_of plan in
    let wires = s.of.value.wires.items in
    let is = c.in-Ok.ensures.posted in
    let view = input_view s.input in
    let due = input_due layout wires s.link s.input in
    record {
      there = s.there;
      begins = s.begins;
      law = subst (λ (input : InputState). ∥ InputLaw input ∥₁) (sym is)
          (unseen_law layout wires s.link s.input s.law (InputCall.post c.args.value) c.requires.may);
      knows = post_knows layout wires s.link s.input s.law (plan_runs plan) s.there s.begins c.args.value c.requires.may
          (out_known c.post-in-Ok.new.end)
          (c.post-in-Ok.ensures
          ∙ ap (λ (known : OutKnown). out_knows (posting c.in-Ok.header known.view) known) s.knows
          ∙ ap (λ (i : ℕ). out_knows (posting i view) due) c.in-Ok.ensures.header)
          ∙ ap (input_due layout wires s.link) (sym is);
    }
