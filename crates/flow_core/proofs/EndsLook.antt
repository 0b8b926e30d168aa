-- A look of one end of a link is a call that it may make, and after it the end knows what it found.
use Rattle.std.proofs.Common.{◌≡◌, ℕ, ◌<◌, true, List, length, Option, Some, Result, ap, sym, ◌∙◌, subst}
use Rattle.flow_value.specs.declared.value.Value.{Value}
use Rattle.flow_link.specs.declared.phase.Phase.{Phase}
use Rattle.flow_link.specs.declared.plan.LinkSource.{LinkSource}
use Rattle.flow_link.specs.declared.plan.LinkSource.TheVariants.{Block, Input}
use Rattle.flow_link.specs.declared.plan.LinkTarget.{LinkTarget}
use Rattle.flow_link.specs.declared.plan.LinkTarget.TheVariants.{Port, Exit}
use Rattle.flow_link.specs.Facts.{facts_in}
use Rattle.flow_link.specs.Layout.{Layout}
use Rattle.flow_link.specs.LinkOk.{LinkOk}
use Rattle.flow_link.specs.Looks.{looking_in, looking_out}
use Rattle.flow_link.specs.Phase.{is_numbered}
use Rattle.flow_link.specs.Plan.{link_in}
use Rattle.flow_link.specs.Views.{SourceView, TargetView}
use Rattle.flow_input.specs.Input.{InputCall}
use Rattle.flow_input.specs.InputKeeps.{InputsKeep}
use Rattle.flow_block.specs.Node.{NodeCall}
use Rattle.flow_block_law.specs.NodeKeeps.{NodesKept}
use Rattle.flow_block.specs.Planned.{in_place, out_place}
use Rattle.flow_block_law.specs.ViewsMove.{CallsMoveViews}
use Rattle.flow_core.specs.Events.{node_after, input_after, source_look, source_sees, target_sees}
use Rattle.flow_core.specs.Keeps.{IsRun}
use Rattle.flow_exit.specs.Exit.{ExitCall, exit_after}
use Rattle.flow_exit.specs.ExitKeeps.{ExitsKeep}
use Rattle.flow_core.specs.State.{NetState, node_at, input_at, exit_at}
use Rattle.flow_core.proofs.PartsChange.{PartsInOrder, given_at, taken_at, given_as, taken_as}
use Rattle.flow_core.proofs.EndsStep.{SourceSteps, TargetSteps, block_gives, block_takes, input_gives, exit_takes}
use Rattle.flow_core.proofs.NodesStep.{out_looks, in_looks}
use Rattle.flow_core.proofs.PlacesOfLinks.{entry_there, port_there, out_there, out_rule_there}

module _ {W : Type 0} (kept : NodesKept W) (views : CallsMoveViews W) (inputs : InputsKeep) (exits : ExitsKeep)
    (layout : Layout W) (meaning : ℕ → Value → Result (List Value) ℕ) (run : IsRun layout)
    (l : ℕ) (there : l < length layout.links) (phase : Phase)
    (net : NetState) (parts : PartsInOrder layout meaning net) where
  pub target_looks : (target : LinkTarget) → (link_in layout.links l).target ≡ target → is_numbered phase ≡ true
      → TargetSteps layout meaning l net (target_sees layout meaning l phase target net)
      (looking_in phase (taken_at layout net l))
  target_looks (Port t p) to numbered =
      let k = in_place layout t p l in
      let node = node_at net t in
      let law = parts.nodes t (run.leads.to_block l t p there to) in
      let looks =
      in_looks kept views layout meaning t node law p k (port_there layout meaning t node law run p l there to)
      (entry_there layout meaning t node law run p l there to) phase numbered in
      subst (λ (view : TargetView Value). TargetSteps layout meaning l net (target_sees layout meaning l phase (Port t p) net) view)
      (looks.seen ∙ ap (looking_in phase) (sym (taken_as layout net l (Port t p) to)))
      (block_takes layout meaning l run there net parts t p (node_after layout meaning t (Some (NodeCall.look_in p k phase))) to
      looks.steps)
  target_looks Exit to numbered =
      let exit = exit_at layout net l in
      let known = taken_as layout net l Exit to in
      let new = target_sees layout meaning l phase Exit net in
      subst (λ (view : TargetView Value). TargetSteps layout meaning l net new view)
      (exits.looks exit phase ∙ ap (looking_in phase) (sym known))
      (exit_takes layout meaning l run there net parts (exit_after (Some (ExitCall.look phase))) to
      (exits.calls exit (ExitCall.look phase) (parts.exits l there to) tt))

  module _ (slot : Option Value) (target : TargetView Value)
      (ok : LinkOk (facts_in layout l) phase slot (given_at layout net l) target) where
    pub source_looks_out : (source : LinkSource) → (link_in layout.links l).source ≡ source
        → SourceSteps layout meaning l net (source_sees layout meaning l phase source net)
        (looking_out phase (given_at layout net l))
    source_looks_out (Block s) from =
        let k = out_place layout s l in
        let node = node_at net s in
        let law = parts.nodes s (run.leads.from_block l s there from) in
        let known = given_as layout net l (Block s) from in
        let looks =
        out_looks kept views layout meaning s node law k l phase slot target (out_there layout meaning s node law l there from)
        (out_rule_there layout meaning s node law l there from)
        (subst (λ (view : SourceView Value). LinkOk (facts_in layout l) phase slot view target) known ok) in
        subst (λ (view : SourceView Value). SourceSteps layout meaning l net (source_sees layout meaning l phase (Block s) net) view)
        (looks.seen ∙ ap (looking_out phase) (sym known))
        (block_gives layout meaning l run there net parts s (node_after layout meaning s (Some (source_look node.block.kind k phase))) from
        looks.steps)
    source_looks_out (Input b) from =
        let input = input_at layout net b in
        let law = parts.inputs b (run.leads.from_input l b there from) (run.leads.from_inputs l b there from) in
        let known = given_as layout net l (Input b) from in
        let new = source_sees layout meaning l phase (Input b) net in
        subst (λ (view : SourceView Value). SourceSteps layout meaning l net new view)
        (inputs.views input (InputCall.look phase) law tt ∙ ap (looking_out phase) (sym known))
        (input_gives layout meaning l run there net parts b (input_after (Some (InputCall.look phase))) from
        (inputs.calls input (InputCall.look phase) law tt))
