-- A network that is in order has links of which wires can be made, and stays in order without them.
use Rattle.std.proofs.Common.{◌≡◌, ℕ, ◌<◌, cond, Bool, true, false, List, length, get_or, Result, refl, sym, ap, ◌∙◌, subst}
use Rattle.std.proofs.Math.Logic.{∥∥₁_elim, ∥∥₁_map}
use Rattle.std.proofs.Math.Nat.{ℕ_set}
use Rattle.atomic_table.specs.Seated.{TableId}
use Rattle.flow_value.specs.declared.value.Value.{Value}
use Rattle.flow_link.specs.declared.plan.Plan.{Plan}
use Rattle.flow_link.specs.declared.plan.LinkSource.{LinkSource}
use Rattle.flow_link.specs.declared.plan.LinkSource.TheVariants.{Block, Input}
use Rattle.flow_link.specs.declared.plan.LinkTarget.{LinkTarget}
use Rattle.flow_link.specs.declared.plan.LinkTarget.TheVariants.{Port, Exit}
use Rattle.flow_link.specs.declared.stage.SourceStage.{SourceStage as SourceKept}
use Rattle.flow_link.specs.declared.stage.SourceStage.TheVariants as source
use Rattle.flow_link.specs.declared.trace.LinkState.{LinkState}
use Rattle.flow_link.specs.Facts.{facts_in}
use Rattle.flow_link.specs.Layout.{Layout}
use Rattle.flow_link.specs.Plan.{is_one_taker, link_in}
use Rattle.flow_link.specs.Stage.{source_stage_of}
use Rattle.flow_link.specs.Views.{SourceView, TargetView}
use Rattle.flow_wire.specs.Ends.{SourceOf, Start, TargetOf, fills, is_crossing, starts_in, starts_out}
use Rattle.flow_outlet.specs.Outlet.{end_at}
use Rattle.flow_spread.specs.Spread.{link_at}
use Rattle.flow_block.specs.Node.{NodeState, copy_view, out_view}
use Rattle.flow_block.specs.Planned.{out_place}
use Rattle.flow_core.specs.InOrder.{NetInOrder}
use Rattle.flow_core.specs.Keeps.{NetKeeps}
use Rattle.flow_core.specs.State.{NetState, input_at, line_at, node_at, source_from, target_from}
use Rattle.flow_exit.specs.Exit.{ExitState}
use Rattle.flow_input.specs.Input.{InputState, no_input}
use Rattle.flow_input.specs.InputKeeps.{PostedStays}
use Rattle.flow_core.specs.Inputs.{InputsStay, input_of}
use Rattle.flow_task.specs.Wired.{AllReady, AreWired, starts_of}
use Rattle.flow_task.proofs.LinkOnce.{link_prop}
use Rattle.flow_task.proofs.Places.{all_same}

-- No end has the slot out

never_fills : (stage : SourceKept) → fills (source_stage_of stage) ≡ false
never_fills source.Free = refl
never_fills (source.Posted i) = refl
never_fills (source.Out i) = refl
never_fills (source.Waiting i) = refl
never_fills (source.Accepted i) = refl
never_fills (source.Wished i) = refl
never_fills (source.AskedBy i) = refl
never_fills (source.Reserved i) = refl
never_fills (source.Claimed i) = refl
never_fills source.Crossing = refl
never_fills source.Refused = refl
never_fills (source.Ended how) = refl

either_home : (sharing : Bool) (one other : SourceView Value) → fills one.stage ≡ false → fills other.stage ≡ false
    → fills (cond sharing one other).stage ≡ false
either_home true one other is so = is
either_home false one other is so = so

module _ {W : Type 0} (layout : Layout W) where
  pub source_home : (net : NetState) (l : ℕ) (from : LinkSource) → fills (source_from layout net l from).stage ≡ false
  source_home net l (Block b) =
      let k = out_place layout b l in
      let node = node_at net b in
      either_home (is_one_taker node.block.kind) (out_view k node) (copy_view k node) (never_fills (end_at node.block.exits k).stage)
      (never_fills (link_at node.block.copies k).stage)
  source_home net l (Input b) = never_fills (input_at layout net b).stage

  -- Wires can be made

  module _ (meaning : ℕ → Value → Result (List Value) ℕ) (net : NetState) where
    pub kept_in_order : ∥ NetKeeps layout meaning net ∥₁ → ∥ NetInOrder layout meaning net ∥₁
    kept_in_order keeps =
        ∥∥₁_map keeps (λ k. record {
          node_count = k.node_count;
          input_count = k.input_count;
          exit_count = k.exit_count;
          line_count = k.line_count;
          nodes = k.nodes;
          inputs = k.inputs;
          exits = k.exits;
          links = λ l there. (k.lines l there).in_order;
        })

    pub lines_many : ∥ NetInOrder layout meaning net ∥₁ → length net.lines ≡ length layout.links
    lines_many order = ∥∥₁_elim order (ℕ_set _ _) (λ o. o.line_count)

    pub all_ready : ∥ NetInOrder layout meaning net ∥₁ → ((l : ℕ) → l < length layout.links → is_crossing (line_at net l).phase ≡ false)
        → AllReady (starts_of layout net) net.lines
    all_ready order home l small =
        let there = subst (λ (n : ℕ). l < n) (lines_many order) small in
        record {
          in_order = ∥∥₁_elim order (link_prop _ _ _ _ _) (λ o. o.links l there);
          empty = home l there;
          home = source_home net l (link_in layout.links l).source;
        }

  -- What the ends know does not depend on the links

  module _ (nodes : List NodeState) (inputs : List InputState) (exits : List ExitState) (one other : List LinkState) where
    abbrev with_lines : List LinkState → NetState
    with_lines lines = record { nodes = nodes; inputs = inputs; exits = exits; lines = lines }

    pub sources_same : (l : ℕ) (from : LinkSource)
        → source_from layout (with_lines one) l from ≡ source_from layout (with_lines other) l from
    sources_same l (Block b) = refl
    sources_same l (Input b) = refl

    pub targets_same : (l : ℕ) (into : LinkTarget)
        → target_from layout (with_lines one) l into ≡ target_from layout (with_lines other) l into
    targets_same l (Port b p) = refl
    targets_same l Exit = refl

    pub starts_same : (l : ℕ) → starts_of layout (with_lines one) l ≡ starts_of layout (with_lines other) l
    starts_same l =
        ap (λ (view : SourceView Value). record { facts = facts_in layout l; source = view; target = target_from layout (with_lines one) l (link_in layout.links l).target })
        (sources_same l (link_in layout.links l).source)
        ∙ ap (λ (view : TargetView Value). record { facts = facts_in layout l; source = source_from layout (with_lines other) l (link_in layout.links l).source; target = view })
        (targets_same l (link_in layout.links l).target)

-- so it does not matter by which links it is told
pub wired_same : (starts starts' : ℕ → Start) (n : ℕ) (wires : List TableId) (sources : List SourceOf) (targets : List TargetOf)
    → ((l : ℕ) → starts l ≡ starts' l) → AreWired starts n wires sources targets → AreWired starts' n wires sources targets
wired_same starts starts' n wires sources targets same wired = record {
  count = wired.count;
  seated = wired.seated;
  sources_know = wired.sources_know ∙ all_same (λ l. starts_out (starts l)) (λ l. starts_out (starts' l)) n (λ l small. sym (ap starts_out (same l)));
  targets_know = wired.targets_know ∙ all_same (λ l. starts_in (starts l)) (λ l. starts_in (starts' l)) n (λ l small. sym (ap starts_in (same l)));
}

-- What holds of a plan and of lists holds of the same ones
pub moved : {W : Type 0} (P : Plan W → List NodeState → List InputState → List ExitState → Type 0) (plan plan' : Plan W)
    (nodes nodes' : List NodeState) (inputs inputs' : List InputState) (exits exits' : List ExitState)
    → plan ≡ plan' → nodes ≡ nodes' → inputs ≡ inputs' → exits ≡ exits' → P plan nodes inputs exits → P plan' nodes' inputs' exits'
moved {W} P plan plan' nodes nodes' inputs inputs' exits exits' p n i e holds =
    subst (λ (it : Plan W). P it nodes' inputs' exits') p
    (subst (λ (it : List NodeState). P plan it inputs' exits') n
    (subst (λ (it : List InputState). P plan nodes it exits') i
    (subst (λ (it : List ExitState). P plan nodes inputs it) e holds)))

-- inputs stay as they were, though other parts change
pub inputs_stay_by : (one other new : NetState) → one.inputs ≡ other.inputs → InputsStay one new → InputsStay other new
inputs_stay_by one other new same stay = record {
  count = stay.count ∙ ap length same;
  each = λ k. subst (λ (inputs : List InputState). PostedStays (get_or inputs k no_input) (input_of new k)) same (stay.each k);
}
