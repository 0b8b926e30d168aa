-- The run of a network in order is lawful: each of its parts keeps its own laws.
use Rattle.std.proofs.Common.{◌≡◌, ℕ, zero, suc, ◌<◌, true, false, List, [], length, Option, Some, None, refl, ap, sym, ◌∙◌, arith, eq-eqb}
use Rattle.std.proofs.lemmas.List.{length-map}
use Rattle.std.proofs.Math.ListN.{get_or-map}
use Rattle.flow_link.specs.declared.plan.LinkSource.TheVariants.{Input}
use Rattle.flow_link.specs.declared.plan.LinkTarget.{LinkTarget}
use Rattle.flow_link.specs.declared.plan.LinkTarget.TheVariants.{Port}
use Rattle.flow_link.specs.declared.stage.TargetStage.{TargetStage as TargetKept}
use Rattle.flow_link.specs.declared.stage.TargetStage.TheVariants as target
use Rattle.flow_link.specs.Stage.{target_stage_of}
use Rattle.flow_link.specs.Views.{TargetStage, Refusal}
use Rattle.flow_exit.specs.ExitKeeps.{is_plain}
use Rattle.flow_lawful.specs.Composes.{PartsKeep}
use Rattle.flow_link.specs.Layout.{Layout}
use Rattle.flow_link.specs.Plan.{link_in}
use Rattle.flow_lawful.specs.Shape.{Shape}
use Rattle.flow_link.specs.Trace.{BlockTrace, is_used_up}
use Rattle.flow_lawful.proofs.LawfulByParts.{composes}
use Rattle.flow_link.proofs.ListTests.{every_below}
use Rattle.flow_intake.specs.Port.{PortState}
use Rattle.flow_link.specs.PlanFaults.{is_in}
use Rattle.std.proofs.lemmas.Bool.{ne_eqb}
use Rattle.flow_input.specs.Input.{no_input, input_trace}
use Rattle.flow_input.specs.InputKeeps.{InputLaw, InputsAreParts, IsInputOf}
use Rattle.flow_block.specs.Node.{node_trace}
use Rattle.flow_block_law.specs.NodeSeen.{NodesAreLawful, IsNodeOf}
use Rattle.flow_block.specs.Planned.{input_place}
use Rattle.flow_core.specs.Keeps.{IsRun, NetKeeps}
use Rattle.flow_core.specs.State.{NetState, no_node, node_at, input_at, exit_at, ends_of, source_from, target_from, run_of_net}
use Rattle.flow_core.specs.InOrder.{NetInOrder}
use Rattle.flow_core.specs.Statements.{InOrderIsLawful, KeptIsLawful}
use Rattle.flow_core.proofs.PlacesOfLinks.{port_there}
use Rattle.std.specs.Prelude.{Result}
use Rattle.flow_value.specs.declared.value.Value.{Value}

-- a link whose number of messages is in its range may carry one
pub may_carry : (max : Option ℕ) → is_in 1 2147483647 max ≡ true → is_used_up max [] ≡ false
may_carry None e = refl
may_carry (Some zero) e = absurd (cc)
may_carry (Some (suc n)) e = ne_eqb 0 (suc n) (λ same. absurd (omega (arith, same)))

-- an exit refuses nothing
never_refuses : (stage : TargetKept) (hand : Option Value) (why : Refusal) → is_plain stage ≡ true
    → target_stage_of stage hand ≡ TargetStage.refused why → ⊥
never_refuses (target.Refused so) hand why plain e = absurd (cc)
never_refuses _ hand why plain e = absurd (cc)

module _ {W : Type 0} (layout : Layout W) (meaning : ℕ → Value → Result (List Value) ℕ) (runs : IsRun layout)
    (net : NetState) (ok : NetInOrder layout meaning net) where
  -- the blocks and inputs are parts of the run
  pub is_node : (b : ℕ) → IsNodeOf (run_of_net layout meaning net) (ends_of layout net) b (node_at net b)
  is_node b = record {
    trace = get_or-map node_trace net.nodes b no_node;
    sources = λ l there from. ap (source_from layout net l) from;
    targets = λ l p there to. ap (target_from layout net l) to;
  }

  pub is_input : (l b : ℕ) → (link_in layout.links l).source ≡ Input b
      → IsInputOf (run_of_net layout meaning net) (ends_of layout net) l b (input_at layout net b)
  is_input l b from = record {
    trace = get_or-map input_trace net.inputs (input_place layout b) no_input;
    source = ap (source_from layout net l) from;
  }

  pub input_law : (l b : ℕ) → l < length layout.links → (link_in layout.links l).source ≡ Input b
      → InputLaw (input_at layout net b)
  input_law l b there from =
      ok.inputs b (runs.leads.from_input l b there from) (runs.leads.from_inputs l b there from)

  -- a link into a block enters a port that is there
  pub port_of_link : (b l p : ℕ) → b < length layout.blocks → l < length layout.links
      → (link_in layout.links l).target ≡ Port b p
      → p < length (node_at net b).block.ports
  port_of_link b l p low there to = port_there layout meaning b (node_at net b) (ok.nodes b low) runs p l there to

  shape_is : Shape (run_of_net layout meaning net)
  shape_is = record {
    blocks = length-map net.nodes node_trace ∙ ok.node_count;
    inputs = length-map net.inputs input_trace ∙ ok.input_count;
    ports = every_below _ (length layout.blocks) (λ b low.
        eq-eqb _ _ (
        ap (λ (trace : BlockTrace). length trace.held) (is_node b).trace
        ∙ length-map (node_at net b).block.ports (λ (port : PortState). port.waiting)
        ∙ (ok.nodes b low).shape.port_count_is
        ));
  }

  pub parts_keep : NodesAreLawful W → InputsAreParts W
      → PartsKeep (run_of_net layout meaning net) (ends_of layout net)
  parts_keep nodes inputs = record {
    shape = shape_is;
    nodes = λ b low.
        nodes (run_of_net layout meaning net) (ends_of layout net) b (node_at net b) low (ok.nodes b low) (is_node b)
        (λ l p there to. port_of_link b l p low there to)
        (λ once l there from. may_carry (link_in layout.links l).max (runs.well_formed.max l there));
    inputs = λ l b there from.
        inputs.keeps (run_of_net layout meaning net) (ends_of layout net) l b (input_at layout net b)
        (input_law l b there from) (is_input l b from);
    exits = λ l there to.
        let exit = exit_at layout net l in
        record {
          takes = λ why refused.
              never_refuses exit.stage exit.hand why (ok.exits l there to).plain
              (sym (ap (λ (target : LinkTarget). (target_from layout net l target).stage) to) ∙ refused);
        };
    links = ok.links;
    refused = λ l. refl;
    from_blocks = λ l b there from. runs.leads.from_block l b there from;
    to_blocks = λ l b p there to. runs.leads.to_block l b p there to;
  }

pub kept_in_order : {W : Type 0} {layout : Layout W} {meaning : ℕ → Value → Result (List Value) ℕ} {net : NetState}
    → NetKeeps layout meaning net → NetInOrder layout meaning net
kept_in_order keeps = record {
  node_count = keeps.node_count;
  input_count = keeps.input_count;
  exit_count = keeps.exit_count;
  line_count = keeps.line_count;
  nodes = keeps.nodes;
  inputs = keeps.inputs;
  exits = keeps.exits;
  links = λ l low. (keeps.lines l low).in_order;
}

pub in_order_is_lawful : {W : Type 0} → NodesAreLawful W → InputsAreParts W → InOrderIsLawful W
in_order_is_lawful {W} nodes inputs layout meaning runs net ok =
    composes W (run_of_net layout meaning net) (ends_of layout net)
    (parts_keep layout meaning runs net ok nodes inputs)

pub kept_is_lawful : {W : Type 0} → NodesAreLawful W → InputsAreParts W → KeptIsLawful W
kept_is_lawful nodes inputs layout meaning runs net keeps = in_order_is_lawful nodes inputs layout meaning runs net (kept_in_order keeps)
