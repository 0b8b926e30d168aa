-- What all ends of a network are to know is told link by link as it is told block by block, input by input and exit by exit.
use Rattle.std.proofs.Common.{◌≡◌, ℕ, ◌<◌, true, List, length, map, get_or, slice_get, Result, refl, sym, ap, ◌∙◌}
use Rattle.std.proofs.Math.Logic.{∥∥₁_elim}
use Rattle.atomic_table.specs.Seated.{TableId}
use Rattle.flow_value.specs.declared.value.Value.{Value}
use Rattle.flow_link.specs.Lists.{below}
use Rattle.flow_link.proofs.PlacesOfNumbers.{stands_below}
use Rattle.flow_link.specs.declared.plan.LinkSource.{LinkSource}
use Rattle.flow_link.specs.declared.plan.LinkSource.TheVariants.{Block, Input}
use Rattle.flow_link.specs.declared.plan.LinkTarget.{LinkTarget}
use Rattle.flow_link.specs.declared.plan.LinkTarget.TheVariants.{Port, Exit}
use Rattle.flow_link.specs.Facts.{facts_in}
use Rattle.flow_link.specs.Layout.{Layout, IsLaidOut}
use Rattle.flow_link.specs.Plan.{link_in}
use Rattle.flow_link.specs.Views.{SourceView, TargetView}
use Rattle.flow_block.specs.Planned.{is_exit, is_out_of, leads_out, links_out}
use Rattle.flow_block_law.specs.NodeLaw.{NodeLaw}
use Rattle.flow_core.specs.State.{NetState, node_at, source_from, target_from}
use Rattle.flow_exit.specs.Exit.{exit_view, fresh_exit}
use Rattle.flow_input.specs.Input.{input_view, no_input}
use Rattle.flow_task.specs.Dealt.{exits_dealt, inputs_dealt, ins_dealt, outs_dealt, ports_dealt, said_of}
use Rattle.flow_task.specs.Exits.{exit_due}
use Rattle.flow_task.specs.Inputs.{begins_at_input, input_due, is_of_input, links_of_inputs}
use Rattle.flow_task.specs.Known.{OutKnown, InKnown, ins_due, outs_due, source_due, target_due}
use Rattle.flow_task.proofs.DuesByPlace.{by_places, ins_by_place, outs_by_place}
use Rattle.flow_task.proofs.InputPlaces.{input_placed}
use Rattle.flow_task.proofs.OwnSteps.{Outs-set, Ins-set}
use Rattle.flow_task.proofs.Places.{all_same}

abbrev pub its_block : LinkSource → ℕ
its_block (Input b) = b
its_block (Block b) = b

pub of_input : (source : LinkSource) → is_of_input source ≡ true → source ≡ Input (its_block source)
of_input (Input b) e = refl
of_input (Block b) e = absurd (cc)

pub to_exit : (target : LinkTarget) → is_exit target ≡ true → target ≡ Exit
to_exit (Port b p) e = absurd (cc)
to_exit Exit e = refl

module _ {W : Type 0} (layout : Layout W) (wires : List TableId) (net : NetState) where
  module _ (meaning : ℕ → Value → Result (List Value) ℕ)
      (laws : (b : ℕ) → b < length layout.blocks → ∥ NodeLaw layout meaning b (node_at net b) ∥₁) where
    pub all_outs : outs_dealt layout (source_due layout wires net) (length layout.links)
        ≡ map (λ b. outs_due layout wires b (node_at net b)) (below (length layout.blocks))
    all_outs =
        all_same (λ b. said_of (source_due layout wires net) (is_out_of layout b) (length layout.links))
        (λ b. outs_due layout wires b (node_at net b)) (length layout.blocks)
        (λ b small. sym (∥∥₁_elim (laws b small) (Outs-set _ _) (λ law. outs_by_place layout meaning wires net b law)))

    pub all_ins : ins_dealt layout (target_due layout wires net) (length layout.links)
        ≡ map (λ b. ins_due layout wires b (node_at net b)) (below (length layout.blocks))
    all_ins =
        all_same (ports_dealt layout (target_due layout wires net) (length layout.links))
        (λ b. ins_due layout wires b (node_at net b)) (length layout.blocks)
        (λ b small. sym (∥∥₁_elim (laws b small) (Ins-set _ _) (λ law. ins_by_place layout meaning wires net b law)))

  module _ (laid : IsLaidOut layout.blocks layout.links) where
    an_input : (q : ℕ) → q < length (links_of_inputs layout)
        → source_due layout wires net (get_or (links_of_inputs layout) q 0)
        ≡ input_due layout wires (get_or (links_of_inputs layout) q 0) (get_or net.inputs q no_input)
    an_input q small =
        let l = get_or (links_of_inputs layout) q 0 in
        let stands = stands_below (begins_at_input layout) (length layout.links) q small in
        let from = of_input (link_in layout.links l).source stands.passes in
        let known : SourceView Value → OutKnown = λ view. record { table = slice_get wires l; facts = facts_in layout l; view = view } in
        ap known
        (ap (source_from layout net l) from
        ∙ ap (λ (k : ℕ). input_view (get_or net.inputs k no_input))
        (input_placed layout laid l (its_block (link_in layout.links l).source) stands.there from ∙ stands.before))

    pub all_inputs : inputs_dealt layout (source_due layout wires net) (length layout.links)
        ≡ map (λ q. input_due layout wires (get_or (links_of_inputs layout) q 0) (get_or net.inputs q no_input))
        (below (length (links_of_inputs layout)))
    all_inputs =
        by_places (source_due layout wires net) (links_of_inputs layout) 0
        ∙ all_same (λ q. source_due layout wires net (get_or (links_of_inputs layout) q 0))
        (λ q. input_due layout wires (get_or (links_of_inputs layout) q 0) (get_or net.inputs q no_input)) (length (links_of_inputs layout))
        (λ q small. sym (an_input q small))

  an_exit : (k : ℕ) → k < length (links_out layout)
      → target_due layout wires net (get_or (links_out layout) k 0)
      ≡ exit_due layout wires (get_or (links_out layout) k 0) (get_or net.exits k fresh_exit)
  an_exit k small =
      let l = get_or (links_out layout) k 0 in
      let stands = stands_below (leads_out layout) (length layout.links) k small in
      let into = to_exit (link_in layout.links l).target stands.passes in
      let known : TargetView Value → InKnown = λ view. record { table = slice_get wires l; facts = facts_in layout l; view = view } in
      ap known
      (ap (target_from layout net l) into ∙ ap (λ (j : ℕ). exit_view (get_or net.exits j fresh_exit)) stands.before)

  pub all_exits : exits_dealt layout (target_due layout wires net) (length layout.links)
      ≡ map (λ k. exit_due layout wires (get_or (links_out layout) k 0) (get_or net.exits k fresh_exit)) (below (length (links_out layout)))
  all_exits =
      by_places (target_due layout wires net) (links_out layout) 0
      ∙ all_same (λ k. target_due layout wires net (get_or (links_out layout) k 0))
      (λ k. exit_due layout wires (get_or (links_out layout) k 0) (get_or net.exits k fresh_exit)) (length (links_out layout))
      (λ k small. sym (an_exit k small))
