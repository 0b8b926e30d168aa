-- A step of a block: what its other ends are to be stays, and the end that it is about is to know what the block then knows.
use Rattle.std.proofs.Common.{◌≡◌, ℕ, ◌<◌, List, length, map, slice_set, slice_index_or, slice_get, Result, sym, ap, ◌∙◌, subst}
use Rattle.atomic_table.specs.Seated.{TableId}
use Rattle.flow_value.specs.declared.value.Value.{Value}
use Rattle.flow_link.specs.Lists.{below}
use Rattle.flow_link.specs.Facts.{facts_in}
use Rattle.flow_link.specs.Layout.{Layout}
use Rattle.flow_link.specs.Views.{SourceView, TargetView}
use Rattle.flow_block.specs.Node.{NodeState}
use Rattle.flow_block_law.specs.NodeLaw.{NodeLaw}
use Rattle.flow_block_law.proofs.PlacesOfLinks.{count_in}
use Rattle.flow_core.specs.MovesFit.{out_count, in_count}
use Rattle.flow_core.proofs.PartsChange.{NodeSteps, out_stays}
use Rattle.flow_core.proofs.PlacesRule.{out_count_is}
use Rattle.flow_wire.specs.Ends.{SourceOf, TargetOf}
use Rattle.flow_task.specs.Known.{OutKnown, InKnown, out_known, in_known, link_from, link_to, out_due, in_due, outs_due, port_due, ins_due}
use Rattle.flow_task.proofs.Places.{all_same, at_place, set_at}

module _ {W : Type 0} (layout : Layout W) (meaning : ℕ → Value → Result (List Value) ℕ) (b : ℕ) where
  module _ (wires : List TableId) (In : ℕ → ℕ → Type 0) (Out : ℕ → Type 0) (node new : NodeState) (law : NodeLaw layout meaning b node)
      (steps : NodeSteps layout meaning b In Out node new) where
    same_count : out_count new ≡ out_count node
    same_count = out_count_is layout meaning b new steps.law ∙ sym (out_count_is layout meaning b node law)

    same_ports : length new.block.ports ≡ length node.block.ports
    same_ports = steps.law.shape.port_count_is ∙ sym law.shape.port_count_is

    same_ends : (p : ℕ) → p < length node.block.ports → in_count p new ≡ in_count p node
    same_ends p small =
        count_in layout meaning b new.block steps.law.shape p (subst (λ (n : ℕ). p < n) (sym same_ports) small)
        ∙ sym (count_in layout meaning b node.block law.shape p small)

    out_same : (k : ℕ) → k < out_count node → (Out k → ⊥) → out_due layout wires b new k ≡ out_due layout wires b node k
    out_same k small apart =
        let known : SourceView Value → OutKnown = λ view. record {
          table = slice_get wires (link_from layout wires b k);
          facts = facts_in layout (link_from layout wires b k);
          view = view;
        } in
        ap known (out_stays layout meaning b In Out node new law steps k small apart)

    in_same : (p k : ℕ) → p < length node.block.ports → k < in_count p node → (In p k → ⊥)
        → in_due layout wires b p new k ≡ in_due layout wires b p node k
    in_same p k port small apart =
        let known : TargetView Value → InKnown = λ view. record {
          table = slice_get wires (link_to layout wires b p k);
          facts = facts_in layout (link_to layout wires b p k);
          view = view;
        } in
        ap known (steps.ins p k port small apart)

    -- at a port no end of which learned anything
    port_same : (p : ℕ) → p < length node.block.ports → ((k : ℕ) → In p k → ⊥)
        → port_due layout wires b new p ≡ port_due layout wires b node p
    port_same p port apart =
        sym (all_same (in_due layout wires b p node) (in_due layout wires b p new) (in_count p node)
        (λ k small. in_same p k port small (apart k))
        ∙ ap (λ (n : ℕ). map (in_due layout wires b p new) (below n)) (sym (same_ends p port)))

    -- no end out of it, or into it, learned anything
    pub outs_stay : ((k : ℕ) → Out k → ⊥) → outs_due layout wires b node ≡ outs_due layout wires b new
    outs_stay apart =
        all_same (out_due layout wires b node) (out_due layout wires b new) (out_count node) (λ k small. out_same k small (apart k))
        ∙ ap (λ (n : ℕ). map (out_due layout wires b new) (below n)) (sym same_count)

    pub ins_stay : ((p k : ℕ) → In p k → ⊥) → ins_due layout wires b node ≡ ins_due layout wires b new
    ins_stay apart =
        all_same (port_due layout wires b node) (port_due layout wires b new) (length node.block.ports)
        (λ p port. port_same p port (apart p))
        ∙ ap (λ (n : ℕ). map (port_due layout wires b new) (below n)) (sym same_ports)

    -- one end out of it is what it is to be now
    pub outs_set : (ends : List SourceOf) → map out_known ends ≡ outs_due layout wires b node → (k : ℕ) (end : SourceOf)
        → k < out_count node → ((j : ℕ) → Out j → j ≡ k) → out_known end ≡ out_due layout wires b new k
        → map out_known (slice_set ends k end) ≡ outs_due layout wires b new
    outs_set ends are k end small about here =
        set_at out_known (out_due layout wires b node) (out_due layout wires b new) (out_count node) ends k end are small here
        (λ j low apart. out_same j low (λ is. apart (about j is)))
        ∙ ap (λ (n : ℕ). map (out_due layout wires b new) (below n)) (sym same_count)

    -- and one end into it
    module _ {L : Type 0} (ends_of : L → List TargetOf) (ports : List L)
        (are : map (λ port. map in_known (ends_of port)) ports ≡ ins_due layout wires b node) where
      pub ins_set : (p k : ℕ) (old changed : L) (end : TargetOf) → p < length node.block.ports → k < in_count p node
          → old ≡ slice_index_or ports p old → ends_of changed ≡ slice_set (ends_of old) k end
          → ((q j : ℕ) → In q j → (q ≡ p) × (j ≡ k)) → in_known end ≡ in_due layout wires b p new k
          → map (λ port. map in_known (ends_of port)) (slice_set ports p changed) ≡ ins_due layout wires b new
      ins_set p k old changed end port small is set about here =
          set_at (λ (l : L). map in_known (ends_of l)) (port_due layout wires b node) (port_due layout wires b new)
          (length node.block.ports) ports p changed are port
          (ap (map in_known) set
          ∙ set_at in_known (in_due layout wires b p node) (in_due layout wires b p new) (in_count p node) (ends_of old) k end
          (ap (λ (l : L). map in_known (ends_of l)) is
          ∙ at_place (λ (l : L). map in_known (ends_of l)) (port_due layout wires b node) (length node.block.ports) ports p old are port)
          small here (λ j low apart. in_same p j port low (λ said. apart (about p j said).1))
          ∙ ap (λ (n : ℕ). map (in_due layout wires b p new) (below n)) (sym (same_ends p port)))
          (λ q low apart. port_same q low (λ j said. apart (about q j said).0))
          ∙ ap (λ (n : ℕ). map (port_due layout wires b new) (below n)) (sym same_ports)
