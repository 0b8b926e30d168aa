-- What the ends at a block are to know is told link by link as it is told place by place.
use Rattle.std.proofs.Common.{◌≡◌, ℕ, zero, suc, ◌<◌, List, [], ◌∷◌, length, get_or, map, slice_get, Result, refl, sym, ap, ◌∙◌}
use Rattle.atomic_table.specs.Seated.{TableId}
use Rattle.flow_value.specs.declared.value.Value.{Value}
use Rattle.flow_link.specs.Lists.{numbers_from, below}
use Rattle.flow_link.proofs.PlacesOfNumbers.{stands_below}
use Rattle.flow_link.specs.Facts.{facts_in}
use Rattle.flow_link.specs.Layout.{Layout}
use Rattle.flow_link.specs.Plan.{block_in, link_in, port_count}
use Rattle.flow_link.specs.Views.{SourceView, TargetView}
use Rattle.flow_block.specs.Node.{NodeState, in_view, source_view}
use Rattle.flow_block.specs.Planned.{is_out_of, is_into, links_from, links_to}
use Rattle.flow_block_law.specs.NodeLaw.{NodeLaw}
use Rattle.flow_block_law.proofs.PlacesOfLinks.{source_there, target_there}
use Rattle.flow_core.specs.State.{NetState, node_at, source_from, target_from}
use Rattle.flow_core.proofs.PlacesRule.{out_count_is, in_count_is}
use Rattle.flow_task.specs.Known.{OutKnown, InKnown, link_from, link_to, out_due, in_due, outs_due, ins_due, port_due, source_due, target_due}
use Rattle.flow_task.proofs.Places.{all_same}

-- A list by its places

shifted : {B : Type 0} (g : ℕ → B) (start n : ℕ) → map g (numbers_from (suc start) n) ≡ map (λ k. g (suc k)) (numbers_from start n)
shifted g start zero = refl
shifted g start (suc n) = ap (λ rest. g (suc start) ∷ rest) (shifted g (suc start) n)

pub by_places : {A B : Type 0} (f : A → B) (xs : List A) (d : A) → map f xs ≡ map (λ k. f (get_or xs k d)) (below (length xs))
by_places f [] d = refl
by_places f (x ∷ xs) d =
    ap (λ rest. f x ∷ rest) (by_places f xs d ∙ sym (shifted (λ k. f (get_or (x ∷ xs) k d)) 0 (length xs)))

module _ {W : Type 0} (layout : Layout W) (meaning : ℕ → Value → Result (List Value) ℕ) (wires : List TableId) (net : NetState) (b : ℕ)
    (law : NodeLaw layout meaning b (node_at net b)) where
  abbrev its_node : NodeState
  its_node = node_at net b

  -- out of the block
  out_there : (k : ℕ) → k < length (links_from layout b) → source_due layout wires net (link_from layout wires b k) ≡ out_due layout wires b its_node k
  out_there k small =
      let l = link_from layout wires b k in
      let stands = stands_below (is_out_of layout b) (length layout.links) k small in
      let from = source_there b (link_in layout.links l).source stands.passes in
      let known : SourceView Value → OutKnown = λ view. record { table = slice_get wires l; facts = facts_in layout l; view = view } in
      ap known
      (ap (source_from layout net l) from ∙ ap (λ (place : ℕ). source_view place its_node) stands.before)

  pub outs_by_place : map (source_due layout wires net) (links_from layout b) ≡ outs_due layout wires b its_node
  outs_by_place =
      by_places (source_due layout wires net) (links_from layout b) 0
      ∙ all_same (λ k. source_due layout wires net (link_from layout wires b k)) (out_due layout wires b its_node) (length (links_from layout b))
      (λ k small. sym (out_there k small))
      ∙ ap (λ (n : ℕ). map (out_due layout wires b its_node) (below n)) (sym (out_count_is layout meaning b its_node law))

  -- and into a port
  in_there : (p k : ℕ) → k < length (links_to layout b p)
      → target_due layout wires net (link_to layout wires b p k) ≡ in_due layout wires b p its_node k
  in_there p k small =
      let l = link_to layout wires b p k in
      let stands = stands_below (is_into layout b p) (length layout.links) k small in
      let into = target_there b p (link_in layout.links l).target stands.passes in
      let known : TargetView Value → InKnown = λ view. record { table = slice_get wires l; facts = facts_in layout l; view = view } in
      ap known
      (ap (target_from layout net l) into ∙ ap (λ (place : ℕ). in_view p place its_node) stands.before)

  port_by_place : (p : ℕ) → p < length its_node.block.ports
      → map (target_due layout wires net) (links_to layout b p) ≡ port_due layout wires b its_node p
  port_by_place p small =
      by_places (target_due layout wires net) (links_to layout b p) 0
      ∙ all_same (λ k. target_due layout wires net (link_to layout wires b p k)) (in_due layout wires b p its_node) (length (links_to layout b p))
      (λ k low. sym (in_there p k low))
      ∙ ap (λ (n : ℕ). map (in_due layout wires b p its_node) (below n)) (sym (in_count_is layout meaning b its_node law p small))

  pub ins_by_place : map (λ p. map (target_due layout wires net) (links_to layout b p)) (below (port_count (block_in layout.blocks b)))
      ≡ ins_due layout wires b its_node
  ins_by_place =
      ap (λ (n : ℕ). map (λ p. map (target_due layout wires net) (links_to layout b p)) (below n)) (sym law.shape.port_count_is)
      ∙ all_same (λ p. map (target_due layout wires net) (links_to layout b p)) (port_due layout wires b its_node) (length its_node.block.ports)
      (λ p small. sym (port_by_place p small))
