-- What the ends of all wires know, and room for them, in the words in which they are dealt out.
use Rattle.std.proofs.Common.{◌≡◌, ℕ, zero, suc, ◌+◌, ◌<◌, List, [], ◌∷◌, length, map, slice_get, slice_index_or, Option, Some, Result, refl, sym, ap, ◌∙◌, arith}
use Rattle.atomic_table.specs.Seated.{TableId}
use Rattle.flow_value.specs.declared.value.Value.{Value}
use Rattle.flow_link.specs.Lists.{numbers_from, below}
use Rattle.flow_link.specs.Layout.{Layout}
use Rattle.flow_wire.specs.Ends.{SourceOf, TargetOf, starts_in, starts_out}
use Rattle.flow_wire.specs.Sides.{SourceSide, TargetSide}
use Rattle.flow_block.specs.Planned.{links_from, links_to}
use Rattle.flow_block_law.specs.NodeLaw.{NodeLaw}
use Rattle.flow_core.specs.MovesFit.{in_count, out_count}
use Rattle.flow_core.specs.State.{NetState, node_at}
use Rattle.flow_task.specs.Dealt.{HasRooms, HasRoomsIn, ins_dealt, ports_dealt}
use Rattle.flow_task.specs.Known.{InKnown, OutKnown, in_known, out_known, source_due, target_due}
use Rattle.flow_task.specs.Wired.{AreWired, source_table, starts_of, target_table}
use Rattle.flow_task.proofs.Counts.{ins_many, outs_many, ports_many}
use Rattle.flow_task.proofs.Places.{all_same, at_place, count_is}
use Rattle.flow_task.proofs.WiresTell.{source_count, source_knows, target_count, target_knows}

-- Lists by their elements

each_from : {E V : Type 0} (view : E → V) (f : ℕ → V) (start n : ℕ) (xs : List E) → length xs ≡ n
    → ((k : ℕ) (d : E) → k < n → view (slice_index_or xs k d) ≡ f (start + k)) → map view xs ≡ map f (numbers_from start n)
each_from view f start zero [] long each = refl
each_from view f start zero (x ∷ xs) long each = absurd (omega (arith, long))
each_from view f start (suc n) [] long each = absurd (omega (arith, long))
each_from view f start (suc n) (x ∷ xs) long each =
    let first : start + 0 ≡ start = omega arith in
    let head = each 0 x (omega arith) ∙ ap f first in
    let tail = each_from view f (suc start) n xs (omega (arith, long))
    (λ k d small. let next : start + suc k ≡ suc start + k = omega arith in each (suc k) d (omega (arith, small)) ∙ ap f next) in
    ap (λ v. v ∷ map view xs) head ∙ ap (λ vs. f start ∷ vs) tail

by_each : {E V : Type 0} (view : E → V) (f : ℕ → V) (n : ℕ) (xs : List E) → length xs ≡ n
    → ((k : ℕ) (d : E) → k < n → view (slice_index_or xs k d) ≡ f k) → map view xs ≡ map f (below n)
by_each view f n xs long each =
    each_from view f 0 n xs long (λ k d small. let same : k ≡ 0 + k = omega arith in each k d small ∙ ap f same)

mapped_at : {E T : Type 0} (f : E → T) (xs : List E) (k : ℕ) (d : E) → k < length xs
    → slice_get (map f xs) k ≡ Some (f (slice_index_or xs k d))
mapped_at f [] k d small = absurd (omega (arith, small))
mapped_at f (x ∷ xs) zero d small = refl
mapped_at f (x ∷ xs) (suc k) d small = mapped_at f xs k d (omega (arith, small))

module _ {W : Type 0} (layout : Layout W) (net : NetState) where
  -- What the ends know
  module _ (wires : List TableId) (sources : List SourceOf) (targets : List TargetOf)
      (wired : AreWired (starts_of layout net) (length layout.links) wires sources targets) where
    pub sources_due : map out_known sources ≡ map (source_due layout (map source_table sources) net) (below (length layout.links))
    sources_due =
        let long = source_count wires sources targets wired.seated ∙ wired.count in
        by_each out_known (source_due layout (map source_table sources) net) (length layout.links) sources long
        (λ k d small.
        let end = slice_index_or sources k d in
        let known : Option TableId → SourceSide → OutKnown = λ table side. record { table = table; facts = side.facts; view = side.view } in
        ap (known (Some end.table)) (source_knows (starts_of layout net) (length layout.links) wires sources targets wired k d small)
        ∙ ap (λ (table : Option TableId). known table (starts_out (starts_of layout net k)))
        (sym (mapped_at source_table sources k d (omega (arith, long, small)))))

    pub targets_due : map in_known targets ≡ map (target_due layout (map target_table targets) net) (below (length layout.links))
    targets_due =
        let long = target_count wires sources targets wired.seated ∙ wired.count in
        by_each in_known (target_due layout (map target_table targets) net) (length layout.links) targets long
        (λ k d small.
        let end = slice_index_or targets k d in
        let known : Option TableId → TargetSide → InKnown = λ table side. record { table = table; facts = side.facts; view = side.view } in
        ap (known (Some end.table)) (target_knows (starts_of layout net) (length layout.links) wires sources targets wired k d small)
        ∙ ap (λ (table : Option TableId). known table (starts_in (starts_of layout net k)))
        (sym (mapped_at target_table targets k d (omega (arith, long, small)))))

  -- Room for them
  module _ (meaning : ℕ → Value → Result (List Value) ℕ)
      (laws : (b : ℕ) → b < length layout.blocks → ∥ NodeLaw layout meaning b (node_at net b) ∥₁) where
    pub outs_roomy : {L : Type 0} (capacity : L → ℕ) (outs : List L) → length outs ≡ length layout.blocks
        → HasRooms capacity (λ b. out_count (node_at net b)) outs → HasRooms capacity (λ b. length (links_from layout b)) outs
    outs_roomy capacity outs long rooms i d small =
        let count = outs_many layout meaning i (node_at net i) (laws i (omega (arith, long, small))) in
        let room = rooms i d small in
        omega (arith, count, room)

    pub ins_none : {V : Type 0} (say : ℕ → V)
        → map (λ b. map (λ p. []) (below (length (node_at net b).block.ports))) (below (length layout.blocks)) ≡ ins_dealt layout say 0
    ins_none {V} say =
        all_same (λ b. map (λ p. []) (below (length (node_at net b).block.ports))) (ports_dealt layout say 0) (length layout.blocks)
        (λ b small.
        ap (λ (n : ℕ). map {B = List V} (λ p. []) (below n)) (sym (ports_many layout meaning b (node_at net b) (laws b small))))

    pub ins_roomy : {B L V : Type 0} (ports_of : B → List L) (shown : L → V) (capacity : L → ℕ) (none : V) (ins : List B)
        → map (λ b. map shown (ports_of b)) ins
        ≡ map (λ b. map (λ p. none) (below (length (node_at net b).block.ports))) (below (length layout.blocks))
        → HasRoomsIn ports_of capacity (λ b p. in_count p (node_at net b)) ins
        → HasRoomsIn ports_of capacity (λ b p. length (links_to layout b p)) ins
    ins_roomy ports_of shown capacity none ins are rooms i d small p e low =
        let many = count_is (λ b. map shown (ports_of b)) (λ b. map (λ q. none) (below (length (node_at net b).block.ports))) (length layout.blocks) ins are in
        let within : i < length layout.blocks = omega (arith, many, small) in
        let ports = at_place (λ b. map shown (ports_of b)) (λ b. map (λ q. none) (below (length (node_at net b).block.ports))) (length layout.blocks) ins i d are within in
        let wide = count_is shown (λ q. none) (length (node_at net i).block.ports) (ports_of (slice_index_or ins i d)) ports in
        let count = ins_many layout meaning i (node_at net i) (laws i within) p (omega (arith, wide, low)) in
        let room = rooms i d small p e low in
        omega (arith, count, room)
