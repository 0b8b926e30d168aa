-- For which moves an id is left: for each that an end of a link would make, but where an input has used up its ids. There
-- something would happen next for which none is left, and no move that has an id is the source's.
use Rattle.std.proofs.Common.{◌≡◌, ℕ, ◌<◌, ◌^◌, ◌&&◌, not, ltb, Bool, true, false, List, [], ◌∷◌, length}
use Rattle.std.proofs.Common.{Option, Some, Result, refl, sym, ◌∙◌, subst, arith, ltb-true, lt-ltb}
use Rattle.std.proofs.Math.Bridge.{le_prop}
use Rattle.std.proofs.Math.Logic.{∥∥₁_elim}
use Rattle.std.proofs.lemmas.Bool.{and_parts}
use Rattle.flow_value.specs.declared.value.Value.{Value}
use Rattle.flow_link.specs.declared.phase.Move.{Move}
use Rattle.flow_link.specs.declared.phase.Move.TheVariants as move
use Rattle.flow_link.specs.declared.plan.LinkSource.{LinkSource}
use Rattle.flow_link.specs.declared.plan.LinkSource.TheVariants.{Block, Input}
use Rattle.flow_link.specs.declared.plan.LinkTarget.{LinkTarget}
use Rattle.flow_link.specs.declared.plan.LinkTarget.TheVariants.{Port, Exit}
use Rattle.flow_link.specs.declared.stage.SourceStage.{SourceStage}
use Rattle.flow_link.specs.declared.stage.SourceStage.TheVariants.{Free}
use Rattle.flow_link.specs.Layout.{Layout}
use Rattle.flow_link.specs.Plan.{link_in, is_one_taker}
use Rattle.flow_outlet.specs.End.{is_free}
use Rattle.flow_outlet.specs.Outlet.{is_empty}
use Rattle.flow_outlet.proofs.OffersInOrder.{offers_in_order}
use Rattle.flow_block_law.specs.Copier.{Copier}
use Rattle.flow_input.specs.Input.{InputState, has_next, next_id, input_move, move_from}
use Rattle.flow_input.specs.InputKeeps.{MayMoveInput}
use Rattle.flow_block_law.specs.NextCopies.{MayMoveCopy}
use Rattle.flow_block_law.specs.NextMoves.{MayMoveOut, next_source}
use Rattle.flow_block.specs.Node.{NodeState}
use Rattle.flow_block_law.specs.NodeLaw.{NodeLaw}
use Rattle.flow_block.specs.Planned.{out_place}
use Rattle.flow_block.specs.Routes.{source_place, target_place}
use Rattle.flow_block_law.proofs.CopierHolds.{copies_lawful}
use Rattle.flow_input.proofs.InputsMove.{inputs_keep}
use Rattle.flow_block_law.proofs.NextMoves.{next_moves_may}
use Rattle.flow_core.specs.Events.{NetEvent, LinkMay, HasIds, is_of_source, source_peek, target_peek, peek_by}
use Rattle.flow_core.specs.Keeps.{IsRun, NetKeeps}
use Rattle.flow_core.specs.State.{NetState, node_at, input_at}
use Rattle.flow_core.proofs.NextIsAllowed.{of_target}
use Rattle.flow_core.proofs.PlacesOfLinks.{exit_there, copy_there}
use Rattle.flow_core.proofs.SourcesByKind.{shared_next, copied_next}
use Rattle.flow_moves.specs.Statements.{source_would, target_would}
use Rattle.flow_moves.specs.Ways.{source_next, target_next, input_lacks_id, lacks_id, input_in}
use Rattle.flow_moves.proofs.MerelyKept.{sources_may, targets_may}
use Rattle.flow_net.specs.There.{IsDue, NeedsId}

-- What an end may do is what it would do next

module _ {W : Type 0} (layout : Layout W) (net : NetState) (l : ℕ) where
  -- an end's peek is the same by the link and by the link's way
  source_peeks : (source : LinkSource)
      → source_peek layout net l source ≡ source_next net source (source_place layout source l)
  source_peeks (Block s) = refl
  source_peeks (Input b) = refl

  target_peeks : (target : LinkTarget)
      → target_peek layout net l target ≡ target_next net target (target_place layout target l)
  target_peeks (Port t p) = refl
  target_peeks Exit = refl

  module _ (next : Move) where
    peek_by_end : (by_source : Bool) → LinkMay layout net l next → is_of_source next ≡ by_source
        → peek_by layout by_source net l (link_in layout.links l) ≡ Some next
    peek_by_end by_source may e =
        subst (λ (b : Bool). peek_by layout b net l (link_in layout.links l) ≡ Some next) e may.peek

    pub source_would_do : LinkMay layout net l next → is_of_source next ≡ true → source_would layout net l ≡ Some next
    source_would_do may e = sym (source_peeks (link_in layout.links l).source) ∙ peek_by_end true may e

    pub target_would_do : LinkMay layout net l next → is_of_source next ≡ false → target_would layout net l ≡ Some next
    target_would_do may e = sym (target_peeks (link_in layout.links l).target) ∙ peek_by_end false may e

    -- and what an end would do is its own move
    would_be_of_target : target_would layout net l ≡ Some next → is_of_source next ≡ false
    would_be_of_target would = of_target layout net l next (target_peeks (link_in layout.links l).target ∙ would)

-- An input that lacks an id would make an offer for which none is left

record OffersWithout (would : Option Move) : Type 0 where
  pub id : ℕ
  pub offers : would ≡ Some (move.Offer id)
  pub none_left : id < 2 ^ 59 → ⊥

free_offers : (input : InputState) (stage : SourceStage) → is_free stage ≡ true → has_next input ≡ true
    → move_from input stage ≡ Some (move.Offer (next_id input))
free_offers input Free here there = rw there refl
free_offers input _ here there = absurd (cc)

not_below : (i bound : ℕ) → not (ltb i bound) ≡ true → i < bound → ⊥
not_below i bound e low = let below = lt-ltb i bound low in absurd (cc)

input_offers : (input : InputState) → input_lacks_id input ≡ true → OffersWithout (input_move input)
input_offers input e =
    let wanting = not (ltb (next_id input) (2 ^ 59)) in
    let parts = and_parts (is_free input.stage && has_next input) wanting e in
    let at_home = and_parts (is_free input.stage) (has_next input) parts.0 in
    record {
      id = next_id input;
      offers = free_offers input input.stage at_home.0 at_home.1;
      none_left = not_below (next_id input) (2 ^ 59) parts.1;
    }

source_offers : (net : NetState) (source : LinkSource) (k : ℕ) → lacks_id net source k ≡ true
    → OffersWithout (source_next net source k)
source_offers net (Block s) k e = absurd (cc)
source_offers net (Input b) k e = input_offers (input_in net k) e

-- where none is lacking, one is left for what it offers
left_where : (a b c : Bool) → a ≡ true → b ≡ true → (a && b && not c) ≡ false → c ≡ true
left_where true true true here there e = refl
left_where true true false here there e = absurd (cc)
left_where true false c here there e = absurd (cc)
left_where false b c here there e = absurd (cc)

not_empty : (values : List Value) → is_empty values ≡ false → 0 < length values
not_empty [] e = absurd (cc)
not_empty (value ∷ values) e = omega arith

module _ {W : Type 0} (layout : Layout W) (meaning : ℕ → Value → Result (List Value) ℕ) (net : NetState) (l : ℕ) where
  abbrev IdIsLeft : Move → Type 0
  IdIsLeft next = HasIds layout meaning (NetEvent.at_link l next) net

  id_prop : (next : Move) → IsProp (IdIsLeft next)
  id_prop (move.Offer id) = le_prop
  id_prop _ = hlevel

  -- no target's move needs one
  pub id_for_target : (next : Move) → is_of_source next ≡ false → IdIsLeft next
  id_for_target (move.Offer id) e = absurd (cc)
  id_for_target _ e = tt

  id_for_input : (input : InputState) → input_lacks_id input ≡ false → (next : Move) → MayMoveInput input next
      → IdIsLeft next
  id_for_input input left (move.Offer id) may =
      let low = left_where (is_free input.stage) (has_next input) (ltb (next_id input) (2 ^ 59)) may.1.is_at_home may.1.there left in
      subst (λ (i : ℕ). i < 2 ^ 59) (sym may.0) (ltb-true (next_id input) (2 ^ 59) low)
  id_for_input input left _ may = tt

  -- what a block made has its ids
  id_for_block : (b : ℕ) (node : NodeState) → NodeLaw layout meaning b node → (k : ℕ) (next : Move)
      → MayMoveOut layout meaning b node k next → IdIsLeft next
  id_for_block b node law k (move.Offer id) may =
      let exits = node.block.exits in
      let some_left = not_empty exits.left ((offers_in_order.named exits k).0 may.1.next).some_left in
      let ids = law.exits.law.ids in
      let low : exits.next < 2 ^ 59 = omega (arith, some_left, ids) in
      subst (λ (i : ℕ). i < 2 ^ 59) (sym may.0) low
  id_for_block b node law k _ may = tt

  -- and so has what a block copies
  id_for_copy : (b : ℕ) (node : NodeState) → Copier layout b node.block node.journal → (k : ℕ) (next : Move)
      → MayMoveCopy k node next → IdIsLeft next
  id_for_copy b node copier k (move.Offer id) may =
      subst (λ (i : ℕ). i < 2 ^ 59) (sym may.0) (copies_lawful layout b node.block node.journal copier).ids
  id_for_copy b node copier k _ may = tt

  module _ (runs : IsRun layout) (keeps : NetKeeps layout meaning net) (there : l < length layout.links) (next : Move) where
    id_for_exit : (s : ℕ) → (link_in layout.links l).source ≡ Block s → next_source (out_place layout s l) (node_at net s) ≡ Some next
        → (sharing : Bool) → is_one_taker (node_at net s).block.kind ≡ sharing → IdIsLeft next
    id_for_exit s from would true shares =
        let node = node_at net s in
        let low = runs.leads.from_block l s there from in
        let law = keeps.nodes s low in
        let place = exit_there layout meaning s node law l there from shares in
        let k = out_place layout s l in
        id_for_block s node law k next
        ((next_moves_may layout meaning s node runs.well_formed low law).1 k next place (sym (shared_next k node shares) ∙ would))
    id_for_exit s from would false copying =
        let node = node_at net s in
        let low = runs.leads.from_block l s there from in
        let law = keeps.nodes s low in
        let place = copy_there layout meaning s node law l there from copying in
        let k = out_place layout s l in
        id_for_copy s node (law.copies.copier copying) k next
        ((next_moves_may layout meaning s node runs.well_formed low law).2 k next place (sym (copied_next k node copying) ∙ would))

    id_for_source : (source : LinkSource) → (link_in layout.links l).source ≡ source
        → lacks_id net source (source_place layout source l) ≡ false
        → source_next net source (source_place layout source l) ≡ Some next → IdIsLeft next
    id_for_source (Block s) from left would =
        id_for_exit s from would (is_one_taker (node_at net s).block.kind) refl
    id_for_source (Input b) from left would =
        let input = input_at layout net b in
        let law = keeps.inputs b (runs.leads.from_input l b there from) (runs.leads.from_inputs l b there from) in
        id_for_input input left next (inputs_keep.next input next law would)

-- Of a network that merely is in order

module _ {W : Type 0} (layout : Layout W) (meaning : ℕ → Value → Result (List Value) ℕ) (net : NetState) (l : ℕ)
    (kept : ∥ NetKeeps layout meaning net ∥₁) (runs : IsRun layout) (there : l < length layout.links) where
  -- the source lacks an id for what it would do
  abbrev pub lacks_id_at : Bool
  lacks_id_at = lacks_id net (link_in layout.links l).source (source_place layout (link_in layout.links l).source l)

  -- what an end would do is due
  pub source_is_due : (next : Move) → lacks_id_at ≡ false → source_would layout net l ≡ Some next
      → IsDue layout meaning net (NetEvent.at_link l next)
  source_is_due next left would = record {
    enabled = sources_may layout meaning net kept runs l next there would;
    id = ∥∥₁_elim kept (id_prop layout meaning net l next)
        (λ keeps. id_for_source layout meaning net l runs keeps there next (link_in layout.links l).source refl left would);
  }

  pub target_is_due : (next : Move) → target_would layout net l ≡ Some next
      → IsDue layout meaning net (NetEvent.at_link l next)
  target_is_due next would = record {
    enabled = targets_may layout meaning net kept runs l next there would;
    id = id_for_target layout meaning net l next (would_be_of_target layout net l next would);
  }

  -- where the source lacks an id, something would happen for which none is left
  module _ (lacks : lacks_id_at ≡ true) where
    offer : OffersWithout (source_would layout net l)
    offer = source_offers net (link_in layout.links l).source (source_place layout (link_in layout.links l).source l) lacks

    pub needs_id : NeedsId layout meaning net
    needs_id = record {
      event = NetEvent.at_link l (move.Offer offer.id);
      enabled = sources_may layout meaning net kept runs l (move.Offer offer.id) there offer.offers;
      none_left = offer.none_left;
    }

    -- nor is any of its moves enabled whose message has an id
    pub not_enabled : (next : Move) → is_of_source next ≡ true → IdIsLeft layout meaning net l next → LinkMay layout net l next → ⊥
    not_enabled next is id may =
        let both = sym (source_would_do layout net l next may is) ∙ offer.offers in
        let same : next ≡ move.Offer offer.id = cc in
        offer.none_left (subst (IdIsLeft layout meaning net l) same id)
