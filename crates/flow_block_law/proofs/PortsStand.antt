-- Where each end of its ports is the one that its link names, a block stands at each link into it as its end does.
use Rattle.std.proofs.Common.{◌≡◌, ℕ, ◌<◌, ◌&&◌, Bool, true, false, List, [], ◌∷◌, zero, suc, ◌≤◌, inl, inr, get_or, length, Option, Some, None, is_some, refl, ap, ap₂, sym, ◌∙◌, arith, eq-eqb}
use Rattle.std.proofs.lemmas.Bool.{cases_lt}
use Rattle.flow_link.specs.Lists.{below}
use Rattle.flow_link.specs.declared.stage.TargetStage.{TargetStage}
use Rattle.flow_link.specs.declared.stage.TargetStage.TheVariants as target
use Rattle.flow_intake.specs.Port.{EndState, PortState, fresh_end, end_in, link_in, stage_at, is_coming, coming}
use Rattle.flow_intake.specs.Calls.{next_place, is_at as is_place}
use Rattle.flow_intake.specs.ByLink.{next_wish, wish_at, wish_from}
use Rattle.flow_block.specs.Block.{port_in}
use Rattle.flow_block_law.specs.Stands.{OwnPorts, PortsStandInOrder}
use Rattle.flow_block.specs.Traits.{shown_over, port_shown, port_into, target_over, names_itself, leads_to, wishes_at, wishing_port}
use Rattle.flow_block_law.proofs.NothingComes.{none_counted}
use Rattle.flow_link.proofs.PlacesNamed.{place_none}
use Rattle.flow_block.proofs.TargetMoves.{shown_is, number_at, below_count}

beyond_end : (ends : List EndState) (k : ℕ) → length ends ≤ k → end_in k ends ≡ fresh_end 0
beyond_end [] k l = refl
beyond_end (end ∷ ends) zero l = absurd (omega (arith, l))
beyond_end (end ∷ ends) (suc k) l = beyond_end ends k (omega (arith, l))

module _ (ports : List PortState) (own : OwnPorts ports) where
  stage_is : (p k : ℕ) → p < length ports → k < length (port_in ports p).ends
      → target_over ports (link_in k (port_in ports p).ends) ≡ stage_at k (port_in ports p)
  stage_is p k l there =
      let port = port_in ports p in
      let link = link_in k port.ends in
      let mine = own p k l there in
      let some : 0 < length ports = omega (arith, l) in
      shown_is ports link some
      ∙ ap (λ (q : ℕ). shown_over (port_in ports q) link) mine.port
      ∙ ap (λ (place : Option ℕ). port_shown place port) mine.place

  rests : (p : ℕ) → p < length ports
      → ((link : ℕ) → port_into link ports ≡ p → is_coming (target_over ports link) ≡ false)
      → coming (port_in ports p) ≡ 0
  rests p l none =
      let ends = (port_in ports p).ends in
      none_counted ends (λ k there.
      ap is_coming (sym (stage_is p k l there)) ∙ none (link_in k ends) (own p k l there).port)

  -- a port that would consume an offer is found
  wishes_where : (p : ℕ) → p < length ports → (place : Option ℕ) → next_place (port_in ports p) ≡ place → is_some (wish_at place (port_in ports p)) ≡ true
      → wishes_at ports p ≡ true
  wishes_where p l None is some = absurd (cc)
  wishes_where p l (Some k) is some = elim (cases_lt k (length (port_in ports p).ends)) [
    | inl there ↦
        let port = port_in ports p in
        let mine = own p k l there in
        ap₂ (λ (a b : Bool). a && b)
        (ap (λ (place : Option ℕ). names_itself place port) is
        ∙ ap (λ (place : Option ℕ). is_place k place) mine.place ∙ eq-eqb k k refl)
        (ap (λ (place : Option ℕ). leads_to p (wish_at place port) ports) is ∙ leads_where (link_in k port.ends) (stage_at k port) some mine.port)
    | inr far ↦
        let none : is_some (wish_at (Some k) (port_in ports p)) ≡ false =
        ap (λ (end : EndState). is_some (wish_from end.link end.stage)) (beyond_end (port_in ports p).ends k far) in
        absurd (cc)
  ]
    where
      leads_where : (link : ℕ) (stage : TargetStage) → is_some (wish_from link stage) ≡ true → port_into link ports ≡ p
          → leads_to p (wish_from link stage) ports ≡ true
      leads_where link (target.Postponed i) some is = eq-eqb (port_into link ports) p is
      leads_where link _ some is = absurd (cc)

  none_wishes : wishing_port ports ≡ None → (p : ℕ) → p < length ports → next_wish (port_in ports p) ≡ None
  none_wishes none p l = at (next_wish (port_in ports p)) refl
    where
      at : (offer : Option (ℕ × ℕ)) → next_wish (port_in ports p) ≡ offer → next_wish (port_in ports p) ≡ None
      at None is = is
      at (Some offer) is =
          let found : wishes_at ports p ≡ true = wishes_where p l (next_place (port_in ports p)) refl (ap is_some is) in
          let missed : wishes_at ports (get_or (below (length ports)) p 0) ≡ false =
          place_none (wishes_at ports) (below (length ports)) 0 none p (omega (arith, l, below_count (length ports))) in
          let same : wishes_at ports (get_or (below (length ports)) p 0) ≡ true = ap (wishes_at ports) (number_at (length ports) p l) ∙ found in
          absurd (cc)

pub ports_stand_in_order : PortsStandInOrder
ports_stand_in_order ports own = record { stages = stage_is ports own; at_rest = rests ports own; wishes = none_wishes ports own }
