-- Where nothing comes at a port, nothing comes over a link into it; and where nothing comes at any end, nothing comes.
use Rattle.std.proofs.Common.{◌≡◌, ℕ, zero, suc, ◌+◌, ◌<◌, ◌≤◌, ◌==◌, Bool, true, false, cond, List, [], ◌∷◌, length, Option, Some, None, inl, inr, refl, ap, ◌∙◌, arith, eqb-true}
use Rattle.std.proofs.lemmas.Bool.{cases_lt}
use Rattle.flow_link.specs.declared.stage.Refusal.{Refusal}
use Rattle.flow_intake.specs.Port.{EndState, PortState, fresh_port, stage_in, is_coming, count_at, coming}
use Rattle.flow_intake.specs.ByLink.{place_of as port_place}
use Rattle.flow_intake.specs.Calls.{refused_by}
use Rattle.flow_block.specs.Block.{port_in}
use Rattle.flow_block.specs.Peeks.{nothing_comes}
use Rattle.flow_block_law.specs.Stands.{PortsAtRest}
use Rattle.flow_block.specs.Traits.{shown_over, port_shown, port_into, target_over}
use Rattle.flow_link.proofs.TestsTell.{every_tells}

-- at no end does a message come
pub none_counted : (ends : List EndState) → ((k : ℕ) → k < length ends → is_coming (stage_in k ends) ≡ false)
    → count_at is_coming ends ≡ 0
none_counted [] none = refl
none_counted (end ∷ ends) none =
    let first : is_coming end.stage ≡ false = none 0 (omega arith) in
    let rest = none_counted ends (λ k l. none (suc k) (omega (arith, l))) in
    rw first (omega (arith, rest))

uncounted : (comes : Bool) (others : ℕ) → cond comes 1 0 + others ≡ 0 → comes ≡ false
uncounted true others none = absurd (omega (arith, none))
uncounted false others none = refl

none_at : (ends : List EndState) (k : ℕ) → count_at is_coming ends ≡ 0 → is_coming (stage_in k ends) ≡ false
none_at [] k none = refl
none_at (end ∷ ends) zero none = uncounted (is_coming end.stage) (count_at is_coming ends) none
none_at (end ∷ ends) (suc k) none = none_at ends k (omega (arith, none))

refused_comes_not : (refusing : Option Refusal) → is_coming (refused_by refusing) ≡ false
refused_comes_not None = refl
refused_comes_not (Some why) = refl

none_shown : (port : PortState) (place : Option ℕ) → coming port ≡ 0 → is_coming (port_shown place port) ≡ false
none_shown port None none = refused_comes_not port.refusing
none_shown port (Some k) none = none_at port.ends k none

over_link : (ports : List PortState) (p : ℕ) → coming (port_in ports p) ≡ 0 → (link : ℕ) → port_into link ports ≡ p
    → is_coming (target_over ports link) ≡ false
over_link [] p none link into = refl
over_link (port ∷ ports) p none link into =
    let all = port ∷ ports in
    ap (λ (q : ℕ). is_coming (shown_over (port_in all q) link)) into
    ∙ none_shown (port_in all p) (port_place link (port_in all p).ends) none

beyond_ports : (ports : List PortState) (p : ℕ) → length ports ≤ p → coming (port_in ports p) ≡ 0
beyond_ports [] p l = refl
beyond_ports (port ∷ ports) zero l = absurd (omega (arith, l))
beyond_ports (port ∷ ports) (suc p) l = beyond_ports ports p (omega (arith, l))

none_at_port : (ports : List PortState) (p : ℕ) → nothing_comes ports ≡ true → coming (port_in ports p) ≡ 0
none_at_port ports p none = elim (cases_lt p (length ports)) [
  | inl there ↦
      eqb-true (coming (port_in ports p)) 0
      (every_tells (λ (port : PortState). coming port == 0) ports (fresh_port None) p none there)
  | inr far ↦ beyond_ports ports p far
]

pub ports_come_to_rest : PortsAtRest
ports_come_to_rest = record {
  over_a_link = over_link;
  over_all_links = λ ports none link. over_link ports (port_into link ports) (none_at_port ports (port_into link ports) none) link refl;
}
