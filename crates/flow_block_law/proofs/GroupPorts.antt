-- What a group that is made leaves of the ports: all of each but what waits there.
use Rattle.std.proofs.Common.{◌≡◌, ℕ, zero, suc, ◌+◌, ◌<◌, List, [], ◌∷◌, length, map, set, take, Option, option_map, refl, ap, sym, ◌∙◌, arith, subst}
use Rattle.flow_value.specs.declared.value.Value.{Value}
use Rattle.flow_intake.specs.Port.{PortState}
use Rattle.flow_group.specs.Group.{came_at, takes_first, takes_from, takes_group}
use Rattle.flow_group.proofs.GroupsCut.{as_many_taken}
use Rattle.flow_block.specs.Block.{port_in}
use Rattle.flow_block.specs.Groups.{waiting_in_all}
use Rattle.flow_block.specs.Peeks.{link_fault, fault_at_ports}
use Rattle.flow_intake.specs.Ended.{of_lower_link, fault_at_ends}

module _ (group : List ℕ) where
  kept_from : {A : Type 0} (f : PortState → A) (first : ℕ) (ports : List PortState) (q : ℕ)
      → ((count : ℕ) (port : PortState) → f (takes_first count port) ≡ f port)
      → f (port_in (takes_from first group ports) q) ≡ f (port_in ports q)
  kept_from f first [] q same = refl
  kept_from f first (port ∷ ports) zero same = same (came_at first group) port
  kept_from f first (port ∷ ports) (suc q) same = kept_from f (suc first) ports q same

  port_from : (first : ℕ) (ports : List PortState) (q : ℕ) → q < length ports
      → port_in (takes_from first group ports) q ≡ takes_first (came_at (first + q) group) (port_in ports q)
  port_from first [] q there = absurd (omega (arith, there))
  port_from first (port ∷ ports) zero there =
      let same : first ≡ first + 0 = omega arith in
      ap (λ (p : ℕ). takes_first (came_at p group) port) same
  port_from first (port ∷ ports) (suc q) there =
      let same : suc first + q ≡ first + suc q = omega arith in
      port_from (suc first) ports q (omega (arith, there))
      ∙ ap (λ (p : ℕ). takes_first (came_at p group) (port_in ports q)) same

  seen_from : (first : ℕ) (ports : List PortState) → link_fault (takes_from first group ports) ≡ link_fault ports
  seen_from first [] = refl
  seen_from first (port ∷ ports) =
      ap (λ (later : Option (ℕ × ℕ)). of_lower_link (fault_at_ends port.ends) later) (seen_from (suc first) ports)

module _ (size : ℕ) (order : List ℕ) where
  pub seen_by_group : (ports : List PortState) → fault_at_ports (takes_group size order ports) ≡ fault_at_ports ports
  seen_by_group ports =
      ap (λ (fault : Option (ℕ × ℕ)). option_map (λ (f : ℕ × ℕ). f.1) fault) (seen_from (take size order) 0 ports)

  pub length_by_group : (ports : List PortState) → length (takes_group size order ports) ≡ length ports
  length_by_group ports = as_many_taken 0 (take size order) ports

  pub kept_by_group : {A : Type 0} (f : PortState → A) (ports : List PortState) (q : ℕ)
      → ((count : ℕ) (port : PortState) → f (takes_first count port) ≡ f port)
      → f (port_in (takes_group size order ports) q) ≡ f (port_in ports q)
  kept_by_group f ports q same = kept_from (take size order) f 0 ports q same

  pub each_after_group : (P : ℕ → PortState → Type 0) (ports : List PortState)
      → ((q count : ℕ) → q < length ports → P q (takes_first count (port_in ports q)))
      → (q : ℕ) → q < length (takes_group size order ports) → P q (port_in (takes_group size order ports) q)
  each_after_group P ports each q there =
      let below : q < length ports = subst (λ (count : ℕ). q < count) (length_by_group ports) there in
      subst (λ (port : PortState). P q port) (sym (port_from (take size order) 0 ports q below))
      (each q (came_at (0 + q) (take size order)) below)

-- as many wait at all ports, where all hold what they held

pub waiting_at_one : (ports : List PortState) (p : ℕ) (port : PortState) → port.waiting ≡ (port_in ports p).waiting
    → waiting_in_all (set ports p port) ≡ waiting_in_all ports
waiting_at_one [] p port same = refl
waiting_at_one (first ∷ ports) zero port same = ap (λ (held : List Value). length held + waiting_in_all ports) same
waiting_at_one (first ∷ ports) (suc p) port same =
    ap (λ (rest : ℕ). length first.waiting + rest) (waiting_at_one ports p port same)

pub waiting_at_all : (change : PortState → PortState) (ports : List PortState)
    → ((port : PortState) → (change port).waiting ≡ port.waiting)
    → waiting_in_all (map change ports) ≡ waiting_in_all ports
waiting_at_all change [] same = refl
waiting_at_all change (port ∷ ports) same = rw (same port, waiting_at_all change ports same) refl
