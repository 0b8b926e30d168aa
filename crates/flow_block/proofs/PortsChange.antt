-- What a change of one port, or the same change of all, leaves of the ports and of their ends.
use Rattle.std.proofs.Common.{◌≡◌, ◌≢◌, ℕ, zero, suc, ◌-◌, ◌<◌, List, [], ◌∷◌, length, set, map, get_or, None, refl, ap, sym, ◌∙◌, inl, inr, arith}
use Rattle.std.proofs.lemmas.Bool.{cases_eq}
use Rattle.std.proofs.lemmas.List.{get_or-map as map_at, length-map, length-set, get_or-set_same, get_or-set_other}
use Rattle.std.proofs.Math.ListN.{get_or-map}
use Rattle.std.proofs.Math.Seq.{map-set_same}
use Rattle.flow_intake.specs.Port.{EndState, PortState, fresh_end, fresh_port, end_in}
use Rattle.flow_intake.specs.Calls.{gives_room}
use Rattle.flow_block.specs.Block.{port_in}

-- where no room comes back, all ports stay
pub no_room_back : (ports : List PortState) → ports ≡ map (gives_room 0) ports
no_room_back [] = refl
no_room_back (port ∷ ports) =
    let same : port.load ≡ port.load - 0 = omega arith in
    ap (λ (more : List PortState). port ∷ more) (no_room_back ports)
    ∙ ap (λ (load : ℕ). record port { load = load } ∷ map (gives_room 0) ports) same

-- what one port's change leaves of that port, it leaves of all
pub kept_at_one : {A : Type 0} (f : PortState → A) (ports : List PortState) (p q : ℕ) (port : PortState)
    → f port ≡ f (port_in ports p) → f (port_in (set ports p port) q) ≡ f (port_in ports q)
kept_at_one f ports p q port same =
    sym (get_or-map f (set ports p port) q (fresh_port None))
    ∙ ap (λ fs. get_or fs q (f (fresh_port None))) (map-set_same f ports p port (fresh_port None) same)
    ∙ get_or-map f ports q (fresh_port None)

pub kept_at_all : {A : Type 0} (f : PortState → A) (change : PortState → PortState) (ports : List PortState) (q : ℕ)
    → ((port : PortState) → f (change port) ≡ f port) → f (port_in (map change ports) q) ≡ f (port_in ports q)
kept_at_all f change [] q same = refl
kept_at_all f change (port ∷ ports) zero same = same port
kept_at_all f change (port ∷ ports) (suc q) same = kept_at_all f change ports q same

-- what holds of the changed port, and of each as it was, holds of each
pub each_after_one : (P : ℕ → PortState → Type 0) (ports : List PortState) (p : ℕ) (port : PortState)
    → (p < length ports → P p port)
    → ((q : ℕ) → q < length ports → q ≢ p → P q (port_in ports q))
    → (q : ℕ) → q < length (set ports p port) → P q (port_in (set ports p port) q)
each_after_one P ports p port here each q there =
    let below : q < length ports = omega (arith, there, length-set ports p port) in
    elim (cases_eq q p) [
      | inl same ↦
          let small : p < length ports = rw (sym same) below in
          rw (same, get_or-set_same ports p port (fresh_port None) small) (here small)
      | inr other ↦ rw (get_or-set_other ports p q port (fresh_port None) other) (each q below other)
    ]

pub each_after_all : (P : ℕ → PortState → Type 0) (change : PortState → PortState) (ports : List PortState)
    → ((q : ℕ) → q < length ports → P q (change (port_in ports q)))
    → (q : ℕ) → q < length (map change ports) → P q (port_in (map change ports) q)
each_after_all P change ports each q there =
    let below : q < length ports = omega (arith, there, length-map ports change) in
    rw (map_at change ports q (fresh_port None) (fresh_port None) below) (each q below)

-- each port changed
pub port_of_map : (change : PortState → PortState) (ports : List PortState) (p : ℕ) → p < length ports
    → port_in (map change ports) p ≡ change (port_in ports p)
port_of_map change ports p below = map_at change ports p (fresh_port None) (fresh_port None) below

-- a port is replaced by one whose end at a place has moved
module _ (ports : List PortState) (p k : ℕ) (port : PortState) (end : EndState) (below : p < length ports)
    (moved : port.ends ≡ set (port_in ports p).ends k end) where
  read_there : (j : ℕ) → end_in j (port_in (set ports p port) p).ends ≡ end_in j (set (port_in ports p).ends k end)
  read_there j =
      ap (λ (r : PortState). end_in j r.ends) (get_or-set_same ports p port (fresh_port None) below)
      ∙ ap (end_in j) moved

  pub end_there : k < length (port_in ports p).ends → end_in k (port_in (set ports p port) p).ends ≡ end
  end_there there = read_there k ∙ get_or-set_same (port_in ports p).ends k end (fresh_end 0) there

  pub end_elsewhere : (q j : ℕ) → ¬ ((q ≡ p) × (j ≡ k))
      → end_in j (port_in (set ports p port) q).ends ≡ end_in j (port_in ports q).ends
  end_elsewhere q j apart = elim (cases_eq q p) [
    | inl same ↦ elim (cases_eq j k) [
      | inl at ↦ absurd (apart (same, at))
      | inr other ↦
          rw same (read_there j ∙ get_or-set_other (port_in ports p).ends k j end (fresh_end 0) other)
    ]
    | inr other ↦ ap (λ (r : PortState). end_in j r.ends) (get_or-set_other ports p q port (fresh_port None) other)
  ]
