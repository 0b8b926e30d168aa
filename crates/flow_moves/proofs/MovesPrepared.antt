-- A move for which memory is set aside first leaves what the move alone does.
use Rattle.std.proofs.Common.{◌≡◌, ℕ, zero, suc, ◌<◌, List, [], ◌∷◌, length, set, get_or, drop, ltb, true, None, is_some, refl, ap, ltb-true, ◌∙◌, arith}
use Rattle.std.proofs.lemmas.List.{get_or-set_same}
use Rattle.flow_value.specs.declared.value.Value.{Value}
use Rattle.flow_intake.specs.Port.{PortState, fresh_port}
use Rattle.flow_intake.specs.Calls.{prepared, first_of}
use Rattle.flow_block.specs.Block.{port_at, with_port}
use Rattle.flow_block.specs.Node.{NodeState, with_block}

set_again : {A : Type 0} (xs : List A) (i : ℕ) (x y : A) → set (set xs i x) i y ≡ set xs i y
set_again [] i x y = refl
set_again (a ∷ xs) zero x y = refl
set_again (a ∷ xs) (suc i) x y = ap (◌∷◌ a) (set_again xs i x y)

-- a port is prepared, and then changes in a way that forgets that
pub prepared_then : (p : ℕ) (change : PortState → PortState) (old mid new : NodeState) → p < length old.block.ports
    → ((port : PortState) → change (prepared port) ≡ change port)
    → mid ≡ with_block (with_port p prepared old.block) old
    → new ≡ with_block (with_port p change mid.block) mid
    → new ≡ with_block (with_port p change old.block) old
prepared_then p change old mid new here forgets mid_is new_is =
    let ports = old.block.ports in
    let there = port_at p old.block in
    let found : get_or (set ports p (prepared there)) p (fresh_port None) ≡ prepared there =
    get_or-set_same ports p (prepared there) (fresh_port None) here in
    let ports_are : set (set ports p (prepared there)) p (change (get_or (set ports p (prepared there)) p (fresh_port None)))
    ≡ set ports p (change there) =
    ap (λ (port : PortState). set (set ports p (prepared there)) p (change port)) found
    ∙ set_again ports p (prepared there) (change (prepared there))
    ∙ ap (set ports p) (forgets there) in
    new_is
    ∙ ap (λ (node : NodeState). with_block (with_port p change node.block) node) mid_is
    ∙ ap (λ (all : List PortState). record old { block = record old.block { ports = all } }) ports_are

-- where a next value is there, it is found
next_within : (sent : ℕ) (posted : List Value) → sent < length posted → is_some (first_of (drop sent posted)) ≡ true
next_within zero [] there = absurd (omega (arith, there))
next_within zero (value ∷ posted) there = refl
next_within (suc sent) [] there = absurd (omega (arith, there))
next_within (suc sent) (value ∷ posted) there = next_within sent posted (omega (arith, there))

pub next_is_there : (sent : ℕ) (posted : List Value) → ltb sent (length posted) ≡ true → is_some (first_of (drop sent posted)) ≡ true
next_is_there sent posted there = next_within sent posted (ltb-true sent (length posted) there)
