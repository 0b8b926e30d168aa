-- Of a complete join one port has ended.
use Rattle.std.proofs.Common.{◌≡◌, ℕ, ◌<◌, true, suc, List, [], ◌∷◌, length, ⊎_elim, arith}
use Rattle.std.proofs.lemmas.Bool.{and_parts, or_cases}
use Rattle.std.specs.List.{list_any}
use Rattle.flow_intake.specs.Port.{PortState}
use Rattle.flow_intake.specs.PortLaw.{has_ended as has_port_ended}
use Rattle.flow_outlet.specs.Outlet.{is_empty}
use Rattle.flow_group.specs.Tuple.{has_run_dry, is_join_complete, all_ended as ports_ended}
use Rattle.flow_block.specs.Block.{port_in}

pub record HasEnded (ports : List PortState) : Type 0 where
  pub place : ℕ
  pub there : place < length ports
  pub ended : has_port_ended (port_in ports place).refusing ≡ true

one_on : (port : PortState) (ports : List PortState) → HasEnded ports → HasEnded (port ∷ ports)
one_on port ports has = record { place = suc has.place; there = omega (arith, has.there); ended = has.ended }

dry_has_ended : (ports : List PortState) → list_any has_run_dry ports ≡ true → HasEnded ports
dry_has_ended [] e = absurd (cc)
dry_has_ended (port ∷ ports) e =
    ⊎_elim
    (λ here. record { place = 0; there = omega arith; ended = (and_parts (has_port_ended port.refusing) (is_empty port.waiting) here).0 })
    (λ later. one_on port ports (dry_has_ended ports later))
    (or_cases (has_run_dry port) (list_any has_run_dry ports) e)

all_have_ended : (ports : List PortState) → 0 < length ports → ports_ended ports ≡ true → HasEnded ports
all_have_ended [] there e = absurd (omega (arith, there))
all_have_ended (port ∷ ports) there e =
    record { place = 0; there = omega arith; ended = (and_parts (has_port_ended port.refusing) (ports_ended ports) e).0 }

pub join_has_ended : (ports : List PortState) → 0 < length ports → is_join_complete ports ≡ true → HasEnded ports
join_has_ended ports there e =
    ⊎_elim (λ all. all_have_ended ports there all) (λ dry. dry_has_ended ports dry)
    (or_cases (ports_ended ports) (list_any has_run_dry ports) e)
