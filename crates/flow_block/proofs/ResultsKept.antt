-- What a block is, and what it holds, once the results of the message that it holds first are kept.
use Rattle.std.proofs.Common.{◌≡◌, List, [], ◌∷◌, length, drop, None, refl, ap, ◌∙◌, arith}
use Rattle.std.proofs.lemmas.List.{get_or-set_same, length-set}
use Rattle.flow_value.specs.declared.value.Value.{Value}
use Rattle.flow_link.specs.declared.draft.BlockKind.{BlockKind}
use Rattle.flow_link.specs.declared.draft.BlockKind.TheVariants.{Action}
use Rattle.flow_intake.specs.Port.{PortState, fresh_port}
use Rattle.flow_intake.specs.Calls.{takes_next, gives_room}
use Rattle.flow_block.specs.Block.{BlockState, port_at, with_port, held_by, keeps_results}

-- it goes on as it did
pub record Goes (block new : BlockState) : Type 0 where
  pub kind : new.kind ≡ block.kind
  pub stopped : new.stopped ≡ block.stopped
  pub fault : new.fault ≡ block.fault

pub keeps_goes : (kind : BlockKind) (values : List Value) (block : BlockState) → Goes block (keeps_results kind values block)
keeps_goes Action values block = record { kind = refl; stopped = refl; fault = refl }
keeps_goes _ [] block = record { kind = refl; stopped = refl; fault = refl }
keeps_goes _ (value ∷ values) block = record { kind = refl; stopped = refl; fault = refl }

pub ports_stay : (kind : BlockKind) (values : List Value) (block : BlockState)
    → length (keeps_results kind values block).ports ≡ length block.ports
ports_stay Action values block = length-set block.ports 0 _
ports_stay _ [] block = length-set block.ports 0 _
ports_stay _ (value ∷ values) block = length-set block.ports 0 _

-- what a block holds once it is done with the message that it holds first
pub held_next : (block : BlockState) (change : PortState → PortState) (value : Value) (rest : List Value)
    → length block.ports ≡ 1
    → held_by block ≡ value ∷ rest → ((port : PortState) → (change port).waiting ≡ drop 1 port.waiting)
    → held_by (with_port 0 change block) ≡ rest
held_next block change value rest one first changes =
    ap (λ (port : PortState). port.waiting)
    (get_or-set_same block.ports 0 (change (port_at 0 block)) (fresh_port None) (omega arith))
    ∙ changes (port_at 0 block) ∙ ap (λ (vs : List Value). drop 1 vs) first

-- what it holds then
pub held_then : (kind : BlockKind) (values : List Value) (block : BlockState) (value : Value) (rest : List Value)
    → length block.ports ≡ 1 → held_by block ≡ value ∷ rest → held_by (keeps_results kind values block) ≡ rest
held_then Action values block value rest one first =
    held_next block (λ port. gives_room 1 (takes_next port)) value rest one first (λ port. refl)
held_then _ [] block value rest one first =
    held_next block (λ port. gives_room 1 (takes_next port)) value rest one first (λ port. refl)
held_then _ (made ∷ values) block value rest one first = held_next block takes_next value rest one first (λ port. refl)
