-- What holds of joins by their kind, and of their tuples where all ports change.
use Rattle.std.proofs.Common.{◌≡◌, ℕ, zero, suc, ◌&&◌, Bool, true, false, not, List, [], ◌∷◌, map, set, Option, Result, refl, ap}
use Rattle.flow_value.specs.declared.value.Value.{Value}
use Rattle.flow_link.specs.declared.draft.BlockKind.{BlockKind}
use Rattle.flow_link.specs.declared.draft.BlockKind.TheVariants.{Join, BatchedJoin}
use Rattle.flow_link.specs.Lists.{is_empty}
use Rattle.flow_intake.specs.Port.{PortState}
use Rattle.flow_outlet.specs.declared.group.Group.{Group}
use Rattle.flow_group.specs.Tuple.{has_first, has_tuple}
use Rattle.flow_block.specs.Block.{port_in, is_join, has_ports, is_batched_join}
use Rattle.flow_block_law.specs.NodeLaw.{MakesAs, WeighsAs}

-- no blocks but joins and batched joins take messages at several ports
pub others_at_one : (kind : BlockKind) → is_batched_join kind ≡ false → is_join kind ≡ false → has_ports kind ≡ false
others_at_one Join grouped alone = absurd (cc)
others_at_one BatchedJoin grouped alone = absurd (cc)
others_at_one _ grouped alone = refl

pub batched_is : (kind : BlockKind) → is_batched_join kind ≡ true → kind ≡ BatchedJoin
batched_is BatchedJoin e = refl
batched_is _ e = absurd (cc)

-- which tuples or groups it has made is a law of its own
pub ports_make : (result : Value → Result (List Value) ℕ) (kind : BlockKind) (taken held given left recorded : List Value)
    → has_ports kind ≡ true → MakesAs result kind taken held given left recorded
ports_make result Join taken held given left recorded e = tt
ports_make result BatchedJoin taken held given left recorded e = tt
ports_make result _ taken held given left recorded e = absurd (cc)

pub join_makes : (result : Value → Result (List Value) ℕ) (kind : BlockKind) (taken held given left recorded : List Value)
    → is_join kind ≡ true → MakesAs result kind taken held given left recorded
join_makes result Join taken held given left recorded e = tt
join_makes result _ taken held given left recorded e = absurd (cc)

-- what its tuples weigh is told by what is left
pub join_weighs : (result : Value → Result (List Value) ℕ) (kind : BlockKind) (capacity : Option ℕ)
    (taken held given taken_then held_then given_then left : List Value) (next : ℕ) (groups : List Group) → is_join kind ≡ true
    → WeighsAs result kind capacity taken held given left next groups
    → WeighsAs result kind capacity taken_then held_then given_then left next groups
join_weighs result Join capacity taken held given taken_then held_then given_then left next groups e weighs = weighs
join_weighs result _ capacity taken held given taken_then held_then given_then left next groups e weighs = absurd (cc)

-- a message waits at each port where all ports hold what they held
pub tuple_at_one : (ports : List PortState) (p : ℕ) (port : PortState) → port.waiting ≡ (port_in ports p).waiting
    → has_tuple (set ports p port) ≡ has_tuple ports
tuple_at_one [] p port same = refl
tuple_at_one (first ∷ ports) zero port same = ap (λ (held : List Value). not (is_empty held) && has_tuple ports) same
tuple_at_one (first ∷ ports) (suc p) port same = ap (λ (rest : Bool). has_first first && rest) (tuple_at_one ports p port same)

pub tuple_at_all : (change : PortState → PortState) (ports : List PortState) → ((port : PortState) → (change port).waiting ≡ port.waiting)
    → has_tuple (map change ports) ≡ has_tuple ports
tuple_at_all change [] same = refl
tuple_at_all change (port ∷ ports) same = rw (same port, tuple_at_all change ports same) refl
