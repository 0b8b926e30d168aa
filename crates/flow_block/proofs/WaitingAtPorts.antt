-- How many messages wait at the ports of a list, one port after another.
use Rattle.std.proofs.Common.{◌≡◌, ℕ, ◌+◌, ◌<◌, List, [], ◌∷◌, ◌++◌, length, get_or, take, ap, sym, ◌∙◌, arith}
use Rattle.std.proofs.lemmas.List.{take_more}
use Rattle.flow_intake.specs.Port.{PortState}
use Rattle.flow_block.specs.Groups.{waiting_in_all}

waiting_append : (ports more : List PortState) → waiting_in_all (ports ++ more) ≡ waiting_in_all ports + waiting_in_all more
waiting_append [] more = omega arith
waiting_append (port ∷ ports) more = let rest = waiting_append ports more in omega (arith, rest)

pub waiting_more : (ports : List PortState) (place : ℕ) (port : PortState) → place < length ports → port ≡ get_or ports place port
    → waiting_in_all (take (place + 1) ports) ≡ waiting_in_all (take place ports) + length port.waiting
waiting_more ports place port there is =
    let one : waiting_in_all (take place ports ++ port ∷ []) ≡ waiting_in_all (take place ports) + waiting_in_all (port ∷ []) =
    waiting_append (take place ports) (port ∷ []) in
    let more : take (place + 1) ports ≡ take place ports ++ port ∷ [] =
    take_more ports place port there ∙ ap (λ (next : PortState). take place ports ++ next ∷ []) (sym is) in
    let same : waiting_in_all (take (place + 1) ports) ≡ waiting_in_all (take place ports ++ port ∷ []) = ap waiting_in_all more in
    omega (arith, one, same)
