-- The ports of a batched join tell how many of its messages are in no group.
use Rattle.std.proofs.Common.{◌≡◌, ◌≢◌, ℕ, zero, suc, ◌+◌, ◌<◌, ◌≤◌, ◌==◌, leb, ltb, not, cond, Bool, true, false, ◌&&◌, ◌||◌, List, [], ◌∷◌, ◌++◌, length, map, refl, ap, sym, ◌∙◌, arith}
use Rattle.std.proofs.lemmas.Bool.{and_parts, eqb-true, eqb-false, ltb-true, lt-ltb, ne_eqb}
use Rattle.flow_link.specs.Lists.{every, is_empty, concat}
use Rattle.flow_link.specs.Making.{Arrival, arrivals}
use Rattle.flow_link.specs.Trace.{gave}
use Rattle.flow_intake.specs.Port.{PortState}
use Rattle.flow_group.specs.Group.{came_at}
use Rattle.flow_group.specs.Tuple.{held_at}
use Rattle.flow_group.proofs.GroupsCount.{every_parts}
use Rattle.flow_group.proofs.GroupsCut.{groups_tell}
use Rattle.flow_block.specs.Block.{port_in}
use Rattle.flow_block_law.specs.GroupsLaw.{are_complete, OrderedGroups}
use Rattle.flow_block.specs.Groups.{waiting_in_all}
use Rattle.flow_block_law.specs.GroupsPeek.{PortsTellGroups}
use Rattle.flow_block.specs.Node.{NodeState, order_in}

-- how many came in at so many ports, from a first one on
sum_at : ℕ → ℕ → List ℕ → ℕ
sum_at first zero order = 0
sum_at first (suc count) order = came_at first order + sum_at (suc first) count order

sum_none : (first count : ℕ) → sum_at first count [] ≡ 0
unfolding sum_at
sum_none first zero = refl
sum_none first (suc count) = let rest : sum_at (suc first) count [] ≡ 0 = sum_none (suc first) count in omega (arith, rest)

-- a message that came in elsewhere, and one that came in at one of them
sum_out : (first count q : ℕ) (order : List ℕ) → q < first → sum_at first count (q ∷ order) ≡ sum_at first count order
unfolding sum_at
sum_out first zero q order other = refl
sum_out first (suc count) q order other =
    let rest : sum_at (suc first) count (q ∷ order) ≡ sum_at (suc first) count order = sum_out (suc first) count q order (omega (arith, other)) in
    let differs : (q == first) ≡ false = ne_eqb q first (λ same. let s = same in omega (arith, other, s)) in
    let none : ◌≡◌ {A = ℕ} (cond (q == first) 1 0) 0 = ap (λ (same : Bool). cond same 1 0) differs in
    omega (arith, rest, none)

sum_in : (first count q : ℕ) (order : List ℕ) → first ≤ q → q < first + count
    → sum_at first count (q ∷ order) ≡ sum_at first count order + 1
unfolding sum_at
sum_in first zero q order from to = absurd (omega (arith, from, to))
sum_in first (suc count) q order from to =
    elim (q == first) as (λ (here : Bool). (q == first) ≡ here
    → cond (q == first) 1 0 + came_at first order + sum_at (suc first) count (q ∷ order)
    ≡ came_at first order + sum_at (suc first) count order + 1) [
      | true ↦ λ is.
          let same : q ≡ first = eqb-true q first is in
          let one : ◌≡◌ {A = ℕ} (cond (q == first) 1 0) 1 = ap (λ (same : Bool). cond same 1 0) is in
          let rest = sum_out (suc first) count q order (omega (arith, same)) in
          omega (arith, one, rest)
      | false ↦ λ is.
          let differs : q ≢ first = eqb-false q first is in
          let none : ◌≡◌ {A = ℕ} (cond (q == first) 1 0) 0 = ap (λ (same : Bool). cond same 1 0) is in
          let rest = sum_in (suc first) count q order (omega (arith, from, differs)) (omega (arith, to)) in
          omega (arith, none, rest)
    ] refl

sum_all : (count : ℕ) (order : List ℕ) → every (λ q. ltb q count) order ≡ true → sum_at 0 count order ≡ length order
sum_all count [] known = sum_none 0 count
sum_all count (q ∷ order) known =
    let both = and_parts (ltb q count) (every (λ q. ltb q count) order) known in
    let small : q < count = ltb-true q count both.0 in
    let rest = sum_all count order both.1 in
    let one = sum_in 0 count q order (omega arith) (omega (arith, small)) in
    omega (arith, rest, one)

sum_waiting : (first : ℕ) (ports : List PortState) (order : List ℕ)
    → ((p : ℕ) → p < length ports → came_at (first + p) order ≡ length (port_in ports p).waiting)
    → sum_at first (length ports) order ≡ waiting_in_all ports
unfolding sum_at
sum_waiting first [] order counted = refl
sum_waiting first (port ∷ ports) order counted =
    let here : came_at (first + 0) order ≡ length port.waiting = counted 0 (omega arith) in
    let same : came_at (first + 0) order ≡ came_at first order = ap (λ (p : ℕ). came_at p order) (omega arith) in
    let rest : sum_at (suc first) (length ports) order ≡ waiting_in_all ports =
    sum_waiting (suc first) ports order
    (λ p there. ap (λ (n : ℕ). came_at n order) (omega arith) ∙ counted (suc p) (omega (arith, there))) in
    omega (arith, here, same, rest)

every_port : (count : ℕ) (came : List Arrival) → every (λ (arrival : Arrival). ltb arrival.port count) came
    ≡ every (λ q. ltb q count) (map (λ (arrival : Arrival). arrival.port) came)
every_port count [] = refl
every_port count (arrival ∷ came) = ap (λ (rest : Bool). ltb arrival.port count && rest) (every_port count came)

-- as many are noted as wait
as_many_wait : (node : NodeState) → OrderedGroups node → length (order_in node) ≡ waiting_in_all node.block.ports
as_many_wait node law =
    let groups = law.groups in
    let ports = node.block.ports in
    let count = length ports in
    let known = every_parts (λ (arrival : Arrival). ltb arrival.port count) (concat groups.groups) groups.rest
    (ap (every (λ (arrival : Arrival). ltb arrival.port count)) (sym groups.cut) ∙ groups.known) in
    let all : every (λ q. ltb q count) (order_in node) ≡ true =
    ap (every (λ q. ltb q count)) groups.order_is ∙ sym (every_port count groups.rest) ∙ known.1 in
    let counted =
    (groups_tell.each count node.block.size (are_complete count node.journal) (arrivals node.journal)
    (gave node.journal ++ node.block.exits.left) (order_in node) (held_at ports) groups).counted in
    sym (sum_all count (order_in node) all)
    ∙ sum_waiting 0 ports (order_in node) (λ p there. ap (λ (n : ℕ). came_at n (order_in node)) (omega arith) ∙ counted p there)

some_noted : (order : List ℕ) → not (is_empty order) ≡ ltb 0 (length order)
some_noted [] = refl
some_noted (p ∷ order) = sym (lt-ltb 0 (length (p ∷ order)) (omega arith))

pub ports_tell_groups : PortsTellGroups
ports_tell_groups node law ended =
    let size = node.block.size in
    let order = order_in node in
    ap (λ (some : Bool). some && (leb size (length order) || ended)) (some_noted order)
    ∙ ap (λ (count : ℕ). ltb 0 count && (leb size count || ended)) (as_many_wait node law)
