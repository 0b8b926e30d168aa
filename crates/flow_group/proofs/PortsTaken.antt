-- What a tuple and a group take from each port, and what is held where there is none.
use Rattle.std.proofs.Common.{◌≡◌, ℕ, zero, suc, ◌+◌, ◌-◌, ◌<◌, ◌≤◌, leb, not, Bool, true, false, ◌&&◌, ◌||◌, List, [], ◌∷◌, ◌++◌, length, take, drop, refl, ap, sym, ◌∙◌, subst, arith}
use Rattle.std.proofs.lemmas.Bool.{and_parts, leb-false}
use Rattle.std.proofs.lemmas.List.{length-drop, take-append-drop}
use Rattle.flow_value.specs.declared.value.Value.{Value}
use Rattle.flow_link.specs.Lists.{is_empty}
use Rattle.flow_intake.specs.Port.{PortState}
use Rattle.flow_group.specs.Group.{came_at, takes_first, takes_from, takes_group}
use Rattle.flow_group.specs.Taken.{IsTaken, PortsTaken, HasEmptyPort, HoldsLess, NothingMore, port_in}
use Rattle.flow_group.specs.Tuple.{held_at, has_first, has_tuple, takes_tuple}

is_taken : (count : ℕ) (port : PortState) → count ≤ length port.waiting → IsTaken count port (takes_first count port)
is_taken count port enough =
    let rest : length (drop count port.waiting) ≡ length port.waiting - count = length-drop count port.waiting in
    record { only = refl; were_there = omega arith }

some_first : (values : List Value) → not (is_empty values) ≡ true → 1 ≤ length values
some_first [] some = absurd (cc)
some_first (value ∷ values) some = omega arith

by_tuple : (ports : List PortState) → has_tuple ports ≡ true → (p : ℕ) → p < length ports
    → IsTaken 1 (port_in ports p) (port_in (takes_tuple ports) p)
by_tuple [] all p l = absurd (omega arith)
by_tuple (port ∷ ports) all zero l = is_taken 1 port (some_first port.waiting (and_parts (has_first port) (has_tuple ports) all).0)
by_tuple (port ∷ ports) all (suc p) l = by_tuple ports (and_parts (has_first port) (has_tuple ports) all).1 p (omega arith)

came_append : (p : ℕ) (xs ys : List ℕ) → came_at p (xs ++ ys) ≡ came_at p xs + came_at p ys
came_append p [] ys = omega arith
came_append p (q ∷ xs) ys = let rest : came_at p (xs ++ ys) ≡ came_at p xs + came_at p ys = came_append p xs ys in omega arith

in_front : (p size : ℕ) (order : List ℕ) → came_at p (take size order) ≤ came_at p order
in_front p size order =
    let parts : came_at p (take size order ++ drop size order) ≡ came_at p (take size order) + came_at p (drop size order) =
    came_append p (take size order) (drop size order) in
    let whole : came_at p (take size order ++ drop size order) ≡ came_at p order = ap (came_at p) (take-append-drop size order) in
    omega arith

port_taken : (first : ℕ) (order : List ℕ) (ports : List PortState) (p : ℕ) → p < length ports
    → port_in (takes_from first order ports) p ≡ takes_first (came_at (first + p) order) (port_in ports p)
port_taken first order [] p l = absurd (omega arith)
port_taken first order (port ∷ ports) zero l =
    let zero_more : first ≡ first + 0 = omega arith in
    ap (λ (n : ℕ). takes_first (came_at n order) port) zero_more
port_taken first order (port ∷ ports) (suc p) l =
    let one_more : suc first + p ≡ first + suc p = omega arith in
    port_taken (suc first) order ports p (omega arith) ∙ ap (λ (n : ℕ). takes_first (came_at n order) (port_in ports p)) one_more

by_group : (size : ℕ) (order : List ℕ) (ports : List PortState) → ((p : ℕ) → p < length ports → came_at p order ≡ length (held_at ports p))
    → (p : ℕ) → p < length ports
    → IsTaken (came_at p (take size order)) (port_in ports p) (port_in (takes_group size order ports) p)
by_group size order ports counted p l =
    let same : 0 + p ≡ p = omega arith in
    let there : came_at p order ≡ length (held_at ports p) = counted p l in
    let front : came_at p (take size order) ≤ came_at p order = in_front p size order in
    let is : port_in (takes_group size order ports) p ≡ takes_first (came_at p (take size order)) (port_in ports p) =
    port_taken 0 (take size order) ports p l ∙ ap (λ (n : ℕ). takes_first (came_at n (take size order)) (port_in ports p)) same in
    subst (λ (port : PortState). IsTaken (came_at p (take size order)) (port_in ports p) port) (sym is)
    (is_taken (came_at p (take size order)) (port_in ports p) (omega arith))

pub ports_taken : PortsTaken
ports_taken = record { tuple = by_tuple; group = by_group }

-- Nothing more

one_further : (port : PortState) (ports : List PortState) → HasEmptyPort ports → HasEmptyPort (port ∷ ports)
one_further port ports has = record { port = suc has.port; there = let there = has.there in omega arith; empty = has.empty }

empty_port : (waiting : List Value) → not (is_empty waiting) ≡ false → waiting ≡ []
empty_port [] none = refl
empty_port (value ∷ waiting) none = absurd (cc)

no_tuple : (ports : List PortState) → has_tuple ports ≡ false → HasEmptyPort ports
no_tuple [] none = absurd (cc)
no_tuple (port ∷ ports) none =
    elim (has_first port) as (λ (here : Bool). has_first port ≡ here → (here && has_tuple ports) ≡ false → HasEmptyPort (port ∷ ports)) [
      | true ↦ λ is rest. one_further port ports (no_tuple ports rest)
      | false ↦ λ is rest. record { port = 0; there = omega arith; empty = empty_port port.waiting is }
    ] refl none

no_more : (size : ℕ) (ended enough : Bool) (order : List ℕ) → 0 < size → leb size (length order) ≡ enough
    → (not (is_empty order) && (enough || ended)) ≡ false → HoldsLess size ended order
no_more size ended enough [] some is none = record { fewer = some; none = λ e. refl }
no_more size ended true (p ∷ order) some is none = absurd (cc)
no_more size true false (p ∷ order) some is none = absurd (cc)
no_more size false false (p ∷ order) some is none =
    record { fewer = leb-false size (length (p ∷ order)) is; none = λ e. absurd (cc) }

pub nothing_more : NothingMore
nothing_more = record {
  no_tuple = no_tuple;
  no_group = λ size ended order some none. no_more size ended (leb size (length order)) order some refl none;
}
