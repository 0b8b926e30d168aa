-- The order of a batched join tells how many messages wait at each port, whatever is called.
use Rattle.std.proofs.Common.{◌≡◌, ℕ, zero, suc, ◌+◌, ◌-◌, ◌<◌, ◌≤◌, ◌==◌, Bool, true, false, cond, List, [], ◌∷◌, ◌++◌, length, set, get_or, take, drop, refl, ap, sym, ◌∙◌, inl, inr, arith, eq-eqb, ne_eqb}
use Rattle.std.proofs.lemmas.Bool.{and_parts, cases_eq, cases_lt}
use Rattle.std.proofs.lemmas.List.{length-drop, get_or-set_same, get_or-set_other, take-append-drop}
use Rattle.flow_value.specs.declared.value.Value.{Value}
use Rattle.flow_link.specs.Lists.{is_empty}
use Rattle.flow_intake.specs.Port.{PortState}
use Rattle.flow_group.specs.Group.{came_at, takes_from}
use Rattle.flow_block.specs.Block.{port_in}
use Rattle.flow_block.specs.Groups.{waiting_in_all}
use Rattle.flow_block.specs.Peeks.{holds_nothing}
use Rattle.flow_kinds.specs.BatchedJoin.{waits, Tells}

-- Where the same waits

pub waits_at : (ports : List PortState) (p : ℕ) → get_or (waits ports) p 0 ≡ length (port_in ports p).waiting
waits_at [] p = refl
waits_at (port ∷ ports) zero = refl
waits_at (port ∷ ports) (suc p) = waits_at ports p

-- at one port so many
pub waits_set : (ports : List PortState) (p : ℕ) (new : PortState) → waits (set ports p new) ≡ set (waits ports) p (length new.waiting)
waits_set [] p new = refl
waits_set (port ∷ ports) zero new = refl
waits_set (port ∷ ports) (suc p) new = ap (λ (rest : List ℕ). length port.waiting ∷ rest) (waits_set ports p new)

set_same : (ns : List ℕ) (p : ℕ) → set ns p (get_or ns p 0) ≡ ns
set_same [] p = refl
set_same (n ∷ ns) zero = refl
set_same (n ∷ ns) (suc p) = ap (λ (rest : List ℕ). n ∷ rest) (set_same ns p)

pub waits_kept : (ports : List PortState) (p : ℕ) (new : PortState) → new.waiting ≡ (port_in ports p).waiting
    → waits (set ports p new) ≡ waits ports
waits_kept ports p new same =
    waits_set ports p new
    ∙ ap (λ (n : ℕ). set (waits ports) p n) (ap (λ (waiting : List Value). length waiting) same ∙ sym (waits_at ports p))
    ∙ set_same (waits ports) p

-- Where one more comes

came_more : (q p : ℕ) (order : List ℕ) → came_at q (order ++ p ∷ []) ≡ came_at q order + cond (p == q) 1 0
came_more q p [] = omega arith
came_more q p (r ∷ order) = let rest = came_more q p order in omega (arith, rest)

pub tells_more : (order ns : List ℕ) (p : ℕ) → p < length ns → Tells order ns → Tells (order ++ p ∷ []) (set ns p (get_or ns p 0 + 1))
tells_more order ns p l tells q = elim (cases_eq q p) [
  | inl same ↦
      let one : (p == q) ≡ true = eq-eqb p q (sym same) in
      came_more q p order
      ∙ ap (λ (b : Bool). came_at q order + cond b 1 0) one
      ∙ ap (λ (n : ℕ). n + 1) (tells q ∙ ap (λ (r : ℕ). get_or ns r 0) same)
      ∙ sym (get_or-set_same ns p (get_or ns p 0 + 1) 0 l)
      ∙ ap (λ (r : ℕ). get_or (set ns p (get_or ns p 0 + 1)) r 0) (sym same)
  | inr other ↦
      let none : (p == q) ≡ false = ne_eqb p q (λ e. other (sym e)) in
      let stays : came_at q order + 0 ≡ came_at q order = omega arith in
      came_more q p order
      ∙ ap (λ (b : Bool). came_at q order + cond b 1 0) none
      ∙ stays
      ∙ tells q
      ∙ sym (get_or-set_other ns p q (get_or ns p 0 + 1) 0 other)
]

-- Where a group is made

came_parts : (q : ℕ) (front back : List ℕ) → came_at q (front ++ back) ≡ came_at q front + came_at q back
came_parts q [] back = omega arith
came_parts q (r ∷ front) back = let rest = came_parts q front back in omega (arith, rest)

left_at : (first : ℕ) (group : List ℕ) (ports : List PortState) (q : ℕ)
    → get_or (waits (takes_from first group ports)) q 0 ≡ get_or (waits ports) q 0 - came_at (first + q) group
left_at first group [] q = omega arith
left_at first group (port ∷ ports) zero =
    let same : first + 0 ≡ first = omega arith in
    length-drop (came_at first group) port.waiting ∙ ap (λ (n : ℕ). length port.waiting - came_at n group) (sym same)
left_at first group (port ∷ ports) (suc q) =
    let same : suc first + q ≡ first + suc q = omega arith in
    left_at (suc first) group ports q ∙ ap (λ (n : ℕ). get_or (waits ports) q 0 - came_at n group) same

pub tells_group : (size : ℕ) (order : List ℕ) (ports : List PortState) → Tells order (waits ports)
    → Tells (drop size order) (waits (takes_from 0 (take size order) ports))
tells_group size order ports tells q =
    let parts = came_parts q (take size order) (drop size order) in
    let whole = ap (came_at q) (take-append-drop size order) in
    let told = tells q in
    let same : 0 + q ≡ q = omega arith in
    let left = left_at 0 (take size order) ports q ∙ ap (λ (n : ℕ). get_or (waits ports) q 0 - came_at n (take size order)) same in
    omega (arith, parts, whole, told, left)

-- How many wait in all

abbrev total : List ℕ → ℕ
total [] = 0
total (n ∷ ns) = n + total ns

waiting_total : (ports : List PortState) → waiting_in_all ports ≡ total (waits ports)
waiting_total [] = refl
waiting_total (port ∷ ports) = ap (λ (n : ℕ). length port.waiting + n) (waiting_total ports)

total_set : (ns : List ℕ) (p n : ℕ) → p < length ns → total (set ns p n) + get_or ns p 0 ≡ total ns + n
total_set [] p n l = absurd (omega (arith, l))
total_set (m ∷ ns) zero n l = omega arith
total_set (m ∷ ns) (suc p) n l = let rest = total_set ns p n (omega (arith, l)) in omega (arith, rest)

none_beyond : (ns : List ℕ) (p : ℕ) → length ns ≤ p → get_or ns p 0 ≡ 0
none_beyond [] p l = refl
none_beyond (n ∷ ns) zero l = absurd (omega (arith, l))
none_beyond (n ∷ ns) (suc p) l = none_beyond ns p (omega (arith, l))

none_total : (ns : List ℕ) → ((p : ℕ) → 0 ≡ get_or ns p 0) → total ns ≡ 0
none_total [] none = refl
none_total (n ∷ ns) none =
    let first = none 0 in
    let rest = none_total ns (λ p. none (suc p)) in
    omega (arith, first, rest)

fewer : (q : ℕ) (order ns : List ℕ) → q < length ns → Tells (q ∷ order) ns → Tells order (set ns q (get_or ns q 0 - 1))
fewer q order ns l tells p = elim (cases_eq p q) [
  | inl same ↦
      let told = tells p in
      let one : (q == p) ≡ true = eq-eqb q p (sym same) in
      let came : came_at p (q ∷ order) ≡ 1 + came_at p order = ap (λ (b : Bool). cond b 1 0 + came_at p order) one in
      let here : get_or (set ns q (get_or ns q 0 - 1)) p 0 ≡ get_or ns p 0 - 1 =
      ap (λ (r : ℕ). get_or (set ns q (get_or ns q 0 - 1)) r 0) same
      ∙ get_or-set_same ns q (get_or ns q 0 - 1) 0 l ∙ ap (λ (r : ℕ). get_or ns r 0 - 1) (sym same) in
      omega (arith, told, came, here)
  | inr other ↦
      let told = tells p in
      let none : (q == p) ≡ false = ne_eqb q p (λ e. other (sym e)) in
      let came : came_at p (q ∷ order) ≡ 0 + came_at p order = ap (λ (b : Bool). cond b 1 0 + came_at p order) none in
      let there = get_or-set_other ns q p (get_or ns q 0 - 1) 0 other in
      omega (arith, told, came, there)
]

in_all : (order ns : List ℕ) → Tells order ns → length order ≡ total ns
in_all [] ns tells = sym (none_total ns tells)
in_all (q ∷ order) ns tells = elim (cases_lt q (length ns)) [
  | inl l ↦
      let told = tells q in
      let one : (q == q) ≡ true = eq-eqb q q refl in
      let came : came_at q (q ∷ order) ≡ 1 + came_at q order = ap (λ (b : Bool). cond b 1 0 + came_at q order) one in
      let rest = in_all order (set ns q (get_or ns q 0 - 1)) (fewer q order ns l tells) in
      let sums = total_set ns q (get_or ns q 0 - 1) l in
      omega (arith, told, came, rest, sums)
  | inr far ↦
      let told = tells q in
      let one : (q == q) ≡ true = eq-eqb q q refl in
      let came : came_at q (q ∷ order) ≡ 1 + came_at q order = ap (λ (b : Bool). cond b 1 0 + came_at q order) one in
      let none = none_beyond ns q far in
      absurd (omega (arith, told, came, none))
]

-- as many are in no group as wait at all ports
pub told_in_all : (order : List ℕ) (ports : List PortState) → Tells order (waits ports) → length order ≡ waiting_in_all ports
told_in_all order ports tells = in_all order (waits ports) tells ∙ sym (waiting_total ports)

-- nothing has come in
none_held : (waiting : List Value) → is_empty waiting ≡ true → length waiting ≡ 0
none_held [] e = refl
none_held (_ ∷ _) e = absurd (cc)

pub tells_fresh : (ports : List PortState) → holds_nothing ports ≡ true → Tells [] (waits ports)
tells_fresh [] none p = refl
tells_fresh (port ∷ ports) none zero = sym (none_held port.waiting (and_parts (is_empty port.waiting) (holds_nothing ports) none).0)
tells_fresh (port ∷ ports) none (suc p) = tells_fresh ports (and_parts (is_empty port.waiting) (holds_nothing ports) none).1 p
