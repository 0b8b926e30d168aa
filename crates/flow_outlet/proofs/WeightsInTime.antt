-- The weight of a result comes back when the last of its messages is given.
use Rattle.std.proofs.Common.{◌≡◌, ℕ, ◌+◌, ◌-◌, ◌<◌, ◌≤◌, ◌==◌, ◌||◌, cond, Bool, true, false, List, [], ◌∷◌, ◌++◌, length, refl, arith}
use Rattle.std.proofs.lemmas.Bool.Decides.{nat_tests}
use Rattle.std.proofs.lemmas.List.{length-append}
use Rattle.flow_value.specs.declared.value.Value.{Value}
use Rattle.flow_outlet.specs.declared.group.Group.{Group}
use Rattle.flow_outlet.specs.Outlet.{OutletState, is_empty, rest_of, groups_with, groups_after}
use Rattle.flow_outlet.specs.Groups.{AreRising, EndsAreLeft, WeightsComeInTime}

higher : (low high top : ℕ) (groups : List Group) → high ≤ top → AreRising low high groups → AreRising low top groups
higher low high top [] l rising = tt
higher low high top (group ∷ groups) l rising =
    (rising.0, omega (arith, rising.1), higher (group.until + 1) high top groups l rising.2)

-- one more result ends later than those before it
one_later : (low high top : ℕ) (groups : List Group) (group : Group) → low ≤ high → high ≤ group.until → group.until < top
    → AreRising low high groups → AreRising low top (groups ++ group ∷ [])
one_later low high top [] group before from below rising = (omega arith, below, tt)
one_later low high top (first ∷ groups) group before from below rising =
    (rising.0, omega (arith, rising.1), one_later (first.until + 1) high top groups group (let near : first.until + 1 ≤ high = omega (arith, rising.1) in near) from below rising.2)

kept_later : (none light : Bool) (low high top : ℕ) (groups : List Group) (group : Group) → low ≤ high → high ≤ top
    → (none ≡ false → (high ≤ group.until) × (group.until < top)) → AreRising low high groups
    → AreRising low top (cond (none || light) groups (groups ++ group ∷ []))
kept_later true light low high top groups group before above last rising = higher low high top groups above rising
kept_later false true low high top groups group before above last rising = higher low high top groups above rising
kept_later false false low high top groups group before above last rising =
    one_later low high top groups group before (last refl).0 (last refl).1 rising

is_last : (start count : ℕ) → (count == 0) ≡ false → (start ≤ start + (count - 1)) × (start + (count - 1) < start + count)
is_last start count e = let some : 0 < count = grind (arith, nat_tests) in (omega arith, omega arith)

put_rises : (o : OutletState) (values : List Value) (weight : ℕ) → EndsAreLeft o
    → AreRising o.next (o.next + length (o.left ++ values)) (groups_with (o.next + length o.left) (length values) weight o.groups)
put_rises o values weight rising =
    let start = o.next + length o.left in
    let count = length values in
    let top : o.next + length (o.left ++ values) ≡ start + count = omega (arith, length-append o.left values) in
    rw top (kept_later (count == 0) (weight == 0) o.next start (start + count) o.groups (record { until = start + (count - 1); weight = weight })
    (omega arith) (omega arith) (is_last start count) rising)

given_or_later : (ends : Bool) (next high : ℕ) (group : Group) (groups : List Group) → (group.until == next) ≡ ends
    → AreRising next high (group ∷ groups) → AreRising (next + 1) high (cond ends groups (group ∷ groups))
given_or_later true next high group groups e rising =
    let same : group.until ≡ next = grind (arith, nat_tests) in
    rw same at rising.2
given_or_later false next high group groups e rising =
    let low : next ≤ group.until = rising.0 in
    (let later : next + 1 ≤ group.until = grind (arith, nat_tests) in later, rising.1, rising.2)

give_rises : (next high : ℕ) (groups : List Group) → AreRising next high groups → AreRising (next + 1) high (groups_after next groups)
give_rises next high [] rising = tt
give_rises next high (group ∷ groups) rising = given_or_later (group.until == next) next high group groups refl rising

give_left : (left : List Value) (next : ℕ) (groups : List Group) → is_empty left ≡ false
    → AreRising next (next + length left) groups → AreRising (next + 1) (next + 1 + length (rest_of left)) (groups_after next groups)
give_left [] next groups e rising = cc
give_left (value ∷ left) next groups e rising =
    let same : next + 1 + length left ≡ next + length (value ∷ left) = omega arith in
    rw same (give_rises next (next + length (value ∷ left)) groups rising)

none_left : (low high : ℕ) (groups : List Group) → high ≤ low → AreRising low high groups → groups ≡ []
none_left low high [] l rising = refl
none_left low high (group ∷ groups) l rising = absurd (omega (arith, rising.0, rising.1))

none_then : (left : List Value) (next : ℕ) (groups : List Group) → AreRising next (next + length left) groups → left ≡ [] → groups ≡ []
none_then [] next groups rising e = none_left next (next + 0) groups (omega arith) rising
none_then (value ∷ left) next groups rising e = cc

pub weights_come_in_time : WeightsComeInTime
weights_come_in_time = record {
  fresh = λ rules first. tt;
  put = put_rises;
  set_aside = λ o count rising. rising;
  put_aside = put_rises;
  give = λ o k some rising. give_left o.left o.next o.groups some rising;
  all = λ o rising e. none_then o.left o.next o.groups rising e;
}
