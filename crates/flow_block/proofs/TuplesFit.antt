-- A tuple is put with room that its ports gave out, and takes no room for marks.
use Rattle.std.proofs.Common.{◌≡◌, ℕ, ◌+◌, ◌<◌, ◌≤◌, ◌^◌, true, not, cond, List, [], ◌∷◌, length, get_or, drop, Option, Some, None, is_some, refl, arith, subst, sym}
use Rattle.std.proofs.lemmas.Bool.{and_parts}
use Rattle.std.proofs.lemmas.List.{get_or_read}
use Rattle.flow_value.specs.declared.value.Value.{Value}
use Rattle.flow_link.specs.Lists.{is_empty}
use Rattle.flow_intake.specs.Port.{PortState, fresh_port}
use Rattle.flow_outlet.specs.Fits.{weight_of}
use Rattle.flow_outlet.specs.Outlet.{OutletState, puts}
use Rattle.flow_outlet.proofs.OutletFits.{room_put}
use Rattle.flow_group.specs.Tuple.{has_first, has_tuple, takes_tuple}
use Rattle.flow_block.specs.Block.{BlockState, port_in, unit_weight, makes_tuple}
use Rattle.flow_block.specs.BlockFits.{GaveOut, AllGaveOut, BlockFits, weight_out}
use Rattle.flow_block.specs.JournalFits.{ports_due, marks_due}

-- One port

at_most_one : (capacity : Option ℕ) → unit_weight capacity ≤ 1
at_most_one None = omega arith
at_most_one (Some room) = omega arith

one_less : (capacity : Option ℕ) (waiting : List Value) (weight more load : ℕ) → more ≤ 1 → not (is_empty waiting) ≡ true
    → cond (is_some capacity) (length waiting + weight) 0 ≤ load
    → cond (is_some capacity) (length (drop 1 waiting) + (weight + more)) 0 ≤ load
one_less None waiting weight more load few some out = omega arith
one_less (Some room) [] weight more load few some out = absurd (cc)
one_less (Some room) (value ∷ waiting) weight more load few some out = omega (arith, few, out)

weight_fits : (capacity : Option ℕ) (waiting : List Value) (weight copied load : ℕ) → not (is_empty waiting) ≡ true
    → cond (is_some capacity) (length waiting + (weight + copied)) 0 ≤ load → cond (is_some capacity) load 0 < 2 ^ 32
    → weight + 0 < 2 ^ 32 → weight + unit_weight capacity < 2 ^ 32
weight_fits None waiting weight copied load some out small few = omega (arith, few)
weight_fits (Some room) [] weight copied load some out small few = absurd (cc)
weight_fits (Some room) (value ∷ waiting) weight copied load some out small few = omega (arith, out, small)

with_copied : (room weight copied more : ℕ) (now : ℕ) → now ≡ room + weight + more → room + weight + copied + more ≡ now + copied
with_copied room weight copied more now e = omega (arith, e)

-- All ports

all_less : (weight more : ℕ) (ports : List PortState) → more ≤ 1 → has_tuple ports ≡ true → AllGaveOut weight ports
    → AllGaveOut (weight + more) (takes_tuple ports)
all_less weight more [] few waits all = tt
all_less weight more (port ∷ ports) few waits all =
    let both = and_parts (has_first port) (has_tuple ports) waits in
    (one_less port.capacity port.waiting weight more port.load few both.0 all.0, all_less weight more ports few both.1 all.1)

first_waits : (ports : List PortState) → 0 < length ports → has_tuple ports ≡ true → not (is_empty (port_in ports 0).waiting) ≡ true
first_waits [] some waits = absurd (omega (arith, some))
first_waits (port ∷ ports) some waits = (and_parts (has_first port) (has_tuple ports) waits).0

first_out : (weight : ℕ) (ports : List PortState) → 0 < length ports → AllGaveOut weight ports → GaveOut weight (port_in ports 0)
first_out weight [] some all = absurd (omega (arith, some))
first_out weight (port ∷ ports) some all = all.0

-- there is room for the weight of a tuple, and it is room that its ports gave out
module _ {ports : List PortState} {exits : OutletState} {copied : ℕ} (fits : BlockFits ports exits copied) (some : 0 < length ports)
    (waits : has_tuple ports ≡ true) (seen : PortState) (seen_is : seen ≡ get_or ports 0 seen)
    (small : cond (is_some seen.capacity) seen.load 0 < 2 ^ 32) where
  is_first : seen ≡ port_in ports 0
  is_first = get_or_read ports 0 seen some seen_is (fresh_port None)

  pub tuple_fits : exits.room + weight_of exits.groups + unit_weight seen.capacity < 2 ^ 32
  tuple_fits =
      weight_fits seen.capacity seen.waiting (exits.room + weight_of exits.groups) copied seen.load
      (subst (λ (port : PortState). not (is_empty port.waiting) ≡ true) (sym is_first) (first_waits ports some waits))
      (subst (λ (port : PortState). GaveOut (weight_out exits copied) port) (sym is_first)
      (first_out (weight_out exits copied) ports some fits.room))
      small fits.few

  pub fits_tuple : (row : Value) → BlockFits (takes_tuple ports) (puts (row ∷ []) (unit_weight seen.capacity) exits) copied
  fits_tuple row =
      let weights = room_put (exits.next + length exits.left) 1 (unit_weight seen.capacity) exits.room exits.groups in
      let few = tuple_fits in
      record {
        room = subst (λ (weight : ℕ). AllGaveOut weight (takes_tuple ports)) (with_copied _ _ copied _ _ weights)
            (all_less (weight_out exits copied) (unit_weight seen.capacity) ports (at_most_one seen.capacity) waits fits.room);
        few = omega (arith, weights, few);
      }

-- Room for marks

ports_owe : (ports : List PortState) → ports_due (takes_tuple ports) ≡ ports_due ports
ports_owe [] = refl
ports_owe (port ∷ ports) = rw (ports_owe ports) refl

pub due_tuple : (block : BlockState) → marks_due (makes_tuple block) ≡ marks_due block
due_tuple block = rw (ports_owe block.ports) refl
