-- Room that is to come back stays room that the ports gave out, whatever a block does.
use Rattle.std.proofs.Common.{◌≡◌, false, ℕ, zero, suc, ◌+◌, ◌-◌, ◌<◌, ◌≤◌, min, ◌^◌, ◌==◌, true, cond, List, [], ◌∷◌, ◌++◌, length, set, get_or, take, drop, map, Option, Some, None, is_some, refl, ap, arith, subst, sym, ◌∙◌, Bool}
use Rattle.std.proofs.lemmas.Bool.{and_parts}
use Rattle.std.proofs.lemmas.List.{length-append, get_or_read, take-append-drop}
use Rattle.flow_value.specs.declared.value.Value.{Value}
use Rattle.flow_intake.specs.Port.{PortState, fresh_port}
use Rattle.flow_intake.specs.Calls.{one_more, closes, gives_room, takes_next, port_closes, port_fails}
use Rattle.flow_outlet.specs.Fits.{weight_of}
use Rattle.flow_outlet.specs.Outlet.{OutletState, is_empty, fresh_outlet, puts, gives, groups_after}
use Rattle.flow_outlet.specs.declared.ends.LinkRule.{LinkRule}
use Rattle.flow_outlet.proofs.OutletFits.{weight_stays, room_put}
use Rattle.flow_link.specs.declared.draft.BlockKind.{BlockKind}
use Rattle.flow_link.specs.declared.draft.BlockKind.TheVariants.{BatchedJoin}
use Rattle.flow_link.specs.Plan.{is_write_once}
use Rattle.flow_spread.specs.End.{owes_it}
use Rattle.flow_spread.specs.Spread.{SpreadState}
use Rattle.flow_spread.proofs.CountsOfEnds.{none_counts}
use Rattle.flow_block.specs.Copies.{shared_rules, copied_rules, fresh_copies, copies_left, weight_by, copies_weight}
use Rattle.flow_block.specs.Block.{port_in, unit_weight, group_weight, takes_group, is_batched_join, row_count, room_at, gives_each, comes_back}
use Rattle.flow_block.specs.BlockFits.{GaveOut, AllGaveOut, BlockFits, weight_out}
use Rattle.flow_block.specs.Peeks.{holds_nothing}

-- One port

out_there : (weight : ℕ) (ports : List PortState) (p : ℕ) → p < length ports → AllGaveOut weight ports → GaveOut weight (port_in ports p)
out_there weight [] p l all = absurd (omega arith)
out_there weight (port ∷ ports) zero l all = all.0
out_there weight (port ∷ ports) (suc p) l all = out_there weight ports p (omega arith) all.1

out_set : (weight : ℕ) (ports : List PortState) (p : ℕ) (port : PortState) → AllGaveOut weight ports → GaveOut weight port
    → AllGaveOut weight (set ports p port)
out_set weight [] p port all one = all
out_set weight (first ∷ ports) zero port all one = (one, all.1)
out_set weight (first ∷ ports) (suc p) port all one = (all.0, out_set weight ports p port all.1 one)

-- one port changes
pub fits_port : {ports : List PortState} {exits : OutletState} {copied : ℕ} → BlockFits ports exits copied → (p : ℕ) (old new : PortState) → p < length ports
    → old ≡ get_or ports p old → (GaveOut (weight_out exits copied) old → GaveOut (weight_out exits copied) new) → BlockFits (set ports p new) exits copied
fits_port {ports} {exits} {copied} fits p old new l is keeps =
    let read = get_or_read ports p old l is (fresh_port None) in
    let was = subst (λ port. GaveOut (weight_out exits copied) port) (sym read) (out_there (weight_out exits copied) ports p l fits.room) in
    record { room = out_set (weight_out exits copied) ports p new fits.room (keeps was); few = fits.few }

one_waits : (capacity : Option ℕ) (waiting : List Value) (value : Value) (weight load : ℕ)
    → cond (is_some capacity) (length waiting + weight) 0 ≤ load
    → cond (is_some capacity) (length (waiting ++ value ∷ []) + weight) 0 ≤ one_more capacity load
one_waits None waiting value weight load out = omega arith
one_waits (Some room) waiting value weight load out = omega (arith, length-append waiting (value ∷ []))

-- a message that is taken is counted
pub out_closed : (weight k : ℕ) (value : Value) (port : PortState) → GaveOut weight port → GaveOut weight (closes k value port)
out_closed weight k value port out = one_waits port.capacity port.waiting value weight port.load out

-- All ports

less_out : (capacity : Option ℕ) (waiting : List Value) (weight less load : ℕ) → less ≤ weight
    → cond (is_some capacity) (length waiting + weight) 0 ≤ load → cond (is_some capacity) (length waiting + less) 0 ≤ load
less_out None waiting weight less load fewer out = omega arith
less_out (Some room) waiting weight less load fewer out = omega arith

pub all_less : (weight less : ℕ) (ports : List PortState) → less ≤ weight → AllGaveOut weight ports → AllGaveOut less ports
all_less weight less [] fewer all = tt
all_less weight less (port ∷ ports) fewer all =
    (less_out port.capacity port.waiting weight less port.load fewer all.0, all_less weight less ports fewer all.1)

some_back : (capacity : Option ℕ) (waiting : List Value) (back rest load : ℕ)
    → cond (is_some capacity) (length waiting + (back + rest)) 0 ≤ load
    → cond (is_some capacity) (length waiting + rest) 0 ≤ load - back
some_back None waiting back rest load out = omega arith
some_back (Some room) waiting back rest load out = omega arith

all_back : (back rest : ℕ) (ports : List PortState) → AllGaveOut (back + rest) ports → AllGaveOut rest (map (gives_room back) ports)
all_back back rest [] all = tt
all_back back rest (port ∷ ports) all =
    (some_back port.capacity port.waiting back rest port.load all.0, all_back back rest ports all.1)

-- what comes back was given out
back_out : (capacity : Option ℕ) (waiting : List Value) (back load : ℕ) → cond (is_some capacity) (length waiting + back) 0 ≤ load
    → cond (is_some capacity) back 0 ≤ load - length waiting
back_out None waiting back load out = omega arith
back_out (Some room) waiting back load out = omega arith

rest_same : (f : PortState → PortState) (ports : List PortState) (p : ℕ) (d : PortState) → p < length ports
    → get_or (map f (take p ports) ++ drop p ports) p d ≡ get_or ports p d
rest_same f [] p d l = absurd (omega arith)
rest_same f (port ∷ ports) zero d l = refl
rest_same f (port ∷ ports) (suc p) d l = rest_same f ports p d (omega arith)

-- the port that comes next has given out what is to come back
pub next_out : (back : ℕ) (ports now : List PortState) (p : ℕ) (port : PortState) → AllGaveOut back ports → p < length ports
    → now ≡ map (gives_room back) (take p ports) ++ drop p ports → port ≡ get_or now p port
    → cond (is_some port.capacity) back 0 ≤ port.load - length port.waiting
next_out back ports now p port all l is read =
    let here : port ≡ get_or (map (gives_room back) (take p ports) ++ drop p ports) p port = rw is at read in
    let there : port ≡ get_or ports p port = rw (rest_same (gives_room back) ports p port l) at here in
    let known : port ≡ port_in ports p = get_or_read ports p port l there (fresh_port None) in
    back_out port.capacity port.waiting back port.load (subst (λ port. GaveOut back port) (sym known) (out_there back ports p l all))

module _ {ports : List PortState} {exits : OutletState} {copied : ℕ} (fits : BlockFits ports exits copied) (k room : ℕ) (is : room ≡ (gives k exits).room) where
  weights : weight_out exits copied ≡ room + (weight_of (groups_after exits.next exits.groups) + copied)
  weights = omega (arith, is, weight_stays exits.next exits.groups)

-- the room of a group's messages comes back beside it

less_back : (capacity : Option ℕ) (waiting : List Value) (room weight count load : ℕ)
    → cond (is_some capacity) (length waiting + (room + weight)) 0 ≤ load
    → cond (is_some capacity) (length waiting + weight) 0 ≤ load - (room + min count (load - length waiting - room - weight))
less_back None waiting room weight count load out = omega arith
less_back (Some limit) waiting room weight count load out = omega (arith, out)

pub each_back : (room weight : ℕ) (counts : ℕ → ℕ) (first : ℕ) (ports : List PortState) → AllGaveOut (room + weight) ports
    → AllGaveOut weight (gives_each room weight counts first ports)
each_back room weight counts first [] all = tt
each_back room weight counts first (port ∷ ports) all = (
  less_back port.capacity port.waiting room weight (counts first) port.load all.0,
  each_back room weight counts (suc first) ports all.1,
)

pub no_rows : (kind : BlockKind) (head : Option Value) → is_batched_join kind ≡ false → (p : ℕ) → row_count kind head p ≡ 0
no_rows BatchedJoin head other p = absurd (cc)
no_rows _ head other p = refl

pub rows_only : (kind : BlockKind) (head : Option Value) → is_batched_join kind ≡ true → row_count kind head ≡ row_count BatchedJoin head
rows_only BatchedJoin head is = refl
rows_only _ head is = absurd (cc)

-- where no group is given, the same room comes back at each port
pub none_beside : (room weight : ℕ) (counts : ℕ → ℕ) (first : ℕ) (ports : List PortState) → ((p : ℕ) → counts p ≡ 0)
    → map (gives_room room) ports ≡ gives_each room weight counts first ports
none_beside room weight counts first [] none = refl
none_beside room weight counts first (port ∷ ports) none =
    let zero_count : counts first ≡ 0 = none first in
    let same : room ≡ room_at room weight (counts first) port = rw zero_count (omega arith) in
    ap (λ (back : ℕ). gives_room back port ∷ map (gives_room room) ports) same
    ∙ ap (λ (rest : List PortState). gives_room (room_at room weight (counts first) port) port ∷ rest)
    (none_beside room weight counts (suc first) ports none)

module _ {ports : List PortState} {exits : OutletState} (copies : SpreadState) (fits : BlockFits ports exits (copies_weight copies)) (k : ℕ) where
  -- the room that comes with what is given was given out
  pub back_given : AllGaveOut (weight_out (gives k exits) (copies_weight copies)) ports
  back_given =
      let same : weight_out exits (copies_weight copies) ≡ weight_out (gives k exits) (copies_weight copies) =
      omega (arith, weight_stays exits.next exits.groups) in
      subst (λ (weight : ℕ). AllGaveOut weight ports) same fits.room

  pub fits_back : (kind : BlockKind) (head : Option Value)
      → BlockFits (comes_back (gives k exits) copies kind head ports) (record (gives k exits) { room = 0 }) (copies_weight copies)
  fits_back kind head =
      let given = gives k exits in
      let weight = weight_of given.groups + copies_weight copies in
      let same : weight_out given (copies_weight copies) ≡ given.room + weight = omega arith in
      let rest : 0 + weight_of given.groups + copies_weight copies ≡ weight = omega arith in
      let few = fits.few in
      let all = subst (λ (weight : ℕ). AllGaveOut weight ports) same back_given in
      record {
        room = subst (λ (weight : ℕ). AllGaveOut weight (comes_back given copies kind head ports)) (sym rest)
            (each_back given.room weight (row_count kind head) 0 ports all);
        few = omega (arith, few, weight_stays exits.next exits.groups);
      }

none_out : (capacity : Option ℕ) (waiting : List Value) (load : ℕ) → is_empty waiting ≡ true
    → cond (is_some capacity) (length waiting + (0 + 0 + 0)) 0 ≤ load
none_out None waiting load none = omega arith
none_out (Some room) [] load none = omega arith
none_out (Some room) (_ ∷ _) load none = absurd (cc)

all_fresh : (ports : List PortState) → holds_nothing ports ≡ true → AllGaveOut (0 + 0 + 0) ports
all_fresh [] none = tt
all_fresh (port ∷ ports) none =
    let both = and_parts (is_empty port.waiting) (holds_nothing ports) none in
    (none_out port.capacity port.waiting port.load both.0, all_fresh ports both.1)

no_element : (once : Bool) (left : ℕ) → left ≡ 0 → weight_by once false left ≡ 0
no_element true left none = refl
no_element false left none = none

pub weighs_fresh : (kind : BlockKind) (rules : List LinkRule) → copies_weight (fresh_copies kind rules) ≡ 0
weighs_fresh kind rules =
    no_element (is_write_once kind) (copies_left (fresh_copies kind rules))
    (ap (λ (count : ℕ). cond (count == 0) 0 1) (none_counts owes_it (copied_rules kind rules) (λ rule. refl)))

-- nothing is put yet
pub fits_fresh : (ports : List PortState) (kind : BlockKind) (rules : List LinkRule) → holds_nothing ports ≡ true
    → BlockFits ports (fresh_outlet (shared_rules kind rules) 1) (copies_weight (fresh_copies kind rules))
fits_fresh ports kind rules none =
    let nobody = weighs_fresh kind rules in
    rw nobody (record { room = all_fresh ports none; few = omega arith })

-- The message that waits longest is taken on

weight_fits : (capacity : Option ℕ) (waiting : List Value) (weight load : ℕ) → 0 < length waiting
    → cond (is_some capacity) (length waiting + weight) 0 ≤ load → cond (is_some capacity) load 0 < 2 ^ 32 → weight < 2 ^ 32
    → weight + unit_weight capacity < 2 ^ 32
weight_fits None waiting weight load waits out small few = omega arith
weight_fits (Some room) waiting weight load waits out small few = omega arith

one_on : (capacity : Option ℕ) (waiting : List Value) (weight load : ℕ) → 0 < length waiting
    → cond (is_some capacity) (length waiting + weight) 0 ≤ load
    → cond (is_some capacity) (length (drop 1 waiting) + (weight + unit_weight capacity)) 0 ≤ load
one_on None waiting weight load waits out = omega arith
one_on (Some room) [] weight load waits out = absurd (omega arith)
one_on (Some room) (_ ∷ waiting) weight load waits out = omega arith

only_one : (weight : ℕ) (ports : List PortState) (port : PortState) → length ports ≡ 1 → GaveOut weight port → AllGaveOut weight (set ports 0 port)
only_one weight [] port one out = absurd (omega arith)
only_one weight (first ∷ []) port one out = (out, tt)
only_one weight (first ∷ second ∷ ports) port one out = absurd (omega arith)

more_copied : (room weight more copied now kept : ℕ) → now + kept ≡ room + weight + more
    → room + weight + copied + more ≡ now + kept + copied
more_copied room weight more copied now kept e = omega (arith, e)

-- what is made of it is put, with its weight
pub fits_put_out : {ports : List PortState} {exits : OutletState} {copied : ℕ} → BlockFits ports exits copied → (seen old : PortState) → seen ≡ get_or ports 0 seen
    → old ≡ get_or ports 0 old → length ports ≡ 1 → 0 < length (port_in ports 0).waiting → cond (is_some seen.capacity) seen.load 0 < 2 ^ 32
    → (values : List Value) → BlockFits (set ports 0 (takes_next old)) (puts values (unit_weight seen.capacity) exits) copied
fits_put_out {ports} {exits} {copied} fits seen old seen_is old_is one waits small values =
    let l : 0 < length ports = omega arith in
    let first = port_in ports 0 in
    let seen_first : seen ≡ first = get_or_read ports 0 seen l seen_is (fresh_port None) in
    let old_first : old ≡ first = get_or_read ports 0 old l old_is (fresh_port None) in
    let few : cond (is_some first.capacity) first.load 0 < 2 ^ 32 = rw seen_first at small in
    let was = out_there (weight_out exits copied) ports 0 l fits.room in
    let bare = less_out first.capacity first.waiting (weight_out exits copied) (weight_out exits 0) first.load (omega arith) was in
    let weights = room_put (exits.next + length exits.left) (length values) (unit_weight first.capacity) exits.room exits.groups in
    let out = one_on first.capacity first.waiting (weight_out exits copied) first.load waits was in
    rw (seen_first, old_first) (
    record {
      room = subst (λ weight. AllGaveOut weight (set ports 0 (takes_next first))) (more_copied _ _ _ copied _ _ weights)
          (only_one (weight_out exits copied + unit_weight first.capacity) ports (takes_next first) one out);
      few = omega (arith, weights, weight_fits first.capacity first.waiting (weight_out exits 0) first.load waits bare few fits.few);
    }
    )

-- A row of the messages that wait longest is put

group_fits : (capacity : Option ℕ) (size : ℕ) (waiting : List Value) (weight load : ℕ)
    → cond (is_some capacity) (length waiting + weight) 0 ≤ load → cond (is_some capacity) load 0 < 2 ^ 32 → weight < 2 ^ 32
    → weight + group_weight capacity (length (take size waiting)) < 2 ^ 32
group_fits None size waiting weight load out small few = omega arith
group_fits (Some room) size waiting weight load out small few =
    let parts = length-append (take size waiting) (drop size waiting) in
    let whole = ap (λ (vs : List Value). length vs) (take-append-drop size waiting) in
    omega (arith, parts, whole, out, small)

group_on : (capacity : Option ℕ) (size : ℕ) (waiting : List Value) (weight load : ℕ)
    → cond (is_some capacity) (length waiting + weight) 0 ≤ load
    → cond (is_some capacity) (length (drop size waiting) + (weight + group_weight capacity (length (take size waiting)))) 0 ≤ load
group_on None size waiting weight load out = omega arith
group_on (Some room) size waiting weight load out =
    let parts = length-append (take size waiting) (drop size waiting) in
    let whole = ap (λ (vs : List Value). length vs) (take-append-drop size waiting) in
    omega (arith, parts, whole, out)

-- there is room for the weight of the row
pub row_fits : {ports : List PortState} {exits : OutletState} {copied : ℕ} → BlockFits ports exits copied → (port : PortState)
    → port ≡ get_or ports 0 port → length ports ≡ 1 → cond (is_some port.capacity) port.load 0 < 2 ^ 32 → (size : ℕ)
    → exits.room + weight_of exits.groups + group_weight port.capacity (length (take size port.waiting)) < 2 ^ 32
row_fits {ports} {exits} {copied} fits port is one small size =
    let l : 0 < length ports = omega (arith, one) in
    let first = get_or_read ports 0 port l is (fresh_port None) in
    let was = subst (λ port. GaveOut (weight_out exits copied) port) (sym first) (out_there (weight_out exits copied) ports 0 l fits.room) in
    let bare = less_out port.capacity port.waiting (weight_out exits copied) (weight_out exits 0) port.load (omega arith) was in
    let fit = group_fits port.capacity size port.waiting (weight_out exits 0) port.load bare small fits.few in
    omega (arith, fit)

pub fits_row : {ports : List PortState} {exits : OutletState} {copied : ℕ} → BlockFits ports exits copied → (seen old : PortState)
    → seen ≡ get_or ports 0 seen → old ≡ get_or ports 0 old → length ports ≡ 1
    → cond (is_some seen.capacity) seen.load 0 < 2 ^ 32 → (size : ℕ) (row : Value)
    → BlockFits (set ports 0 (takes_group size old))
    (puts (row ∷ []) (group_weight seen.capacity (length (take size seen.waiting))) exits) copied
fits_row {ports} {exits} {copied} fits seen old seen_is old_is one small size row =
    let l : 0 < length ports = omega (arith, one) in
    let port = port_in ports 0 in
    let seen_first : seen ≡ port = get_or_read ports 0 seen l seen_is (fresh_port None) in
    let old_first : old ≡ port = get_or_read ports 0 old l old_is (fresh_port None) in
    let few : cond (is_some port.capacity) port.load 0 < 2 ^ 32 = rw seen_first at small in
    let was = out_there (weight_out exits copied) ports 0 l fits.room in
    let bare = less_out port.capacity port.waiting (weight_out exits copied) (weight_out exits 0) port.load (omega arith) was in
    let more = group_weight port.capacity (length (take size port.waiting)) in
    let weights = room_put (exits.next + length exits.left) 1 more exits.room exits.groups in
    let out = group_on port.capacity size port.waiting (weight_out exits copied) port.load was in
    rw (seen_first, old_first) (
    record {
      room = subst (λ weight. AllGaveOut weight (set ports 0 (takes_group size port))) (more_copied _ _ _ copied _ _ weights)
          (only_one (weight_out exits copied + more) ports (takes_group size port) one out);
      few = omega (arith, weights, group_fits port.capacity size port.waiting (weight_out exits 0) port.load bare few fits.few);
    }
    )

-- The ports as a whole

all_same : (f : PortState → PortState) (weight : ℕ) (ports : List PortState)
    → ((port : PortState) → GaveOut weight port → GaveOut weight (f port)) → AllGaveOut weight ports → AllGaveOut weight (map f ports)
all_same f weight [] keeps all = tt
all_same f weight (port ∷ ports) keeps all = (keeps port all.0, all_same f weight ports keeps all.1)

pub fits_failed : {ports : List PortState} {exits : OutletState} {copied : ℕ} → BlockFits ports exits copied → BlockFits (map port_fails ports) exits copied
fits_failed {ports} {exits} {copied} fits = record { room = all_same port_fails (weight_out exits copied) ports (λ _ out. out) fits.room; few = fits.few }

pub fits_closed : {ports : List PortState} {exits : OutletState} {copied : ℕ} → BlockFits ports exits copied → BlockFits (map port_closes ports) exits copied
fits_closed {ports} {exits} {copied} fits = record { room = all_same port_closes (weight_out exits copied) ports (λ _ out. out) fits.room; few = fits.few }

-- What it copies

-- where the element counts less than it did, what it counts no more comes back
pub copied_out : {ports : List PortState} {exits : OutletState} {copied : ℕ} → BlockFits ports exits copied → (now : ℕ)
    → AllGaveOut (copied - now) ports
copied_out {ports} {exits} {copied} fits now = all_less (weight_out exits copied) (copied - now) ports (omega arith) fits.room

pub fits_copied : {ports : List PortState} {exits : OutletState} {copied : ℕ} → BlockFits ports exits copied → (now : ℕ) → now ≤ copied
    → BlockFits (map (gives_room (copied - now)) ports) exits now
fits_copied {ports} {exits} {copied} fits now less =
    let is : weight_out exits copied ≡ (copied - now) + weight_out exits now = omega (arith, less) in
    record {
      room = all_back (copied - now) (weight_out exits now) ports (subst (λ weight. AllGaveOut weight ports) is fits.room);
      few = fits.few;
    }
