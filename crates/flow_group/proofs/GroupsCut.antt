-- What the law of groups says, and that it holds over any calls that may be made.
use Rattle.std.proofs.Common.{◌≡◌, ℕ, zero, suc, ◌<◌, ◌==◌, ltb, Bool, true, false, ◌&&◌, List, [], ◌∷◌, ◌++◌, length, get_or, set, map, take, drop, None, pos, refl, ap, sym, ◌∙◌, subst, arith, append-nil, append_assoc, eq-eqb}
use Rattle.std.proofs.lemmas.Bool.{and_from}
use Rattle.std.proofs.lemmas.List.{length-map, length-set, get_or-set_same, take_at, drop_at}
use Rattle.flow_value.specs.View.{values_of-items_from}
use Rattle.flow_value.specs.declared.value.Value.{Value}
use Rattle.flow_value.specs.declared.value.Value.TheVariants.{Int}
use Rattle.flow_link.specs.Lists.{every, below, numbers_from, concat, same_values}
use Rattle.flow_link.specs.Making.{Arrival, arrived_at, all_items, column, items_of, is_row, is_any_row, is_group, are_cut, rows_weight}
use Rattle.flow_link.proofs.ListTests.{every_below, same_values_where}
use Rattle.flow_intake.specs.Port.{EndState, PortState, fresh_port}
use Rattle.flow_intake.specs.PortLaw.{has_ended}
use Rattle.flow_intake.specs.Calls.{takes}
use Rattle.flow_group.specs.Group.{came_at, row_of, takes_from}
use Rattle.flow_group.specs.Groups.{GroupsLaw, GroupsTell, GroupsSay, GroupsAreCutInOrder, Call, Course, IsAllowed, AllAllowed, after, after_all, group_row, arrival_at, came_by, came_in, fresh_course}
use Rattle.flow_group.specs.Tuple.{held_at, all_ended}
use Rattle.flow_group.specs.Tuples.{only_at}
use Rattle.flow_group.proofs.GroupsCount.{every_parts, at_number, arrived_append, counted, weight_of_group}
use Rattle.flow_group.proofs.GroupsKeep.{groups_kept, make_keeps, same_keeps}
use Rattle.flow_group.proofs.TuplesKeep.{held_by_take}

-- the row of a group has at each port's place the row of what came in there
at_port : (count : ℕ) (group : List Arrival) (p : ℕ) (none : Value) → p < count
    → get_or (items_of (group_row count group)) p none ≡ row_of (arrived_at p group)
at_port count group p none l =
    ap (λ (rows : List Value). get_or rows p none) (values_of-items_from (map (λ p. row_of (arrived_at p group)) (below count)))
    ∙ at_number (λ p. row_of (arrived_at p group)) 0 count p none l
    ∙ ap (λ (n : ℕ). row_of (arrived_at n group)) (omega arith)

items_at_port : (count : ℕ) (group : List Arrival) (p : ℕ) (none : Value) → p < count
    → items_of (get_or (items_of (group_row count group)) p none) ≡ arrived_at p group
items_at_port count group p none l =
    ap items_of (at_port count group p none l) ∙ values_of-items_from (arrived_at p group)

-- In order

in_rows : (count p : ℕ) (groups : List (List Arrival)) → p < count
    → arrived_at p (concat groups) ≡ all_items (column p (map (group_row count) groups))
in_rows count p [] l = refl
in_rows count p (group ∷ groups) l =
    arrived_append p group (concat groups)
    ∙ ap (λ (values : List Value). values ++ arrived_at p (concat groups)) (sym (items_at_port count group p (Int (pos 0)) l))
    ∙ ap (λ (values : List Value). items_of (get_or (items_of (group_row count group)) p (Int (pos 0))) ++ values) (in_rows count p groups l)

-- Cut

rows_of_rows : (f : ℕ → List Value) (first count : ℕ) → every is_any_row (map (λ p. row_of (f p)) (numbers_from first count)) ≡ true
rows_of_rows f first zero = refl
rows_of_rows f first (suc count) = rows_of_rows f (suc first) count

is_group_of : (count : ℕ) (group : List Arrival) → is_group (below count) group (group_row count group) ≡ true
is_group_of count group =
    let row : Value = group_row count group in
    let listed : items_of row ≡ map (λ p. row_of (arrived_at p group)) (below count) =
    values_of-items_from (map (λ p. row_of (arrived_at p group)) (below count)) in
    let wide : length (items_of row) ≡ length (below count) =
    ap length listed ∙ length-map (below count) (λ p. row_of (arrived_at p group)) in
    let rows : every is_any_row (items_of row) ≡ true =
    ap (every is_any_row) listed ∙ rows_of_rows (λ p. arrived_at p group) 0 count in
    let same : every (λ p. same_values (arrived_at p group) (items_of (get_or (items_of row) p row))) (below count) ≡ true =
    every_below (λ p. same_values (arrived_at p group) (items_of (get_or (items_of row) p row))) count
    (λ p l. same_values_where _ _ (sym (items_at_port count group p row l))) in
    and_from (is_row (length (below count)) row && every is_any_row (items_of row)) _
    (and_from (is_row (length (below count)) row) (every is_any_row (items_of row))
    (eq-eqb (length (items_of row)) (length (below count)) wide) rows) same

cut_by : (count : ℕ) (groups : List (List Arrival)) (came rest : List Arrival) (held : ℕ → List Value)
    → came ≡ concat groups ++ rest → every (λ (arrival : Arrival). ltb arrival.port count) came ≡ true
    → ((p : ℕ) → p < count → held p ≡ arrived_at p rest) → are_cut (below count) held came (map (group_row count) groups) ≡ true
cut_by count [] came rest held is known held_is =
    every_below (λ p. same_values (arrived_at p came) (held p)) count
    (λ p l. same_values_where (arrived_at p came) (held p) (ap (arrived_at p) is ∙ sym (held_is p l)))
cut_by count (group ∷ groups) came rest held is known held_is =
    let later : List Arrival = concat groups ++ rest in
    let whole : came ≡ group ++ later = is ∙ append_assoc group (concat groups) rest in
    let both = every_parts (λ (arrival : Arrival). ltb arrival.port count) group later
    (subst (λ (arrivals : List Arrival). every (λ (arrival : Arrival). ltb arrival.port count) arrivals ≡ true) whole known) in
    let weight : length group ≡ rows_weight (group_row count group) = sym (weight_of_group count group both.0) in
    let front : take (rows_weight (group_row count group)) came ≡ group =
    ap (take (rows_weight (group_row count group))) whole ∙ take_at group later (rows_weight (group_row count group)) weight in
    let back : drop (rows_weight (group_row count group)) came ≡ later =
    ap (drop (rows_weight (group_row count group))) whole ∙ drop_at group later (rows_weight (group_row count group)) weight in
    and_from (is_group (below count) (take (rows_weight (group_row count group)) came) (group_row count group))
    (are_cut (below count) held (drop (rows_weight (group_row count group)) came) (map (group_row count) groups))
    (ap (λ (arrivals : List Arrival). is_group (below count) arrivals (group_row count group)) front ∙ is_group_of count group)
    (ap (λ (arrivals : List Arrival). are_cut (below count) held arrivals (map (group_row count) groups)) back
    ∙ cut_by count groups later rest held refl both.1 held_is)

groups_say : (count size : ℕ) (ended : Bool) (came : List Arrival) (rows : List Value) (order : List ℕ) (held : ℕ → List Value)
    → GroupsLaw count size ended came rows order held → GroupsSay count size came rows order held
groups_say count size ended came rows order held law = record {
  in_order = λ p l.
      ap (arrived_at p) law.cut ∙ arrived_append p (concat law.groups) law.rest
      ∙ ap (λ (values : List Value). values ++ arrived_at p law.rest) (in_rows count p law.groups l)
      ∙ ap (λ (made : List Value). all_items (column p made) ++ arrived_at p law.rest) (sym law.rows_are)
      ∙ ap (λ (values : List Value). all_items (column p rows) ++ values) (sym (law.held_is p l));
  counted = λ p l. ap (came_at p) law.order_is ∙ counted p law.rest ∙ ap length (sym (law.held_is p l));
  are_cut =
      ap (are_cut (below count) held came) law.rows_are
      ∙ cut_by count law.groups came law.rest held law.cut law.known law.held_is;
}

pub groups_tell : GroupsTell
groups_tell = record { each = groups_say }

-- Over any calls

one_open : (ports : List PortState) (p : ℕ) → p < length ports → has_ended (get_or ports p (fresh_port None)).refusing ≡ false
    → all_ended ports ≡ false
one_open [] p l open_one = absurd (omega arith)
one_open (port ∷ ports) zero l open_one = ap (λ (ended : Bool). ended && all_ended ports) open_one
one_open (port ∷ ports) (suc p) l open_one =
    elim (has_ended port.refusing) as (λ ended. (ended && all_ended ports) ≡ false) [
      | true ↦ one_open ports p (omega arith) open_one
      | false ↦ refl
    ]

all_ended_taken : (first : ℕ) (order : List ℕ) (ports : List PortState) → all_ended (takes_from first order ports) ≡ all_ended ports
all_ended_taken first order [] = refl
all_ended_taken first order (port ∷ ports) =
    ap (λ (ended : Bool). has_ended port.refusing && ended) (all_ended_taken (suc first) order ports)

pub as_many_taken : (first : ℕ) (order : List ℕ) (ports : List PortState) → length (takes_from first order ports) ≡ length ports
as_many_taken first order [] = refl
as_many_taken first order (port ∷ ports) = ap suc (as_many_taken (suc first) order ports)

-- ports are completed, and stay so
pub ended_later : (count size : ℕ) (ended later : Bool) (came : List Arrival) (rows : List Value) (order : List ℕ) (held : ℕ → List Value)
    → GroupsLaw count size ended came rows order held → (ended ≡ true → later ≡ true) → GroupsLaw count size later came rows order held
ended_later count size true true came rows order held law stays = law
ended_later count size true false came rows order held law stays = let never : false ≡ true = stays refl in absurd (cc)
ended_later count size false true came rows order held law stays = groups_kept.complete count size false came rows order held law
ended_later count size false false came rows order held law stays = law

abbrev LawAt : ℕ → ℕ → List Arrival → Course → Type 0
LawAt count size came c = GroupsLaw count size (all_ended c.ports) came c.rows c.order (held_at c.ports)

as_many : (size : ℕ) (call : Call) (c : Course) → IsAllowed size call c → length (after size call c).ports ≡ length c.ports
as_many size (Call.take q value ends) c allowed =
    length-set c.ports q (takes value ends (get_or c.ports q (fresh_port None)))
as_many size Call.make c allowed = as_many_taken 0 (take size c.order) c.ports
as_many size (Call.change ports) c allowed = allowed.0.as_many

one_take : (q : ℕ) (value : Value) (ends : List EndState) (c : Course) (count size : ℕ) (came : List Arrival) → length c.ports ≡ count
    → LawAt count size came c → IsAllowed size (Call.take q value ends) c
    → LawAt count size (came ++ arrival_at q value ∷ []) (after size (Call.take q value ends) c)
one_take q value ends c count size came e law allowed =
    let port : PortState = takes value ends (get_or c.ports q (fresh_port None)) in
    let later : List PortState = set c.ports q port in
    let there : q < length c.ports = allowed.0 in
    let many : length later ≡ length c.ports = length-set c.ports q port in
    let before : all_ended c.ports ≡ false = one_open c.ports q there allowed.1 in
    let read : get_or later q (fresh_port None) ≡ port = get_or-set_same c.ports q port (fresh_port None) there in
    let open_still : has_ended (get_or later q (fresh_port None)).refusing ≡ false =
    ap (λ (found : PortState). has_ended found.refusing) read ∙ allowed.1 in
    let behind : all_ended later ≡ false = one_open later q (omega arith) open_still in
    let was : GroupsLaw count size false came c.rows c.order (held_at c.ports) =
    subst (λ (ended : Bool). GroupsLaw count size ended came c.rows c.order (held_at c.ports)) before law in
    let held : ℕ → List Value = λ p. held_at c.ports p ++ only_at q (value ∷ []) p in
    let taken : GroupsLaw count size false (came ++ arrival_at q value ∷ []) c.rows (c.order ++ q ∷ []) held =
    groups_kept.take count size came c.rows c.order (held_at c.ports) was q (omega arith) value in
    subst (λ (ended : Bool). GroupsLaw count size ended (came ++ arrival_at q value ∷ []) c.rows (c.order ++ q ∷ []) (held_at later))
    (sym behind)
    (same_keeps count size false (came ++ arrival_at q value ∷ []) c.rows (c.order ++ q ∷ []) held (held_at later) taken
    (λ p l. held_by_take c.ports q value ends p (omega arith) (q == p) refl))

one_call : (size : ℕ) → 0 < size → (call : Call) (c : Course) (count : ℕ) (came : List Arrival) → length c.ports ≡ count
    → LawAt count size came c → IsAllowed size call c → LawAt count size (came ++ came_by call) (after size call c)
one_call size some (Call.take q value ends) c count came e law allowed = one_take q value ends c count size came e law allowed
one_call size some Call.make c count came e law allowed =
    let next : Course = after size Call.make c in
    subst (λ (arrivals : List Arrival). LawAt count size arrivals next) (sym (append-nil came))
    (subst (λ (ended : Bool). GroupsLaw count size ended came next.rows next.order (held_at next.ports))
    (sym (all_ended_taken 0 (take size c.order) c.ports))
    (make_keeps count size (all_ended c.ports) came c.rows c.order c.ports e some law allowed))
one_call size some (Call.change ports) c count came e law allowed =
    let next : Course = after size (Call.change ports) c in
    subst (λ (arrivals : List Arrival). LawAt count size arrivals next) (sym (append-nil came))
    (ended_later count size (all_ended c.ports) (all_ended ports) came c.rows c.order (held_at ports)
    (same_keeps count size (all_ended c.ports) came c.rows c.order (held_at c.ports) (held_at ports) law
    (λ p l. allowed.0.held p (omega arith)))
    allowed.1)

all_calls : (size : ℕ) → 0 < size → (calls : List Call) (c : Course) (count : ℕ) (came : List Arrival) → length c.ports ≡ count
    → LawAt count size came c → AllAllowed size calls c → LawAt count size (came ++ came_in calls) (after_all size calls c)
all_calls size some [] c count came e law allowed =
    subst (λ (arrivals : List Arrival). LawAt count size arrivals c) (sym (append-nil came)) law
all_calls size some (call ∷ calls) c count came e law allowed =
    let next : Course = after size call c in
    subst (λ (arrivals : List Arrival). LawAt count size arrivals (after_all size calls next))
    (append_assoc came (came_by call) (came_in calls))
    (all_calls size some calls next count (came ++ came_by call) (as_many size call c allowed.0 ∙ e)
    (one_call size some call c count came e law allowed.0) allowed.1)

pub groups_cut : GroupsAreCutInOrder
groups_cut = record {
  each = λ size some ports empty calls allowed.
      all_calls size some calls (fresh_course ports) (length ports) [] refl
      (same_keeps (length ports) size (all_ended ports) [] [] [] (λ p. []) (held_at ports)
      (groups_kept.fresh (length ports) size (all_ended ports)) empty)
      allowed;
}
