-- Each call keeps the law of tuples, and so do any calls that may be made.
use Rattle.std.proofs.Common.{◌≡◌, ℕ, zero, suc, ◌<◌, ◌==◌, cond, not, Bool, true, false, List, [], ◌∷◌, ◌++◌, length, get_or, set, map, drop, None, pos, refl, ap, sym, ◌∙◌, subst, arith, append-nil, append_assoc, eq-eqb}
use Rattle.std.proofs.lemmas.Bool.{and_parts, eqb-true, eqb-false}
use Rattle.std.proofs.lemmas.List.{length-map, map-append, length-set, get_or-set_same, get_or-set_other}
use Rattle.flow_value.specs.View.{items_from, values_of, values_of-items_from}
use Rattle.flow_value.specs.declared.value.Value.{Value}
use Rattle.flow_value.specs.declared.value.Value.TheVariants.{Int}
use Rattle.flow_link.specs.Lists.{is_empty}
use Rattle.flow_link.specs.Making.{is_row, column, items_of}
use Rattle.flow_link.proofs.OneMoreMark.{every_more}
use Rattle.flow_intake.specs.Port.{EndState, PortState, fresh_port}
use Rattle.flow_intake.specs.Calls.{takes, takes_next}
use Rattle.flow_group.specs.Tuple.{held_at, has_first, has_tuple, first_at, tuple_of, takes_tuple}
use Rattle.flow_group.specs.Tuples.{TuplesLaw, TuplesKept, NoTupleIsTorn, Call, Course, IsAllowed, AllAllowed, after, after_all, only_at, taken_by, taken_in}

-- the tuple has a message for each port
tuple_wide : (count : ℕ) (ports : List PortState) → length ports ≡ count → is_row count (tuple_of ports) ≡ true
tuple_wide count ports e =
    eq-eqb (length (values_of (items_from (map first_at ports)))) count
    (ap length (values_of-items_from (map first_at ports)) ∙ length-map ports first_at ∙ e)

-- what waits at a port that holds something is its first message, and the rest
first_and_rest : (values : List Value) → not (is_empty values) ≡ true → values ≡ get_or values 0 (Int (pos 0)) ∷ drop 1 values
first_and_rest [] some = absurd (cc)
first_and_rest (value ∷ values) some = refl

split_at : (ports : List PortState) (p : ℕ) → p < length ports → has_tuple ports ≡ true
    → held_at ports p ≡ get_or (map first_at ports) p (Int (pos 0)) ∷ held_at (takes_tuple ports) p
split_at [] p l all = absurd (omega arith)
split_at (port ∷ ports) zero l all = first_and_rest port.waiting (and_parts (has_first port) (has_tuple ports) all).0
split_at (port ∷ ports) (suc p) l all = split_at ports p (omega arith) (and_parts (has_first port) (has_tuple ports) all).1

-- the values of one more tuple at a place
column_more : (p : ℕ) (tuples : List Value) (ports : List PortState)
    → column p (tuples ++ tuple_of ports ∷ []) ≡ column p tuples ++ get_or (map first_at ports) p (Int (pos 0)) ∷ []
column_more p tuples ports =
    map-append (λ row. get_or (items_of row) p (Int (pos 0))) tuples (tuple_of ports ∷ [])
    ∙ ap (λ (values : List Value). column p tuples ++ get_or values p (Int (pos 0)) ∷ []) (values_of-items_from (map first_at ports))

-- The calls

fresh : (count : ℕ) → TuplesLaw count (λ p. []) [] (λ p. [])
fresh count = record { wide = refl; in_order = λ p l. refl }

take_keeps : (count : ℕ) (took : ℕ → List Value) (tuples : List Value) (held : ℕ → List Value) → TuplesLaw count took tuples held
    → (q : ℕ) (value : Value)
    → TuplesLaw count (λ p. took p ++ only_at q (value ∷ []) p) tuples (λ p. held p ++ only_at q (value ∷ []) p)
take_keeps count took tuples held law q value = record {
  wide = law.wide;
  in_order = λ p l.
      ap (λ (values : List Value). values ++ only_at q (value ∷ []) p) (law.in_order p l)
      ∙ append_assoc (column p tuples) (held p) (only_at q (value ∷ []) p);
}

make_keeps : (count : ℕ) (took : ℕ → List Value) (tuples : List Value) (ports : List PortState) → length ports ≡ count
    → TuplesLaw count took tuples (held_at ports) → has_tuple ports ≡ true
    → TuplesLaw count took (tuples ++ tuple_of ports ∷ []) (held_at (takes_tuple ports))
make_keeps count took tuples ports e law all = record {
  wide = every_more (is_row count) tuples (tuple_of ports) law.wide (tuple_wide count ports e);
  in_order = λ p l.
      let first : Value = get_or (map first_at ports) p (Int (pos 0)) in
      law.in_order p l
      ∙ ap (λ (values : List Value). column p tuples ++ values) (split_at ports p (omega arith) all)
      ∙ sym (append_assoc (column p tuples) (first ∷ []) (held_at (takes_tuple ports) p))
      ∙ ap (λ (values : List Value). values ++ held_at (takes_tuple ports) p) (sym (column_more p tuples ports));
}

same_keeps : (count : ℕ) (took later : ℕ → List Value) (tuples : List Value) (held holds : ℕ → List Value)
    → TuplesLaw count took tuples held → ((p : ℕ) → p < count → later p ≡ took p) → ((p : ℕ) → p < count → holds p ≡ held p)
    → TuplesLaw count later tuples holds
same_keeps count took later tuples held holds law same_took same_held = record {
  wide = law.wide;
  in_order = λ p l.
      same_took p l ∙ law.in_order p l ∙ ap (λ (values : List Value). column p tuples ++ values) (sym (same_held p l));
}

pub tuples_kept : TuplesKept
tuples_kept = record {
  fresh = fresh;
  take = take_keeps;
  make = λ took tuples ports law all. make_keeps (length ports) took tuples ports refl law all;
  same = same_keeps;
}

-- Over any calls

pub held_by_take : (ports : List PortState) (q : ℕ) (value : Value) (ends : List EndState) (p : ℕ) → p < length ports
    → (here : Bool) → (q == p) ≡ here
    → held_at (set ports q (takes value ends (get_or ports q (fresh_port None)))) p ≡ held_at ports p ++ cond here (value ∷ []) []
held_by_take ports q value ends p l true is =
    let e : q ≡ p = eqb-true q p is in
    let port : PortState = takes value ends (get_or ports q (fresh_port None)) in
    let there : q < length ports = omega arith in
    subst (λ (k : ℕ). held_at (set ports q port) k ≡ held_at ports k ++ value ∷ []) e
    (ap (λ (found : PortState). found.waiting) (get_or-set_same ports q port (fresh_port None) there))
held_by_take ports q value ends p l false is =
    let other : p ≡ q → ⊥ = λ e. eqb-false q p is (sym e) in
    ap (λ (found : PortState). found.waiting)
    (get_or-set_other ports q p (takes value ends (get_or ports q (fresh_port None))) (fresh_port None) other)
    ∙ sym (append-nil (held_at ports p))

-- a call leaves as many ports
as_many : (call : Call) (c : Course) → IsAllowed call c → length (after call c).ports ≡ length c.ports
as_many (Call.take q value ends) c allowed = length-set c.ports q (takes value ends (get_or c.ports q (fresh_port None)))
as_many Call.make c allowed = length-map c.ports takes_next
as_many (Call.change ports) c allowed = allowed.as_many

one_call : (call : Call) (c : Course) (count : ℕ) (took : ℕ → List Value) → length c.ports ≡ count
    → TuplesLaw count took c.tuples (held_at c.ports) → IsAllowed call c
    → TuplesLaw count (λ p. took p ++ taken_by call p) (after call c).tuples (held_at (after call c).ports)
one_call (Call.take q value ends) c count took e law allowed =
    let taken : ℕ → List Value = λ p. took p ++ only_at q (value ∷ []) p in
    same_keeps count taken taken c.tuples (λ p. held_at c.ports p ++ only_at q (value ∷ []) p)
    (held_at (after (Call.take q value ends) c).ports) (take_keeps count took c.tuples (held_at c.ports) law q value)
    (λ p l. refl) (λ p l. held_by_take c.ports q value ends p (omega arith) (q == p) refl)
one_call Call.make c count took e law allowed =
    same_keeps count took (λ p. took p ++ []) (c.tuples ++ tuple_of c.ports ∷ []) (held_at (takes_tuple c.ports))
    (held_at (takes_tuple c.ports)) (make_keeps count took c.tuples c.ports e law allowed)
    (λ p l. append-nil (took p)) (λ p l. refl)
one_call (Call.change ports) c count took e law allowed =
    same_keeps count took (λ p. took p ++ []) c.tuples (held_at c.ports) (held_at ports) law
    (λ p l. append-nil (took p)) (λ p l. allowed.held p (omega arith))

all_calls : (calls : List Call) (c : Course) (count : ℕ) (took : ℕ → List Value) → length c.ports ≡ count
    → TuplesLaw count took c.tuples (held_at c.ports) → AllAllowed calls c
    → TuplesLaw count (λ p. took p ++ taken_in calls p) (after_all calls c).tuples (held_at (after_all calls c).ports)
all_calls [] c count took e law allowed =
    same_keeps count took (λ p. took p ++ []) c.tuples (held_at c.ports) (held_at c.ports) law
    (λ p l. append-nil (took p)) (λ p l. refl)
all_calls (call ∷ calls) c count took e law allowed =
    let next : Course = after call c in
    let end : Course = after_all calls next in
    let later : ℕ → List Value = λ p. took p ++ taken_by call p in
    same_keeps count (λ p. later p ++ taken_in calls p) (λ p. took p ++ (taken_by call p ++ taken_in calls p)) end.tuples
    (held_at end.ports) (held_at end.ports)
    (all_calls calls next count later (as_many call c allowed.0 ∙ e) (one_call call c count took e law allowed.0) allowed.1)
    (λ p l. sym (append_assoc (took p) (taken_by call p) (taken_in calls p))) (λ p l. refl)

pub no_tuple_torn : NoTupleIsTorn
no_tuple_torn = record {
  each = λ ports empty calls allowed.
      all_calls calls (record { ports = ports; tuples = [] }) (length ports) (λ p. []) refl
      (same_keeps (length ports) (λ p. []) (λ p. []) [] (λ p. []) (held_at ports) (fresh (length ports)) (λ p l. refl) empty)
      allowed;
}
