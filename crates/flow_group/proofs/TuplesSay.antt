-- What the law of tuples says of each port, and of each tuple.
use Rattle.std.proofs.Common.{◌≡◌, ℕ, zero, suc, ◌+◌, ◌<◌, true, List, [], ◌∷◌, ◌++◌, length, get_or, map, drop, pos, refl, ap, sym, ◌∙◌, arith, length-append}
use Rattle.std.proofs.lemmas.Bool.{and_parts, eqb-true}
use Rattle.std.proofs.lemmas.List.{length-map, drop_at, get_or_append_left}
use Rattle.flow_value.specs.View.{items_from, values_of, items_from-values_of}
use Rattle.flow_value.specs.declared.value.Value.{Value}
use Rattle.flow_value.specs.declared.value.Value.TheVariants.{Int, Text, Row}
use Rattle.flow_link.specs.Lists.{every, below, numbers_from, same_values}
use Rattle.flow_link.specs.Making.{is_row, column, items_of}
use Rattle.flow_link.proofs.ListTests.{every_below, same_values_where}
use Rattle.flow_group.specs.Tuples.{TuplesLaw, TuplesTell, PortInTuples}

-- the values at one place, by the number of their tuple
at_column : (p i : ℕ) (tuples : List Value) → i < length tuples
    → get_or (column p tuples) i (Int (pos 0)) ≡ get_or (items_of (get_or tuples i (Int (pos 0)))) p (Int (pos 0))
at_column p i [] l = absurd (omega arith)
at_column p zero (tuple ∷ tuples) l = refl
at_column p (suc i) (tuple ∷ tuples) l = at_column p i tuples (omega arith)

row_at : (count i : ℕ) (tuples : List Value) → every (is_row count) tuples ≡ true → i < length tuples
    → is_row count (get_or tuples i (Int (pos 0))) ≡ true
row_at count i [] all l = absurd (omega arith)
row_at count zero (tuple ∷ tuples) all l = (and_parts (is_row count tuple) (every (is_row count) tuples) all).0
row_at count (suc i) (tuple ∷ tuples) all l =
    row_at count i tuples (and_parts (is_row count tuple) (every (is_row count) tuples) all).1 (omega arith)

-- a list by its places
by_places : (f : ℕ → Value) (values : List Value) (first : ℕ)
    → ((k : ℕ) → k < length values → get_or values k (Int (pos 0)) ≡ f (first + k))
    → values ≡ map f (numbers_from first (length values))
by_places f [] first each = refl
by_places f (value ∷ values) first each =
    let head : value ≡ f first = each 0 (omega arith) ∙ ap f (omega arith) in
    let rest : values ≡ map f (numbers_from (suc first) (length values)) =
    by_places f values (suc first) (λ k l. each (suc k) (omega arith) ∙ ap f (omega arith)) in
    ap (λ (v : Value). v ∷ values) head ∙ ap (λ (vs : List Value). f first ∷ vs) rest

-- a row of so many values is told by them
row_is : (count : ℕ) (f : ℕ → Value) (row : Value) → is_row count row ≡ true
    → ((k : ℕ) → k < count → get_or (items_of row) k (Int (pos 0)) ≡ f k)
    → row ≡ Row (items_from (map f (below count)))
row_is count f (Int n) is each = absurd (cc)
row_is count f (Text t) is each = absurd (cc)
row_is count f (Row items) is each =
    let many : length (values_of items) ≡ count = eqb-true (length (values_of items)) count is in
    let listed : values_of items ≡ map f (numbers_from 0 (length (values_of items))) =
    by_places f (values_of items) 0 (λ k l. each k (omega arith) ∙ ap f (omega arith)) in
    sym (ap Row (items_from-values_of items))
    ∙ ap (λ (values : List Value). Row (items_from values)) listed
    ∙ ap (λ (n : ℕ). Row (items_from (map f (numbers_from 0 n)))) many

port_in_tuples : (count : ℕ) (took : ℕ → List Value) (tuples : List Value) (held : ℕ → List Value) → TuplesLaw count took tuples held
    → (p : ℕ) → p < count → PortInTuples (took p) tuples (held p) p
port_in_tuples count took tuples held law p l =
    let many : length (column p tuples) ≡ length tuples = length-map tuples (λ row. get_or (items_of row) p (Int (pos 0))) in
    record {
      as_many = ap length (law.in_order p l) ∙ length-append (column p tuples) (held p) ∙ ap (λ (n : ℕ). n + length (held p)) many;
      rest = sym (ap (drop (length tuples)) (law.in_order p l) ∙ drop_at (column p tuples) (held p) (length tuples) many);
    }

tuple_is : (count : ℕ) (took : ℕ → List Value) (tuples : List Value) (held : ℕ → List Value) → TuplesLaw count took tuples held
    → (i : ℕ) → i < length tuples
    → get_or tuples i (Int (pos 0)) ≡ Row (items_from (map (λ p. get_or (took p) i (Int (pos 0))) (below count)))
tuple_is count took tuples held law i l =
    row_is count (λ p. get_or (took p) i (Int (pos 0))) (get_or tuples i (Int (pos 0))) (row_at count i tuples law.wide l)
    (λ p there.
    let many : length (column p tuples) ≡ length tuples = length-map tuples (λ row. get_or (items_of row) p (Int (pos 0))) in
    let front : i < length (column p tuples) = omega arith in
    sym (at_column p i tuples l)
    ∙ sym (get_or_append_left (column p tuples) (held p) (Int (pos 0)) i front)
    ∙ ap (λ (values : List Value). get_or values i (Int (pos 0))) (sym (law.in_order p there)))

makes_tuples : (count : ℕ) (took : ℕ → List Value) (tuples : List Value) (held : ℕ → List Value) → TuplesLaw count took tuples held
    → every (λ p. same_values (took p) (column p tuples ++ held p)) (below count) ≡ true
makes_tuples count took tuples held law =
    every_below (λ p. same_values (took p) (column p tuples ++ held p)) count
    (λ p l. same_values_where (took p) (column p tuples ++ held p) (law.in_order p l))

pub tuples_tell : TuplesTell
tuples_tell = record { each = port_in_tuples; tuple = tuple_is; makes = makes_tuples }
