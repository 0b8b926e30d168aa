-- What a join makes of what it takes, over any calls: each message stands in one tuple, at its port's place and in order, or
-- is held.
use Rattle.std.specs.Prelude.{◌≡◌, ℕ, ◌+◌, ◌<◌, ◌==◌, cond, true, List, [], ◌∷◌, ◌++◌, length, get_or, set, map, drop, None, pos}
use Rattle.flow_value.specs.View.{items_from}
use Rattle.flow_value.specs.declared.value.Value.{Value}
use Rattle.flow_value.specs.declared.value.Value.TheVariants.{Int, Row}
use Rattle.flow_link.specs.Lists.{every, below, same_values}
use Rattle.flow_link.specs.Making.{is_row, column}
use Rattle.flow_intake.specs.Port.{EndState, PortState, fresh_port}
use Rattle.flow_intake.specs.Calls.{takes}
use Rattle.flow_group.specs.Tuple.{held_at, has_tuple, tuple_of, takes_tuple}

-- of a join with so many ports: what was taken at each port, the tuples made, and what each port holds
pub record TuplesLaw (count : ℕ) (took : ℕ → List Value) (tuples : List Value) (held : ℕ → List Value) : Type 0 where
  -- each tuple has one message for each port
  pub wide : every (is_row count) tuples ≡ true
  -- what was taken at a port stands at its place in the tuples, in order, and then comes what is held
  pub in_order : (p : ℕ) → p < count → took p ≡ column p tuples ++ held p

-- values at one port, and none at another
abbrev pub only_at : ℕ → List Value → ℕ → List Value
only_at q values p = cond (q == p) values []

-- each call keeps the law
pub record TuplesKept : Type 0 where
  pub fresh : (count : ℕ) → TuplesLaw count (λ p. []) [] (λ p. [])
  -- a message is taken at a port
  pub take : (count : ℕ) (took : ℕ → List Value) (tuples : List Value) (held : ℕ → List Value) → TuplesLaw count took tuples held
      → (q : ℕ) (value : Value)
      → TuplesLaw count (λ p. took p ++ only_at q (value ∷ []) p) tuples (λ p. held p ++ only_at q (value ∷ []) p)
  -- a tuple is made
  pub make : (took : ℕ → List Value) (tuples : List Value) (ports : List PortState)
      → TuplesLaw (length ports) took tuples (held_at ports) → has_tuple ports ≡ true
      → TuplesLaw (length ports) took (tuples ++ tuple_of ports ∷ []) (held_at (takes_tuple ports))
  -- what changes nothing of what was taken and is held
  pub same : (count : ℕ) (took later : ℕ → List Value) (tuples : List Value) (held holds : ℕ → List Value)
      → TuplesLaw count took tuples held → ((p : ℕ) → p < count → later p ≡ took p) → ((p : ℕ) → p < count → holds p ≡ held p)
      → TuplesLaw count later tuples holds

-- what the law says of one port
pub record PortInTuples (took tuples held : List Value) (p : ℕ) : Type 0 where
  -- each tuple took one message of it
  pub as_many : length took ≡ length tuples + length held
  -- it holds what came last
  pub rest : held ≡ drop (length tuples) took

pub record TuplesTell : Type 0 where
  pub each : (count : ℕ) (took : ℕ → List Value) (tuples : List Value) (held : ℕ → List Value) → TuplesLaw count took tuples held
      → (p : ℕ) → p < count → PortInTuples (took p) tuples (held p) p
  -- each tuple is the row of the messages with its number at all ports, in their order
  pub tuple : (count : ℕ) (took : ℕ → List Value) (tuples : List Value) (held : ℕ → List Value) → TuplesLaw count took tuples held
      → (i : ℕ) → i < length tuples
      → get_or tuples i (Int (pos 0)) ≡ Row (items_from (map (λ p. get_or (took p) i (Int (pos 0))) (below count)))
  -- what each port took is what the tuples have of it and what it holds, as a run's law tests it
  pub makes : (count : ℕ) (took : ℕ → List Value) (tuples : List Value) (held : ℕ → List Value) → TuplesLaw count took tuples held
      → every (λ p. same_values (took p) (column p tuples ++ held p)) (below count) ≡ true

-- Over any calls

-- a message is taken at a port, a tuple is made, or something else becomes of the ports
pub data Call : Type 0 where
  take : ℕ → Value → List EndState → Call
  make : Call
  change : List PortState → Call

-- a join's ports, and the tuples that it has made
pub record Course : Type 0 where
  pub ports : List PortState
  pub tuples : List Value

abbrev pub after : Call → Course → Course
after (Call.take p value ends) c =
    record c { ports = set c.ports p (takes value ends (get_or c.ports p (fresh_port None))) }
after Call.make c = record { ports = takes_tuple c.ports; tuples = c.tuples ++ tuple_of c.ports ∷ [] }
after (Call.change ports) c = record c { ports = ports }

-- the same waits at each of them
pub record SameHeld (old new : List PortState) : Type 0 where
  pub as_many : length new ≡ length old
  pub held : (p : ℕ) → p < length old → held_at new p ≡ held_at old p

abbrev pub IsAllowed : Call → Course → Type 0
IsAllowed (Call.take p value ends) c = p < length c.ports
IsAllowed Call.make c = has_tuple c.ports ≡ true
IsAllowed (Call.change ports) c = SameHeld c.ports ports

abbrev pub after_all : List Call → Course → Course
after_all [] c = c
after_all (call ∷ calls) c = after_all calls (after call c)

abbrev pub AllAllowed : List Call → Course → Type 0
AllAllowed [] c = Unit {0}
AllAllowed (call ∷ calls) c = IsAllowed call c × AllAllowed calls (after call c)

-- what these calls take at a port
abbrev pub taken_by : Call → ℕ → List Value
taken_by (Call.take q value ends) p = only_at q (value ∷ []) p
taken_by Call.make p = []
taken_by (Call.change ports) p = []

abbrev pub taken_in : List Call → ℕ → List Value
taken_in [] p = []
taken_in (call ∷ calls) p = taken_by call p ++ taken_in calls p

-- from ports at which nothing waits, over any calls that may be made, no message is lost, and no tuple is torn
pub record NoTupleIsTorn : Type 0 where
  pub each : (ports : List PortState) → ((p : ℕ) → p < length ports → held_at ports p ≡ [])
      → (calls : List Call) → AllAllowed calls (record { ports = ports; tuples = [] })
      → TuplesLaw (length ports) (taken_in calls) (after_all calls (record { ports = ports; tuples = [] })).tuples
      (held_at (after_all calls (record { ports = ports; tuples = [] })).ports)
