-- What a batched join makes of what it takes, over any calls: its messages are cut into groups in the order in which they
-- came in, and each group is a row of rows, one for each port.
use Rattle.std.specs.Prelude.{◌≡◌, ℕ, ◌<◌, ◌==◌, ltb, Bool, true, false, ◌&&◌, ◌||◌, List, [], ◌∷◌, ◌++◌, length, get_or, set, map, drop, None}
use Rattle.flow_value.specs.declared.value.Value.{Value}
use Rattle.flow_link.specs.Lists.{every, is_empty, below, concat}
use Rattle.flow_link.specs.Making.{Arrival, arrived_at, all_items, column, are_groups, are_cut, rows_weight}
use Rattle.flow_intake.specs.Port.{EndState, PortState, fresh_port}
use Rattle.flow_intake.specs.PortLaw.{has_ended}
use Rattle.flow_intake.specs.Calls.{takes}
use Rattle.flow_group.specs.Group.{came_at, has_group, row_of, group_of, takes_group}
use Rattle.flow_group.specs.Tuple.{held_at, all_ended}
use Rattle.flow_group.specs.Tuples.{SameHeld, only_at}

-- the row of a group: for each port the row of its messages in the group
abbrev pub group_row : ℕ → List Arrival → Value
group_row count group = row_of (map (λ p. row_of (arrived_at p group)) (below count))

abbrev pub is_whole : ℕ → Value → Bool
is_whole size row = rows_weight row == size

-- of a batched join with so many ports and groups of this size: whether all ports are completed, the messages that came in,
-- the rows made, and the ports of the messages in no group, with what each port holds
pub record GroupsLaw (count size : ℕ) (ended : Bool) (came : List Arrival) (rows : List Value) (order : List ℕ) (held : ℕ → List Value) : Type 0 where
  -- what came in is cut, in its order, into the groups of the rows and what is held
  pub groups : List (List Arrival)
  pub rest : List Arrival
  pub cut : came ≡ concat groups ++ rest
  pub rows_are : rows ≡ map (group_row count) groups
  -- what is held waits at its port, in order
  pub order_is : order ≡ map (λ (arrival : Arrival). arrival.port) rest
  pub held_is : (p : ℕ) → p < count → held p ≡ arrived_at p rest
  pub known : every (λ (arrival : Arrival). ltb arrival.port count) came ≡ true
  -- each row is of a whole group, but for the last, which has a message at least
  pub sized : are_groups rows_weight size rows ≡ true
  -- where a row is short, all ports are completed, and nothing is held
  pub whole : ((ended && is_empty order) || every (is_whole size) rows) ≡ true

abbrev pub arrival_at : ℕ → Value → Arrival
arrival_at q value = record { port = q; value = value }

-- each call keeps the law
pub record GroupsKept : Type 0 where
  pub fresh : (count size : ℕ) (ended : Bool) → GroupsLaw count size ended [] [] [] (λ p. [])
  -- a message is taken at a port, while some port is not completed
  pub take : (count size : ℕ) (came : List Arrival) (rows : List Value) (order : List ℕ) (held : ℕ → List Value)
      → GroupsLaw count size false came rows order held → (q : ℕ) → q < count → (value : Value)
      → GroupsLaw count size false (came ++ arrival_at q value ∷ []) rows (order ++ q ∷ [])
      (λ p. held p ++ only_at q (value ∷ []) p)
  -- the next group is made
  pub make : (size : ℕ) (ended : Bool) (came : List Arrival) (rows : List Value) (order : List ℕ) (ports : List PortState)
      → 0 < size → GroupsLaw (length ports) size ended came rows order (held_at ports) → has_group size ended order ≡ true
      → GroupsLaw (length ports) size ended came (rows ++ group_of size order ports ∷ []) (drop size order)
      (held_at (takes_group size order ports))
  -- the last port is completed
  pub complete : (count size : ℕ) (ended : Bool) (came : List Arrival) (rows : List Value) (order : List ℕ) (held : ℕ → List Value)
      → GroupsLaw count size ended came rows order held → GroupsLaw count size true came rows order held
  -- what changes nothing of what is held
  pub same : (count size : ℕ) (ended : Bool) (came : List Arrival) (rows : List Value) (order : List ℕ) (held holds : ℕ → List Value)
      → GroupsLaw count size ended came rows order held → ((p : ℕ) → p < count → holds p ≡ held p)
      → GroupsLaw count size ended came rows order holds

-- what the law says
pub record GroupsSay (count size : ℕ) (came : List Arrival) (rows : List Value) (order : List ℕ) (held : ℕ → List Value) : Type 0 where
  -- at each port the messages of the rows, in order, and then what is held
  pub in_order : (p : ℕ) → p < count → arrived_at p came ≡ all_items (column p rows) ++ held p
  -- as many arrivals of each port are noted as messages wait there
  pub counted : (p : ℕ) → p < count → came_at p order ≡ length (held p)
  -- the rows cut what came in by their weights
  pub are_cut : are_cut (below count) held came rows ≡ true

pub record GroupsTell : Type 0 where
  pub each : (count size : ℕ) (ended : Bool) (came : List Arrival) (rows : List Value) (order : List ℕ) (held : ℕ → List Value)
      → GroupsLaw count size ended came rows order held → GroupsSay count size came rows order held

-- Over any calls

-- a message is taken at a port, a group of this size is made, or something else becomes of the ports
pub data Call : Type 0 where
  take : ℕ → Value → List EndState → Call
  make : Call
  change : List PortState → Call

-- a batched join's ports, the order in which its messages came in, and the rows that it has made
pub record Course : Type 0 where
  pub ports : List PortState
  pub order : List ℕ
  pub rows : List Value

module _ (size : ℕ) where
  abbrev pub after : Call → Course → Course
  after (Call.take p value ends) c = record c {
    ports = set c.ports p (takes value ends (get_or c.ports p (fresh_port None)));
    order = c.order ++ p ∷ [];
  }
  after Call.make c = record {
    ports = takes_group size c.order c.ports;
    order = drop size c.order;
    rows = c.rows ++ group_of size c.order c.ports ∷ [];
  }
  after (Call.change ports) c = record c { ports = ports }

  -- a completed port takes nothing and stays completed, and nothing becomes of what waits but by making groups
  abbrev pub IsAllowed : Call → Course → Type 0
  IsAllowed (Call.take p value ends) c =
      (p < length c.ports) × (has_ended (get_or c.ports p (fresh_port None)).refusing ≡ false)
  IsAllowed Call.make c = has_group size (all_ended c.ports) c.order ≡ true
  IsAllowed (Call.change ports) c = SameHeld c.ports ports × (all_ended c.ports ≡ true → all_ended ports ≡ true)

  abbrev pub after_all : List Call → Course → Course
  after_all [] c = c
  after_all (call ∷ calls) c = after_all calls (after call c)

  abbrev pub AllAllowed : List Call → Course → Type 0
  AllAllowed [] c = Unit {0}
  AllAllowed (call ∷ calls) c = IsAllowed call c × AllAllowed calls (after call c)

-- what these calls take, in their order
abbrev pub came_by : Call → List Arrival
came_by (Call.take p value ends) = arrival_at p value ∷ []
came_by Call.make = []
came_by (Call.change ports) = []

abbrev pub came_in : List Call → List Arrival
came_in [] = []
came_in (call ∷ calls) = came_by call ++ came_in calls

abbrev pub fresh_course : List PortState → Course
fresh_course ports = record { ports = ports; order = []; rows = [] }

-- from ports at which nothing waits, over any calls that may be made, the messages are cut into groups in their order
pub record GroupsAreCutInOrder : Type 0 where
  pub each : (size : ℕ) → 0 < size → (ports : List PortState) → ((p : ℕ) → p < length ports → held_at ports p ≡ [])
      → (calls : List Call) → AllAllowed size calls (fresh_course ports)
      → GroupsLaw (length ports) size (all_ended (after_all size calls (fresh_course ports)).ports) (came_in calls)
      (after_all size calls (fresh_course ports)).rows (after_all size calls (fresh_course ports)).order
      (held_at (after_all size calls (fresh_course ports)).ports)
