-- Tuples and groups of a few messages, and rows that the laws refuse.
use Rattle.std.specs.Prelude.{◌≡◌, ℕ, true, false, List, [], ◌∷◌, get_or, None, pos}
use Rattle.flow_value.specs.declared.value.Value.{Value}
use Rattle.flow_value.specs.declared.value.Value.TheVariants.{Int}
use Rattle.flow_link.specs.Making.{Arrival}
use Rattle.flow_intake.specs.Port.{PortState, fresh_port}
use Rattle.flow_intake.specs.Calls.{port_closes}
use Rattle.flow_group.specs.Group.{has_group, row_of, group_of, takes_group}
use Rattle.flow_group.specs.Groups.{GroupsLaw, arrival_at}
use Rattle.flow_group.specs.Tuple.{has_tuple, tuple_of, takes_tuple, is_join_complete}
use Rattle.flow_group.specs.Tuples.{TuplesLaw}

abbrev pub int : ℕ → Value
int n = Int (pos n)

abbrev pub holding : List Value → PortState
holding waiting = record (fresh_port None) { waiting = waiting }

-- 1 and 2 wait at the first port, 9 at the second
abbrev pub two_ports : List PortState
two_ports = holding (int 1 ∷ int 2 ∷ []) ∷ holding (int 9 ∷ []) ∷ []

abbrev pub rows : List Value → List Value → Value
rows first second = row_of (row_of first ∷ row_of second ∷ [])

-- lists by the numbers of ports
abbrev pub by_port : List (List Value) → ℕ → List Value
by_port lists p = get_or lists p []

-- 1 came in first, then 9 and 2
abbrev pub came : List Arrival
came = arrival_at 0 (int 1) ∷ arrival_at 1 (int 9) ∷ arrival_at 0 (int 2) ∷ []

pub record GroupExamples : Type 0 where
  pub tuple : tuple_of two_ports ≡ row_of (int 1 ∷ int 9 ∷ [])
  pub after_tuple : takes_tuple two_ports ≡ holding (int 2 ∷ []) ∷ holding [] ∷ []
  pub no_more : has_tuple (takes_tuple two_ports) ≡ false
  -- a port that holds something may find partners for it, completed or not
  pub not_complete : is_join_complete (holding [] ∷ port_closes (holding (int 2 ∷ [])) ∷ []) ≡ false
  pub complete : is_join_complete (port_closes (holding []) ∷ holding (int 2 ∷ []) ∷ []) ≡ true
  -- the order in which they came in says whose turn it is
  pub all_three : group_of 3 (0 ∷ 1 ∷ 0 ∷ []) two_ports ≡ rows (int 1 ∷ int 2 ∷ []) (int 9 ∷ [])
  pub one_each : group_of 2 (0 ∷ 1 ∷ 0 ∷ []) two_ports ≡ rows (int 1 ∷ []) (int 9 ∷ [])
  pub two_of_one : group_of 2 (0 ∷ 0 ∷ 1 ∷ []) two_ports ≡ rows (int 1 ∷ int 2 ∷ []) []
  pub left_then : takes_group 2 (0 ∷ 0 ∷ 1 ∷ []) two_ports ≡ holding [] ∷ holding (int 9 ∷ []) ∷ []
  -- a short group only where all ports are completed, and never an empty one
  pub too_few : has_group 4 false (0 ∷ 1 ∷ 0 ∷ []) ≡ false
  pub the_rest : has_group 4 true (0 ∷ 1 ∷ 0 ∷ []) ≡ true
  pub nothing_left : has_group 4 true [] ≡ false
  -- ports exchanged, one port a message ahead, and a message lost
  pub exchanged : TuplesLaw 2 (by_port ((int 1 ∷ []) ∷ (int 9 ∷ []) ∷ [])) (row_of (int 9 ∷ int 1 ∷ []) ∷ []) (λ p. []) → ⊥
  pub ahead : TuplesLaw 2 (by_port ((int 1 ∷ int 2 ∷ []) ∷ (int 9 ∷ []) ∷ [])) (row_of (int 2 ∷ int 9 ∷ []) ∷ [])
      (by_port ((int 1 ∷ []) ∷ [] ∷ [])) → ⊥
  pub lost : TuplesLaw 2 (by_port ((int 1 ∷ int 2 ∷ []) ∷ (int 9 ∷ []) ∷ [])) (row_of (int 1 ∷ int 9 ∷ []) ∷ []) (λ p. []) → ⊥
  -- cut at the wrong arrival, short while a port is open, and a rest that stays behind a short group
  pub wrong_cut : GroupsLaw 2 2 false came (rows (int 1 ∷ int 2 ∷ []) [] ∷ []) (1 ∷ []) (by_port ([] ∷ (int 9 ∷ []) ∷ [])) → ⊥
  pub short : GroupsLaw 2 4 false came (rows (int 1 ∷ int 2 ∷ []) (int 9 ∷ []) ∷ []) [] (λ p. []) → ⊥
  pub rest_stays : GroupsLaw 2 4 true came (rows (int 1 ∷ []) (int 9 ∷ []) ∷ []) (0 ∷ []) (by_port ((int 2 ∷ []) ∷ [] ∷ [])) → ⊥
