-- A message that goes over a link in one call: its five moves come to what source and target do, each by itself.
use Rattle.std.proofs.Common.{◌≡◌, ◌≢◌, ℕ, ◌<◌, true, false, not, ◌&&◌, ◌==◌, length, List, set, Option, Some, None, Result, is_none}
use Rattle.std.proofs.Common.{refl, sym, ap, ◌∙◌}
use Rattle.std.proofs.lemmas.Bool.{and_parts, not-true, eqb-false}
use Rattle.std.proofs.lemmas.List.{get_or-set_same, get_or-set_other, set-set, set_comm, set-get_or, length-set}
use Rattle.flow_value.specs.declared.value.Value.{Value}
use Rattle.flow_link.specs.declared.phase.Move.{Move}
use Rattle.flow_link.specs.declared.phase.Move.TheVariants.{Offer, Want, Give, Open, Close}
use Rattle.flow_link.specs.declared.phase.Phase.{Phase}
use Rattle.flow_link.specs.declared.phase.Phase.TheVariants.{Idle, Offered, Wanted, Given, Opened}
use Rattle.flow_link.specs.declared.plan.LinkSource.{LinkSource}
use Rattle.flow_link.specs.declared.plan.LinkSource.TheVariants.{Block, Input}
use Rattle.flow_link.specs.declared.plan.LinkTarget.{LinkTarget}
use Rattle.flow_link.specs.declared.plan.LinkTarget.TheVariants.{Port, Exit}
use Rattle.flow_input.specs.Input.{InputState, InputCall, no_input, next_value, after_input, input_sends}
use Rattle.flow_block.specs.Node.{NodeState, NodeCall, given_next}
use Rattle.flow_intake.specs.Receives.{takes_at_once}
use Rattle.flow_group.specs.Round.{reserves}
use Rattle.flow_block.specs.Block.{port_at}
use Rattle.flow_block.proofs.PassesFreely.{by_calls, receives_by_calls}
use Rattle.flow_block.specs.Passes.{takes_freely, receives_on}
use Rattle.flow_block.specs.declared.planned.Route.{Route}
use Rattle.flow_core.specs.Events.{source_call, source_look, in_call, input_call, input_after}
use Rattle.flow_core.specs.Events.{slot_after, with_node, with_line}
use Rattle.flow_link.specs.declared.trace.LinkState.{LinkState}
use Rattle.flow_core.specs.State.{NetState, node_at, line_at, no_node, fresh_line}
use Rattle.flow_moves.specs.Calls.{called}
use Rattle.flow_moves.specs.Passed.{passed, node_sends}
use Rattle.flow_moves.specs.Passes.{may_pass, are_apart, is_idle_line, is_idle_phase, takes_now, may_carry, passed_along}
use Rattle.flow_moves.specs.Ready.{IsThere}
use Rattle.flow_moves.specs.Ways.{input_in, with_input_in, value_next, moved_by_source, moved_by_target}
use Rattle.flow_moves.proofs.SendsByKind.{given_wanted, sends_is}

-- a line over which nothing is under way
abbrev IdleLine : LinkState
IdleLine = record { phase = Idle; slot = None }

abbrev line_of : Phase → Option Value → LinkState
line_of phase slot = record { phase = phase; slot = slot }

line_is_idle : (phase : Phase) (slot : Option Value) → is_idle_phase phase && is_none slot ≡ true
    → line_of phase slot ≡ IdleLine
line_is_idle Idle None e = refl
line_is_idle Idle (Some value) e = absurd (cc)
line_is_idle _ slot e = absurd (cc)

-- Between two blocks
module _ (makes : ℕ → Value → Result (List Value) ℕ) (l i : ℕ) (value : Value) (net : NetState) (s k t p j : ℕ)
    (apart : s ≢ t) (s_there : s < length net.nodes) (t_there : t < length net.nodes) (l_there : l < length net.lines) where
  abbrev way : Route
  way = record { source = Block s; source_place = k; target = Port t p; target_place = j }

  abbrev at_ends : NodeState → NodeState → LinkState → NetState
  at_ends a b line = record net { nodes = set (set net.nodes s a) t b; lines = set net.lines l line }

  t_still : (a : NodeState) → t < length (set net.nodes s a)
  t_still a = rw (length-set net.nodes s a) t_there

  s_at : (a b : NodeState) (line : LinkState) → node_at (at_ends a b line) s ≡ a
  s_at a b line =
      get_or-set_other (set net.nodes s a) t s b no_node apart ∙ get_or-set_same net.nodes s a no_node s_there

  t_at : (a b : NodeState) (line : LinkState) → node_at (at_ends a b line) t ≡ b
  t_at a b line = get_or-set_same (set net.nodes s a) t b no_node (t_still a)

  l_at : (a b : NodeState) (line : LinkState) → line_at (at_ends a b line) l ≡ line
  l_at a b line = get_or-set_same net.lines l line fresh_line l_there

  change_s : (f : NodeState → NodeState) (a b : NodeState) (line : LinkState)
      → with_node s f (at_ends a b line) ≡ at_ends (f a) b line
  change_s f a b line =
      ap (λ (x : NodeState). record (at_ends a b line) { nodes = set (set (set net.nodes s a) t b) s (f x) }) (s_at a b line)
      ∙ ap (λ (nodes : List NodeState). record (at_ends a b line) { nodes = nodes })
      (set_comm (set net.nodes s a) t s b (f a) (λ same. apart (sym same))
      ∙ ap (λ (nodes : List NodeState). set nodes t b) (set-set net.nodes s a (f a)))

  change_t : (f : NodeState → NodeState) (a b : NodeState) (line : LinkState)
      → with_node t f (at_ends a b line) ≡ at_ends a (f b) line
  change_t f a b line =
      ap (λ (x : NodeState). record (at_ends a b line) { nodes = set (set (set net.nodes s a) t b) t (f x) }) (t_at a b line)
      ∙ ap (λ (nodes : List NodeState). record (at_ends a b line) { nodes = nodes })
      (set-set (set net.nodes s a) t b (f b))

  change_l : (other : LinkState) (a b : NodeState) (line : LinkState) → with_line l other (at_ends a b line) ≡ at_ends a b other
  change_l other a b line =
      ap (λ (lines : List LinkState). record (at_ends a b line) { lines = lines }) (set-set net.lines l line other)

  abbrev line_then : Move → Phase → Option Value → LinkState → LinkState
  line_then next phase given line = record { phase = phase; slot = slot_after next given line.slot }

  abbrev s_moved : Move → NodeState → NodeState
  s_moved next a = called (makes s) (source_call a.block.kind k next) a

  abbrev s_looked : Phase → NodeState → NodeState
  s_looked phase a = called (makes s) (Some (source_look a.block.kind k phase)) a

  abbrev t_moved : Move → Option Value → NodeState → NodeState
  t_moved next slot b = called (makes t) (in_call p j slot next) b

  abbrev t_looked : Phase → NodeState → NodeState
  t_looked phase b = called (makes t) (Some (NodeCall.look_in p j phase)) b

  by_source : (next : Move) (phase : Phase) (a b : NodeState) (line : LinkState)
      → moved_by_source makes l next phase way (at_ends a b line)
      ≡ at_ends (s_moved next a) (t_looked phase b) (line_then next phase (given_next a) line)
  by_source next phase a b line =
      let old = at_ends a b line in
      ap (λ (x : NodeState). with_node t (t_looked phase) (with_line l (line_then next phase (given_next x) (line_at old l))
      (with_node s (s_moved next) old))) (s_at a b line)
      ∙ ap (λ (x : LinkState). with_node t (t_looked phase) (with_line l (line_then next phase (given_next a) x)
      (with_node s (s_moved next) old))) (l_at a b line)
      ∙ ap (λ (x : NetState). with_node t (t_looked phase) (with_line l (line_then next phase (given_next a) line) x))
      (change_s (s_moved next) a b line)
      ∙ ap (λ (x : NetState). with_node t (t_looked phase) x)
      (change_l (line_then next phase (given_next a) line) (s_moved next a) b line)
      ∙ change_t (t_looked phase) (s_moved next a) b (line_then next phase (given_next a) line)

  by_target : (next : Move) (phase : Phase) (a b : NodeState) (line : LinkState)
      → moved_by_target makes l next phase way (at_ends a b line)
      ≡ at_ends (s_looked phase a) (t_moved next line.slot b) (line_then next phase (given_next a) line)
  by_target next phase a b line =
      let old = at_ends a b line in
      let after = line_then next phase (given_next a) line in
      ap (λ (x : NodeState). with_node s (s_looked phase) (with_line l (line_then next phase (given_next x) (line_at old l))
      (with_node t (t_moved next (line_at old l).slot) old))) (s_at a b line)
      ∙ ap (λ (x : LinkState). with_node s (s_looked phase) (with_line l (line_then next phase (given_next a) x)
      (with_node t (t_moved next x.slot) old))) (l_at a b line)
      ∙ ap (λ (x : NetState). with_node s (s_looked phase) (with_line l after x)) (change_t (t_moved next line.slot) a b line)
      ∙ ap (λ (x : NetState). with_node s (s_looked phase) x) (change_l after a (t_moved next line.slot b) line)
      ∙ change_s (s_looked phase) a (t_moved next line.slot b) after

  begins : net ≡ at_ends (node_at net s) (node_at net t) (line_at net l)
  begins = sym (
      ap (λ (nodes : List NodeState). record net { nodes = nodes; lines = set net.lines l (line_at net l) })
      (ap (λ (nodes : List NodeState). set nodes t (node_at net t)) (set-get_or net.nodes s no_node) ∙ set-get_or net.nodes t no_node)
      ∙ ap (λ (lines : List LinkState). record net { lines = lines }) (set-get_or net.lines l fresh_line))

  module _ (head : given_next (node_at net s) ≡ Some value) (idle : line_at net l ≡ IdleLine)
      (none : reserves (node_at net t).round ≡ false) where
    abbrev s_old : NodeState
    s_old = node_at net s

    abbrev t_old : NodeState
    t_old = node_at net t

    along : passed_along makes l i way net ≡ at_ends (node_sends k i s_old) (receives_on p j i value t_old) IdleLine
    along =
        let a1 = s_moved (Offer i) s_old in
        let b1 = t_looked (Offered i) t_old in
        let a2 = s_looked (Wanted i) a1 in
        let b2 = t_moved Want None b1 in
        let a3 = s_moved Give a2 in
        let b3 = t_looked (Given i) b2 in
        let a4 = s_looked (Opened i) a3 in
        let b4 = t_moved Open (Some value) b3 in
        let later = λ (x : NetState). moved_by_target makes l Close Idle way (moved_by_target makes l Open (Opened i) way x) in
        let then_on = λ (x : NetState). later (moved_by_source makes l Give (Given i) way (moved_by_target makes l Want (Wanted i) way x)) in
        ap (λ (x : NetState). then_on (moved_by_source makes l (Offer i) (Offered i) way x)) begins
        ∙ ap (λ (x : LinkState). then_on (moved_by_source makes l (Offer i) (Offered i) way (at_ends s_old t_old x))) idle
        ∙ ap then_on (by_source (Offer i) (Offered i) s_old t_old IdleLine)
        ∙ ap (λ (x : NetState). later (moved_by_source makes l Give (Given i) way x))
        (by_target Want (Wanted i) a1 b1 (line_of (Offered i) None))
        ∙ ap later (by_source Give (Given i) a2 b2 (line_of (Wanted i) None))
        ∙ ap (λ (x : Option Value). later (at_ends a3 b3 (line_of (Given i) x)))
        (given_wanted (makes s) k i s_old ∙ head)
        ∙ ap (λ (x : NetState). moved_by_target makes l Close Idle way x)
        (by_target Open (Opened i) a3 b3 (line_of (Given i) (Some value)))
        ∙ by_target Close Idle a4 b4 (line_of (Opened i) None)
        ∙ ap (λ (x : NodeState). at_ends x (by_calls (makes t) p j i value t_old none) IdleLine) (sends_is (makes s) k i s_old)
        ∙ ap (λ (x : NodeState). at_ends (node_sends k i s_old) x IdleLine) (receives_by_calls (makes t) p j i value t_old none)

    alone : passed i value way net ≡ at_ends (node_sends k i s_old) (receives_on p j i value t_old) IdleLine
    alone =
        ap (λ (x : NetState). with_node t (receives_on p j i value) (with_node s (node_sends k i) x)) begins
        ∙ ap (λ (x : LinkState). with_node t (receives_on p j i value) (with_node s (node_sends k i) (at_ends s_old t_old x))) idle
        ∙ ap (λ (x : NetState). with_node t (receives_on p j i value) x) (change_s (node_sends k i) s_old t_old IdleLine)
        ∙ change_t (receives_on p j i value) (node_sends k i s_old) t_old IdleLine

    pub blocks_tell : passed_along makes l i way net ≡ passed i value way net
    blocks_tell = along ∙ sym alone

-- From an input to a block
module _ (makes : ℕ → Value → Result (List Value) ℕ) (l i : ℕ) (value : Value) (net : NetState) (from k t p j : ℕ)
    (k_there : k < length net.inputs) (t_there : t < length net.nodes) (l_there : l < length net.lines) where
  abbrev way_in : Route
  way_in = record { source = Input from; source_place = k; target = Port t p; target_place = j }

  abbrev at_both : InputState → NodeState → LinkState → NetState
  at_both a b line = record net { nodes = set net.nodes t b; inputs = set net.inputs k a; lines = set net.lines l line }

  k_at : (a : InputState) (b : NodeState) (line : LinkState) → input_in (at_both a b line) k ≡ a
  k_at a b line = get_or-set_same net.inputs k a no_input k_there

  b_at : (a : InputState) (b : NodeState) (line : LinkState) → node_at (at_both a b line) t ≡ b
  b_at a b line = get_or-set_same net.nodes t b no_node t_there

  line_is : (a : InputState) (b : NodeState) (line : LinkState) → line_at (at_both a b line) l ≡ line
  line_is a b line = get_or-set_same net.lines l line fresh_line l_there

  input_changed : (f : InputState → InputState) (a : InputState) (b : NodeState) (line : LinkState)
      → with_input_in k f (at_both a b line) ≡ at_both (f a) b line
  input_changed f a b line =
      ap (λ (x : InputState). record (at_both a b line) { inputs = set (set net.inputs k a) k (f x) }) (k_at a b line)
      ∙ ap (λ (inputs : List InputState). record (at_both a b line) { inputs = inputs }) (set-set net.inputs k a (f a))

  node_changed : (f : NodeState → NodeState) (a : InputState) (b : NodeState) (line : LinkState)
      → with_node t f (at_both a b line) ≡ at_both a (f b) line
  node_changed f a b line =
      ap (λ (x : NodeState). record (at_both a b line) { nodes = set (set net.nodes t b) t (f x) }) (b_at a b line)
      ∙ ap (λ (nodes : List NodeState). record (at_both a b line) { nodes = nodes }) (set-set net.nodes t b (f b))

  line_changed : (other : LinkState) (a : InputState) (b : NodeState) (line : LinkState)
      → with_line l other (at_both a b line) ≡ at_both a b other
  line_changed other a b line =
      ap (λ (lines : List LinkState). record (at_both a b line) { lines = lines }) (set-set net.lines l line other)

  abbrev next_line : Move → Phase → Option Value → LinkState → LinkState
  next_line next phase given line = record { phase = phase; slot = slot_after next given line.slot }

  abbrev in_moved : Move → InputState → InputState
  in_moved next a = input_after (input_call next) a

  abbrev in_looked : Phase → InputState → InputState
  in_looked phase a = after_input (InputCall.look phase) a

  abbrev node_moved : Move → Option Value → NodeState → NodeState
  node_moved next slot b = called (makes t) (in_call p j slot next) b

  abbrev node_looked : Phase → NodeState → NodeState
  node_looked phase b = called (makes t) (Some (NodeCall.look_in p j phase)) b

  by_input : (next : Move) (phase : Phase) (a : InputState) (b : NodeState) (line : LinkState)
      → moved_by_source makes l next phase way_in (at_both a b line)
      ≡ at_both (in_moved next a) (node_looked phase b) (next_line next phase (next_value a) line)
  by_input next phase a b line =
      let old = at_both a b line in
      ap (λ (x : InputState). with_node t (node_looked phase) (with_line l (next_line next phase (next_value x) (line_at old l))
      (with_input_in k (in_moved next) old))) (k_at a b line)
      ∙ ap (λ (x : LinkState). with_node t (node_looked phase) (with_line l (next_line next phase (next_value a) x)
      (with_input_in k (in_moved next) old))) (line_is a b line)
      ∙ ap (λ (x : NetState). with_node t (node_looked phase) (with_line l (next_line next phase (next_value a) line) x))
      (input_changed (in_moved next) a b line)
      ∙ ap (λ (x : NetState). with_node t (node_looked phase) x)
      (line_changed (next_line next phase (next_value a) line) (in_moved next a) b line)
      ∙ node_changed (node_looked phase) (in_moved next a) b (next_line next phase (next_value a) line)

  by_block : (next : Move) (phase : Phase) (a : InputState) (b : NodeState) (line : LinkState)
      → moved_by_target makes l next phase way_in (at_both a b line)
      ≡ at_both (in_looked phase a) (node_moved next line.slot b) (next_line next phase (next_value a) line)
  by_block next phase a b line =
      let old = at_both a b line in
      let after = next_line next phase (next_value a) line in
      ap (λ (x : InputState). with_input_in k (in_looked phase) (with_line l (next_line next phase (next_value x) (line_at old l))
      (with_node t (node_moved next (line_at old l).slot) old))) (k_at a b line)
      ∙ ap (λ (x : LinkState). with_input_in k (in_looked phase) (with_line l (next_line next phase (next_value a) x)
      (with_node t (node_moved next x.slot) old))) (line_is a b line)
      ∙ ap (λ (x : NetState). with_input_in k (in_looked phase) (with_line l after x)) (node_changed (node_moved next line.slot) a b line)
      ∙ ap (λ (x : NetState). with_input_in k (in_looked phase) x) (line_changed after a (node_moved next line.slot b) line)
      ∙ input_changed (in_looked phase) a (node_moved next line.slot b) after

  starts : net ≡ at_both (input_in net k) (node_at net t) (line_at net l)
  starts = sym (
      ap (λ (nodes : List NodeState). record net { nodes = nodes; inputs = set net.inputs k (input_in net k); lines = set net.lines l (line_at net l) })
      (set-get_or net.nodes t no_node)
      ∙ ap (λ (inputs : List InputState). record net { inputs = inputs; lines = set net.lines l (line_at net l) })
      (set-get_or net.inputs k no_input)
      ∙ ap (λ (lines : List LinkState). record net { lines = lines }) (set-get_or net.lines l fresh_line))

  module _ (head : next_value (input_in net k) ≡ Some value) (idle : line_at net l ≡ IdleLine)
      (none : reserves (node_at net t).round ≡ false) where
    abbrev in_old : InputState
    in_old = input_in net k

    abbrev to_old : NodeState
    to_old = node_at net t

    along_input : passed_along makes l i way_in net ≡ at_both (input_sends i in_old) (receives_on p j i value to_old) IdleLine
    along_input =
        let a1 = in_moved (Offer i) in_old in
        let b1 = node_looked (Offered i) to_old in
        let a2 = in_looked (Wanted i) a1 in
        let b2 = node_moved Want None b1 in
        let a3 = in_moved Give a2 in
        let b3 = node_looked (Given i) b2 in
        let a4 = in_looked (Opened i) a3 in
        let b4 = node_moved Open (Some value) b3 in
        let later = λ (x : NetState). moved_by_target makes l Close Idle way_in (moved_by_target makes l Open (Opened i) way_in x) in
        let then_on = λ (x : NetState).
        later (moved_by_source makes l Give (Given i) way_in (moved_by_target makes l Want (Wanted i) way_in x)) in
        ap (λ (x : NetState). then_on (moved_by_source makes l (Offer i) (Offered i) way_in x)) starts
        ∙ ap (λ (x : LinkState). then_on (moved_by_source makes l (Offer i) (Offered i) way_in (at_both in_old to_old x))) idle
        ∙ ap then_on (by_input (Offer i) (Offered i) in_old to_old IdleLine)
        ∙ ap (λ (x : NetState). later (moved_by_source makes l Give (Given i) way_in x))
        (by_block Want (Wanted i) a1 b1 (line_of (Offered i) None))
        ∙ ap later (by_input Give (Given i) a2 b2 (line_of (Wanted i) None))
        ∙ ap (λ (x : Option Value). later (at_both a3 b3 (line_of (Given i) x))) head
        ∙ ap (λ (x : NetState). moved_by_target makes l Close Idle way_in x)
        (by_block Open (Opened i) a3 b3 (line_of (Given i) (Some value)))
        ∙ by_block Close Idle a4 b4 (line_of (Opened i) None)
        ∙ ap (λ (x : NodeState). at_both (input_sends i in_old) x IdleLine) (receives_by_calls (makes t) p j i value to_old none)

    alone_input : passed i value way_in net ≡ at_both (input_sends i in_old) (receives_on p j i value to_old) IdleLine
    alone_input =
        ap (λ (x : NetState). with_node t (receives_on p j i value) (with_input_in k (input_sends i) x)) starts
        ∙ ap (λ (x : LinkState). with_node t (receives_on p j i value) (with_input_in k (input_sends i) (at_both in_old to_old x))) idle
        ∙ ap (λ (x : NetState). with_node t (receives_on p j i value) x) (input_changed (input_sends i) in_old to_old IdleLine)
        ∙ node_changed (receives_on p j i value) (input_sends i in_old) to_old IdleLine

    pub inputs_tell : passed_along makes l i way_in net ≡ passed i value way_in net
    inputs_tell = along_input ∙ sym alone_input

-- what takes at once has no round
takes_no_round : (p k : ℕ) (node : NodeState) → takes_freely p k node ≡ true → reserves node.round ≡ false
takes_no_round p k node e = not-true (reserves node.round) (and_parts (takes_at_once k (port_at p node.block)) (not (reserves node.round)) e).1

pub takes_port : (p k : ℕ) (node : NodeState) → takes_freely p k node ≡ true → takes_at_once k (port_at p node.block) ≡ true
takes_port p k node e = (and_parts (takes_at_once k (port_at p node.block)) (not (reserves node.round)) e).0

-- what may pass, part by part
pub record PassTells (l : ℕ) (route : Route) (net : NetState) : Type 0 where
  pub idle : line_at net l ≡ IdleLine
  pub apart : are_apart route.source route.target ≡ true
  pub takes : takes_now net route.target route.target_place ≡ true
  pub carries : may_carry net route.source route.source_place ≡ true

pub pass_tells : (l : ℕ) (route : Route) (net : NetState) → may_pass l route net ≡ true → PassTells l route net
pass_tells l route net may =
    let line = line_at net l in
    let apart = are_apart route.source route.target in
    let takes = takes_now net route.target route.target_place in
    let carries = may_carry net route.source route.source_place in
    let first = and_parts (is_idle_line line && apart && takes) carries may in
    let second = and_parts (is_idle_line line && apart) takes first.0 in
    let third = and_parts (is_idle_line line) apart second.0 in
    record {
      idle = line_is_idle line.phase line.slot third.0;
      apart = third.1;
      takes = second.1;
      carries = first.1;
    }

-- two blocks are apart where their numbers differ
pub blocks_apart : (s t : ℕ) → not (s == t) ≡ true → s ≢ t
blocks_apart s t e = eqb-false s t (not-true (s == t) e)

module _ (makes : ℕ → Value → Result (List Value) ℕ) (l i : ℕ) (value : Value) (net : NetState) where
  tell_by : (source : LinkSource) (k : ℕ) (target : LinkTarget) (j : ℕ)
      → IsThere net l (record { source = source; source_place = k; target = target; target_place = j })
      → value_next net source k ≡ Some value
      → PassTells l (record { source = source; source_place = k; target = target; target_place = j }) net
      → passed_along makes l i (record { source = source; source_place = k; target = target; target_place = j }) net
      ≡ passed i value (record { source = source; source_place = k; target = target; target_place = j }) net
  tell_by source k Exit j there head tells = let no = tells.takes in absurd (cc)
  tell_by (Block s) k (Port t p) j there head tells =
      blocks_tell makes l i value net s k t p j (blocks_apart s t tells.apart) there.source.0 there.target.0 there.line head tells.idle
      (takes_no_round p j (node_at net t) tells.takes)
  tell_by (Input b) k (Port t p) j there head tells =
      inputs_tell makes l i value net b k t p j there.source there.target.0 there.line head tells.idle
      (takes_no_round p j (node_at net t) tells.takes)

-- the five moves come to this
pub passes_tell : (makes : ℕ → Value → Result (List Value) ℕ) (l i : ℕ) (value : Value) (route : Route) (net : NetState)
    → IsThere net l route → value_next net route.source route.source_place ≡ Some value → may_pass l route net ≡ true
    → passed_along makes l i route net ≡ passed i value route net
passes_tell makes l i value route net there head may =
    tell_by makes l i value net route.source route.source_place route.target route.target_place there head (pass_tells l route net may)
