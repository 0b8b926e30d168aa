-- A message that goes over a link in one call, where memory is set aside first: source and target may do their parts, and what they
-- leave is what they leave without that.
use Rattle.std.proofs.Common.{◌≡◌, ◌≢◌, ℕ, ◌<◌, Bool, true, false, length, List, set, get_or, None, Result, refl, sym, ap, ◌∙◌, subst}
use Rattle.std.proofs.lemmas.List.{get_or-set_same, get_or-set_other, set-set, set-get_or, set_comm, length-set}
use Rattle.flow_value.specs.declared.value.Value.{Value}
use Rattle.flow_link.specs.declared.phase.Move.TheVariants.{Offer}
use Rattle.flow_link.specs.declared.phase.Phase.TheVariants.{Offered, Given}
use Rattle.flow_link.specs.declared.plan.LinkSource.{LinkSource}
use Rattle.flow_link.specs.declared.plan.LinkSource.TheVariants.{Block, Input}
use Rattle.flow_link.specs.declared.plan.LinkTarget.{LinkTarget}
use Rattle.flow_link.specs.declared.plan.LinkTarget.TheVariants.{Port, Exit}
use Rattle.flow_link.specs.declared.stage.SourceStage.TheVariants.{Out}
use Rattle.flow_intake.specs.Port.{PortState, fresh_port}
use Rattle.flow_intake.specs.Calls.{prepared, unprepared, wants, opens, looks as port_looks}
use Rattle.flow_block.specs.Block.{BlockState, port_at, with_port}
use Rattle.flow_input.specs.Input.{InputState, no_input, next_id, next_value, input_sends}
use Rattle.flow_block.specs.Node.{NodeState, given_next, with_block}
use Rattle.flow_block.specs.Passes.{on_port, takes_hand, receives_on}
use Rattle.flow_block.proofs.PassesOfNodes.{with_twice}
use Rattle.flow_block.specs.declared.planned.Route.{Route}
use Rattle.flow_core.specs.Events.{with_node, with_line}
use Rattle.flow_link.specs.declared.trace.LinkState.{LinkState}
use Rattle.flow_core.specs.State.{NetState, node_at, no_node, fresh_line}
use Rattle.flow_moves.specs.Passed.{node_prepared, node_offers, node_sends_ready, source_prepared, target_prepared, target_ready, forgot_by, target_forgot, sent_ready, sent_by, received_by, offered_by, passed}
use Rattle.flow_moves.specs.Passed.{BlockMaySend, InputMaySend, MaySend}
use Rattle.flow_moves.specs.Passes.{id_in, id_next, may_carry, takes_now, are_apart, offered_along}
use Rattle.flow_moves.specs.Ready.{SourceIsThere, TargetIsThere, SourceIsReady, InputIsReady, exit_count}
use Rattle.flow_moves.specs.Ways.{input_in, with_input_in, value_next, source_moved, target_looked}
use Rattle.flow_moves.proofs.MovesPrepared.{next_is_there}
use Rattle.flow_moves.proofs.PassesTell.{blocks_apart}
use Rattle.flow_moves.proofs.SendsByKind.{ready_id, ready_may_go, ready_sends, ready_offers}

-- a node, or an input, changes twice
node_twice : (s : ℕ) (first then_on : NodeState → NodeState) (net : NetState) → s < length net.nodes
    → with_node s then_on (with_node s first net) ≡ with_node s (λ node. then_on (first node)) net
node_twice s first then_on net there =
    ap (λ (node : NodeState). record net { nodes = set (set net.nodes s (first (node_at net s))) s (then_on node) })
    (get_or-set_same net.nodes s (first (node_at net s)) no_node there)
    ∙ ap (λ (nodes : List NodeState). record net { nodes = nodes })
    (set-set net.nodes s (first (node_at net s)) (then_on (first (node_at net s))))

input_twice : (k : ℕ) (first then_on : InputState → InputState) (net : NetState) → k < length net.inputs
    → with_input_in k then_on (with_input_in k first net) ≡ with_input_in k (λ input. then_on (first input)) net
input_twice k first then_on net there =
    ap (λ (input : InputState). record net { inputs = set (set net.inputs k (first (input_in net k))) k (then_on input) })
    (get_or-set_same net.inputs k (first (input_in net k)) no_input there)
    ∙ ap (λ (inputs : List InputState). record net { inputs = inputs })
    (set-set net.inputs k (first (input_in net k)) (then_on (first (input_in net k))))

node_found : (s : ℕ) (change : NodeState → NodeState) (net : NetState) → s < length net.nodes
    → node_at (with_node s change net) s ≡ change (node_at net s)
node_found s change net there = get_or-set_same net.nodes s (change (node_at net s)) no_node there

node_beside : (s t : ℕ) (change : NodeState → NodeState) (net : NetState) → t ≢ s
    → node_at (with_node s change net) t ≡ node_at net t
node_beside s t change net apart = get_or-set_other net.nodes s t (change (node_at net s)) no_node apart

input_found : (k : ℕ) (change : InputState → InputState) (net : NetState) → k < length net.inputs
    → input_in (with_input_in k change net) k ≡ change (input_in net k)
input_found k change net there = get_or-set_same net.inputs k (change (input_in net k)) no_input there

still_there : (s t : ℕ) (change : NodeState → NodeState) (net : NetState) → t < length net.nodes
    → t < length (with_node s change net).nodes
still_there s t change net there = rw (length-set net.nodes s (change (node_at net s))) there

-- changes of two nodes come to the same in either order
node_swap : (s t : ℕ) (first then_on : NodeState → NodeState) (net : NetState) → s ≢ t
    → with_node s then_on (with_node t first net) ≡ with_node t first (with_node s then_on net)
node_swap s t first then_on net apart =
    let at_s = node_at net s in
    let at_t = node_at net t in
    ap (λ (node : NodeState). record net { nodes = set (set net.nodes t (first at_t)) s (then_on node) }) (node_beside t s first net apart)
    ∙ ap (λ (nodes : List NodeState). record net { nodes = nodes })
    (set_comm net.nodes t s (first at_t) (then_on at_s) (λ same. apart (sym same)))
    ∙ ap (λ (node : NodeState). record net { nodes = set (set net.nodes s (then_on at_s)) t (first node) })
    (sym (node_beside s t then_on net (λ same. apart (sym same))))

-- What the parts are called for

abbrev with_parcel : InputState → InputState
with_parcel input = record input { parcel = next_value input }

input_may : (input : InputState) (id : ℕ) → InputIsReady (Offer id) input → InputMaySend (with_parcel input)
input_may input id ready = record {
  free = ready.may.is_at_home;
  parcel = next_is_there input.sent input.posted ready.may.there;
  id = ready.id;
}

-- a port that is prepared may receive, and then it is as if it had not been
abbrev with_room : ℕ → NodeState → NodeState
with_room p node = with_block (with_port p prepared node.block) node

on_twice : (p : ℕ) (first then_on : PortState → PortState) (node : NodeState) → p < length node.block.ports
    → on_port p then_on (on_port p first node) ≡ on_port p (λ port. then_on (first port)) node
on_twice p first then_on node there = ap (λ (block : BlockState). with_block block node) (with_twice p first then_on node.block there)

forgets_room : (p k i : ℕ) (value : Value) (node : NodeState) → p < length node.block.ports
    → receives_on p k i value (with_room p node) ≡ receives_on p k i value node
forgets_room p k i value node there =
    let sees = port_looks k (Offered i) in
    ap (λ (n : NodeState). takes_hand p k (on_port p (opens k value) (on_port p (port_looks k (Given i)) n)))
    (ap (λ (n : NodeState). on_port p (wants k) n) (on_twice p prepared sees node there)
    ∙ on_twice p (λ port. sees (prepared port)) (wants k) node there
    ∙ sym (on_twice p sees (wants k) node there))

-- a port that is not prepared any more is as before
room_back : (p : ℕ) (was : Bool) (node : NodeState) → (port_at p node.block).ready ≡ was
    → with_block (with_port p (λ (port : PortState). record port { ready = was }) node.block) node ≡ node
room_back p was node e =
    ap (λ (b : Bool). with_block (with_port p (λ (port : PortState). record port { ready = b }) node.block) node) (sym e)
    ∙ ap (λ (ports : List PortState). with_block (record node.block { ports = ports }) node) (set-get_or node.block.ports p (fresh_port None))

room_undone : (p : ℕ) (was : Bool) (node : NodeState) → p < length node.block.ports → (port_at p node.block).ready ≡ was
    → forgot_by was p (with_room p node) ≡ node
room_undone p true node there e = room_back p true node e
room_undone p false node there e = on_twice p prepared unprepared node there ∙ room_back p false node e

pub target_undone : (target : LinkTarget) (j : ℕ) (net : NetState) → TargetIsThere net target j
    → target_forgot (target_ready target net) target (target_prepared target net) ≡ net
target_undone Exit j net there = refl
target_undone (Port t p) j net there =
    let node = node_at net t in
    let was = (port_at p node.block).ready in
    node_twice t (with_room p) (forgot_by was p) net there.0
    ∙ ap (λ (n : NodeState). record net { nodes = set net.nodes t n }) (room_undone p was node there.1.port refl)
    ∙ ap (λ (nodes : List NodeState). record net { nodes = nodes }) (set-get_or net.nodes t no_node)

-- a source that is made ready and sends has sent
pub sent_is : (source : LinkSource) (k i : ℕ) (net : NetState) → SourceIsThere net source k
    → sent_ready source k i (source_prepared source k net) ≡ sent_by source k i net
sent_is (Block s) k i net there =
    node_twice s (node_prepared k) (node_sends_ready k i) net there.0
    ∙ ap (λ (node : NodeState). record net { nodes = set net.nodes s node }) (ready_sends k (node_at net s) i)
sent_is (Input b) k i net there = input_twice k with_parcel (input_sends i) net there

-- Where the target alone is prepared, the source is as it was
module _ (net : NetState) where
  pub there_still : (source : LinkSource) (k : ℕ) (target : LinkTarget) → are_apart source target ≡ true → SourceIsThere net source k
      → SourceIsThere (target_prepared target net) source k
  there_still (Block s) k Exit apart there = there
  there_still (Input b) k Exit apart there = there
  there_still (Input b) k (Port t p) apart there = there
  there_still (Block s) k (Port t p) apart there = (
    still_there t s (with_room p) net there.0,
    subst (λ (node : NodeState). k < exit_count node) (sym (node_beside t s (with_room p) net (blocks_apart s t apart))) there.1,
  )

  pub id_still : (source : LinkSource) (k : ℕ) (target : LinkTarget) → are_apart source target ≡ true
      → id_next (target_prepared target net) source k ≡ id_next net source k
  id_still (Block s) k Exit apart = refl
  id_still (Input b) k Exit apart = refl
  id_still (Input b) k (Port t p) apart = refl
  id_still (Block s) k (Port t p) apart =
      ap (λ (node : NodeState). id_in node.block) (node_beside t s (with_room p) net (blocks_apart s t apart))

  pub value_still : (source : LinkSource) (k : ℕ) (target : LinkTarget) → are_apart source target ≡ true
      → value_next (target_prepared target net) source k ≡ value_next net source k
  value_still (Block s) k Exit apart = refl
  value_still (Input b) k Exit apart = refl
  value_still (Input b) k (Port t p) apart = refl
  value_still (Block s) k (Port t p) apart = ap given_next (node_beside t s (with_room p) net (blocks_apart s t apart))

  -- the ends may be prepared in either order
  either_order : (source : LinkSource) (k : ℕ) (target : LinkTarget) → are_apart source target ≡ true
      → source_prepared source k (target_prepared target net) ≡ target_prepared target (source_prepared source k net)
  either_order (Block s) k Exit apart = refl
  either_order (Input b) k Exit apart = refl
  either_order (Input b) k (Port t p) apart = refl
  either_order (Block s) k (Port t p) apart = node_swap s t (with_room p) (node_prepared k) net (blocks_apart s t apart)

  -- so what it sends then is what it sends when both are prepared
  pub sent_after : (source : LinkSource) (k i : ℕ) (target : LinkTarget) → are_apart source target ≡ true → SourceIsThere net source k
      → sent_by source k i (target_prepared target net) ≡ sent_ready source k i (target_prepared target (source_prepared source k net))
  sent_after source k i target apart there =
      sym (sent_is source k i (target_prepared target net) (there_still source k target apart there))
      ∙ ap (sent_ready source k i) (either_order source k target apart)

-- One end after another
module _ (net : NetState) (id : ℕ) where
  -- the source alone is prepared
  pub source_may : (source : LinkSource) (k : ℕ) → SourceIsThere net source k → SourceIsReady (Offer id) net source k
      → may_carry net source k ≡ true
      → MaySend (source_prepared source k net) source k
  source_may (Block s) k there ready room = (
    still_there s s (node_prepared k) net there.0,
    subst (λ (node : NodeState). BlockMaySend node.block k) (sym (node_found s (node_prepared k) net there.0))
        (ready_may_go k (node_at net s) id ready room),
  )
  source_may (Input b) k there ready room = (
    rw (length-set net.inputs k (with_parcel (input_in net k))) there,
    subst (λ (input : InputState). InputMaySend input) (sym (input_found k with_parcel net there)) (input_may (input_in net k) id ready),
  )

  pub id_stays : (source : LinkSource) (k : ℕ) → SourceIsThere net source k
      → id_next (source_prepared source k net) source k ≡ id_next net source k
  id_stays (Block s) k there =
      ap (λ (node : NodeState). id_in node.block) (node_found s (node_prepared k) net there.0) ∙ ready_id k (node_at net s)
  id_stays (Input b) k there = ap next_id (input_found k with_parcel net there)

  pub offered_ready : (makes : ℕ → Value → Result (List Value) ℕ) (i : ℕ) (source : LinkSource) (k : ℕ) → SourceIsThere net source k
      → offered_by source k (source_prepared source k net) ≡ source_moved makes (Offer i) source k net
  offered_ready makes i (Block s) k there =
      node_twice s (node_prepared k) (node_offers k) net there.0
      ∙ ap (λ (node : NodeState). record net { nodes = set net.nodes s node }) (ready_offers k (node_at net s) i (makes s))
  offered_ready makes i (Input b) k there =
      input_twice k with_parcel (λ (input : InputState). record input { stage = Out (next_id input); parcel = next_value input }) net there

  -- both are prepared
  abbrev both_ready : LinkSource → ℕ → LinkTarget → NetState
  both_ready source k target = target_prepared target (source_prepared source k net)

  module _ (i : ℕ) where
    abbrev sent_now : LinkSource → ℕ → LinkTarget → NetState
    sent_now source k target = sent_ready source k i (both_ready source k target)

    module _ (value : Value) (t p j : ℕ) where
      receives_here : (now : NetState) → t < length now.nodes → p < length (node_at now t).block.ports
          → with_node t (receives_on p j i value) (with_node t (with_room p) now) ≡ with_node t (receives_on p j i value) now
      receives_here now there port =
          node_twice t (with_room p) (receives_on p j i value) now there
          ∙ ap (λ (node : NodeState). record now { nodes = set now.nodes t node }) (forgets_room p j i value (node_at now t) port)

      pub passes_ready : (source : LinkSource) (k : ℕ) → SourceIsThere net source k → TargetIsThere net (Port t p) j
          → are_apart source (Port t p) ≡ true
          → received_by (Port t p) j i value (sent_now source k (Port t p))
          ≡ passed i value (record { source = source; source_place = k; target = Port t p; target_place = j }) net
      passes_ready (Input b) k source target apart =
          let sent = with_input_in k (input_sends i) (with_input_in k with_parcel net) in
          receives_here sent target.0 target.1.port
          ∙ ap (λ (now : NetState). with_node t (receives_on p j i value) now) (input_twice k with_parcel (input_sends i) net source)
      passes_ready (Block s) k source target apart =
          let differ = blocks_apart s t apart in
          let first = with_node s (node_prepared k) net in
          let sent = with_node s (node_sends_ready k i) first in
          let here = still_there s t (node_sends_ready k i) first (still_there s t (node_prepared k) net target.0) in
          let other : t ≢ s = λ same. differ (sym same) in
          let same_node = node_beside s t (node_sends_ready k i) first other ∙ node_beside s t (node_prepared k) net other in
          ap (λ (now : NetState). with_node t (receives_on p j i value) now) (node_swap s t (with_room p) (node_sends_ready k i) first differ)
          ∙ receives_here sent here (subst (λ (node : NodeState). p < length node.block.ports) (sym same_node) target.1.port)
          ∙ ap (λ (now : NetState). with_node t (receives_on p j i value) now) (node_twice s (node_prepared k) (node_sends_ready k i) net source.0
          ∙ ap (λ (node : NodeState). record net { nodes = set net.nodes s node }) (ready_sends k (node_at net s) i))

    -- so all of it is what it is without that
    pub passes_is : (value : Value) (source : LinkSource) (k : ℕ) (target : LinkTarget) (j : ℕ) → SourceIsThere net source k
        → TargetIsThere net target j → takes_now net target j ≡ true → are_apart source target ≡ true
        → received_by target j i value (sent_now source k target)
        ≡ passed i value (record { source = source; source_place = k; target = target; target_place = j }) net
    passes_is value source k Exit j begins ends takes apart = absurd (cc)
    passes_is value source k (Port t p) j begins ends takes apart = passes_ready value t p j source k begins ends apart

-- where the source alone is prepared, it offers as it does without that
lines_stay : (source : LinkSource) (k : ℕ) (net : NetState) → (source_prepared source k net).lines ≡ net.lines
lines_stay (Block s) k net = refl
lines_stay (Input b) k net = refl

-- the line and the target of a message that is only offered
abbrev pub offered_then : (ℕ → Value → Result (List Value) ℕ) → ℕ → ℕ → LinkTarget → ℕ → List LinkState → NetState → NetState
offered_then makes l i target j lines moved =
    target_looked makes (Offered i) target j
    (with_line l (record { phase = Offered i; slot = (get_or lines l fresh_line).slot }) moved)

pub offered_is : (makes : ℕ → Value → Result (List Value) ℕ) (l id : ℕ) (route : Route) (net : NetState)
    → SourceIsThere net route.source route.source_place
    → let first = source_prepared route.source route.source_place net in
    offered_then makes l (id_next first route.source route.source_place) route.target route.target_place first.lines
    (offered_by route.source route.source_place first)
    ≡ offered_along makes l (id_next net route.source route.source_place) route net
offered_is makes l id route net there =
    let source = route.source in
    let k = route.source_place in
    let first = source_prepared source k net in
    let i = id_next net source k in
    ap (λ (n : ℕ). offered_then makes l n route.target route.target_place first.lines (offered_by source k first)) (id_stays net id source k there)
    ∙ ap (λ (lines : List LinkState). offered_then makes l i route.target route.target_place lines (offered_by source k first))
    (lines_stay source k net)
    ∙ ap (λ (moved : NetState). offered_then makes l i route.target route.target_place net.lines moved)
    (offered_ready net id makes i source k there)
