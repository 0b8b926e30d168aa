-- Each call keeps a block's kind, the links and capacities of its ports, and the rules of its exits.
use Rattle.std.proofs.Common.{◌≡◌, ℕ, ◌-◌, ◌<◌, List, [], ◌∷◌, map, set, Option, Some, None, Result, Ok, Err, refl, subst, sym, ◌∙◌}
use Rattle.std.proofs.Math.Seq.{map-set_same}
use Rattle.std.proofs.lemmas.List.{length-set, length-map}
use Rattle.flow_value.specs.declared.value.Value.{Value}
use Rattle.flow_link.specs.declared.draft.BlockKind.{BlockKind}
use Rattle.flow_link.specs.declared.draft.BlockKind.TheVariants.{Action}
use Rattle.flow_link.specs.declared.phase.Phase.{Phase}
use Rattle.flow_link.specs.declared.stage.TargetStage.{TargetStage}
use Rattle.flow_link.specs.Layout.{Layout}
use Rattle.flow_intake.specs.Port.{EndState, PortState, fresh_end}
use Rattle.flow_intake.specs.Calls.{first_of, put_hand, wants, turns_down, postpones, refuses, consumes, asks, claims, releases, opens, closes, looks, takes_next, gives_room, port_closes, port_fails}
use Rattle.flow_outlet.specs.declared.ends.OutEnd.{OutEnd}
use Rattle.flow_outlet.specs.End.{end_in, no_end}
use Rattle.flow_outlet.specs.Outlet.{head_of, gives}
use Rattle.flow_spread.specs.Spread.{puts}
use Rattle.flow_block.specs.Copies.{after_copy, copies_weight}
use Rattle.flow_block.specs.Block.{BlockState, port_in, held_by, copies_next, made_of, yields, keeps_results, makes_of, takes_group, gives_out}
use Rattle.flow_block.specs.Node.{NodeState, NodeCall, hand_at, gives_from, order_in, holds_in}
use Rattle.flow_block_law.specs.NodeLaw.{ShapeLaw, PortAsPlanned, NodeLaw}
use Rattle.flow_block_law.specs.NodeKeeps.{after_call, ShapeKept, MayCall}
use Rattle.flow_block.specs.Planned.{block_makes}
use Rattle.flow_block_law.proofs.KindsBuilt.{makes_by, next_by}
use Rattle.flow_block.proofs.CopiesTaken.{taken_in_keeps}
use Rattle.flow_block.proofs.PortsChange.{each_after_one, each_after_all}
use Rattle.flow_block.proofs.RoomBack.{back_at, length_back, each_after_back}
use Rattle.flow_block_law.proofs.GroupPorts.{length_by_group, each_after_group}
use Rattle.flow_block.specs.Groups.{makes_group}
use Rattle.flow_group.specs.Group.{takes_first}

-- what the plan says of a port stays
record SamePort (before after : PortState) : Type 0 where
  links : map (λ (end : EndState). end.link) after.ends ≡ map (λ (end : EndState). end.link) before.ends
  capacity : after.capacity ≡ before.capacity
  reserves : after.reserves ≡ before.reserves

-- the links stay where an end moves
links_stay : (k : ℕ) (stage : TargetStage) (hand : Option Value) (ends : List EndState)
    → map (λ (end : EndState). end.link) (put_hand k stage hand ends) ≡ map (λ (end : EndState). end.link) ends
links_stay k stage hand ends = map-set_same (λ (end : EndState). end.link) ends k _ (fresh_end 0) refl

wants_same : (k : ℕ) (port : PortState) → SamePort port (wants k port)
wants_same k port = record { links = links_stay k _ _ port.ends; capacity = refl; reserves = refl }

turns_down_same : (k : ℕ) (port : PortState) → SamePort port (turns_down k port)
turns_down_same k port = record { links = links_stay k _ _ port.ends; capacity = refl; reserves = refl }

postpones_same : (k : ℕ) (port : PortState) → SamePort port (postpones k port)
postpones_same k port = record { links = links_stay k _ _ port.ends; capacity = refl; reserves = refl }

refuses_same : (k : ℕ) (port : PortState) → SamePort port (refuses k port)
refuses_same k port = record { links = links_stay k _ _ port.ends; capacity = refl; reserves = refl }

consumes_same : (k : ℕ) (port : PortState) → SamePort port (consumes k port)
consumes_same k port = record { links = links_stay k _ _ port.ends; capacity = refl; reserves = refl }

asks_same : (k : ℕ) (port : PortState) → SamePort port (asks k port)
asks_same k port = record { links = links_stay k _ _ port.ends; capacity = refl; reserves = refl }

claims_same : (k : ℕ) (port : PortState) → SamePort port (claims k port)
claims_same k port = record { links = links_stay k _ _ port.ends; capacity = refl; reserves = refl }

releases_same : (k : ℕ) (port : PortState) → SamePort port (releases k port)
releases_same k port = record { links = links_stay k _ _ port.ends; capacity = refl; reserves = refl }

opens_same : (k : ℕ) (value : Value) (port : PortState) → SamePort port (opens k value port)
opens_same k value port = record { links = links_stay k _ _ port.ends; capacity = refl; reserves = refl }

closes_same : (k : ℕ) (value : Value) (port : PortState) → SamePort port (closes k value port)
closes_same k value port = record { links = links_stay k _ _ port.ends; capacity = refl; reserves = refl }

looks_same : (k : ℕ) (phase : Phase) (port : PortState) → SamePort port (looks k phase port)
looks_same k phase port = record { links = links_stay k _ _ port.ends; capacity = refl; reserves = refl }

takes_next_same : (port : PortState) → SamePort port (takes_next port)
takes_next_same port = record { links = refl; capacity = refl; reserves = refl }

gives_room_same : (count : ℕ) (port : PortState) → SamePort port (gives_room count port)
gives_room_same count port = record { links = refl; capacity = refl; reserves = refl }

takes_group_same : (count : ℕ) (port : PortState) → SamePort port (takes_group count port)
takes_group_same count port = record { links = refl; capacity = refl; reserves = refl }

done_same : (port : PortState) → SamePort port (gives_room 1 (takes_next port))
done_same port = record { links = refl; capacity = refl; reserves = refl }

port_closes_same : (port : PortState) → SamePort port (port_closes port)
port_closes_same port = record { links = refl; capacity = refl; reserves = refl }

port_fails_same : (port : PortState) → SamePort port (port_fails port)
port_fails_same port = record { links = refl; capacity = refl; reserves = refl }

-- the rules stay where an end of a link out changes
rules_stay : (ends : List OutEnd) (k : ℕ) (end : OutEnd) → end.rule ≡ (end_in ends k).rule
    → map (λ (end : OutEnd). end.rule) (set ends k end) ≡ map (λ (end : OutEnd). end.rule) ends
rules_stay ends k end same = map-set_same (λ (end : OutEnd). end.rule) ends k end no_end same

module _ {W : Type 0} (layout : Layout W) (meaning : ℕ → Value → Result (List Value) ℕ) (b : ℕ) where
  abbrev IsPlanned : ℕ → PortState → Type 0
  IsPlanned p port = PortAsPlanned layout meaning b p port

  port_stays : (p : ℕ) (before after : PortState) → SamePort before after → IsPlanned p before → IsPlanned p after
  port_stays p before after same planned = record {
    links = same.links ∙ planned.links;
    capacity = same.capacity ∙ planned.capacity;
    reserves_is = same.reserves ∙ planned.reserves_is;
  }

  -- a block that differs in one port, in each port, or in its exits' ends, or in what no plan speaks of
  one_port : (before after : BlockState) (p : ℕ) (change : PortState → PortState)
      → ((port : PortState) → SamePort port (change port))
      → after.kind ≡ before.kind → after.size ≡ before.size → after.ports ≡ set before.ports p (change (port_in before.ports p))
      → after.exits.ends ≡ before.exits.ends
      → ShapeLaw layout meaning b before → ShapeLaw layout meaning b after
  one_port before after p change same kind size ports ends law = record {
    kind_is = kind ∙ law.kind_is;
    size_is = size ∙ law.size_is;
    some_size = rw (kind, size) law.some_size;
    some_group = rw (kind, size) law.some_group;
    no_capacity = rw kind law.no_capacity;
    port_count_is = rw (ports, length-set before.ports p (change (port_in before.ports p))) law.port_count_is;
    some_port = rw (ports, length-set before.ports p (change (port_in before.ports p))) law.some_port;
    ports =
        let port = port_in before.ports p in
        rw ports (each_after_one IsPlanned before.ports p (change port)
        (λ below. port_stays p port (change port) (same port) (law.ports p below))
        (λ q there other. law.ports q there));
    rules = rw (kind, ends) law.rules;
  }

  each_port : (before after : BlockState) (change : PortState → PortState)
      → ((port : PortState) → SamePort port (change port))
      → after.kind ≡ before.kind → after.size ≡ before.size → after.ports ≡ map change before.ports
      → map (λ (end : OutEnd). end.rule) after.exits.ends ≡ map (λ (end : OutEnd). end.rule) before.exits.ends
      → ShapeLaw layout meaning b before → ShapeLaw layout meaning b after
  each_port before after change same kind size ports rules law = record {
    kind_is = kind ∙ law.kind_is;
    size_is = size ∙ law.size_is;
    some_size = rw (kind, size) law.some_size;
    some_group = rw (kind, size) law.some_group;
    no_capacity = rw kind law.no_capacity;
    port_count_is = rw (ports, length-map before.ports change) law.port_count_is;
    some_port = rw (ports, length-map before.ports change) law.some_port;
    ports =
        rw ports (each_after_all IsPlanned change before.ports
        (λ q below.
        let port = port_in before.ports q in
        port_stays q port (change port) (same port) (law.ports q below)));
    rules = rw kind (rules ∙ law.rules);
  }

  pub exits_move : (before after : BlockState) → after.kind ≡ before.kind → after.size ≡ before.size → after.ports ≡ before.ports
      → map (λ (end : OutEnd). end.rule) after.exits.ends ≡ map (λ (end : OutEnd). end.rule) before.exits.ends
      → ShapeLaw layout meaning b before → ShapeLaw layout meaning b after
  exits_move before after kind size ports rules law = record {
    kind_is = kind ∙ law.kind_is;
    size_is = size ∙ law.size_is;
    some_size = rw (kind, size) law.some_size;
    some_group = rw (kind, size) law.some_group;
    no_capacity = rw kind law.no_capacity;
    port_count_is = rw ports law.port_count_is;
    some_port = rw ports law.some_port;
    ports = rw ports law.ports;
    rules = rw kind (rules ∙ law.rules);
  }

  -- what it makes of a message
  results_kept : (kind : BlockKind) (values : List Value) (block : BlockState) → ShapeLaw layout meaning b block
      → ShapeLaw layout meaning b (keeps_results kind values block)
  results_kept Action values block law =
      one_port block _ 0 (λ port. gives_room 1 (takes_next port)) done_same refl refl refl refl law
  results_kept kind [] block law =
      one_port block _ 0 (λ port. gives_room 1 (takes_next port)) done_same refl refl refl refl law
  results_kept kind (value ∷ values) block law =
      one_port block _ 0 takes_next takes_next_same refl refl refl refl law

  yield_keeps : (result : Result (List Value) ℕ) (block : BlockState) → ShapeLaw layout meaning b block
      → ShapeLaw layout meaning b (yields result block)
  yield_keeps (Ok values) block law = results_kept block.kind values block law
  yield_keeps (Err number) block law =
      each_port block _ port_fails port_fails_same refl refl refl refl law

  make_keeps : (held : Option Value) (block : BlockState) → ShapeLaw layout meaning b block
      → ShapeLaw layout meaning b (makes_of (block_makes layout meaning b) held block)
  make_keeps None block law = law
  make_keeps (Some value) block law = yield_keeps (made_of block.kind (block_makes layout meaning b) value) block law

  copy_keeps : (held : Option Value) (block : BlockState) → ShapeLaw layout meaning b block
      → ShapeLaw layout meaning b (copies_next held block)
  copy_keeps None block law = law
  copy_keeps (Some value) block law =
      let room = 1 - copies_weight (puts value block.copies) in
      one_port block _ 0 (λ port. gives_room room (takes_next port)) (λ port. record { links = refl; capacity = refl; reserves = refl })
      refl refl refl refl law

  take_keeps : (p k : ℕ) (hand : Option Value) (node : NodeState) → ShapeLaw layout meaning b node.block
      → ShapeLaw layout meaning b (holds_in p k hand node).block
  take_keeps p k None node law = law
  take_keeps p k (Some value) node law =
      one_port node.block _ p (closes k value) (closes_same k value) refl refl refl refl law

  -- its head is given, and room comes back
  room_back : (block : BlockState) (k : ℕ) → ShapeLaw layout meaning b block → ShapeLaw layout meaning b (gives_out k block)
  room_back block k law = record {
    kind_is = law.kind_is;
    size_is = law.size_is;
    some_size = law.some_size;
    some_group = law.some_group;
    no_capacity = law.no_capacity;
    port_count_is = length_back (gives k block.exits) block.copies block.kind (head_of block.exits) block.ports ∙ law.port_count_is;
    some_port =
        subst (λ (count : ℕ). 0 < count)
        (sym (length_back (gives k block.exits) block.copies block.kind (head_of block.exits) block.ports)) law.some_port;
    ports =
        each_after_back (gives k block.exits) block.copies block.kind (head_of block.exits) IsPlanned block.ports
        (λ q below.
        let port = port_in block.ports q in
        let back = back_at (gives k block.exits) block.copies block.kind (head_of block.exits) q port in
        port_stays q port (gives_room back port) (gives_room_same back port) (law.ports q below));
    rules = rules_stay block.exits.ends k _ refl ∙ law.rules;
  }

  give_keeps : (k : ℕ) (head : Option Value) (node : NodeState) → ShapeLaw layout meaning b node.block
      → ShapeLaw layout meaning b (gives_from k head node).block
  give_keeps k None node law = law
  give_keeps k (Some value) node law =
      room_back node.block k law

  -- the next group is made
  group_keeps : (size weight : ℕ) (order : List ℕ) (block : BlockState) → ShapeLaw layout meaning b block
      → ShapeLaw layout meaning b (makes_group size weight order block)
  group_keeps size weight order block law = record {
    kind_is = law.kind_is;
    size_is = law.size_is;
    some_size = law.some_size;
    some_group = law.some_group;
    no_capacity = law.no_capacity;
    port_count_is = length_by_group size order block.ports ∙ law.port_count_is;
    some_port = subst (λ (count : ℕ). 0 < count) (sym (length_by_group size order block.ports)) law.some_port;
    ports =
        each_after_group size order IsPlanned block.ports
        (λ q count below.
        let port = port_in block.ports q in
        port_stays q port (takes_first count port) (takes_group_same count port) (law.ports q below));
    rules = law.rules;
  }

  call_keeps : (node : NodeState) (call : NodeCall) → ShapeLaw layout meaning b node.block
      → ShapeLaw layout meaning b (after_call layout meaning b call node).block
  call_keeps node (NodeCall.want p k) law = one_port node.block _ p (wants k) (wants_same k) refl refl refl refl law
  call_keeps node (NodeCall.turn_down p k) law =
      one_port node.block _ p (turns_down k) (turns_down_same k) refl refl refl refl law
  call_keeps node (NodeCall.postpone p k) law =
      one_port node.block _ p (postpones k) (postpones_same k) refl refl refl refl law
  call_keeps node (NodeCall.refuse p k) law = one_port node.block _ p (refuses k) (refuses_same k) refl refl refl refl law
  call_keeps node (NodeCall.consume p k) law = one_port node.block _ p (consumes k) (consumes_same k) refl refl refl refl law
  call_keeps node (NodeCall.ask p k) law = one_port node.block _ p (asks k) (asks_same k) refl refl refl refl law
  call_keeps node (NodeCall.claim p k) law = one_port node.block _ p (claims k) (claims_same k) refl refl refl refl law
  call_keeps node (NodeCall.release p k) law = one_port node.block _ p (releases k) (releases_same k) refl refl refl refl law
  call_keeps node (NodeCall.open_with p k value) law =
      one_port node.block _ p (opens k value) (opens_same k value) refl refl refl refl law
  call_keeps node (NodeCall.close p k) law =
      let held = holds_in p k (hand_at p k node) node in
      let kept = take_keeps p k (hand_at p k node) node law in
      taken_in_keeps (λ new journal. ShapeLaw layout meaning b new) p k (hand_at p k node) node kept
      (λ at_once. copy_keeps (first_of (held_by held.block)) held.block kept)
  call_keeps node (NodeCall.offer k) law =
      exits_move node.block _ refl refl refl (rules_stay node.block.exits.ends k _ refl) law
  call_keeps node (NodeCall.give k) law = give_keeps k (head_of node.block.exits) node law
  call_keeps node (NodeCall.hold k) law =
      exits_move node.block _ refl refl refl (rules_stay node.block.exits.ends k _ refl) law
  call_keeps node (NodeCall.deny k) law =
      exits_move node.block _ refl refl refl (rules_stay node.block.exits.ends k _ refl) law
  call_keeps node (NodeCall.withdraw k) law =
      exits_move node.block _ refl refl refl (rules_stay node.block.exits.ends k _ refl) law
  call_keeps node (NodeCall.end_link k how) law =
      exits_move node.block _ refl refl refl (rules_stay node.block.exits.ends k _ refl) law
  call_keeps node (NodeCall.look_in p k phase) law =
      one_port node.block _ p (looks k phase) (looks_same k phase) refl refl refl refl law
  call_keeps node (NodeCall.look_out k phase) law =
      exits_move node.block _ refl refl refl (rules_stay node.block.exits.ends k _ refl) law
  call_keeps node (NodeCall.copy call) law =
      let room = copies_weight node.block.copies - copies_weight (after_copy call node.block.copies) in
      each_port node.block _ (gives_room room) (gives_room_same room) refl refl refl refl law
  call_keeps node NodeCall.begin law = exits_move node.block _ refl refl refl refl law
  call_keeps node NodeCall.make law =
      next_by (λ (new : NodeState). ShapeLaw layout meaning b new.block) (block_makes layout meaning b) node
      (λ batched. group_keeps node.block.size 0 (order_in node) node.block law)
      (λ grouped.
      makes_by (ShapeLaw layout meaning b) (block_makes layout meaning b) node.block
      (λ batch. one_port node.block _ 0 (takes_group node.block.size) (takes_group_same node.block.size) refl refl refl refl law)
      (λ join. each_port node.block _ takes_next takes_next_same refl refl refl refl law)
      (λ broadcast. copy_keeps (first_of (held_by node.block)) node.block law)
      (λ other alone single. make_keeps (first_of (held_by node.block)) node.block law))
  call_keeps node (NodeCall.complete p) law =
      one_port node.block _ p port_closes port_closes_same refl refl refl refl law
  call_keeps node (NodeCall.fault number) law =
      each_port node.block _ port_closes port_closes_same refl refl refl refl law
  call_keeps node NodeCall.finish law =
      each_port node.block _ port_closes port_closes_same refl refl refl refl law

pub shape_kept : (W : Type 0) → ShapeKept W
shape_kept W layout meaning b node call law may = call_keeps layout meaning b node call law.shape

-- it stays of its kind
pub same_kind : {W : Type 0} (layout : Layout W) (meaning : ℕ → Value → Result (List Value) ℕ) (b : ℕ) (node : NodeState)
    (call : NodeCall) → NodeLaw layout meaning b node → MayCall layout meaning b call node
    → node.block.kind ≡ (after_call layout meaning b call node).block.kind
same_kind {W} layout meaning b node call law may =
    let after = shape_kept W layout meaning b node call law may in law.shape.kind_is ∙ sym after.kind_is
