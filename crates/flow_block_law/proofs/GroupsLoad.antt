-- Each call of a batched join keeps what it counts at each port.
use Rattle.std.proofs.Common.{◌≡◌, ℕ, zero, suc, ◌+◌, ◌-◌, ◌<◌, ◌≤◌, min, true, List, [], ◌∷◌, ◌++◌, length, get_or, set, take, Option, Some, None, is_some, Result, pos, refl, ap, sym, ◌∙◌, arith, subst, length-append}
use Rattle.std.proofs.lemmas.List.{length-take}
use Rattle.flow_value.specs.View.{values_of-items_from}
use Rattle.flow_value.specs.declared.value.Value.{Value}
use Rattle.flow_value.specs.declared.value.Value.TheVariants.{Int}
use Rattle.flow_link.specs.declared.draft.BlockKind.TheVariants.{BatchedJoin}
use Rattle.flow_link.specs.declared.trace.Outcome.{Outcome}
use Rattle.flow_link.specs.declared.trace.Outcome.TheVariants as outcome
use Rattle.flow_link.specs.Layout.{Layout}
use Rattle.flow_link.specs.Making.{items_of, all_items, column, row_weight, arrivals}
use Rattle.flow_link.specs.Trace.{gave}
use Rattle.flow_intake.specs.Port.{PortState}
use Rattle.flow_intake.specs.Calls.{first_of, one_more, wants, turns_down, postpones, refuses, consumes, asks, claims, releases, opens, closes, looks as port_looks, port_closes}
use Rattle.flow_outlet.specs.Fits.{weight_of}
use Rattle.flow_outlet.specs.Outlet.{OutletState, head_of, rest_of, gives, groups_after, weight_at, prepares, offers, holds, denies, withdraws, ends_link, looks as exit_looks}
use Rattle.flow_group.specs.Group.{came_at, row_of, rows_from, group_of, takes_group}
use Rattle.flow_group.specs.Tuple.{held_at}
use Rattle.flow_group.proofs.GroupsCut.{groups_tell, as_many_taken}
use Rattle.flow_group.proofs.PortsTaken.{ports_taken}
use Rattle.flow_block.specs.Block.{BlockState, port_in, port_at, is_batched_join, row_count, room_at, gives_out, stops_by}
use Rattle.flow_block.specs.Copies.{copies_weight}
use Rattle.flow_block.specs.Groups.{makes_group}
use Rattle.flow_block_law.specs.GroupsLaw.{are_complete, rows_left, LoadByPort, OrderedGroups}
use Rattle.flow_block_law.specs.GroupsKeep.{MayCallBatched}
use Rattle.flow_block_law.specs.GroupsLoad.{GroupsKeepLoad}
use Rattle.flow_block_law.specs.GroupsOrdered.{after_in_order}
use Rattle.flow_block.specs.Node.{NodeState, NodeCall, holds_in, gives_from, hand_at, order_in}
use Rattle.flow_block.specs.Planned.{block_makes}
use Rattle.flow_block.proofs.PortsChange.{each_after_one, each_after_all}
use Rattle.flow_block.proofs.RoomBack.{back_at, each_after_back}
use Rattle.flow_block.proofs.RoomFits.{rows_only}

-- The messages of groups at one port

abbrev row_at : ℕ → Value → Value
row_at p group = get_or (items_of group) p (Int (pos 0))

rows_of_one : (p : ℕ) (group : Value) (groups : List Value)
    → rows_left p (group ∷ groups) ≡ row_weight (row_at p group) + rows_left p groups
rows_of_one p group groups = length-append (items_of (row_at p group)) (all_items (column p groups))

rows_of_more : (p : ℕ) (groups : List Value) (group : Value)
    → rows_left p (groups ++ group ∷ []) ≡ rows_left p groups + row_weight (row_at p group)
rows_of_more p [] group =
    let one : rows_left p (group ∷ []) ≡ row_weight (row_at p group) + rows_left p [] = rows_of_one p group [] in
    omega (arith, one)
rows_of_more p (first ∷ groups) group =
    let rest : rows_left p (groups ++ group ∷ []) ≡ rows_left p groups + row_weight (row_at p group) = rows_of_more p groups group in
    let more : rows_left p (first ∷ groups ++ group ∷ []) ≡ row_weight (row_at p first) + rows_left p (groups ++ group ∷ []) =
    rows_of_one p first (groups ++ group ∷ []) in
    let one : rows_left p (first ∷ groups) ≡ row_weight (row_at p first) + rows_left p groups = rows_of_one p first groups in
    omega (arith, rest, more, one)

-- One port

-- a place is taken at the port by each message that waits there, and by so many more
abbrev Counts : ℕ → PortState → Type 0
Counts more port = is_some port.capacity ≡ true → port.load ≡ length port.waiting + more

one_taken : (capacity : Option ℕ) (waiting : List Value) (value : Value) (load more : ℕ)
    → (is_some capacity ≡ true → load ≡ length waiting + more) → is_some capacity ≡ true
    → one_more capacity load ≡ length (waiting ++ value ∷ []) + more
one_taken None waiting value load more was some = absurd (cc)
one_taken (Some limit) waiting value load more was some =
    let before = was some in
    let longer : length (waiting ++ value ∷ []) ≡ length waiting + 1 = length-append waiting (value ∷ []) in
    omega (arith, before, longer)

-- the row of a group at a port has the messages that waited there first
row_made : (first : ℕ) (group : List ℕ) (ports : List PortState) (p : ℕ) → p < length ports
    → get_or (rows_from first group ports) p (Int (pos 0))
    ≡ row_of (take (came_at (first + p) group) (port_in ports p).waiting)
row_made first group [] p there = absurd (omega (arith, there))
row_made first group (port ∷ ports) zero there =
    let same : first ≡ first + 0 = omega arith in
    ap (λ (n : ℕ). row_of (take (came_at n group) port.waiting)) same
row_made first group (port ∷ ports) (suc p) there =
    let same : suc first + p ≡ first + suc p = omega arith in
    row_made (suc first) group ports p (omega (arith, there))
    ∙ ap (λ (n : ℕ). row_of (take (came_at n group) (port_in ports p).waiting)) same

weight_made : (size : ℕ) (order : List ℕ) (ports : List PortState) (p : ℕ) → p < length ports
    → came_at p (take size order) ≤ length (port_in ports p).waiting
    → row_weight (row_at p (group_of size order ports)) ≡ came_at p (take size order)
weight_made size order ports p there enough =
    let group = take size order in
    let waiting = (port_in ports p).waiting in
    let same : 0 + p ≡ p = omega arith in
    let rows : items_of (group_of size order ports) ≡ rows_from 0 group ports = values_of-items_from (rows_from 0 group ports) in
    let row : row_at p (group_of size order ports) ≡ row_of (take (came_at p group) waiting) =
    ap (λ (rows : List Value). get_or rows p (Int (pos 0))) rows ∙ row_made 0 group ports p there
    ∙ ap (λ (n : ℕ). row_of (take (came_at n group) waiting)) same in
    let weight : row_weight (row_of (take (came_at p group) waiting)) ≡ length (take (came_at p group) waiting) =
    ap (λ (values : List Value). length values) (values_of-items_from (take (came_at p group) waiting)) in
    let count : length (take (came_at p group) waiting) ≡ min (came_at p group) (length waiting) =
    length-take (came_at p group) waiting in
    ap row_weight row ∙ weight ∙ omega (arith, count, enough)

-- the room of a row comes back whole
back_whole : (count load waiting rest : ℕ) → load ≡ waiting + (count + rest)
    → load - (0 + min count (load - waiting - 0 - 0)) ≡ waiting + rest
back_whole count load waiting rest is = omega (arith, is)

-- Each call

-- one port changes, and counts as before
one_port : (block : BlockState) (p : ℕ) (port : PortState) → LoadByPort block
    → (Counts (rows_left p block.exits.left) (port_in block.ports p) → Counts (rows_left p block.exits.left) port)
    → LoadByPort (record block { ports = set block.ports p port })
one_port block p port law same = record {
  no_groups = law.no_groups;
  no_room = law.no_room;
  no_copies = law.no_copies;
  load = each_after_one (λ q port. Counts (rows_left q block.exits.left) port) block.ports p port
      (λ there. same (law.load p there)) (λ q there other. law.load q there);
}

taken_in : (node : NodeState) (p k : ℕ) (value : Option Value) → LoadByPort node.block → LoadByPort (holds_in p k value node).block
taken_in node p k None law = law
taken_in node p k (Some value) law =
    let port = port_in node.block.ports p in
    one_port node.block p (closes k value port) law
    (λ was. one_taken port.capacity port.waiting value port.load (rows_left p node.block.exits.left) was)

-- all ports close
stopped : (block : BlockState) (how : Outcome) → LoadByPort block → LoadByPort (stops_by how block)
stopped block how law = record {
  no_groups = law.no_groups;
  no_room = law.no_room;
  no_copies = law.no_copies;
  load = each_after_all (λ q port. Counts (rows_left q block.exits.left) port) port_closes block.ports (λ q there. law.load q there);
}

-- the head is given, and at each port the room of its row comes back
module _ (block : BlockState) (k : ℕ) (head : Value) (left : List Value) (left_is : block.exits.left ≡ head ∷ left)
    (batched : is_batched_join block.kind ≡ true) (law : LoadByPort block) where
  no_groups_then : groups_after block.exits.next block.exits.groups ≡ []
  no_groups_then = ap (groups_after block.exits.next) law.no_groups

  no_room_then : (gives k block.exits).room ≡ 0
  no_room_then =
      let none : weight_at block.exits.next block.exits.groups ≡ 0 = ap (weight_at block.exits.next) law.no_groups in
      let room = law.no_room in
      omega (arith, none, room)

  no_weight_then : weight_of (gives k block.exits).groups + copies_weight block.copies ≡ 0
  no_weight_then =
      let none : weight_of (gives k block.exits).groups ≡ 0 = ap weight_of no_groups_then in
      let copies = law.no_copies in
      omega (arith, none, copies)

  counts_are : (q : ℕ) → row_count block.kind (head_of block.exits) q ≡ row_weight (row_at q head)
  counts_are q =
      ap (λ (counts : ℕ → ℕ). counts q) (rows_only block.kind (head_of block.exits) batched)
      ∙ ap (λ (left : List Value). row_count BatchedJoin (first_of left) q) left_is

  back_is : (q : ℕ) (port : PortState)
      → back_at (gives k block.exits) block.copies block.kind (head_of block.exits) q port
      ≡ 0 + min (row_weight (row_at q head)) (port.load - length port.waiting - 0 - 0)
  back_is q port =
      ap (λ (room : ℕ). room_at room (weight_of (gives k block.exits).groups + copies_weight block.copies)
      (row_count block.kind (head_of block.exits) q) port) no_room_then
      ∙ ap (λ (weight : ℕ). room_at 0 weight (row_count block.kind (head_of block.exits) q) port) no_weight_then
      ∙ ap (λ (count : ℕ). room_at 0 0 count port) (counts_are q)

  head_given : LoadByPort (gives_out k block)
  head_given = record {
    no_groups = no_groups_then;
    no_room = refl;
    no_copies = law.no_copies;
    load = each_after_back (gives k block.exits) block.copies block.kind (head_of block.exits)
        (λ q port. Counts (rows_left q (rest_of block.exits.left)) port) block.ports
        (λ q there limited.
        let port = port_in block.ports q in
        let all : rows_left q block.exits.left ≡ row_weight (row_at q head) + rows_left q left =
        ap (rows_left q) left_is ∙ rows_of_one q head left in
        let rest : rows_left q (rest_of block.exits.left) ≡ rows_left q left = ap (λ (left : List Value). rows_left q (rest_of left)) left_is in
        let was = law.load q there limited in
        let is : port.load ≡ length port.waiting + (row_weight (row_at q head) + rows_left q left) = omega (arith, was, all) in
        ap (λ (back : ℕ). port.load - back) (back_is q port)
        ∙ back_whole (row_weight (row_at q head)) port.load (length port.waiting) (rows_left q left) is
        ∙ ap (λ (rest : ℕ). length port.waiting + rest) (sym rest));
  }

given_out : (node : NodeState) (k : ℕ) (value : Option Value) (left : List Value) → node.block.exits.left ≡ left → first_of left ≡ value
    → is_batched_join node.block.kind ≡ true → LoadByPort node.block → LoadByPort (gives_from k value node).block
given_out node k None left is first batched law = law
given_out node k (Some value) [] is first batched law = absurd (cc)
given_out node k (Some value) (head ∷ left) is first batched law = head_given node.block k head left is batched law

-- the next group is made
made : (block : BlockState) (size : ℕ) (order : List ℕ)
    → ((p : ℕ) → p < length block.ports → came_at p order ≡ length (held_at block.ports p))
    → LoadByPort block → LoadByPort (makes_group size 0 order block)
made block size order counted law = record {
  no_groups = law.no_groups;
  no_room = let none = law.no_room in omega (arith, none);
  no_copies = law.no_copies;
  load = λ p there limited.
      let below : p < length block.ports = subst (λ (count : ℕ). p < count) (as_many_taken 0 (take size order) block.ports) there in
      let taken = ports_taken.group size order block.ports counted p below in
      let count = came_at p (take size order) in
      let before = port_in block.ports p in
      let after = port_in (takes_group size order block.ports) p in
      let capacity : after.capacity ≡ before.capacity = ap (λ (port : PortState). port.capacity) taken.only in
      let load : after.load ≡ before.load = ap (λ (port : PortState). port.load) taken.only in
      let were = taken.were_there in
      let was = law.load p below (sym (ap (λ (limit : Option ℕ). is_some limit) capacity) ∙ limited) in
      let weight = weight_made size order block.ports p below (omega (arith, were)) in
      let more = rows_of_more p block.exits.left (group_of size order block.ports) in
      omega (arith, load, were, was, weight, more);
}

module _ {W : Type 0} (layout : Layout W) (meaning : ℕ → Value → Result (List Value) ℕ) (b : ℕ) where
  waits_as_noted : (node : NodeState) → OrderedGroups node → (p : ℕ) → p < length node.block.ports
      → came_at p (order_in node) ≡ length (held_at node.block.ports p)
  waits_as_noted node groups =
      (groups_tell.each (length node.block.ports) node.block.size (are_complete (length node.block.ports) node.journal)
      (arrivals node.journal) (gave node.journal ++ node.block.exits.left) (order_in node) (held_at node.block.ports)
      groups.groups).counted

  exits_stay : (node : NodeState) (exits : OutletState) → exits.left ≡ node.block.exits.left
      → exits.groups ≡ node.block.exits.groups → exits.room ≡ node.block.exits.room → LoadByPort node.block
      → LoadByPort (record node.block { exits = exits })
  exits_stay node exits left groups room law = record {
    no_groups = groups ∙ law.no_groups;
    no_room = room ∙ law.no_room;
    no_copies = law.no_copies;
    load = λ p there limited. law.load p there limited ∙ ap (λ (left : List Value). length (port_at p node.block).waiting + rows_left p left) (sym left);
  }

  after_each : (node : NodeState) (call : NodeCall) → is_batched_join node.block.kind ≡ true → OrderedGroups node
      → LoadByPort node.block → MayCallBatched layout meaning b node.block.size (order_in node) call node
      → LoadByPort (after_in_order (block_makes layout meaning b) call node).block
  after_each node (NodeCall.want p k) batched groups law may = one_port node.block p (wants k (port_at p node.block)) law (λ was. was)
  after_each node (NodeCall.turn_down p k) batched groups law may =
      one_port node.block p (turns_down k (port_at p node.block)) law (λ was. was)
  after_each node (NodeCall.postpone p k) batched groups law may =
      one_port node.block p (postpones k (port_at p node.block)) law (λ was. was)
  after_each node (NodeCall.refuse p k) batched groups law may = one_port node.block p (refuses k (port_at p node.block)) law (λ was. was)
  after_each node (NodeCall.consume p k) batched groups law may =
      one_port node.block p (consumes k (port_at p node.block)) law (λ was. was)
  after_each node (NodeCall.ask p k) batched groups law may =
      one_port node.block p (asks k (port_at p node.block)) law (λ was. was)
  after_each node (NodeCall.claim p k) batched groups law may =
      one_port node.block p (claims k (port_at p node.block)) law (λ was. was)
  after_each node (NodeCall.release p k) batched groups law may =
      one_port node.block p (releases k (port_at p node.block)) law (λ was. was)
  after_each node (NodeCall.open_with p k value) batched groups law may =
      one_port node.block p (opens k value (port_at p node.block)) law (λ was. was)
  after_each node (NodeCall.close p k) batched groups law may = taken_in node p k (hand_at p k node) law
  after_each node (NodeCall.offer k) batched groups law may = exits_stay node (offers k (prepares node.block.exits)) refl refl refl law
  after_each node (NodeCall.give k) batched groups law may =
      given_out node k (head_of node.block.exits) node.block.exits.left refl refl batched law
  after_each node (NodeCall.hold k) batched groups law may = exits_stay node (holds k node.block.exits) refl refl refl law
  after_each node (NodeCall.deny k) batched groups law may = exits_stay node (denies k node.block.exits) refl refl refl law
  after_each node (NodeCall.withdraw k) batched groups law may = exits_stay node (withdraws k node.block.exits) refl refl refl law
  after_each node (NodeCall.end_link k how) batched groups law may = exits_stay node (ends_link k how node.block.exits) refl refl refl law
  after_each node (NodeCall.look_in p k phase) batched groups law may =
      one_port node.block p (port_looks k phase (port_at p node.block)) law (λ was. was)
  after_each node (NodeCall.look_out k phase) batched groups law may = exits_stay node (exit_looks k phase node.block.exits) refl refl refl law
  after_each node (NodeCall.copy call) batched groups law may = absurd may
  after_each node NodeCall.begin batched groups law may = record {
    no_groups = law.no_groups;
    no_room = law.no_room;
    no_copies = law.no_copies;
    load = law.load;
  }
  after_each node NodeCall.make batched groups law may = made node.block node.block.size (order_in node) (waits_as_noted node groups) law
  after_each node (NodeCall.complete p) batched groups law may = one_port node.block p (port_closes (port_at p node.block)) law (λ was. was)
  after_each node (NodeCall.fault number) batched groups law may = stopped node.block (outcome.Faulted number) law
  after_each node NodeCall.finish batched groups law may = stopped node.block outcome.Done law

pub groups_keep_load : (W : Type 0) → GroupsKeepLoad W
groups_keep_load W layout meaning b node call batched groups law may = after_each layout meaning b node call batched groups law may
