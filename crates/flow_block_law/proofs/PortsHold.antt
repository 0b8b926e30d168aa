-- Each call keeps a block's ports in order.
use Rattle.std.proofs.Common.{◌≡◌, ◌≢◌, ℕ, ◌+◌, ◌-◌, ◌<◌, ◌≤◌, ◌==◌, cond, Bool, true, false, List, [], ◌∷◌, ◌++◌, length, map, set, drop, Option, Some, None, is_some, Result, Ok, Err, refl, ap, sym, ◌∙◌, subst, arith, ne_eqb, eq-eqb, eqb-true, length-append}
use Rattle.std.proofs.lemmas.List.{length-drop}
use Rattle.flow_value.specs.declared.value.Value.{Value}
use Rattle.flow_link.specs.declared.draft.BlockKind.{BlockKind}
use Rattle.flow_link.specs.declared.draft.BlockKind.TheVariants.{Action}
use Rattle.flow_link.specs.declared.trace.Mark.{Mark}
use Rattle.flow_link.specs.declared.trace.Mark.TheVariants.{Took, Gave, Complete, Fault, Done}
use Rattle.flow_link.specs.Facts.{facts_in}
use Rattle.flow_link.specs.JournalGrows.{taken_by_mark}
use Rattle.flow_link.specs.Layout.{Layout}
use Rattle.flow_link.specs.Plan.{block_in, is_one_taker}
use Rattle.flow_link.specs.Trace.{took_at}
use Rattle.flow_link.specs.Views.{LinkFacts}
use Rattle.flow_link.proofs.KindsTell.{kind_tells}
use Rattle.flow_intake.specs.Port.{PortState, coming, is_hand, fresh_port}
use Rattle.flow_intake.specs.PortLaw.{PortLaw}
use Rattle.flow_intake.specs.Calls.{first_of, wants, turns_down, postpones, refuses, consumes, asks, claims, releases, opens, closes, looks, takes_next, gives_room, port_closes, port_fails}
use Rattle.flow_intake.proofs.CallsKeepOrder.{moves_keep}
use Rattle.flow_outlet.specs.Fits.{weight_of}
use Rattle.flow_outlet.specs.Outlet.{head_of, weight_at, gives}
use Rattle.flow_outlet.proofs.OutletFits.{weight_stays}
use Rattle.flow_block.proofs.RoomBack.{back_at, each_after_back, back_fits}
use Rattle.flow_block.specs.Copies.{copy_place, CopyCall, after_copy, copies_weight}
use Rattle.flow_block_law.proofs.CopiesIdle.{copies_at}
use Rattle.flow_block.specs.Block.{BlockState, port_in, held_by, made_of, yields, keeps_results, makes_of, takes_group, copies_next, is_batched_join}
use Rattle.flow_block.specs.Node.{NodeState, NodeCall, hand_at, in_link_at, out_link_at, gives_from, copies_by, marks_copy, order_in, holds_in}
use Rattle.flow_block.proofs.CopiesTaken.{taken_in_keeps}
use Rattle.flow_block_law.specs.NodeLaw.{NodeLaw, ShapeLaw, PortsLaw, LoadLaw, places_out}
use Rattle.flow_spread.specs.Spread.{puts}
use Rattle.flow_block_law.specs.NodeKeeps.{InAt, MayCall, after_call, PortsKept}
use Rattle.flow_block.specs.Peeks.{nothing_comes}
use Rattle.flow_block.specs.Planned.{block_makes, room_of}
use Rattle.flow_block_law.proofs.CopiesLeave.{took_by_copy_at, left_by_copy}
use Rattle.flow_block_law.proofs.GoingOn.{may_complete_tells, may_fault_tells, may_finish_tells}
use Rattle.flow_block_law.proofs.WishesTell.{asks_so, claims_so, releases_so, asks_openly}
use Rattle.flow_block_law.proofs.JournalTells.{took_same, took_here}
use Rattle.flow_block_law.proofs.KindsBuilt.{makes_by, next_by}
use Rattle.flow_block.proofs.PortsChange.{each_after_one, each_after_all}
use Rattle.flow_link.proofs.TestsTell.{every_tells}
use Rattle.flow_block_law.proofs.GroupPorts.{each_after_group}
use Rattle.flow_group.specs.Group.{takes_first}

-- how many messages a port took, when the journal has one more mark
pub took_as_many : (q : ℕ) (journal : List Mark) (mark : Mark) → taken_by_mark (λ port link. port == q) mark ≡ []
    → length (took_at q (journal ++ mark ∷ [])) ≡ length (took_at q journal)
took_as_many q journal mark none =
    ap length (took_same (λ port link. port == q) journal mark none)

pub took_elsewhere : (p l : ℕ) (value : Value) (q : ℕ) (journal : List Mark) → q ≢ p
    → length (took_at q (journal ++ Took p l value ∷ [])) ≡ length (took_at q journal)
took_elsewhere p l value q journal other =
    took_as_many q journal (Took p l value)
    (ap (λ (b : Bool). cond b (value ∷ []) []) (ne_eqb p q (λ e. other (sym e))))

pub took_one_more : (p l : ℕ) (value : Value) (journal : List Mark)
    → length (took_at p (journal ++ Took p l value ∷ [])) ≡ length (took_at p journal) + 1
took_one_more p l value journal =
    ap length (took_here (λ port link. port == p) journal p l value (eq-eqb p p refl))
    ∙ length-append (took_at p journal) (value ∷ [])

-- the room that comes back was counted
given_fits : (capacity : Option ℕ) (count load waiting kept : ℕ) → count ≤ kept
    → (is_some capacity ≡ true → load ≡ waiting + kept) → cond (is_some capacity) count 0 ≤ load - waiting
given_fits None count load waiting kept fits counts = omega arith
given_fits (Some c) count load waiting kept fits counts = let all = counts refl in omega arith

made_fits : (capacity : Option ℕ) (load : ℕ) (waiting : List Value) (value : Value) → first_of waiting ≡ Some value
    → (is_some capacity ≡ true → length waiting ≤ load) → cond (is_some capacity) 1 0 ≤ load - length (drop 1 waiting)
made_fits None load waiting value first counts = omega arith
made_fits (Some c) load [] value first counts = absurd (cc)
made_fits (Some c) load (message ∷ waiting) value first counts = let fits = counts refl in omega arith

nothing_fits : (limited : Bool) (room : ℕ) → cond limited 0 0 ≤ room
nothing_fits true room = omega arith
nothing_fits false room = omega arith

fewer_fits : (limited : Bool) (now room : ℕ) → cond limited 1 0 ≤ room → cond limited (1 - now) 0 ≤ room
fewer_fits true now room fits = omega (arith, fits)
fewer_fits false now room fits = omega arith

module _ {W : Type 0} (layout : Layout W) (meaning : ℕ → Value → Result (List Value) ℕ) (b : ℕ) where
  abbrev facts : ℕ → LinkFacts
  facts = facts_in layout

  abbrev taken : List Mark → ℕ → ℕ
  taken journal q = length (took_at q journal)

  abbrev AreInOrder : List Mark → List PortState → Type 0
  AreInOrder journal ports = (q : ℕ) → q < length ports → PortLaw facts (taken journal q) (port_in ports q)

  -- one port changes, with one more mark
  one_marked : (ports : List PortState) (journal marked : List Mark) (p : ℕ) (port : PortState)
      → AreInOrder journal ports → ((q : ℕ) → q ≢ p → taken marked q ≡ taken journal q)
      → (PortLaw facts (taken journal p) (port_in ports p) → PortLaw facts (taken marked p) port)
      → AreInOrder marked (set ports p port)
  one_marked ports journal marked p port law others one =
      each_after_one (λ q x. PortLaw facts (taken marked q) x) ports p port (λ below. one (law p below))
      (λ q there other. subst (λ (n : ℕ). PortLaw facts n (port_in ports q)) (sym (others q other)) (law q there))

  one_port : (ports : List PortState) (journal : List Mark) (p : ℕ) (port : PortState) → AreInOrder journal ports
      → (PortLaw facts (taken journal p) (port_in ports p) → PortLaw facts (taken journal p) port)
      → AreInOrder journal (set ports p port)
  one_port ports journal p port law one = one_marked ports journal journal p port law (λ q other. refl) one

  -- each port changes, with a mark of no message
  each_port : (ports : List PortState) (journal marked : List Mark) (change : PortState → PortState)
      → AreInOrder journal ports → ((q : ℕ) → taken marked q ≡ taken journal q)
      → ((q : ℕ) → q < length ports → PortLaw facts (taken journal q) (port_in ports q)
      → PortLaw facts (taken journal q) (change (port_in ports q)))
      → AreInOrder marked (map change ports)
  each_port ports journal marked change law same each =
      each_after_all (λ q x. PortLaw facts (taken marked q) x) change ports
      (λ q below.
      subst (λ (n : ℕ). PortLaw facts n (change (port_in ports q))) (sym (same q)) (each q below (law q below)))

  -- what it makes of a message
  results_kept : (kind : BlockKind) (values : List Value) (value : Value) (block : BlockState) (journal : List Mark)
      → first_of (held_by block) ≡ Some value → PortsLaw layout meaning b block journal
      → PortsLaw layout meaning b (keeps_results kind values block) journal
  results_kept Action values value block journal first law =
      one_port block.ports journal 0 (gives_room 1 (takes_next (port_in block.ports 0))) law
      (λ old.
      let port = port_in block.ports 0 in
      moves_keep.give_room facts (taken journal 0) (takes_next port)
      (moves_keep.take_next facts (taken journal 0) port old) 1
      (made_fits port.capacity port.load port.waiting value first old.waits))
  results_kept kind [] value block journal first law =
      one_port block.ports journal 0 (gives_room 1 (takes_next (port_in block.ports 0))) law
      (λ old.
      let port = port_in block.ports 0 in
      moves_keep.give_room facts (taken journal 0) (takes_next port)
      (moves_keep.take_next facts (taken journal 0) port old) 1
      (made_fits port.capacity port.load port.waiting value first old.waits))
  results_kept kind (made ∷ values) value block journal first law =
      one_port block.ports journal 0 (takes_next (port_in block.ports 0)) law
      (λ old. moves_keep.take_next facts (taken journal 0) (port_in block.ports 0) old)

  yield_keeps : (result : Result (List Value) ℕ) (value : Value) (block : BlockState) (journal : List Mark)
      → first_of (held_by block) ≡ Some value → PortsLaw layout meaning b block journal
      → PortsLaw layout meaning b (yields result block) journal
  yield_keeps (Ok values) value block journal first law = results_kept block.kind values value block journal first law
  yield_keeps (Err number) value block journal first law =
      each_port block.ports journal journal port_fails law (λ q. refl)
      (λ q below old. moves_keep.fail_port facts (taken journal q) (port_in block.ports q) old)

  make_keeps : (held : Option Value) (block : BlockState) (journal : List Mark) → first_of (held_by block) ≡ held
      → PortsLaw layout meaning b block journal
      → PortsLaw layout meaning b (makes_of (block_makes layout meaning b) held block) journal
  make_keeps None block journal first law = law
  make_keeps (Some value) block journal first law =
      yield_keeps (made_of block.kind (block_makes layout meaning b) value) value block journal first law

  -- messages that waited go into a group
  group_taken : (count n : ℕ) (port : PortState) → PortLaw facts n port → PortLaw facts n (takes_first count port)
  group_taken count n port old = record {
    each = old.each;
    distinct = old.distinct;
    known = old.known;
    room = old.room;
    took = old.took;
    waits = λ there. let enough = old.waits there in rw (length-drop count port.waiting) (omega (arith, enough));
  }

  -- it makes a row
  row_keeps : (count : ℕ) (block : BlockState) (journal : List Mark) → PortsLaw layout meaning b block journal
      → AreInOrder journal (set block.ports 0 (takes_group count (port_in block.ports 0)))
  row_keeps count block journal law =
      let port = port_in block.ports 0 in
      one_port block.ports journal 0 (takes_group count port) law (group_taken count (taken journal 0) port)

  take_keeps : (p k : ℕ) (hand : Option Value) (node : NodeState) → InAt is_hand p k node
      → PortsLaw layout meaning b node.block node.journal
      → PortsLaw layout meaning b (holds_in p k hand node).block (holds_in p k hand node).journal
  take_keeps p k None node at law = law
  take_keeps p k (Some value) node at law =
      let port = port_in node.block.ports p in
      let link = in_link_at p k node in
      one_marked node.block.ports node.journal (node.journal ++ Took p link value ∷ []) p (closes k value port) law
      (λ q other. took_elsewhere p link value q node.journal other)
      (λ old. subst (λ (n : ℕ). PortLaw facts n (closes k value port)) (sym (took_one_more p link value node.journal))
      (moves_keep.closed facts (taken node.journal p) port old k value at.place at.stands))

  -- what is wholly given of what was put comes back whole; of a batched join nothing does, but the room of rows
  room_fits : (node : NodeState) (k : ℕ) → NodeLaw layout meaning b node → (q : ℕ) → q < length node.block.ports
      → (batched : Bool) → is_batched_join node.block.kind ≡ batched
      → cond (is_some (port_in node.block.ports q).capacity) (gives k node.block.exits).room 0
      ≤ (port_in node.block.ports q).load - length (port_in node.block.ports q).waiting
  room_fits node k law q below false grouped =
      let exits = node.block.exits in
      let port = port_in node.block.ports q in
      let load : LoadLaw layout meaning b node.block node.journal = law.load grouped in
      let shape : ShapeLaw layout meaning b node.block = law.shape in
      let capacity = room_of (block_in layout.blocks b) in
      let back = weight_stays exits.next exits.groups in
      let none = load.no_room in
      let count : exits.room + weight_at exits.next exits.groups ≤ weight_of exits.groups = omega (arith, back, none) in
      rw (shape.ports q below).capacity
      (given_fits capacity (gives k exits).room port.load (length port.waiting) (places_out node.block)
      (omega (arith, count)) (load.load q below))
  room_fits node k law q below true batched =
      let exits = node.block.exits in
      let port = port_in node.block.ports q in
      let load = law.group_load batched in
      let no_room = load.no_room in
      let no_weight : weight_at exits.next exits.groups ≡ 0 = ap (weight_at exits.next) load.no_groups in
      let none : (gives k exits).room ≡ 0 = omega (arith, no_room, no_weight) in
      rw none (nothing_fits (is_some port.capacity) (port.load - length port.waiting))

  give_keeps : (k : ℕ) (head : Option Value) (node : NodeState) → head_of node.block.exits ≡ head
      → NodeLaw layout meaning b node
      → PortsLaw layout meaning b (gives_from k head node).block (gives_from k head node).journal
  give_keeps k None node head law = law.ports
  give_keeps k (Some value) node head law =
      let block = node.block in
      let later = node.journal ++ Gave (out_link_at k node) value ∷ [] in
      let back : ℕ → PortState → ℕ = back_at (gives k block.exits) block.copies block.kind (head_of block.exits) in
      each_after_back (gives k block.exits) block.copies block.kind (head_of block.exits)
      (λ q port. PortLaw facts (taken later q) port) block.ports
      (λ q below.
      let port = port_in block.ports q in
      let fits =
      back_fits (gives k block.exits) block.copies block.kind (head_of block.exits) port.capacity q port
      (room_fits node k law q below (is_batched_join block.kind) refl) in
      subst (λ (n : ℕ). PortLaw facts n (gives_room (back q port) port))
      (sym (took_as_many q node.journal (Gave (out_link_at k node) value) refl))
      (moves_keep.give_room facts (taken node.journal q) port (law.ports q below) (back q port) fits))

  -- what it copies goes over a link, and the room that it takes no more comes back
  copy_keeps : (call : CopyCall) (node : NodeState) → copy_place call < length node.block.copies.ends
      → NodeLaw layout meaning b node → PortsLaw layout meaning b (copies_by call node).block (copies_by call node).journal
  copy_keeps call node there law =
      let load : LoadLaw layout meaning b node.block node.journal =
      law.load (kind_tells is_one_taker false is_batched_join false refl node.block.kind (copies_at layout meaning b node law (copy_place call) there)) in
      let shape : ShapeLaw layout meaning b node.block = law.shape in
      let capacity = room_of (block_in layout.blocks b) in
      let copies = node.block.copies in
      let back = copies_weight copies - copies_weight (after_copy call copies) in
      let less = left_by_copy call copies there in
      each_port node.block.ports node.journal (marks_copy call copies node.journal) (gives_room back) law.ports
      (λ q. ap length (took_by_copy_at call copies node.journal q))
      (λ q below old.
      let port = port_in node.block.ports q in
      moves_keep.give_room facts (taken node.journal q) port old back
      (rw (shape.ports q below).capacity
      (given_fits capacity back port.load (length port.waiting) (places_out node.block) (omega (arith, less)) (load.load q below))))

  -- the message that waits longest is copied from now on
  copied_keeps : (first : Option Value) (block : BlockState) (journal : List Mark) → first_of (held_by block) ≡ first
      → PortsLaw layout meaning b block journal → PortsLaw layout meaning b (copies_next first block) journal
  copied_keeps None block journal first law = law
  copied_keeps (Some value) block journal first law =
      let port = port_in block.ports 0 in
      let now = copies_weight (puts value block.copies) in
      one_port block.ports journal 0 (gives_room (1 - now) (takes_next port)) law
      (λ old.
      moves_keep.give_room facts (taken journal 0) (takes_next port) (moves_keep.take_next facts (taken journal 0) port old) (1 - now)
      (fewer_fits (is_some port.capacity) now (port.load - length (drop 1 port.waiting))
      (made_fits port.capacity port.load port.waiting value first old.waits)))

  -- it stops
  stop_keeps : (ports : List PortState) (journal : List Mark) (mark : Mark)
      → ((q : ℕ) → taken_by_mark (λ port link. port == q) mark ≡ []) → nothing_comes ports ≡ true
      → AreInOrder journal ports → AreInOrder (journal ++ mark ∷ []) (map port_closes ports)
  stop_keeps ports journal mark none comes law =
      each_port ports journal (journal ++ mark ∷ []) port_closes law (λ q. took_as_many q journal mark (none q))
      (λ q below old. moves_keep.close_port facts (taken journal q) (port_in ports q) old
      (eqb-true (coming (port_in ports q)) 0
      (every_tells (λ (port : PortState). coming port == 0) ports (fresh_port None) q comes below)))

  call_keeps : (node : NodeState) (call : NodeCall) → NodeLaw layout meaning b node → MayCall layout meaning b call node
      → AreInOrder (after_call layout meaning b call node).journal (after_call layout meaning b call node).block.ports
  call_keeps node (NodeCall.want p k) law may =
      let port = port_in node.block.ports p in
      one_port node.block.ports node.journal p (wants k port) law.ports
      (λ old. moves_keep.want facts (taken node.journal p) port old k may.0.place may.0.stands
      may.1.room may.1.open_port)
  call_keeps node (NodeCall.turn_down p k) law may =
      let port = port_in node.block.ports p in
      one_port node.block.ports node.journal p (turns_down k port) law.ports
      (λ old. moves_keep.turn_down facts (taken node.journal p) port old k may.place may.stands)
  call_keeps node (NodeCall.postpone p k) law may =
      let port = port_in node.block.ports p in
      one_port node.block.ports node.journal p (postpones k port) law.ports
      (λ old. moves_keep.postpone facts (taken node.journal p) port old k may.offered.place may.offered.stands may.may)
  call_keeps node (NodeCall.refuse p k) law may =
      let port = port_in node.block.ports p in
      one_port node.block.ports node.journal p (refuses k port) law.ports
      (λ old. moves_keep.refuse facts (taken node.journal p) port old k may.0.place may.0.stands may.1)
  call_keeps node (NodeCall.consume p k) law may =
      let port = port_in node.block.ports p in
      one_port node.block.ports node.journal p (consumes k port) law.ports
      (λ old. moves_keep.consume facts (taken node.journal p) port old k may.0.place may.0.stands
      may.1.room may.1.open_port)
  call_keeps node (NodeCall.ask p k) law may =
      let port = port_in node.block.ports p in
      let now = asks_so p k node may in
      one_port node.block.ports node.journal p (asks k port) law.ports
      (λ old. moves_keep.ask facts (taken node.journal p) port old k may.place now.waits now.room (asks_openly p k node may))
  call_keeps node (NodeCall.claim p k) law may =
      let port = port_in node.block.ports p in
      one_port node.block.ports node.journal p (claims k port) law.ports
      (λ old. moves_keep.claim facts (taken node.journal p) port old k may.place (claims_so p k node may).held)
  call_keeps node (NodeCall.release p k) law may =
      let port = port_in node.block.ports p in
      one_port node.block.ports node.journal p (releases k port) law.ports
      (λ old. moves_keep.release facts (taken node.journal p) port old k may.place (releases_so p k node may).held)
  call_keeps node (NodeCall.open_with p k value) law may =
      let port = port_in node.block.ports p in
      one_port node.block.ports node.journal p (opens k value port) law.ports
      (λ old. moves_keep.opened facts (taken node.journal p) port old k value may.place may.stands)
  call_keeps node (NodeCall.close p k) law may =
      let held = holds_in p k (hand_at p k node) node in
      let kept = take_keeps p k (hand_at p k node) node may law.ports in
      taken_in_keeps (PortsLaw layout meaning b) p k (hand_at p k node) node kept
      (λ at_once. copied_keeps (first_of (held_by held.block)) held.block held.journal refl kept)
  call_keeps node (NodeCall.offer k) law may = law.ports
  call_keeps node (NodeCall.give k) law may = give_keeps k (head_of node.block.exits) node refl law
  call_keeps node (NodeCall.hold k) law may = law.ports
  call_keeps node (NodeCall.deny k) law may = law.ports
  call_keeps node (NodeCall.withdraw k) law may = law.ports
  call_keeps node (NodeCall.end_link k how) law may = law.ports
  call_keeps node (NodeCall.look_in p k phase) law may =
      let port = port_in node.block.ports p in
      one_port node.block.ports node.journal p (looks k phase port) law.ports
      (λ old. moves_keep.look facts (taken node.journal p) port old k phase may.0.place)
  call_keeps node (NodeCall.look_out k phase) law may = law.ports
  call_keeps node (NodeCall.copy call) law may = copy_keeps call node may.place law
  call_keeps node NodeCall.begin law may = law.ports
  call_keeps node NodeCall.make law may =
      next_by (λ (new : NodeState). PortsLaw layout meaning b new.block new.journal) (block_makes layout meaning b) node
      (λ batched.
      each_after_group node.block.size (order_in node) (λ q port. PortLaw facts (taken node.journal q) port) node.block.ports
      (λ q count below. group_taken count (taken node.journal q) (port_in node.block.ports q) (law.ports q below)))
      (λ grouped.
      makes_by (λ new. PortsLaw layout meaning b new node.journal) (block_makes layout meaning b) node.block
      (λ batch. row_keeps node.block.size node.block node.journal law.ports)
      (λ join. each_port node.block.ports node.journal node.journal takes_next law.ports (λ q. refl)
      (λ q below old. moves_keep.take_next facts (taken node.journal q) (port_in node.block.ports q) old))
      (λ broadcast. copied_keeps (first_of (held_by node.block)) node.block node.journal refl law.ports)
      (λ other alone single. make_keeps (first_of (held_by node.block)) node.block node.journal refl law.ports))
  call_keeps node (NodeCall.complete p) law may =
      let port = port_in node.block.ports p in
      let none = (may_complete_tells p node.block may.completes).none_comes in
      one_marked node.block.ports node.journal (node.journal ++ Complete p ∷ []) p (port_closes port) law.ports
      (λ q other. took_as_many q node.journal (Complete p) refl)
      (λ old. subst (λ (n : ℕ). PortLaw facts n (port_closes port))
      (sym (took_as_many p node.journal (Complete p) refl))
      (moves_keep.close_port facts (taken node.journal p) port old none))
  call_keeps node (NodeCall.fault number) law may =
      let none = (may_fault_tells node.block number may).none_comes in
      stop_keeps node.block.ports node.journal (Fault number) (λ q. refl) none law.ports
  call_keeps node NodeCall.finish law may =
      stop_keeps node.block.ports node.journal Done (λ q. refl) (may_finish_tells node.block may).none_comes law.ports

pub ports_kept : (W : Type 0) → PortsKept W
ports_kept W layout meaning b node call law may = call_keeps layout meaning b node call law may
