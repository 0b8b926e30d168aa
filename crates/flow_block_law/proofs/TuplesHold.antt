-- Each call keeps the tuples of a join: what was taken at a port stands in them, in order, or waits there.
use Rattle.std.proofs.Common.{◌≡◌, ℕ, ◌==◌, true, List, [], ◌∷◌, ◌++◌, length, set, Option, Some, None, Result, refl, ap, sym, ◌∙◌, append_assoc, false}
use Rattle.std.proofs.lemmas.List.{length-map, length-set}
use Rattle.flow_value.specs.declared.value.Value.{Value}
use Rattle.flow_link.specs.declared.stage.TargetStage.TheVariants.{Free}
use Rattle.flow_link.specs.declared.trace.Mark.{Mark}
use Rattle.flow_link.specs.declared.trace.Mark.TheVariants.{Took, Gave, Complete, Fault, Done}
use Rattle.flow_link.specs.declared.trace.Outcome.{Outcome}
use Rattle.flow_link.specs.declared.trace.Outcome.TheVariants as outcome
use Rattle.flow_link.specs.JournalGrows.{given_by_mark}
use Rattle.flow_link.specs.Layout.{Layout}
use Rattle.flow_link.specs.Making.{arrivals}
use Rattle.flow_link.specs.Trace.{took_at, gave}
use Rattle.flow_link.specs.Plan.{is_broadcast, is_one_taker, is_write_once}
use Rattle.flow_link.proofs.KindsTell.{kind_tells}
use Rattle.flow_link.proofs.OneMoreMark.{gave_no_more, gave_by_took, gave_by_gave}
use Rattle.flow_intake.specs.Port.{PortState, hand_in}
use Rattle.flow_intake.specs.Calls.{put_hand, takes_next, wants, turns_down, postpones, refuses, consumes, asks, claims, releases, opens, closes, looks as port_looks, port_closes}
use Rattle.flow_outlet.specs.Outlet.{OutletState, head_of, gives, prepares, offers, holds, denies, withdraws, ends_link, looks as exit_looks}
use Rattle.flow_group.specs.Tuple.{held_at, has_tuple, tuple_of}
use Rattle.flow_group.specs.Tuples.{only_at}
use Rattle.flow_group.proofs.JournalsTell.{journals_tell}
use Rattle.flow_group.proofs.TuplesKeep.{tuples_kept, held_by_take}
use Rattle.flow_block.specs.Block.{is_batch, BlockState, port_at, with_port, stops_by, is_join, makes_tuple, is_batched_join}
use Rattle.flow_block.specs.Node.{NodeState, NodeCall, gives_from, in_link_at, out_link_at, holds_in}
use Rattle.flow_block_law.specs.NodeKeeps.{MayCall, after_call, TuplesKept}
use Rattle.flow_block_law.specs.NodeLaw.{NodeLaw, KeepsTuples}
use Rattle.flow_block.specs.Planned.{block_makes}
use Rattle.flow_block.proofs.CopiesTaken.{taken_in_keeps, held_kind}
use Rattle.flow_block_law.proofs.CopiesIdle.{no_copy_at}
use Rattle.flow_block_law.proofs.GoingOn.{may_work_tells}
use Rattle.flow_block_law.proofs.KindsBuilt.{makes_by, next_by}
use Rattle.flow_block_law.proofs.ShapeHolds.{shape_kept}
use Rattle.flow_block.proofs.PortsChange.{kept_at_one, kept_at_all}
use Rattle.flow_block.proofs.RoomBack.{length_back, kept_back}
use Rattle.flow_block_law.proofs.RowsHold.{given_on}
use Rattle.flow_block.specs.Copies.{copy_place}
use Rattle.flow_link.proofs.ListTests.{never_both}

-- what is taken, held and made is as before
stays : (before after : BlockState) (journal later : List Mark) → KeepsTuples before journal
    → length after.ports ≡ length before.ports → ((q : ℕ) → held_at after.ports q ≡ held_at before.ports q)
    → gave later ++ after.exits.left ≡ gave journal ++ before.exits.left
    → ((q : ℕ) → took_at q later ≡ took_at q journal) → KeepsTuples after later
stays before after journal later law count held tuples taken =
    rw (count, tuples)
    (tuples_kept.same (length before.ports) (λ q. took_at q journal) (λ q. took_at q later) (gave journal ++ before.exits.left)
    (held_at before.ports) (held_at after.ports) law (λ q there. taken q) (λ q there. held q))

-- one port changes, and keeps what it holds
port_stays : (node : NodeState) → KeepsTuples node.block node.journal → (p : ℕ) (change : PortState → PortState)
    → (change (port_at p node.block)).waiting ≡ (port_at p node.block).waiting
    → KeepsTuples (with_port p change node.block) node.journal
port_stays node law p change same =
    let port = change (port_at p node.block) in
    stays node.block (with_port p change node.block) node.journal node.journal law (length-set node.block.ports p port)
    (λ q. kept_at_one (λ (seen : PortState). seen.waiting) node.block.ports p q port same) refl (λ q. refl)

exits_stay : (node : NodeState) → KeepsTuples node.block node.journal → (exits : OutletState)
    → exits.left ≡ node.block.exits.left → KeepsTuples (record node.block { exits = exits }) node.journal
exits_stay node law exits same =
    stays node.block (record node.block { exits = exits }) node.journal node.journal law refl (λ q. refl)
    (ap (λ (left : List Value). gave node.journal ++ left) same) (λ q. refl)

completed : (node : NodeState) → KeepsTuples node.block node.journal → (p : ℕ)
    → KeepsTuples (with_port p port_closes node.block) (node.journal ++ Complete p ∷ [])
completed node law p =
    let port = port_closes (port_at p node.block) in
    stays node.block (with_port p port_closes node.block) node.journal (node.journal ++ Complete p ∷ []) law
    (length-set node.block.ports p port)
    (λ q. kept_at_one (λ (seen : PortState). seen.waiting) node.block.ports p q port refl)
    (ap (λ (given : List Value). given ++ node.block.exits.left) (gave_no_more node.journal (Complete p) refl))
    (λ q. journals_tell.other_at q node.journal (Complete p) refl)

stops_so : (node : NodeState) → KeepsTuples node.block node.journal → (how : Outcome) (mark : Mark)
    → given_by_mark (λ link. true) mark ≡ [] → arrivals (mark ∷ []) ≡ []
    → KeepsTuples (stops_by how node.block) (node.journal ++ mark ∷ [])
stops_so node law how mark none_given none_came =
    stays node.block (stops_by how node.block) node.journal (node.journal ++ mark ∷ []) law
    (length-map node.block.ports port_closes)
    (λ q. kept_at_all (λ (seen : PortState). seen.waiting) port_closes node.block.ports q (λ port. refl))
    (ap (λ (given : List Value). given ++ node.block.exits.left) (gave_no_more node.journal mark none_given))
    (λ q. journals_tell.other_at q node.journal mark none_came)

-- the head is given
given_out : (node : NodeState) → KeepsTuples node.block node.journal → (k : ℕ) (value : Option Value)
    → head_of node.block.exits ≡ value
    → KeepsTuples (gives_from k value node).block (gives_from k value node).journal
given_out node law k None head = law
given_out node law k (Some value) head =
    let block = node.block in
    let new = gives_from k (Some value) node in
    stays block new.block node.journal new.journal law
    (length_back (gives k block.exits) block.copies block.kind (head_of block.exits) block.ports)
    (λ q. kept_back (gives k block.exits) block.copies block.kind (head_of block.exits) (λ (seen : PortState). seen.waiting)
    block.ports q (λ back port. refl))
    (ap (λ (given : List Value). given ++ new.block.exits.left) (gave_by_gave node.journal (out_link_at k node) value)
    ∙ given_on (gave node.journal) block.exits.left value head)
    (λ q. journals_tell.other_at q node.journal (Gave (out_link_at k node) value) refl)

-- a message is taken
taken_in : (node : NodeState) → KeepsTuples node.block node.journal → (p k : ℕ) (value : Option Value)
    → KeepsTuples (holds_in p k value node).block (holds_in p k value node).journal
taken_in node law p k None = law
taken_in node law p k (Some value) =
    let block = node.block in
    let journal = node.journal in
    let link = in_link_at p k node in
    let later = journal ++ Took p link value ∷ [] in
    let port = port_at p block in
    let ends = put_hand k Free None port.ends in
    let tuples = gave journal ++ block.exits.left in
    let same : gave later ++ block.exits.left ≡ tuples =
    ap (λ (given : List Value). given ++ block.exits.left) (gave_by_took journal p link value) in
    rw (length-set block.ports p (closes k value port), same)
    (tuples_kept.same (length block.ports) (λ q. took_at q journal ++ only_at p (value ∷ []) q) (λ q. took_at q later) tuples
    (λ q. held_at block.ports q ++ only_at p (value ∷ []) q) (held_at (set block.ports p (closes k value port)))
    (tuples_kept.take (length block.ports) (λ q. took_at q journal) tuples (held_at block.ports) law p value)
    (λ q there. journals_tell.taken_at q journal p link value)
    (λ q there. held_by_take block.ports p value ends q there (p == q) refl))

-- a tuple is made
tuple_made : (node : NodeState) → KeepsTuples node.block node.journal → has_tuple node.block.ports ≡ true
    → KeepsTuples (makes_tuple node.block) node.journal
tuple_made node law waits =
    let ports = node.block.ports in
    let left = node.block.exits.left in
    let row = tuple_of ports in
    let all : gave node.journal ++ (left ++ row ∷ []) ≡ (gave node.journal ++ left) ++ row ∷ [] =
    sym (append_assoc (gave node.journal) left (row ∷ [])) in
    rw (length-map ports takes_next, all)
    (tuples_kept.make (λ q. took_at q node.journal) (gave node.journal ++ left) ports law waits)

module _ {W : Type 0} (layout : Layout W) (meaning : ℕ → Value → Result (List Value) ℕ) (b : ℕ) where
  after_each : (node : NodeState) (call : NodeCall) → NodeLaw layout meaning b node → is_join node.block.kind ≡ true
      → KeepsTuples node.block node.journal → MayCall layout meaning b call node
      → KeepsTuples (after_call layout meaning b call node).block (after_call layout meaning b call node).journal
  after_each node (NodeCall.want p k) whole join law may = port_stays node law p (wants k) refl
  after_each node (NodeCall.turn_down p k) whole join law may = port_stays node law p (turns_down k) refl
  after_each node (NodeCall.postpone p k) whole join law may = port_stays node law p (postpones k) refl
  after_each node (NodeCall.refuse p k) whole join law may = port_stays node law p (refuses k) refl
  after_each node (NodeCall.consume p k) whole join law may = port_stays node law p (consumes k) refl
  after_each node (NodeCall.ask p k) whole join law may = port_stays node law p (asks k) refl
  after_each node (NodeCall.claim p k) whole join law may = port_stays node law p (claims k) refl
  after_each node (NodeCall.release p k) whole join law may = port_stays node law p (releases k) refl
  after_each node (NodeCall.open_with p k value) whole join law may = port_stays node law p (opens k value) refl
  after_each node (NodeCall.close p k) whole join law may =
      let hand = hand_in k (port_at p node.block).ends in
      let held = holds_in p k hand node in
      taken_in_keeps KeepsTuples p k hand node (taken_in node law p k hand)
      (λ at_once. never_both (is_join held.block.kind) (ap is_join (held_kind p k hand node) ∙ join)
      (kind_tells is_one_taker false is_join false refl held.block.kind (kind_tells is_write_once true is_one_taker false refl held.block.kind at_once.once)))
  after_each node (NodeCall.offer k) whole join law may = exits_stay node law (offers k (prepares node.block.exits)) refl
  after_each node (NodeCall.give k) whole join law may = given_out node law k (head_of node.block.exits) refl
  after_each node (NodeCall.hold k) whole join law may = exits_stay node law (holds k node.block.exits) refl
  after_each node (NodeCall.deny k) whole join law may = exits_stay node law (denies k node.block.exits) refl
  after_each node (NodeCall.withdraw k) whole join law may = exits_stay node law (withdraws k node.block.exits) refl
  after_each node (NodeCall.end_link k how) whole join law may = exits_stay node law (ends_link k how node.block.exits) refl
  after_each node (NodeCall.look_in p k phase) whole join law may = port_stays node law p (port_looks k phase) refl
  after_each node (NodeCall.look_out k phase) whole join law may = exits_stay node law (exit_looks k phase node.block.exits) refl
  after_each node (NodeCall.copy call) whole join law may = absurd (no_copy_at layout meaning b node whole (kind_tells is_join true is_one_taker true refl node.block.kind join) (copy_place call) may.place)
  after_each node NodeCall.begin whole join law may = law
  after_each node NodeCall.make whole join law may =
      let kind = node.block.kind in
      next_by (λ (new : NodeState). KeepsTuples new.block new.journal) (block_makes layout meaning b) node
      (λ batched. never_both (is_join kind) join (kind_tells is_batched_join true is_join false refl kind batched))
      (λ grouped.
      makes_by (λ new. KeepsTuples new node.journal) (block_makes layout meaning b) node.block
      (λ batch. never_both (is_batch kind) batch (kind_tells is_join true is_batch false refl kind join))
      (λ joins. tuple_made node law ((may_work_tells node.block may.waits).tuple join))
      (λ broadcast. never_both (is_join kind) join (kind_tells is_broadcast true is_join false refl kind broadcast))
      (λ other alone single. never_both (is_join kind) join alone))
  after_each node (NodeCall.complete p) whole join law may = completed node law p
  after_each node (NodeCall.fault number) whole join law may = stops_so node law (outcome.Faulted number) (Fault number) refl refl
  after_each node NodeCall.finish whole join law may = stops_so node law outcome.Done Done refl refl

  -- it stays a join
  stays_join : (node : NodeState) (call : NodeCall) → NodeLaw layout meaning b node → MayCall layout meaning b call node
      → is_join (after_call layout meaning b call node).block.kind ≡ true → is_join node.block.kind ≡ true
  stays_join node call law may join =
      let before = law.shape in
      let after = shape_kept W layout meaning b node call law may in
      ap is_join (before.kind_is ∙ sym after.kind_is) ∙ join

pub tuples_kept_so : (W : Type 0) → TuplesKept W
tuples_kept_so W layout meaning b node call law may join =
    let was = stays_join layout meaning b node call law may join in
    after_each layout meaning b node call law was (law.tuples was) may
