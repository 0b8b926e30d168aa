-- Each call keeps the groups of a batched join: what came in is cut into them, in its order, and what waits.
use Rattle.std.proofs.Common.{◌≡◌, ℕ, ◌<◌, ◌==◌, Bool, true, false, List, [], ◌∷◌, ◌++◌, length, set, take, drop, map, Option, Some, None, Result, refl, ap, sym, ◌∙◌, subst, append_assoc}
use Rattle.std.proofs.lemmas.Bool.{false_from_ne_true}
use Rattle.std.proofs.lemmas.List.{length-map, length-set}
use Rattle.flow_value.specs.declared.value.Value.{Value}
use Rattle.flow_link.specs.declared.stage.TargetStage.TheVariants.{Free}
use Rattle.flow_link.specs.declared.trace.Mark.{Mark}
use Rattle.flow_link.specs.declared.trace.Mark.TheVariants.{Took, Gave, Complete, Fault, Done}
use Rattle.flow_link.specs.declared.trace.Outcome.{Outcome}
use Rattle.flow_link.specs.declared.trace.Outcome.TheVariants as outcome
use Rattle.flow_link.specs.JournalGrows.{given_by_mark}
use Rattle.flow_link.specs.Layout.{Layout}
use Rattle.flow_link.specs.Making.{arrivals}
use Rattle.flow_link.specs.Trace.{gave, has_complete, is_complete_mark}
use Rattle.flow_link.proofs.ListTests.{every_weaker_below, never_both, passes_below}
use Rattle.flow_link.proofs.OneMoreMark.{some_before, some_no_more, gave_no_more, gave_by_took, gave_by_gave}
use Rattle.flow_intake.specs.Port.{PortState, hand_in}
use Rattle.flow_intake.specs.Calls.{put_hand, wants, turns_down, postpones, refuses, consumes, asks, claims, releases, opens, closes, looks as port_looks, port_closes}
use Rattle.flow_outlet.specs.Outlet.{OutletState, head_of, gives, prepares, offers, holds, denies, withdraws, ends_link, looks as exit_looks}
use Rattle.flow_group.specs.Group.{has_group, group_of}
use Rattle.flow_group.specs.Groups.{GroupsLaw, arrival_at}
use Rattle.flow_group.specs.Tuple.{held_at}
use Rattle.flow_group.specs.Tuples.{SameHeld, only_at}
use Rattle.flow_group.proofs.GroupsCut.{ended_later, as_many_taken}
use Rattle.flow_group.proofs.GroupsKeep.{groups_kept}
use Rattle.flow_group.proofs.JournalsTell.{journals_tell}
use Rattle.flow_group.proofs.TuplesKeep.{held_by_take}
use Rattle.flow_block.specs.Block.{BlockState, port_at, with_port, stops_by}
use Rattle.flow_block.specs.Groups.{makes_group}
use Rattle.flow_block_law.specs.GroupsKeep.{order_taken, order_after, after_at_batched, MayTake, MayCallBatched, GroupsStand}
use Rattle.flow_block.specs.Node.{NodeState, NodeCall, gives_from, in_link_at, out_link_at, holds_in}
use Rattle.flow_block.specs.Planned.{block_makes}
use Rattle.flow_block.proofs.PortsChange.{kept_at_one, kept_at_all}
use Rattle.flow_block.proofs.RoomBack.{length_back, kept_back}
use Rattle.flow_block_law.proofs.RowsHold.{given_on}
use Rattle.flow_block_law.specs.GroupsLaw.{are_complete, KeepsGroups}

-- a port that is complete stays so, and one more mark but its Complete does not make it so
complete_on : (count : ℕ) (journal : List Mark) (mark : Mark) → are_complete count journal ≡ true
    → are_complete count (journal ++ mark ∷ []) ≡ true
complete_on count journal mark all =
    every_weaker_below (λ q. has_complete q journal) (λ q. has_complete q (journal ++ mark ∷ [])) count
    (λ q small is. some_before (is_complete_mark q) journal mark is) all

pub one_unfinished : (count : ℕ) (journal : List Mark) (p : ℕ) → p < count → has_complete p journal ≡ false
    → are_complete count journal ≡ false
one_unfinished count journal p there unfinished =
    false_from_ne_true (are_complete count journal) (λ all.
    never_both (has_complete p journal) (passes_below (λ q. has_complete q journal) count p all there) unfinished)

module _ (size : ℕ) (some : 0 < size) (order : List ℕ) where
  abbrev Keeps : BlockState → List Mark → Type 0
  Keeps block journal = KeepsGroups size order block journal

  -- what is taken, held and made is as before
  stays : (before after : BlockState) (journal later : List Mark) → Keeps before journal → SameHeld before.ports after.ports
      → (are_complete (length before.ports) journal ≡ true → are_complete (length before.ports) later ≡ true)
      → gave later ++ after.exits.left ≡ gave journal ++ before.exits.left → arrivals later ≡ arrivals journal
      → Keeps after later
  stays before after journal later law held complete rows came =
      let count = length before.ports in
      let made = gave journal ++ before.exits.left in
      rw (held.as_many, rows, came)
      (ended_later count size (are_complete count journal) (are_complete count later) (arrivals journal) made order
      (held_at after.ports)
      (groups_kept.same count size (are_complete count journal) (arrivals journal) made order (held_at before.ports)
      (held_at after.ports) law held.held)
      complete)

  -- one port changes, and keeps what it holds
  port_moves : (node : NodeState) → Keeps node.block node.journal → (p : ℕ) (change : PortState → PortState) (later : List Mark)
      → (change (port_at p node.block)).waiting ≡ (port_at p node.block).waiting
      → (are_complete (length node.block.ports) node.journal ≡ true → are_complete (length node.block.ports) later ≡ true)
      → gave later ≡ gave node.journal → arrivals later ≡ arrivals node.journal
      → Keeps (with_port p change node.block) later
  port_moves node law p change later same complete given came =
      let ports = node.block.ports in
      let port = change (port_at p node.block) in
      stays node.block (with_port p change node.block) node.journal later law
      (record {
        as_many = length-set ports p port;
        held = λ q there. kept_at_one (λ (seen : PortState). seen.waiting) ports p q port same;
      })
      complete (ap (λ (gifts : List Value). gifts ++ node.block.exits.left) given) came

  port_stays : (node : NodeState) → Keeps node.block node.journal → (p : ℕ) (change : PortState → PortState)
      → (change (port_at p node.block)).waiting ≡ (port_at p node.block).waiting
      → Keeps (with_port p change node.block) node.journal
  port_stays node law p change same = port_moves node law p change node.journal same (λ all. all) refl refl

  -- all ports change, and keep what they hold, with one more mark
  ports_move : (node : NodeState) → Keeps node.block node.journal → (after : BlockState) (change : PortState → PortState)
      (mark : Mark)
      → after.ports ≡ map change node.block.ports → ((port : PortState) → (change port).waiting ≡ port.waiting)
      → gave (node.journal ++ mark ∷ []) ++ after.exits.left ≡ gave node.journal ++ node.block.exits.left
      → arrivals (mark ∷ []) ≡ [] → Keeps after (node.journal ++ mark ∷ [])
  ports_move node law after change mark are same rows none =
      let ports = node.block.ports in
      stays node.block after node.journal (node.journal ++ mark ∷ []) law
      (record {
        as_many = ap (λ (ps : List PortState). length ps) are ∙ length-map ports change;
        held = λ q there. ap (λ (ps : List PortState). held_at ps q) are
            ∙ kept_at_all (λ (seen : PortState). seen.waiting) change ports q same;
      })
      (complete_on (length ports) node.journal mark) rows (journals_tell.other node.journal mark none)

  exits_stay : (node : NodeState) → Keeps node.block node.journal → (exits : OutletState)
      → exits.left ≡ node.block.exits.left → Keeps (record node.block { exits = exits }) node.journal
  exits_stay node law exits same =
      stays node.block (record node.block { exits = exits }) node.journal node.journal law
      (record { as_many = refl; held = λ q there. refl }) (λ all. all)
      (ap (λ (left : List Value). gave node.journal ++ left) same) refl

  stops_so : (node : NodeState) → Keeps node.block node.journal → (how : Outcome) (mark : Mark)
      → given_by_mark (λ link. true) mark ≡ [] → arrivals (mark ∷ []) ≡ []
      → Keeps (stops_by how node.block) (node.journal ++ mark ∷ [])
  stops_so node law how mark none_given none_came =
      ports_move node law (stops_by how node.block) port_closes mark refl (λ port. refl)
      (ap (λ (given : List Value). given ++ node.block.exits.left) (gave_no_more node.journal mark none_given)) none_came

  -- the head is given
  given_out : (node : NodeState) → Keeps node.block node.journal → (k : ℕ) (value : Option Value)
      → head_of node.block.exits ≡ value → Keeps (gives_from k value node).block (gives_from k value node).journal
  given_out node law k None head = law
  given_out node law k (Some value) head =
      let block = node.block in
      let new = gives_from k (Some value) node in
      let mark = Gave (out_link_at k node) value in
      stays block new.block node.journal (node.journal ++ mark ∷ []) law
      (record {
        as_many = length_back (gives k block.exits) block.copies block.kind (head_of block.exits) block.ports;
        held = λ q there. kept_back (gives k block.exits) block.copies block.kind (head_of block.exits)
            (λ (seen : PortState). seen.waiting) block.ports q (λ back port. refl);
      })
      (complete_on (length block.ports) node.journal mark)
      (ap (λ (given : List Value). given ++ new.block.exits.left) (gave_by_gave node.journal (out_link_at k node) value)
      ∙ given_on (gave node.journal) block.exits.left value head)
      (journals_tell.other node.journal mark refl)

  -- a message is taken
  taken_in : (node : NodeState) → Keeps node.block node.journal → (p k : ℕ) → MayTake p k node → (value : Option Value)
      → KeepsGroups size (order_taken p value order) (holds_in p k value node).block (holds_in p k value node).journal
  taken_in node law p k may None = law
  taken_in node law p k may (Some value) =
      let block = node.block in
      let journal = node.journal in
      let link = in_link_at p k node in
      let mark = Took p link value in
      let later = journal ++ mark ∷ [] in
      let port = port_at p block in
      let ends = put_hand k Free None port.ends in
      let count = length block.ports in
      let made = gave journal ++ block.exits.left in
      let held : ℕ → List Value = λ q. held_at block.ports q ++ only_at p (value ∷ []) q in
      let same : gave later ++ block.exits.left ≡ made =
      ap (λ (given : List Value). given ++ block.exits.left) (gave_by_took journal p link value) in
      let was : GroupsLaw count size false (arrivals journal) made order (held_at block.ports) =
      subst (λ (complete : Bool). GroupsLaw count size complete (arrivals journal) made order (held_at block.ports))
      (one_unfinished count journal p may.hand.port may.unfinished) law in
      let still : are_complete count later ≡ false =
      one_unfinished count later p may.hand.port (some_no_more (is_complete_mark p) journal mark refl ∙ may.unfinished) in
      rw (length-set block.ports p (closes k value port), still, journals_tell.taken journal p link value, same)
      (groups_kept.same count size false (arrivals journal ++ arrival_at p value ∷ []) made (order ++ p ∷ []) held
      (held_at (set block.ports p (closes k value port)))
      (groups_kept.take count size (arrivals journal) made order (held_at block.ports) was p may.hand.port value)
      (λ q there. held_by_take block.ports p value ends q there (p == q) refl))

  -- a group is made
  group_made : (weight : ℕ) (node : NodeState) → Keeps node.block node.journal
      → has_group size (are_complete (length node.block.ports) node.journal) order ≡ true
      → KeepsGroups size (drop size order) (makes_group size weight order node.block) node.journal
  group_made weight node law has =
      let block = node.block in
      let row = group_of size order block.ports in
      let all : gave node.journal ++ (block.exits.left ++ row ∷ []) ≡ (gave node.journal ++ block.exits.left) ++ row ∷ [] =
      sym (append_assoc (gave node.journal) block.exits.left (row ∷ [])) in
      rw (as_many_taken 0 (take size order) block.ports, all)
      (groups_kept.make size (are_complete (length block.ports) node.journal) (arrivals node.journal)
      (gave node.journal ++ block.exits.left) order block.ports some law has)

module _ {W : Type 0} (layout : Layout W) (meaning : ℕ → Value → Result (List Value) ℕ) (b size weight : ℕ) (some : 0 < size)
    (order : List ℕ) where
  abbrev KeepsAfter : NodeCall → NodeState → Type 0
  KeepsAfter call node =
      KeepsGroups size (order_after size weight call node order)
      (after_at_batched size weight (block_makes layout meaning b) order call node).block
      (after_at_batched size weight (block_makes layout meaning b) order call node).journal

  after_each : (node : NodeState) (call : NodeCall) → KeepsGroups size order node.block node.journal
      → MayCallBatched layout meaning b size order call node → KeepsAfter call node
  after_each node (NodeCall.want p k) law may = port_stays size some order node law p (wants k) refl
  after_each node (NodeCall.turn_down p k) law may = port_stays size some order node law p (turns_down k) refl
  after_each node (NodeCall.postpone p k) law may = port_stays size some order node law p (postpones k) refl
  after_each node (NodeCall.refuse p k) law may = port_stays size some order node law p (refuses k) refl
  after_each node (NodeCall.consume p k) law may = port_stays size some order node law p (consumes k) refl
  after_each node (NodeCall.ask p k) law may = port_stays size some order node law p (asks k) refl
  after_each node (NodeCall.claim p k) law may = port_stays size some order node law p (claims k) refl
  after_each node (NodeCall.release p k) law may = port_stays size some order node law p (releases k) refl
  after_each node (NodeCall.open_with p k value) law may = port_stays size some order node law p (opens k value) refl
  after_each node (NodeCall.close p k) law may = taken_in size some order node law p k may (hand_in k (port_at p node.block).ends)
  after_each node (NodeCall.offer k) law may = exits_stay size some order node law (offers k (prepares node.block.exits)) refl
  after_each node (NodeCall.give k) law may = given_out size some order node law k (head_of node.block.exits) refl
  after_each node (NodeCall.hold k) law may = exits_stay size some order node law (holds k node.block.exits) refl
  after_each node (NodeCall.deny k) law may = exits_stay size some order node law (denies k node.block.exits) refl
  after_each node (NodeCall.withdraw k) law may = exits_stay size some order node law (withdraws k node.block.exits) refl
  after_each node (NodeCall.end_link k how) law may = exits_stay size some order node law (ends_link k how node.block.exits) refl
  after_each node (NodeCall.look_in p k phase) law may = port_stays size some order node law p (port_looks k phase) refl
  after_each node (NodeCall.look_out k phase) law may = exits_stay size some order node law (exit_looks k phase node.block.exits) refl
  after_each node (NodeCall.copy call) law may = absurd may
  after_each node NodeCall.begin law may = law
  after_each node NodeCall.make law may = group_made size some order weight node law may
  after_each node (NodeCall.complete p) law may =
      port_moves size some order node law p port_closes (node.journal ++ Complete p ∷ []) refl
      (complete_on (length node.block.ports) node.journal (Complete p))
      (gave_no_more node.journal (Complete p) refl) (journals_tell.other node.journal (Complete p) refl)
  after_each node (NodeCall.fault number) law may =
      stops_so size some order node law (outcome.Faulted number) (Fault number) refl refl
  after_each node NodeCall.finish law may = stops_so size some order node law outcome.Done Done refl refl

pub groups_stand : (W : Type 0) → GroupsStand W
groups_stand W layout meaning b size weight some order node call law may =
    after_each layout meaning b size weight some order node call law may
