-- Each call keeps which rows a batch has made: none is empty or too great, and none was short while its port was unended.
use Rattle.std.proofs.Common.{◌≡◌, ℕ, ◌<◌, leb, Bool, true, false, ◌&&◌, ◌||◌, List, [], ◌∷◌, ◌++◌, length, take, drop, Option, Some, None, Result, refl, ap, sym, ◌∙◌, subst, arith, append_assoc}
use Rattle.std.proofs.lemmas.Bool.{or_right, lt-ltb, le-leb}
use Rattle.std.proofs.lemmas.List.{get_or-set_same}
use Rattle.flow_value.specs.View.{values_of-items_from}
use Rattle.flow_value.specs.declared.value.Value.{Value}
use Rattle.flow_link.specs.declared.trace.Mark.{Mark}
use Rattle.flow_link.specs.declared.trace.Mark.TheVariants.{Took, Gave, Complete, Fault, Done}
use Rattle.flow_link.specs.declared.trace.Outcome.{Outcome}
use Rattle.flow_link.specs.declared.trace.Outcome.TheVariants as outcome
use Rattle.flow_link.specs.JournalGrows.{given_by_mark}
use Rattle.flow_link.specs.Layout.{Layout}
use Rattle.flow_link.specs.Lists.{every}
use Rattle.flow_link.specs.Making.{row_weight, before_complete}
use Rattle.flow_link.specs.Trace.{gave, has_complete, is_complete_mark}
use Rattle.flow_link.proofs.KindsTell.{kind_tells}
use Rattle.flow_link.proofs.ListTests.{never_both}
use Rattle.flow_link.proofs.OneMoreMark.{some_no_more, gave_no_more, gave_by_took, gave_by_gave}
use Rattle.flow_intake.specs.Port.{PortState, fresh_port, stage_at as port_stage, hand_in, is_hand}
use Rattle.flow_intake.specs.PortLaw.{has_ended as has_port_ended}
use Rattle.flow_intake.specs.Calls.{first_of, wants, turns_down, postpones, refuses, consumes, asks, claims, releases, opens, closes, looks as port_looks, port_closes}
use Rattle.flow_intake.proofs.CountsOfEnds.{hand_comes}
use Rattle.flow_outlet.specs.Outlet.{OutletState, first_of as first_left, rest_of, is_empty, head_of, gives, prepares, offers, holds, denies, withdraws, ends_link, looks as exit_looks}
use Rattle.flow_link.specs.Plan.{is_one_taker, is_broadcast, is_write_once}
use Rattle.flow_block.specs.Copies.{copy_place}
use Rattle.flow_block.proofs.CopiesTaken.{taken_in_keeps}
use Rattle.flow_block_law.proofs.CopiesIdle.{no_copy_at}
use Rattle.flow_block.specs.Block.{BlockState, port_at, with_port, held_by, is_batch, row_of, next_group, makes_row, copies_next, stops_by, has_ports, is_batched_join, is_join}
use Rattle.flow_block.specs.Node.{NodeState, NodeCall, holds_in, gives_from, in_link_at, out_link_at}
use Rattle.flow_block_law.specs.NodeKeeps.{RowsKept, MayCall, MayCompletePort, InAt, after_call}
use Rattle.flow_block_law.specs.NodeLaw.{NodeLaw, KeepsRows, RowsLaw, is_whole}
use Rattle.flow_block.specs.Peeks.{has_group}
use Rattle.flow_block.specs.Planned.{block_makes}
use Rattle.flow_block_law.proofs.GroupsOfRows.{none_before, passes_before, groups_more, every_of, group_there, group_fits, whole_or_last, group_tells}
use Rattle.flow_block_law.proofs.GoingOn.{may_work_tells, may_complete_tells, open_goes_on}
use Rattle.flow_block_law.proofs.JournalTells.{complete_where}
use Rattle.flow_block_law.proofs.KindsBuilt.{has_one_port, made_kind, makes_by, next_by}
use Rattle.flow_block.proofs.PortsChange.{kept_at_one, kept_at_all}
use Rattle.flow_block.proofs.RoomBack.{kept_back}

pub other_side : (a b : Bool) → a ≡ false → (a || b) ≡ true → b ≡ true
other_side true b none e = absurd (cc)
other_side false b none e = e

pub not_both_so : (a b : Bool) → a ≡ false → (a && b) ≡ false
not_both_so true b e = absurd (cc)
not_both_so false b e = refl

not_second : (a b : Bool) → b ≡ false → (a && b) ≡ false
not_second true b e = e
not_second false b e = refl

pub given_on : (given left : List Value) (value : Value) → first_left left ≡ Some value
    → (given ++ value ∷ []) ++ rest_of left ≡ given ++ left
given_on given [] value head = absurd (cc)
given_on given (first ∷ left) value head =
    let same : value ≡ first = cc in
    append_assoc given (value ∷ []) left ∙ ap (λ (v : Value). given ++ v ∷ left) same

pub given_back : (left : List Value) (value : Value) → first_left left ≡ Some value → left ≡ value ∷ rest_of left
given_back [] value head = absurd (cc)
given_back (first ∷ left) value head = let same : first ≡ value = cc in ap (λ (v : Value). v ∷ left) same

or_same : (a b c : Bool) → (b ≡ true → c ≡ true) → (a || b) ≡ true → (a || c) ≡ true
or_same true b c implies e = refl
or_same false b c implies e = implies e

-- The block

stays : (before after : BlockState) (journal later : List Mark) → KeepsRows before journal
    → after.kind ≡ before.kind → after.size ≡ before.size → held_by after ≡ held_by before
    → after.exits.left ≡ before.exits.left → gave later ≡ gave journal
    → gave (before_complete 0 later) ≡ gave (before_complete 0 journal) → has_complete 0 later ≡ has_complete 0 journal
    → KeepsRows after later
stays before after journal later law kind size held left given first complete batch =
    let old = law (ap is_batch (sym kind) ∙ batch) in
    record {
      groups = rw (size, given, left) old.groups;
      whole_before = rw (size, first) old.whole_before;
      whole = rw (size, complete, held, given, left) old.whole;
    }

-- all rows are whole while the port is unended
whole_so : (block : BlockState) (journal : List Mark) → RowsLaw block.size journal (held_by block) block.exits.left
    → (has_complete 0 journal && is_empty (held_by block)) ≡ false
    → every (is_whole block.size) (gave journal ++ block.exits.left) ≡ true
whole_so block journal rows unended =
    other_side (has_complete 0 journal && is_empty (held_by block))
    (every (is_whole block.size) (gave journal ++ block.exits.left)) unended rows.whole

-- one port changes, and keeps what it holds
port_stays : (node : NodeState) → KeepsRows node.block node.journal → (p : ℕ) (change : PortState → PortState)
    → (change (port_at p node.block)).waiting ≡ (port_at p node.block).waiting
    → KeepsRows (with_port p change node.block) node.journal
port_stays node law p change same =
    stays node.block (with_port p change node.block) node.journal node.journal law refl refl
    (kept_at_one (λ port. port.waiting) node.block.ports p 0 (change (port_at p node.block)) same)
    refl refl refl refl

exits_stay : (node : NodeState) → KeepsRows node.block node.journal → (exits : OutletState)
    → exits.left ≡ node.block.exits.left → KeepsRows (record node.block { exits = exits }) node.journal
exits_stay node law exits same =
    stays node.block (record node.block { exits = exits }) node.journal node.journal law refl refl refl same refl refl
    refl

stops_so : (node : NodeState) → KeepsRows node.block node.journal → (how : Outcome) (mark : Mark)
    → given_by_mark (λ link. true) mark ≡ [] → is_complete_mark 0 mark ≡ false
    → KeepsRows (stops_by how node.block) (node.journal ++ mark ∷ [])
stops_so node law how mark none unended =
    stays node.block (stops_by how node.block) node.journal (node.journal ++ mark ∷ []) law refl refl
    (kept_at_all (λ port. port.waiting) port_closes node.block.ports 0 (λ port. refl)) refl
    (gave_no_more node.journal mark none) (none_before 0 node.journal mark none)
    (some_no_more (is_complete_mark 0) node.journal mark unended)

-- the head is given
given_out : (node : NodeState) → KeepsRows node.block node.journal → (k : ℕ) (value : Option Value)
    → head_of node.block.exits ≡ value
    → KeepsRows (gives_from k value node).block (gives_from k value node).journal
given_out node law k None head batch = law batch
given_out node law k (Some value) head batch =
    let block = node.block in
    let old = law batch in
    let mark = Gave (out_link_at k node) value in
    let held =
    kept_back (gives k block.exits) block.copies block.kind (head_of block.exits) (λ (port : PortState). port.waiting) block.ports 0
    (λ back port. refl) in
    let given = gave_by_gave node.journal (out_link_at k node) value in
    let complete = some_no_more (is_complete_mark 0) node.journal mark refl in
    let same = given_on (gave node.journal) block.exits.left value head in
    record {
      groups = rw (given, same) old.groups;
      whole_before =
          passes_before (is_whole block.size) 0 node.journal (out_link_at k node) value old.whole_before
          (λ unended. every_of (is_whole block.size) (gave node.journal) value (rest_of block.exits.left)
          (subst (λ (left : List Value). every (is_whole block.size) (gave node.journal ++ left) ≡ true)
          (given_back block.exits.left value head)
          (whole_so block node.journal old (not_both_so (has_complete 0 node.journal) (is_empty (held_by block)) unended))));
      whole = rw (complete, held, given, same) old.whole;
    }

module _ {W : Type 0} (layout : Layout W) (meaning : ℕ → Value → Result (List Value) ℕ) (b : ℕ) where
  taken_in : (node : NodeState) → NodeLaw layout meaning b node → (p k : ℕ) (value : Option Value)
      → InAt is_hand p k node
      → KeepsRows (holds_in p k value node).block (holds_in p k value node).journal
  taken_in node law p k None at batch = law.rows batch
  taken_in node law p k (Some value) at batch =
      let block = node.block in
      let old = law.rows batch in
      let one = has_one_port layout meaning b block law.shape (kind_tells is_batch true has_ports false refl block.kind batch) in
      let first : p ≡ 0 = omega (arith, one, at.port) in
      let change = closes k value in
      let end = (law.ports p at.port).each k at.place in
      let open_port = end.coming (hand_comes (port_stage k (port_at p block)) at.stands) in
      let unended = (open_goes_on layout meaning b block node.journal law.ends p at.port open_port).1 in
      let open_first : has_complete 0 node.journal ≡ false = ap (λ (q : ℕ). has_complete q node.journal) (sym first) ∙ unended in
      let mark = Took p (in_link_at p k node) value in
      let given = gave_by_took node.journal p (in_link_at p k node) value in
      let whole = whole_so block node.journal old (not_both_so (has_complete 0 node.journal) (is_empty (held_by block)) open_first) in
      record {
        groups = rw given old.groups;
        whole_before = rw (none_before 0 node.journal mark refl) old.whole_before;
        whole = or_right _ (every (is_whole block.size) (gave (node.journal ++ mark ∷ []) ++ block.exits.left)) (rw given whole);
      }

  completed : (node : NodeState) → NodeLaw layout meaning b node → (p : ℕ) → MayCompletePort p node
      → KeepsRows (with_port p port_closes node.block) (node.journal ++ Complete p ∷ [])
  completed node law p may batch =
      let block = node.block in
      let old = law.rows batch in
      let one = has_one_port layout meaning b block law.shape (kind_tells is_batch true has_ports false refl block.kind batch) in
      let first : p ≡ 0 = omega (arith, one, may.port) in
      let open_port = (may_complete_tells p block may.completes).open_port in
      let unended = (open_goes_on layout meaning b block node.journal law.ends p may.port open_port).1 in
      let open_first : has_complete 0 node.journal ≡ false = ap (λ (q : ℕ). has_complete q node.journal) (sym first) ∙ unended in
      let given = gave_no_more node.journal (Complete p) refl in
      let whole = whole_so block node.journal old (not_both_so (has_complete 0 node.journal) (is_empty (held_by block)) open_first) in
      record {
        groups = rw given old.groups;
        whole_before = rw (none_before 0 node.journal (Complete p) refl) old.whole_before;
        whole = or_right _ (every (is_whole block.size) (gave (node.journal ++ Complete p ∷ []) ++ block.exits.left)) (rw given whole);
      }

  -- a row is made
  row_made : (node : NodeState) → NodeLaw layout meaning b node → node.block.stopped ≡ None
      → has_group node.block ≡ true → KeepsRows (makes_row node.block) node.journal
  row_made node law going group batch =
      let block = node.block in
      let journal = node.journal in
      let old = law.rows batch in
      let one = has_one_port layout meaning b block law.shape (kind_tells is_batch true has_ports false refl block.kind batch) in
      let there : 0 < length block.ports = omega (arith, one) in
      let size = block.size in
      let held = held_by block in
      let row = row_of (next_group block) in
      let port = port_at 0 block in
      let tells = group_tells held (leb size (length held)) (has_port_ended port.refusing) group in
      let weighs : row_weight row ≡ length (take size held) =
      ap (λ (vs : List Value). length vs) (values_of-items_from (take size held)) in
      let some = group_there size held (law.shape.some_size batch) tells.0 in
      let rows = gave journal ++ block.exits.left in
      let whole : every (is_whole size) rows ≡ true =
      whole_so block journal old (not_second (has_complete 0 journal) (is_empty held) tells.0) in
      let all : gave journal ++ (block.exits.left ++ row ∷ []) ≡ rows ++ row ∷ [] = sym (append_assoc (gave journal) block.exits.left (row ∷ [])) in
      let held_then : held_by (makes_row block) ≡ drop size held =
      ap (λ (q : PortState). q.waiting) (get_or-set_same block.ports 0 (record port { waiting = drop size port.waiting }) (fresh_port None) there) in
      let closes_so : has_port_ended port.refusing ≡ true → has_complete 0 journal ≡ true =
      λ e. complete_where 0 journal (sym law.ends.stopped_is ∙ going) (sym (law.ends.ended_is 0 there) ∙ e) in
      record {
        groups = rw all (groups_more size rows row whole (lt-ltb 0 (row_weight row) (omega (arith, weighs, some)))
            (le-leb (row_weight row) size (let fits = group_fits size held in omega (arith, weighs, fits))));
        whole_before = old.whole_before;
        whole = rw (all, held_then) (whole_or_last (has_complete 0 journal) size rows held row (leb size (length held)) refl
            (or_same (leb size (length held)) (has_port_ended port.refusing) (has_complete 0 journal) closes_so tells.1) weighs whole);
      }

  no_rows : (first : Option Value) (block : BlockState) (journal : List Mark) → is_one_taker block.kind ≡ false
      → KeepsRows (copies_next first block) journal
  no_rows None block journal copying batch = never_both (is_batch block.kind) batch (kind_tells is_one_taker false is_batch false refl block.kind copying)
  no_rows (Some value) block journal copying batch =
      never_both (is_batch block.kind) batch (kind_tells is_one_taker false is_batch false refl block.kind copying)

  after_each : (node : NodeState) (call : NodeCall) → NodeLaw layout meaning b node → MayCall layout meaning b call node
      → KeepsRows (after_call layout meaning b call node).block (after_call layout meaning b call node).journal
  after_each node (NodeCall.want p k) law may = port_stays node law.rows p (wants k) refl
  after_each node (NodeCall.turn_down p k) law may = port_stays node law.rows p (turns_down k) refl
  after_each node (NodeCall.postpone p k) law may = port_stays node law.rows p (postpones k) refl
  after_each node (NodeCall.refuse p k) law may = port_stays node law.rows p (refuses k) refl
  after_each node (NodeCall.consume p k) law may = port_stays node law.rows p (consumes k) refl
  after_each node (NodeCall.ask p k) law may = port_stays node law.rows p (asks k) refl
  after_each node (NodeCall.claim p k) law may = port_stays node law.rows p (claims k) refl
  after_each node (NodeCall.release p k) law may = port_stays node law.rows p (releases k) refl
  after_each node (NodeCall.open_with p k value) law may = port_stays node law.rows p (opens k value) refl
  after_each node (NodeCall.close p k) law may =
      let hand = hand_in k (port_at p node.block).ends in
      let held = holds_in p k hand node in
      taken_in_keeps KeepsRows p k hand node (taken_in node law p k hand may)
      (λ at_once. no_rows (first_of (held_by held.block)) held.block held.journal (kind_tells is_write_once true is_one_taker false refl held.block.kind at_once.once))
  after_each node (NodeCall.give k) law may = given_out node law.rows k (head_of node.block.exits) refl
  after_each node (NodeCall.look_in p k phase) law may = port_stays node law.rows p (port_looks k phase) refl
  after_each node (NodeCall.copy call) law may =
      λ batch. absurd (no_copy_at layout meaning b node law (kind_tells is_batch true is_one_taker true refl node.block.kind batch) (copy_place call) may.place)
  after_each node NodeCall.begin law may = law.rows
  after_each node NodeCall.make law may =
      next_by (λ (new : NodeState). KeepsRows new.block new.journal) (block_makes layout meaning b) node
      (λ batched batch. never_both (is_batch node.block.kind) batch (kind_tells is_batched_join true is_batch false refl node.block.kind batched))
      (λ grouped.
      makes_by (λ new. KeepsRows new node.journal) (block_makes layout meaning b) node.block
      (λ batch. let tells = may_work_tells node.block may.waits in row_made node law tells.going (tells.group batch))
      (λ join batch. never_both (is_batch node.block.kind) batch (kind_tells is_join true is_batch false refl node.block.kind join))
      (λ broadcast. no_rows (first_of (held_by node.block)) node.block node.journal (kind_tells is_broadcast true is_one_taker false refl node.block.kind broadcast))
      (λ other alone single batch. never_both (is_batch node.block.kind)
      (ap is_batch (sym (made_kind (block_makes layout meaning b) (first_of (held_by node.block)) node.block)) ∙ batch) other))
  after_each node (NodeCall.complete p) law may = completed node law p may
  after_each node (NodeCall.fault number) law may =
      stops_so node law.rows (outcome.Faulted number) (Fault number) refl refl
  after_each node NodeCall.finish law may = stops_so node law.rows outcome.Done Done refl refl
  after_each node (NodeCall.offer k) law may = exits_stay node law.rows (offers k (prepares node.block.exits)) refl
  after_each node (NodeCall.hold k) law may = exits_stay node law.rows (holds k node.block.exits) refl
  after_each node (NodeCall.deny k) law may = exits_stay node law.rows (denies k node.block.exits) refl
  after_each node (NodeCall.withdraw k) law may = exits_stay node law.rows (withdraws k node.block.exits) refl
  after_each node (NodeCall.end_link k how) law may = exits_stay node law.rows (ends_link k how node.block.exits) refl
  after_each node (NodeCall.look_out k phase) law may =
      exits_stay node law.rows (exit_looks k phase node.block.exits) refl

pub rows_kept : (W : Type 0) → RowsKept W
rows_kept W layout meaning b node call law may = after_each layout meaning b node call law may
