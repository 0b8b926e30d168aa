-- Each call keeps what a block knows of its jobs: it works on the messages that it holds first, and each result that came back is
-- that of its message.
use Rattle.std.proofs.Common.{◌≡◌, ℕ, zero, suc, ◌+◌, ◌<◌, ◌≤◌, ltb, Bool, true, false, ◌&&◌, List, [], ◌∷◌, ◌++◌, length, drop, set, get_or, Option, Some, None, is_none, Result, Ok, Err, pos, refl, ap, subst, ◌∙◌, arith, ltb-true, length-append}
use Rattle.std.proofs.lemmas.Bool.{and_parts}
use Rattle.std.proofs.lemmas.List.{get_or-set_same}
use Rattle.flow_value.specs.declared.value.Value.{Value}
use Rattle.flow_value.specs.declared.value.Value.TheVariants.{Int}
use Rattle.flow_link.specs.declared.draft.BlockKind.{BlockKind}
use Rattle.flow_link.specs.declared.draft.BlockKind.TheVariants.{Buffer, Action}
use Rattle.flow_link.specs.declared.trace.Mark.{Mark}
use Rattle.flow_link.specs.declared.trace.Mark.TheVariants.{Complete, Fault, Done}
use Rattle.flow_link.specs.declared.trace.Outcome.{Outcome}
use Rattle.flow_link.specs.declared.trace.Outcome.TheVariants as outcome
use Rattle.flow_link.specs.JournalGrows.{taken_by_mark}
use Rattle.flow_link.specs.Layout.{Layout}
use Rattle.flow_link.specs.Lists.{every}
use Rattle.flow_link.specs.Plan.{has_work, is_broadcast, is_write_once}
use Rattle.flow_link.specs.Trace.{took}
use Rattle.flow_link.proofs.KindsTell.{kind_tells}
use Rattle.flow_link.proofs.ListTests.{never_both}
use Rattle.flow_link.proofs.OneMoreMark.{took_no_more, took_by_took, took_by_gave}
use Rattle.flow_intake.specs.Port.{PortState, fresh_port, hand_in}
use Rattle.flow_intake.specs.Calls.{first_of, wants, turns_down, postpones, refuses, consumes, asks, claims, releases, opens, closes, looks as port_looks, takes_next, gives_room, port_closes, port_fails}
use Rattle.flow_outlet.specs.Outlet.{OutletState, head_of, gives}
use Rattle.flow_link.specs.Plan.{is_one_taker}
use Rattle.flow_block.specs.Copies.{after_copy}
use Rattle.flow_block.specs.Block.{BlockState, port_at, with_port, begins, held_by, made_of, yields, keeps_results, makes_of, is_batch, makes_row, stops_by, makes_tuple, copies_it, copies_next, has_ports, is_batched_join, is_join}
use Rattle.flow_block.proofs.LanesBusy.{out_begun, out_rest}
use Rattle.flow_block_law.proofs.CopiesLeave.{took_by_copy, held_by_copy}
use Rattle.flow_block.specs.Jobs.{out_count, Slot, is_front_back, AreOf}
use Rattle.flow_block.specs.Node.{NodeState, NodeCall, gives_from, copies_by, in_link_at, out_link_at, makes_next_group, holds_in}
use Rattle.flow_block.proofs.CopiesTaken.{taken_in_keeps}
use Rattle.flow_block_law.proofs.OnceMakesNone.{makes_many}
use Rattle.flow_block_law.specs.NodeKeeps.{JobsKept, MayCall, after_call}
use Rattle.flow_block_law.specs.NodeLaw.{NodeLaw, JobsLaw}
use Rattle.flow_block.specs.Peeks.{may_work, may_begin}
use Rattle.flow_block.specs.Planned.{block_makes}
use Rattle.flow_block_law.proofs.KindsBuilt.{is_of_one, of_one, has_one_port, makes_by, next_by}
use Rattle.flow_block.proofs.PortsChange.{kept_at_one, kept_at_all}
use Rattle.flow_block_law.proofs.Joins.{others_at_one}
use Rattle.flow_block.proofs.RoomBack.{kept_back}
use Rattle.flow_block.proofs.ResultsKept.{held_next}

-- The results of the messages that are held first

-- one message more is held, and one more is worked on
held_more : (result : Value → Result (List Value) ℕ) (held : List Value) (slots : List Slot) (value : Value)
    → AreOf result held slots → AreOf result (held ++ value ∷ []) slots
held_more result held [] value are = tt
held_more result [] (slot ∷ slots) value are = absurd are
held_more result (first ∷ held) (slot ∷ slots) value are = (are.0, held_more result held slots value are.1)

begun_more : (result : Value → Result (List Value) ℕ) (held : List Value) (slots : List Slot)
    → length slots < length held → AreOf result held slots → AreOf result held (slots ++ None ∷ [])
begun_more result [] slots few are = absurd (omega (arith, few))
begun_more result (first ∷ held) [] few are = (tt, tt)
begun_more result (first ∷ held) (slot ∷ slots) few are =
    (are.0, begun_more result held slots (omega (arith, few)) are.1)

-- the first is done with
pub done_first : (result : Value → Result (List Value) ℕ) (value : Value) (held : List Value) (slots : List Slot)
    → AreOf result (value ∷ held) slots → AreOf result held (drop 1 slots)
done_first result value held [] are = tt
done_first result value held (slot ∷ slots) are = are.1

-- a result comes back
pub back_at : (result : Value → Result (List Value) ℕ) (held : List Value) (slots : List Slot) (k : ℕ)
    (made : Result (List Value) ℕ)
    → (k < length slots → result (get_or held k (Int (pos 0))) ≡ made) → AreOf result held slots
    → AreOf result held (set slots k (Some made))
back_at result held [] k made is are = tt
back_at result [] (slot ∷ slots) k made is are = absurd are
back_at result (value ∷ held) (slot ∷ slots) zero made is are = (is (omega arith), are.1)
back_at result (value ∷ held) (slot ∷ slots) (suc k) made is are =
    (are.0, back_at result held slots k made (λ small. is (omega (arith, small))) are.1)

-- the first of the messages that are worked on is out
front_begun : (slots : List Slot) → is_front_back slots ≡ false → is_front_back (slots ++ None ∷ []) ≡ false
front_begun [] out = refl
front_begun (slot ∷ slots) out = out

front_out : (slots : List Slot) → every is_none slots ≡ true → is_front_back (drop 1 slots) ≡ false
front_out [] out = refl
front_out (slot ∷ []) out = refl
front_out (slot ∷ None ∷ slots) out = refl
front_out (None ∷ Some made ∷ slots) out = absurd (cc)
front_out (Some other ∷ Some made ∷ slots) out = absurd (cc)

-- no more messages are worked on than are held
pub begun_held : (result : Value → Result (List Value) ℕ) (held : List Value) (slots : List Slot)
    → AreOf result held slots → length slots ≤ length held
begun_held result held [] are = omega arith
begun_held result [] (slot ∷ slots) are = absurd are
begun_held result (value ∷ held) (slot ∷ slots) are =
    let rest = begun_held result held slots are.1 in omega (arith, rest)

pub makes_by_work : (result : Value → Result (List Value) ℕ) (kind : BlockKind) (value : Value) → has_work kind ≡ true
    → result value ≡ made_of kind result value
makes_by_work result Buffer value works = absurd (cc)
makes_by_work result _ value works = refl

module _ {W : Type 0} (layout : Layout W) (meaning : ℕ → Value → Result (List Value) ℕ) (b : ℕ) where
  abbrev Jobs : BlockState → List Mark → Type 0
  Jobs block journal = JobsLaw layout meaning b block journal

  -- what the law reads is as it was
  stays : (block after : BlockState) (journal later : List Mark) → Jobs block journal
      → after.kind ≡ block.kind → after.jobs ≡ block.jobs → held_by after ≡ held_by block → after.fault ≡ block.fault
      → took later ≡ took journal → Jobs after later
  stays block after journal later law kind jobs held fault taken = record {
    lanes_are = rw jobs law.lanes_are;
    some_lane = rw jobs law.some_lane;
    within = rw jobs law.within;
    only_works = rw (kind, jobs) law.only_works;
    results = rw (held, jobs) law.results;
    drained = rw (jobs, fault) law.drained;
    counted = rw (kind, jobs, held, taken) law.counted;
  }

  -- one port changes, and keeps what it holds
  port_stays : (node : NodeState) → Jobs node.block node.journal → (p : ℕ) (change : PortState → PortState)
      → (change (port_at p node.block)).waiting ≡ (port_at p node.block).waiting
      → Jobs (with_port p change node.block) node.journal
  port_stays node law p change same =
      stays node.block (with_port p change node.block) node.journal node.journal law refl refl
      (kept_at_one (λ port. port.waiting) node.block.ports p 0 (change (port_at p node.block)) same) refl refl

  exits_stay : (node : NodeState) → Jobs node.block node.journal → (exits : OutletState)
      → Jobs (record node.block { exits = exits }) node.journal
  exits_stay node law exits =
      stays node.block (record node.block { exits = exits }) node.journal node.journal law refl refl refl refl refl

  -- a block without a function works on nothing
  pub handed_on : (block after : BlockState) (journal later : List Mark) → after.kind ≡ block.kind → after.jobs ≡ block.jobs
      → has_work block.kind ≡ false → Jobs block journal → Jobs after later
  handed_on block after journal later kind jobs idle law = record {
    lanes_are = rw jobs law.lanes_are;
    some_lane = rw jobs law.some_lane;
    within = rw jobs law.within;
    only_works = rw (kind, jobs) law.only_works;
    results = rw (jobs, law.only_works idle) tt;
    drained = λ well. rw (jobs, law.only_works idle) refl;
    counted = λ works. absurd (never_both (has_work block.kind) (rw (← kind) works) idle);
  }

  taken_by : (node : NodeState) → NodeLaw layout meaning b node → (p k : ℕ) (value : Value)
      → p < length node.block.ports → (many : Bool) → has_ports node.block.kind ≡ many
      → Jobs (holds_in p k (Some value) node).block (holds_in p k (Some value) node).journal
  taken_by node law p k value below true many =
      handed_on node.block (holds_in p k (Some value) node).block node.journal (holds_in p k (Some value) node).journal refl refl
      (kind_tells has_ports true has_work false refl node.block.kind many) law.jobs
  taken_by node law p k value below false alone =
      let one = has_one_port layout meaning b node.block law.shape alone in
      let first : p ≡ 0 = omega arith in
      let change = closes k value in
      let held : held_by (with_port p change node.block) ≡ held_by node.block ++ value ∷ [] =
      rw first (ap (λ (port : PortState). port.waiting)
      (get_or-set_same node.block.ports 0 (change (port_at 0 node.block)) (fresh_port None) (omega arith))) in
      let taken = took_by_took node.journal p (in_link_at p k node) value in
      let old = law.jobs in
      record {
        lanes_are = old.lanes_are;
        some_lane = old.some_lane;
        within = old.within;
        only_works = old.only_works;
        results = rw held
            (held_more (block_makes layout meaning b) (held_by node.block) node.block.jobs.slots value old.results);
        drained = old.drained;
        counted = λ works.
            let before = old.counted works in
            rw (held, taken, length-append (held_by node.block) (value ∷ []), length-append (took node.journal) (value ∷ []))
            (omega (arith, before));
      }

  taken_in : (node : NodeState) → NodeLaw layout meaning b node → (p k : ℕ) (value : Option Value)
      → p < length node.block.ports
      → Jobs (holds_in p k value node).block (holds_in p k value node).journal
  taken_in node law p k None below = law.jobs
  taken_in node law p k (Some value) below = taken_by node law p k value below (has_ports node.block.kind) refl

  given_out : (node : NodeState) → Jobs node.block node.journal → (k : ℕ) (value : Option Value)
      → Jobs (gives_from k value node).block (gives_from k value node).journal
  given_out node law k None = law
  given_out node law k (Some value) =
      stays node.block (gives_from k (Some value) node).block node.journal (gives_from k (Some value) node).journal law
      refl refl
      (kept_back (gives k node.block.exits) node.block.copies node.block.kind (head_of node.block.exits) (λ port. port.waiting)
      node.block.ports 0 (λ back port. refl))
      refl (took_by_gave node.journal (out_link_at k node) value)

  -- all its ports close
  stops_so : (node : NodeState) → Jobs node.block node.journal → (how : Outcome) (mark : Mark)
      → taken_by_mark (λ port link. true) mark ≡ [] → Jobs (stops_by how node.block) (node.journal ++ mark ∷ [])
  stops_so node law how mark takes =
      stays node.block (stops_by how node.block) node.journal (node.journal ++ mark ∷ []) law refl refl
      (kept_at_all (λ port. port.waiting) port_closes node.block.ports 0 (λ port. refl)) refl
      (took_no_more node.journal mark takes)

  -- one message more is worked on
  begun : (node : NodeState) → Jobs node.block node.journal → may_begin node.block ≡ true
      → Jobs (begins node.block) node.journal
  begun node law may =
      let block = node.block in
      let slots = block.jobs.slots in
      let few = ltb (out_count slots) block.jobs.lanes in
      let held = ltb (length slots) (length (held_by block)) in
      let outer = and_parts (may_work block && has_work block.kind && few) held may in
      let inner = and_parts (may_work block && has_work block.kind) few outer.0 in
      let works = (and_parts (may_work block) (has_work block.kind) inner.0).1 in
      let room = ltb-true (out_count slots) block.jobs.lanes inner.1 in
      record {
        lanes_are = law.lanes_are;
        some_lane = law.some_lane;
        within = omega (arith, room, out_begun slots);
        only_works = λ none. absurd (never_both (has_work block.kind) works none);
        results = begun_more (block_makes layout meaning b) (held_by block) slots
            (ltb-true (length slots) (length (held_by block)) outer.1) law.results;
        drained = λ well. front_begun slots (law.drained well);
        counted = law.counted;
      }

  -- it makes something of the message that it holds first

  -- a job is done with, or a message of a block without a function
  worked_off : (block after : BlockState) (journal : List Mark) (value : Value) (rest : List Value)
      → after.kind ≡ block.kind → after.jobs ≡ record block.jobs {
        first = block.jobs.first + 1;
        slots = drop 1 block.jobs.slots;
      }
      → held_by block ≡ value ∷ rest → held_by after ≡ rest → has_work block.kind ≡ true
      → every is_none block.jobs.slots ≡ true → Jobs block journal → Jobs after journal
  worked_off block after journal value rest kind jobs first held works out law =
      let are = subst (λ (vs : List Value). AreOf (block_makes layout meaning b) vs block.jobs.slots) first law.results in
      record {
        lanes_are = rw jobs law.lanes_are;
        some_lane = rw jobs law.some_lane;
        within = rw jobs (omega (arith, out_rest block.jobs.slots, law.within));
        only_works = λ none. absurd (never_both (has_work block.kind) works (rw (← kind) none));
        results = rw (held, jobs) (done_first (block_makes layout meaning b) value rest block.jobs.slots are);
        drained = λ well. rw jobs (front_out block.jobs.slots out);
        counted = λ is.
            let before = law.counted works in
            let one : length (held_by block) ≡ suc (length rest) = ap (λ (vs : List Value). length vs) first in
            rw (held, jobs) (omega (arith, before, one));
      }

  results_kept : (kind : BlockKind) (values : List Value) (block : BlockState) (journal : List Mark) (value : Value)
      (rest : List Value)
      → block.kind ≡ kind → length block.ports ≡ 1 → held_by block ≡ value ∷ rest
      → is_of_one kind ≡ true → is_batch kind ≡ false → (works : Bool) → has_work kind ≡ works
      → every is_none block.jobs.slots ≡ true
      → Jobs block journal → Jobs (keeps_results kind values block) journal
  results_kept Action values block journal value rest same one first built other works is out law =
      worked_off block (keeps_results Action values block) journal value rest refl refl first
      (held_next block (λ port. gives_room 1 (takes_next port)) value rest one first (λ port. refl))
      (ap has_work same) out law
  results_kept Buffer [] block journal value rest same one first built other works is out law =
      handed_on block (keeps_results Buffer [] block) journal journal refl refl (ap has_work same) law
  results_kept Buffer (made ∷ values) block journal value rest same one first built other works is out law =
      handed_on block (keeps_results Buffer (made ∷ values) block) journal journal refl refl (ap has_work same) law
  results_kept kind [] block journal value rest same one first built other true is out law =
      worked_off block (keeps_results kind [] block) journal value rest refl refl first
      (held_next block (λ port. gives_room 1 (takes_next port)) value rest one first (λ port. refl))
      (ap has_work same ∙ is) out law
  results_kept kind (made ∷ values) block journal value rest same one first built other true is out law =
      worked_off block (keeps_results kind (made ∷ values) block) journal value rest refl refl first
      (held_next block takes_next value rest one first (λ port. refl))
      (ap has_work same ∙ is) out law
  results_kept kind values block journal value rest same one first built other false is out law = absurd (cc)

  yielded : (block : BlockState) (journal : List Mark) (value : Value) (rest : List Value)
      (made : Result (List Value) ℕ)
      → length block.ports ≡ 1 → is_of_one block.kind ≡ true → is_batch block.kind ≡ false
      → held_by block ≡ value ∷ rest
      → every is_none block.jobs.slots ≡ true → Jobs block journal → Jobs (yields made block) journal
  yielded block journal value rest (Ok values) one built other first out law =
      results_kept block.kind values block journal value rest refl one first built other (has_work block.kind) refl out law
  yielded block journal value rest (Err number) one built other first out law =
      let held = kept_at_all (λ port. port.waiting) port_fails block.ports 0 (λ port. refl) in
      record {
        lanes_are = law.lanes_are;
        some_lane = law.some_lane;
        within = law.within;
        only_works = law.only_works;
        results = rw held law.results;
        drained = λ well. absurd (cc);
        counted = rw held law.counted;
      }

  made_next : (block : BlockState) (journal : List Mark) (held : List Value) → held_by block ≡ held
      → length block.ports ≡ 1 → is_of_one block.kind ≡ true → is_batch block.kind ≡ false
      → every is_none block.jobs.slots ≡ true → Jobs block journal
      → Jobs (makes_of (block_makes layout meaning b) (first_of held) block) journal
  made_next block journal [] is one built other out law = law
  made_next block journal (value ∷ rest) is one built other out law =
      yielded block journal value rest (made_of block.kind (block_makes layout meaning b) value) one built other is out law

  copied_next : (first : Option Value) (block : BlockState) (journal : List Mark) → is_one_taker block.kind ≡ false
      → Jobs block journal → Jobs (copies_next first block) journal
  copied_next None block journal copying law = law
  copied_next (Some value) block journal copying law =
      handed_on block (copies_it value block) journal journal refl refl (kind_tells is_one_taker false has_work false refl block.kind copying) law

  after_each : (node : NodeState) (call : NodeCall) → NodeLaw layout meaning b node → MayCall layout meaning b call node
      → Jobs (after_call layout meaning b call node).block (after_call layout meaning b call node).journal
  after_each node (NodeCall.want p k) law may = port_stays node law.jobs p (wants k) refl
  after_each node (NodeCall.turn_down p k) law may = port_stays node law.jobs p (turns_down k) refl
  after_each node (NodeCall.postpone p k) law may = port_stays node law.jobs p (postpones k) refl
  after_each node (NodeCall.refuse p k) law may = port_stays node law.jobs p (refuses k) refl
  after_each node (NodeCall.consume p k) law may = port_stays node law.jobs p (consumes k) refl
  after_each node (NodeCall.ask p k) law may = port_stays node law.jobs p (asks k) refl
  after_each node (NodeCall.claim p k) law may = port_stays node law.jobs p (claims k) refl
  after_each node (NodeCall.release p k) law may = port_stays node law.jobs p (releases k) refl
  after_each node (NodeCall.open_with p k value) law may = port_stays node law.jobs p (opens k value) refl
  after_each node (NodeCall.close p k) law may =
      let hand = hand_in k (port_at p node.block).ends in
      let held = holds_in p k hand node in
      let kept = taken_in node law p k hand may.port in
      taken_in_keeps Jobs p k hand node kept
      (λ at_once. copied_next (first_of (held_by held.block)) held.block held.journal
      (kind_tells is_write_once true is_one_taker false refl held.block.kind at_once.once) kept)
  after_each node (NodeCall.give k) law may = given_out node law.jobs k (head_of node.block.exits)
  after_each node (NodeCall.look_in p k phase) law may = port_stays node law.jobs p (port_looks k phase) refl
  after_each node (NodeCall.copy call) law may =
      stays node.block (copies_by call node).block node.journal (copies_by call node).journal law.jobs refl refl
      (held_by_copy (after_copy call node.block.copies) node.block) refl (took_by_copy call node.block.copies node.journal)
  after_each node NodeCall.begin law may = begun node law.jobs may
  after_each node NodeCall.make law may =
      next_by (λ (new : NodeState). Jobs new.block new.journal) (block_makes layout meaning b) node
      (λ batched. handed_on node.block (makes_next_group node).block node.journal node.journal refl refl
      (kind_tells is_batched_join true has_work false refl node.block.kind batched) law.jobs)
      (λ grouped.
      makes_by (λ new. Jobs new node.journal) (block_makes layout meaning b) node.block
      (λ batch. handed_on node.block (makes_row node.block) node.journal node.journal refl refl (kind_tells is_batch true has_work false refl node.block.kind batch)
      law.jobs)
      (λ join. handed_on node.block (makes_tuple node.block) node.journal node.journal refl refl (kind_tells is_join true has_work false refl node.block.kind join)
      law.jobs)
      (λ broadcast. copied_next (first_of (held_by node.block)) node.block node.journal
      (kind_tells is_broadcast true is_one_taker false refl node.block.kind broadcast) law.jobs)
      (λ other alone single. made_next node.block node.journal (held_by node.block) refl
      (has_one_port layout meaning b node.block law.shape (others_at_one node.block.kind grouped alone))
      (of_one node.block.kind grouped other alone single (makes_many layout meaning b node law may.waits)) other
      may.all_out law.jobs))
  after_each node (NodeCall.complete p) law may =
      stays node.block (with_port p port_closes node.block) node.journal (node.journal ++ Complete p ∷ []) law.jobs
      refl refl (kept_at_one (λ port. port.waiting) node.block.ports p 0 (port_closes (port_at p node.block)) refl)
      refl (took_no_more node.journal (Complete p) refl)
  after_each node (NodeCall.fault number) law may =
      stops_so node law.jobs (outcome.Faulted number) (Fault number) refl
  after_each node NodeCall.finish law may = stops_so node law.jobs outcome.Done Done refl
  after_each node (NodeCall.offer k) law may = exits_stay node law.jobs _
  after_each node (NodeCall.hold k) law may = exits_stay node law.jobs _
  after_each node (NodeCall.deny k) law may = exits_stay node law.jobs _
  after_each node (NodeCall.withdraw k) law may = exits_stay node law.jobs _
  after_each node (NodeCall.end_link k how) law may = exits_stay node law.jobs _
  after_each node (NodeCall.look_out k phase) law may = exits_stay node law.jobs _

pub jobs_kept : (W : Type 0) → JobsKept W
jobs_kept W layout meaning b node call law may = after_each layout meaning b node call law may
