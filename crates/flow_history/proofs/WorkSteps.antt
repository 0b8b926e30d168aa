-- Each call of a block with a function leaves what it made of its messages so accounted for.
use Rattle.std.proofs.Common.{◌≡◌, ℕ, ◌+◌, ◌<◌, ltb, Bool, true, false, ◌&&◌, cond, is_none, List, [], ◌∷◌, ◌++◌, length, set, take, drop, Some, None, Result, Ok, Err, refl, ap, sym, subst, ◌∙◌, arith, append-nil, append_assoc, eq-eqb}
use Rattle.std.proofs.lemmas.Bool.{and_parts, ltb-true}
use Rattle.std.proofs.lemmas.List.{length-map, length-set}
use Rattle.flow_value.specs.declared.value.Value.{Value}
use Rattle.flow_link.specs.declared.draft.BlockKind.{BlockKind}
use Rattle.flow_link.specs.declared.draft.BlockKind.TheVariants.{Action, Transform, TransformMany}
use Rattle.flow_link.specs.Making.{Arrival, arrived_at}
use Rattle.flow_link.specs.Plan.{has_work, is_one_taker, is_write_once}
use Rattle.flow_link.specs.TargetCalls.{TargetCall}
use Rattle.flow_intake.specs.Port.{PortState}
use Rattle.flow_intake.specs.PortLaw.{PortLaw}
use Rattle.flow_intake.specs.Calls.{takes_next, gives_room, port_fails}
use Rattle.flow_intake.specs.ByLink.{arrives}
use Rattle.flow_intake.proofs.CallsKeepOrder.{moves_keep}
use Rattle.flow_group.specs.Groups.{arrival_at}
use Rattle.flow_group.specs.Tuples.{only_at}
use Rattle.flow_outlet.specs.Outlet.{is_empty, groups_with}
use Rattle.flow_block.specs.Block.{BlockState, port_in, port_at, held_by, is_batch, is_join, with_jobs, keeps_results, fails, begins, yields_all, yields_where, ends_job, put_by_kind, put_where, put_by_job, job_message, copies_taken, unit_weight, puts_out}
use Rattle.flow_block.specs.Jobs.{out_count, Slot, AreOf, brings, comes_out, place_of, works_off}
use Rattle.flow_block_law.specs.NodeLaw.{MakesAs, FaultsOn, WeighsAs}
use Rattle.flow_block.specs.Peeks.{may_begin, may_work}
use Rattle.flow_block.specs.Traits.{port_into, with_port_of}
use Rattle.flow_block_law.proofs.JobsEnd.{put_nothing}
use Rattle.flow_block.proofs.ResultsKept.{held_then}
use Rattle.flow_block_law.proofs.JobsHold.{back_at}
use Rattle.flow_block.proofs.PortsChange.{kept_at_all, kept_at_one}
use Rattle.flow_link.proofs.TestsTell.{none_is}
use Rattle.flow_block_law.proofs.WeightsOfResults.{weighs_taken}
use Rattle.flow_history.proofs.ExitsGo.{given_value, exits_go}
use Rattle.flow_kinds.proofs.CopiesNone.{never_at_once, copies_none}
use Rattle.flow_history.specs.Calls.{Call, MayCall, MayCallInOrder, Does, Fits}
use Rattle.flow_history.specs.History.{History, took_at, given, came_by, copied_at_once, made_by, gave_by, Gift}
use Rattle.flow_history.specs.Kept.{any_link, hands_on}
use Rattle.flow_history.proofs.CallsLeave.{IsPlain, call_leaves, one_ordered, all_ordered}
use Rattle.flow_history.proofs.Makes.{one_back}
use Rattle.flow_history.proofs.MessagesKept.{one_call, given_then}
use Rattle.flow_history.proofs.PortCalls.{room_keeps}
use Rattle.flow_history.proofs.Still.{shares_alone, Kept}
use Rattle.flow_history.proofs.Takes.{held_more, took_more, there, capacity_so}
use Rattle.flow_history.proofs.WorkTold.{Works, works_so, shares_so, never, recorded_by_kind, comes_as, makes_as, more_held, more_begun, first_of_slots, IsSingle, weighs_go, next_go, weighs_out}

module _ (result : Value → Result (List Value) ℕ) (kind : BlockKind) (works : has_work kind ≡ true) (single : IsSingle result kind) where
  abbrev pub is_not : Works kind
  is_not = works_so kind works

  pub record BlockKept (h : History) (block : BlockState) : Type 0 where
    pub kept : Kept false h block
    pub kind_is : block.kind ≡ kind
    pub one_port : length block.ports ≡ 1
    pub makes : MakesAs result kind (took_at h 0) (held_by block) [] h.made block.recorded
    pub waits : AreOf result (held_by block) block.jobs.slots
    pub faulted : (number : ℕ) → block.fault ≡ Some number → FaultsOn result kind (held_by block) number
    pub next_is : block.exits.next ≡ 1 + length (given h.gave)
    pub weighs : WeighsAs result kind (port_at 0 block).capacity (took_at h 0) (held_by block) (given h.gave) block.exits.left
        block.exits.next block.exits.groups

  -- it is of no other kind
  other_kind : {A : Type 0} (test : BlockKind → Bool) (block : BlockState) → block.kind ≡ kind → test kind ≡ false → test block.kind ≡ true → A
  other_kind test block is none some = never (test kind) none (ap test (sym is) ∙ some)

  module _ (h : History) (old : BlockState) (before : BlockKept h old) where
    abbrev took : ℕ → ℕ
    took p = length (took_at h p)

    -- what is put into the exits is left, and all else of messages is kept otherwise
    kept_with : (values : List Value) (new : BlockState) → new.kind ≡ kind → new.exits.left ≡ old.exits.left ++ values
        → ((p : ℕ) → p < length new.ports → PortLaw any_link (took p) (port_at p new))
        → Kept false (record h { made = h.made ++ values }) new
    kept_with values new is left ordered = record {
      messages = record {
        shared = λ one.
            ap (λ (made : List Value). made ++ values) (before.kept.messages.shared (ap is_one_taker (before.kind_is ∙ sym is) ∙ one))
            ∙ append_assoc (given h.gave) old.exits.left values
            ∙ ap (λ (vs : List Value). given h.gave ++ vs) (sym left);
        as_they_are = other_kind hands_on new is is_not.changes;
        rows = other_kind is_batch new is is_not.unbatched;
        tuples = other_kind is_join new is is_not.unjoined;
      };
      weighs = other_kind shares_alone new is is_not.works;
      in_order = ordered;
      some = other_kind is_batch new is is_not.unbatched;
      takes_once = other_kind is_write_once new is is_not.many;
      none_yet = other_kind is_write_once new is is_not.many;
      place = λ e. absurd (cc);
      one = λ e. absurd (cc);
    }

    -- The first results come out

    abbrev room_back : PortState → PortState
    room_back port = gives_room 1 (takes_next port)

    some_held : (values rest : List Value) (value : Value) → values ≡ value ∷ rest → is_empty values ≡ false
    some_held values rest value is = ap is_empty is

    back_ordered : (value : Value) (rest : List Value) → held_by old ≡ value ∷ rest
        → (p : ℕ) → p < length (set old.ports 0 (room_back (port_at 0 old))) → PortLaw any_link (took p) (port_in (set old.ports 0 (room_back (port_at 0 old))) p)
    back_ordered value rest held =
        one_ordered took old.ports 0 (room_back (port_at 0 old)) before.kept.in_order
        (λ l law.
        room_keeps (took 0) 1 (takes_next (port_at 0 old))
        (one_back (port_at 0 old).capacity (port_at 0 old).waiting (port_at 0 old).load 0 (some_held (held_by old) rest value held) law.waits)
        (moves_keep.take_next any_link (took 0) (port_at 0 old) law))

    next_ordered : (p : ℕ) → p < length (set old.ports 0 (takes_next (port_at 0 old)))
        → PortLaw any_link (took p) (port_in (set old.ports 0 (takes_next (port_at 0 old))) p)
    next_ordered =
        one_ordered took old.ports 0 (takes_next (port_at 0 old)) before.kept.in_order
        (λ l law. moves_keep.take_next any_link (took 0) (port_at 0 old) law)

    -- both transforms give the results on
    abbrev given_on : List Value → BlockState
    given_on values = with_jobs works_off (puts_out values old)

    given_on_kept : (values rest : List Value) (value : Value) → held_by old ≡ value ∷ rest
        → Kept false (record h { made = h.made ++ values }) (given_on values)
    given_on_kept [] rest value held =
        kept_with [] (given_on []) before.kind_is (sym (append-nil old.exits.left)) (back_ordered value rest held)
    given_on_kept (v ∷ values) rest value held = kept_with (v ∷ values) (given_on (v ∷ values)) before.kind_is refl next_ordered

    out_kept : (k : BlockKind) (values rest : List Value) (value : Value) → has_work k ≡ true → held_by old ≡ value ∷ rest
        → Kept false (record h { made = h.made ++ put_by_kind k values }) (keeps_results k values old)
    out_kept Action values rest value w held =
        kept_with [] (keeps_results Action values old) before.kind_is (sym (append-nil old.exits.left)) (back_ordered value rest held)
    out_kept Transform values rest value w held = given_on_kept values rest value held
    out_kept TransformMany values rest value w held = given_on_kept values rest value held
    out_kept _ values rest value w held = absurd (cc)

    -- what else becomes of the block, where it puts these values and records those
    record OutLeaves (new : BlockState) (put recorded : List Value) : Type 0 where
      pub kind_stays : new.kind ≡ old.kind
      pub ports_stay : length new.ports ≡ length old.ports
      pub records : new.recorded ≡ old.recorded ++ recorded
      pub slots : new.jobs.slots ≡ drop 1 old.jobs.slots
      pub fault : new.fault ≡ old.fault
      pub capacity : (port_at 0 new).capacity ≡ (port_at 0 old).capacity
      pub left : new.exits.left ≡ old.exits.left ++ put
      pub next : new.exits.next ≡ old.exits.next
      pub groups : new.exits.groups
          ≡ groups_with (old.exits.next + length old.exits.left) (length put) (unit_weight (port_at 0 old).capacity) old.exits.groups

    room_kept : (port_in (set old.ports 0 (room_back (port_at 0 old))) 0).capacity ≡ (port_at 0 old).capacity
    room_kept = kept_at_one (λ (r : PortState). r.capacity) old.ports 0 0 (room_back (port_at 0 old)) refl

    given_on_leaves : (values : List Value) → OutLeaves (given_on values) values []
    given_on_leaves [] = record {
      kind_stays = refl;
      ports_stay = length-set old.ports 0 (room_back (port_at 0 old));
      records = sym (append-nil old.recorded);
      slots = refl;
      fault = refl;
      capacity = room_kept;
      left = sym (append-nil old.exits.left);
      next = refl;
      groups = refl;
    }
    given_on_leaves (v ∷ values) = record {
      kind_stays = refl;
      ports_stay = length-set old.ports 0 (takes_next (port_at 0 old));
      records = sym (append-nil old.recorded);
      slots = refl;
      fault = refl;
      capacity = kept_at_one (λ (r : PortState). r.capacity) old.ports 0 0 (takes_next (port_at 0 old)) refl;
      left = refl;
      next = refl;
      groups = refl;
    }

    out_leaves : (k : BlockKind) (values : List Value) → has_work k ≡ true
        → OutLeaves (keeps_results k values old) (put_by_kind k values) (recorded_by_kind k values)
    out_leaves Action values w = record {
      kind_stays = refl;
      ports_stay = length-set old.ports 0 (room_back (port_at 0 old));
      records = refl;
      slots = refl;
      fault = refl;
      capacity = room_kept;
      left = sym (append-nil old.exits.left);
      next = refl;
      groups = refl;
    }
    out_leaves Transform values w = given_on_leaves values
    out_leaves TransformMany values w = given_on_leaves values
    out_leaves _ values w = absurd (cc)

    comes_kept : (values : List Value) (slots : List Slot) → old.jobs.slots ≡ Some (Ok values) ∷ slots → old.fault ≡ None
        → BlockKept (record h { made = h.made ++ put_by_kind kind values }) (keeps_results kind values old)
    comes_kept values slots at no_fault =
        let first = first_of_slots result (held_by old) (Ok values) slots (subst (λ (ss : List Slot). AreOf result (held_by old) ss) at before.waits) in
        let left = out_leaves kind values works in
        let held = held_then kind values old first.message first.rest before.one_port first.held_is in
        record {
          kept = out_kept kind values first.rest first.message works first.held_is;
          kind_is = left.kind_stays ∙ before.kind_is;
          one_port = left.ports_stay ∙ before.one_port;
          makes = rw (held, left.records)
              (makes_as result kind (took_at h 0) first.rest h.made old.recorded values first.message works first.made_is
              (subst (λ (vs : List Value). MakesAs result kind (took_at h 0) vs [] h.made old.recorded) first.held_is before.makes));
          waits = rw (held, left.slots, at) first.others;
          faulted = λ number is. absurd (let none : None ≡ Some number = sym (left.fault ∙ no_fault) ∙ is in cc);
          next_is = left.next ∙ before.next_is;
          weighs = rw (held, left.capacity, left.left, left.next, left.groups)
              (weighs_out result kind kind refl works single (port_at 0 old).capacity (took_at h 0) first.rest (given h.gave) old.exits.left
              old.exits.next old.exits.groups first.message values first.made_is before.next_is
              (subst (λ (vs : List Value). WeighsAs result kind (port_at 0 old).capacity (took_at h 0) vs (given h.gave) old.exits.left old.exits.next
              old.exits.groups) first.held_is before.weighs));
        }

    -- A fault is there first

    fails_kept : (number : ℕ) (slots : List Slot) → old.jobs.slots ≡ Some (Err number) ∷ slots → BlockKept h (fails number old)
    fails_kept number slots at =
        let first = first_of_slots result (held_by old) (Err number) slots (subst (λ (ss : List Slot). AreOf result (held_by old) ss) at before.waits) in
        let held : held_by (fails number old) ≡ held_by old = kept_at_all (λ (r : PortState). r.waiting) port_fails old.ports 0 (λ port. refl) in
        record {
          kept = subst (λ (made : List Value). Kept false (record h { made = made }) (fails number old)) (append-nil h.made)
              (kept_with [] (fails number old) before.kind_is (sym (append-nil old.exits.left))
              (all_ordered took old.ports port_fails before.kept.in_order (λ p l law. moves_keep.fail_port any_link (took p) (port_at p old) law)));
          kind_is = before.kind_is;
          one_port = length-map old.ports port_fails ∙ before.one_port;
          makes = rw held before.makes;
          waits = rw held before.waits;
          faulted = λ other is. record {
            works = works;
            message = first.message;
            rest = first.rest;
            held_is = held ∙ first.held_is;
            fails = first.made_is ∙ (let same : number ≡ other = cc in ap Err same);
          };
          next_is = before.next_is;
          weighs = rw (held, kept_at_all (λ (r : PortState). r.capacity) port_fails old.ports 0 (λ port. refl)) before.weighs;
        }

  -- All that is there comes out, up to a fault

  nothing_made : (h : History) (block : BlockState) → BlockKept h block → BlockKept (record h { made = h.made ++ put_by_kind kind [] }) block
  nothing_made h block kept =
      subst (λ (made : List Value). BlockKept (record h { made = made }) block)
      (sym (ap (λ (values : List Value). h.made ++ values) (put_nothing kind) ∙ append-nil h.made)) kept

  put_both : (k : BlockKind) (values more : List Value) → put_by_kind k (values ++ more) ≡ put_by_kind k values ++ put_by_kind k more
  put_both Action values more = refl
  put_both _ values more = refl

  all_kept : (slots : List Slot) (h : History) (block : BlockState) → block.jobs.slots ≡ slots → block.fault ≡ None → BlockKept h block
      → BlockKept (record h { made = h.made ++ put_by_kind kind (comes_out slots) }) (yields_all slots block)
  all_kept [] h block at well kept = nothing_made h block kept
  all_kept (None ∷ slots) h block at well kept = nothing_made h block kept
  all_kept (Some (Err number) ∷ slots) h block at well kept = nothing_made h (fails number block) (fails_kept h block kept number slots at)
  all_kept (Some (Ok values) ∷ slots) h block at well kept =
      let mid = keeps_results kind values block in
      let made = h.made ++ put_by_kind kind values in
      let left = out_leaves h block kept kind values works in
      let then_kept = comes_kept h block kept values slots at well in
      let rest = all_kept slots (record h { made = made }) mid (left.slots ∙ ap (λ (ss : List Slot). drop 1 ss) at) (left.fault ∙ well) then_kept in
      subst (λ (k : BlockKind). BlockKept (record h { made = h.made ++ put_by_kind kind (values ++ comes_out slots) }) (yields_all slots (keeps_results k values block)))
      (sym kept.kind_is)
      (subst (λ (m : List Value). BlockKept (record h { made = m }) (yields_all slots mid))
      (append_assoc h.made (put_by_kind kind values) (put_by_kind kind (comes_out slots))
      ∙ ap (λ (vs : List Value). h.made ++ vs) (sym (put_both kind values (comes_out slots)))) rest)

  where_kept : (well : Bool) (h : History) (block : BlockState) → is_none block.fault ≡ well → BlockKept h block
      → BlockKept (record h { made = h.made ++ put_where well kind block.jobs.slots }) (yields_where well block)
  where_kept true h block is kept = all_kept block.jobs.slots h block refl (none_is block.fault is) kept
  where_kept false h block is kept =
      subst (λ (made : List Value). BlockKept (record h { made = made }) block) (sym (append-nil h.made)) kept

  -- the slots change, and nothing else
  slots_kept : (h : History) (block : BlockState) (slots : List Slot) → AreOf result (held_by block) slots → BlockKept h block
      → BlockKept h (with_jobs (λ jobs. record jobs { slots = slots }) block)
  slots_kept h block slots are kept = record {
    kept = subst (λ (made : List Value). Kept false (record h { made = made }) (with_jobs (λ jobs. record jobs { slots = slots }) block)) (append-nil h.made)
        (kept_with h block kept [] (with_jobs (λ jobs. record jobs { slots = slots }) block) kept.kind_is (sym (append-nil block.exits.left)) kept.kept.in_order);
    kind_is = kept.kind_is;
    one_port = kept.one_port;
    makes = kept.makes;
    waits = are;
    faulted = kept.faulted;
    next_is = kept.next_is;
    weighs = kept.weighs;
  }

  -- a job begins, and a job ends
  pub began_kept : (h : History) (block : BlockState) → may_begin block ≡ true → BlockKept h block → BlockKept h (begins block)
  began_kept h block may kept =
      let few = (and_parts (may_work block && has_work block.kind && ltb (out_count block.jobs.slots) block.jobs.lanes)
      (ltb (length block.jobs.slots) (length (held_by block))) may).1 in
      slots_kept h block (block.jobs.slots ++ None ∷ [])
      (more_begun result (held_by block) block.jobs.slots (ltb-true (length block.jobs.slots) (length (held_by block)) few) kept.waits) kept

  pub ended_kept : (ticket : ℕ) (made : Result (List Value) ℕ) (h : History) (block : BlockState) → made ≡ result (job_message ticket block)
      → BlockKept h block
      → BlockKept (record h { made = h.made ++ put_by_job ticket made block }) (ends_job ticket made block)
  ended_kept ticket made h block is kept =
      let slots = set block.jobs.slots (place_of ticket block.jobs) (Some made) in
      let back = with_jobs (brings ticket made) block in
      let back_kept : BlockKept h back = slots_kept h block slots (back_at result (held_by block) block.jobs.slots (place_of ticket block.jobs) made (λ l. sym is) kept.waits) kept in
      subst (λ (k : BlockKind). BlockKept (record h { made = h.made ++ put_where (is_none block.fault) k slots }) (ends_job ticket made block)) (sym kept.kind_is)
      (where_kept (is_none block.fault) h back refl back_kept)

  -- a common call
  module _ (h : History) (old new : BlockState) (kept : BlockKept h old) (fits : Fits old) where
    pub plain_kept : (call : Call) → IsPlain call → MayCallInOrder call old → Does call old new → made_by call old ≡ [] → came_by call old ≡ []
        → BlockKept (record { came = h.came ++ came_by call old; made = h.made ++ []; gave = h.gave ++ gave_by call }) new
    plain_kept call plain may does made came =
        let leaves = call_leaves (λ p. length (took_at h p)) old new kept.kept.in_order fits call plain may does in
        let still = leaves.still in
        let goes = exits_go old new (ap is_one_taker kept.kind_is ∙ shares_so kind works) call plain does in
        let same_came : h.came ++ came_by call old ≡ h.came = ap (λ (c : List Arrival). h.came ++ c) came ∙ append-nil h.came in
        record {
          kept = subst (λ (values : List Value). Kept false (record { came = h.came ++ came_by call old; made = h.made ++ values; gave = h.gave ++ gave_by call }) new) made
              (one_call false h old new kept.kept fits call may does);
          kind_is = still.kind ∙ kept.kind_is;
          one_port = still.count ∙ kept.one_port;
          makes = rw (still.held 0, leaves.recorded, same_came, append-nil h.made) kept.makes;
          waits = rw (still.held 0, leaves.jobs) kept.waits;
          faulted = λ number is. rw (still.held 0) (kept.faulted number (sym leaves.fault ∙ is));
          next_is =
              next_go result kind (given h.gave) (given_value call) old.exits new.exits goes kept.next_is
              ∙ ap (λ (vs : List Value). 1 + length vs) (sym (given_then h.gave call));
          weighs = rw (still.held 0, still.capacity 0, same_came, given_then h.gave call)
              (weighs_go result kind (port_at 0 old).capacity (took_at h 0) (held_by old) (given h.gave) (given_value call) old.exits new.exits goes
              kept.next_is kept.weighs);
        }

    pub handed_kept : (link header : ℕ) (value : Value) → MayCall (Call.takes (TargetCall.handed link header value)) old
        → new ≡ copies_taken (with_port_of link (arrives link value) old)
        → BlockKept (record { came = h.came ++ arrival_at (port_into link old.ports) value ∷ []; made = h.made ++ []; gave = h.gave ++ [] }) new
    handed_kept link header value may is =
        let p = port_into link old.ports in
        let arrived = with_port_of link (arrives link value) old in
        let call = Call.takes (TargetCall.handed link header value) in
        let many : is_write_once arrived.kind ≡ false = ap is_write_once kept.kind_is ∙ is_not.many in
        let once = never_at_once arrived many in
        let same : new ≡ arrived = is ∙ copies_none arrived many in
        let none : copied_at_once arrived ≡ [] = ap (λ (b : Bool). cond b (take 1 (held_by arrived)) []) once in
        let l = there false h old kept.kept link header value may in
        let mine : p ≡ 0 = (let one = kept.one_port in omega (arith, l, one)) in
        let only : only_at p (value ∷ []) 0 ≡ value ∷ [] = ap (λ (b : Bool). cond b (value ∷ []) []) (eq-eqb p 0 mine) in
        let first : 0 < length old.ports = (let one = kept.one_port in omega (arith, one)) in
        let held : held_by new ≡ held_by old ++ value ∷ [] =
        ap (λ (b : BlockState). held_by b) same ∙ held_more false h old kept.kept link header value may 0 first
        ∙ ap (λ (vs : List Value). held_by old ++ vs) only in
        let taken : arrived_at 0 (h.came ++ arrival_at p value ∷ []) ≡ took_at h 0 ++ value ∷ [] =
        took_more false h old kept.kept link header value may 0 ∙ ap (λ (vs : List Value). took_at h 0 ++ vs) only in
        record {
          kept = subst (λ (values : List Value). Kept false (record { came = h.came ++ arrival_at p value ∷ []; made = h.made ++ values; gave = h.gave ++ [] }) new) none
              (one_call false h old new kept.kept fits call (may, tt) is);
          kind_is = ap (λ (b : BlockState). b.kind) same ∙ kept.kind_is;
          one_port = ap (λ (b : BlockState). length b.ports) same ∙ length-set old.ports p (arrives link value (port_at p old)) ∙ kept.one_port;
          makes = rw (held, taken, append-nil h.made, ap (λ (b : BlockState). b.recorded) same)
              (comes_as result kind (took_at h 0) (held_by old) h.made old.recorded value works kept.makes);
          waits = rw (held, ap (λ (b : BlockState). b.jobs) same) (more_held result (held_by old) old.jobs.slots value kept.waits);
          faulted = λ number is_so.
              let before = kept.faulted number (sym (ap (λ (b : BlockState). b.fault) same) ∙ is_so) in
              record {
                works = before.works;
                message = before.message;
                rest = before.rest ++ value ∷ [];
                held_is = held ∙ ap (λ (vs : List Value). vs ++ value ∷ []) before.held_is;
                fails = before.fails;
              };
          next_is =
              ap (λ (b : BlockState). b.exits.next) same ∙ kept.next_is
              ∙ ap (λ (gave : List Gift). 1 + length (given gave)) (sym (append-nil h.gave));
          weighs = rw (
            held,
            taken,
            append-nil h.gave,
            ap (λ (b : BlockState). b.exits) same,
            ap (λ (b : BlockState). (port_at 0 b).capacity) same
                ∙ capacity_so false h old kept.kept link header value may 0,
          )
              (weighs_taken result kind (port_at 0 old).capacity (took_at h 0) (held_by old) (given h.gave) old.exits.left old.exits.next
              old.exits.groups value kept.weighs);
        }
