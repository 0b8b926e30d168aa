-- Each call keeps a block in order that copies: what it does is one of its calls more, or none.
use Rattle.std.proofs.Common.{◌≡◌, ◌≢◌, ℕ, ◌+◌, ◌-◌, ◌^◌, ◌<◌, ◌==◌, ◌||◌, ◌&&◌, Bool, true, false, cond, List, [], ◌∷◌, ◌++◌, length, get_or, set, map, drop, Option, Some, None, is_some, refl, ap, sym, ◌∙◌, subst, inl, inr, arith, append-nil, append_assoc, ne_eqb}
use Rattle.std.proofs.lemmas.Bool.{cases_eq, false_from_ne_true}
use Rattle.std.proofs.lemmas.List.{length-set, length-map, get_or-set_same, get_or-set_other}
use Rattle.std.proofs.lemmas.List as lists
use Rattle.std.proofs.Math.Seq.{map-set_same}
use Rattle.flow_value.specs.When.{admits}
use Rattle.flow_value.specs.declared.value.Value.{Value}
use Rattle.flow_value.specs.declared.when.When.{When}
use Rattle.flow_link.specs.declared.phase.LinkEnd.{LinkEnd}
use Rattle.flow_link.specs.declared.phase.Phase.{Phase}
use Rattle.flow_link.specs.declared.stage.SourceStage.{SourceStage}
use Rattle.flow_link.specs.declared.stage.SourceStage.TheVariants.{Out, Accepted, Wished, Claimed}
use Rattle.flow_link.specs.declared.trace.Mark.{Mark}
use Rattle.flow_link.specs.declared.trace.Mark.TheVariants.{Gave}
use Rattle.flow_link.specs.declared.trace.Outcome.{Outcome}
use Rattle.flow_link.specs.declared.trace.Outcome.TheVariants as outcome
use Rattle.flow_link.specs.JournalGrows.{given_by_mark, taken_by_mark}
use Rattle.flow_link.specs.Layout.{Layout}
use Rattle.flow_link.specs.Plan.{is_write_once}
use Rattle.flow_link.specs.Trace.{took, gave_over}
use Rattle.flow_link.proofs.ListTests.{or_weaker, never_both}
use Rattle.flow_link.proofs.OneMoreMark.{every_more}
use Rattle.flow_intake.specs.Port.{PortState, fresh_port}
use Rattle.flow_intake.specs.Calls.{first_of, gives_room, takes_next, port_closes}
use Rattle.flow_intake.specs.Ended.{fault_at_ends}
use Rattle.flow_outlet.specs.declared.ends.LinkRule.{LinkRule}
use Rattle.flow_outlet.specs.declared.ends.OutEnd.{OutEnd}
use Rattle.flow_outlet.specs.ByLink.{forgotten_stage}
use Rattle.flow_outlet.specs.End.{is_free, is_waiting, is_away}
use Rattle.flow_outlet.specs.Law.{admits_head}
use Rattle.flow_outlet.specs.Outlet.{OutletState, end_of}
use Rattle.flow_spread.specs.declared.end.CopyEnd.{CopyEnd}
use Rattle.flow_spread.specs.Copied.{Call, Course, after_all, IsAllowed, AllAllowed, put_in, given_in}
use Rattle.flow_spread.specs.End.{no_end, moved, takes_up, is_open, count_of, owes_it}
use Rattle.flow_spread.specs.Law.{SpreadLaw}
use Rattle.flow_spread.specs.Spread.{SpreadState, end_at, link_at, stage_at, changes, prepares, offers, puts, looks, gives, holds, withdraws, ends_link, may_offer, may_give, is_wanted, is_asked_by, asked_id, left_of, is_at_rest, is_spread_free}
use Rattle.flow_spread.proofs.LawKept.{calls_keep_law, law_tells}
use Rattle.flow_group.specs.Round.{RoundState}
use Rattle.flow_block.specs.Block.{BlockState, port_in, held_by, with_copies, copies_next, copies_it, stops_by}
use Rattle.flow_block_law.specs.Copier.{Copier, CopiedOver, copier_start, course_of}
use Rattle.flow_block.specs.Copies.{CopyCall, after_copy, copies_left, copies_weight}
use Rattle.flow_block.specs.Jobs.{JobsState}
use Rattle.flow_block.specs.Node.{marks_copy, marks_copied}
use Rattle.flow_block_law.specs.NodeKeeps.{MayCopy}
use Rattle.flow_block.specs.Peeks.{is_pending, fault_at_ports}
use Rattle.flow_block.specs.Planned.{links_from, rule_of}
use Rattle.flow_block_law.proofs.CourseMore.{after_more, allowed_more, put_more, given_more, law_then}
use Rattle.flow_block_law.proofs.FaultsSeen.{StaysSeen, stays_at_ports, seen_over_ports}
use Rattle.flow_block_law.proofs.GaveHolds.{count_more}
use Rattle.flow_block_law.proofs.JournalTells.{took_same, gave_same, gave_here}
use Rattle.flow_block_law.proofs.PlacesOfCopies.{rule_at_end, count_copies, rule_at, copies_differ}
use Rattle.flow_block.proofs.PortsChange.{kept_at_one, kept_at_all}
use Rattle.flow_link.proofs.TestsTell.{none_unless}
use Rattle.flow_outlet.proofs.StagesTell.{number_same}

-- Lists of ends

rules_taken_up : (value : Value) (ends : List CopyEnd) → map rule_at_end (map (takes_up value) ends) ≡ map rule_at_end ends
rules_taken_up value [] = refl
rules_taken_up value (end ∷ ends) = ap (λ (rules : List LinkRule). end.link.rule ∷ rules) (rules_taken_up value ends)

-- what holds of the end that changed and of each other as it was holds of each
at_links : (P : ℕ → OutEnd → Type 0) (ends : List CopyEnd) (k : ℕ) (end : CopyEnd) → k < length ends → P k end.link
    → ((j : ℕ) → j < length ends → j ≢ k → P j (get_or ends j no_end).link)
    → (j : ℕ) → j < length ends → P j (get_or (set ends k end) j no_end).link
at_links P ends k end here mine elsewhere j there = elim (cases_eq j k) [
  | inl same ↦ rw (same, get_or-set_same ends k end no_end here) mine
  | inr other ↦ rw (get_or-set_other ends k j end no_end other) (elsewhere j there other)
]

first_is : (held : List Value) (value : Value) → first_of held ≡ Some value → held ≡ value ∷ drop 1 held
first_is [] value e = absurd (cc)
first_is (v ∷ held) value e = let same : v ≡ value = cc in ap (λ (w : Value). w ∷ held) same

-- the same marks of a link
copied_same : (journal later : List Mark) (link : OutEnd) → gave_over link.rule.id later ≡ gave_over link.rule.id journal
    → CopiedOver journal link → CopiedOver later link
copied_same journal later link same law = record {
  admitted = rw same law.admitted;
  counted = λ limited. rw same (law.counted limited);
  some = λ more. law.some (rw same at more);
}

admits_it : (when : When) (element : Option Value) (value : Value) → element ≡ Some value → admits_head when element ≡ true
    → admits when value ≡ true
admits_it when element value is e = rw is at e

wanted_away : (id : ℕ) (stage : SourceStage) → is_wanted id stage ≡ true → is_away stage ≡ true
wanted_away id (Accepted i) e = refl
wanted_away id (Wished i) e = refl
wanted_away id (Claimed i) e = refl
wanted_away id _ e = absurd (cc)

pub none_left : (copies : SpreadState) → copies_left copies ≡ 0 → left_of copies ≡ None
none_left copies e = by_test (count_of owes_it copies.ends == 0) e
  where
    by_test : (nobody : Bool) → ◌≡◌ {A = ℕ} (cond nobody 0 1) 0 → cond nobody None copies.element ≡ None
    by_test true e = refl
    by_test false e = absurd (omega (arith, e))

module _ {W : Type 0} (layout : Layout W) (b : ℕ) where
  -- Nothing more happens to what it copies

  module _ (block : BlockState) (journal : List Mark) (c : Copier layout b block journal) where
    -- what it copies keeps its law
    pub copies_lawful : SpreadLaw 1 c.pending block.stopped block.copies
    copies_lawful =
        let rules = map (rule_of layout) (links_from layout b) in
        let fresh = calls_keep_law.fresh false (is_write_once block.kind) None rules 1 (omega arith) (omega arith) in
        subst (λ (run : Course). SpreadLaw 1 run.pending run.stopped run.spread) c.leads_here
        (law_then 1 c.calls (copier_start layout b block.kind) c.allowed fresh)

    pub no_exit_at : (k : ℕ) → k < length block.exits.ends → ⊥
    no_exit_at k there =
        let none : length block.exits.ends ≡ 0 = ap (λ (exits : OutletState). length exits.ends) c.idle_exits in
        omega (arith, none, there)

    -- where something is under way over a link it has not stopped
    pub copy_goes_on : (k : ℕ) → k < length block.copies.ends → may_give k block.copies ≡ true → block.stopped ≡ None
    copy_goes_on k there may =
        none_unless block.stopped (false_from_ne_true (is_some block.stopped) (λ stopped.
        never_both (is_away (stage_at block.copies k)) (wanted_away block.copies.id (stage_at block.copies k) may)
        ((copies_lawful.each k there).rests stopped)))

    pending_stays : (ports : List PortState) → StaysSeen (fault_at_ports block.ports) (fault_at_ports ports)
        → is_pending block ≡ true → (is_some block.fault || is_some (fault_at_ports ports)) ≡ true
    pending_stays ports stays =
        or_weaker (is_some block.fault) (is_some (fault_at_ports block.ports)) (is_some block.fault)
        (is_some (fault_at_ports ports)) (λ e. e) stays

    -- only its ports change, where these messages came in
    pub ports_change : (ports : List PortState) (later : List Mark) (added : List Value)
        → StaysSeen (fault_at_ports block.ports) (fault_at_ports ports)
        → (port_in ports 0).waiting ≡ held_by block ++ added → took later ≡ took journal ++ added
        → ((l : ℕ) → gave_over l later ≡ gave_over l journal)
        → Copier layout b (record block { ports = ports }) later
    ports_change ports later added stays held taken gave = record {
      idle_exits = c.idle_exits;
      rules = c.rules;
      calls = c.calls;
      allowed = c.allowed;
      pending = c.pending;
      faults = λ is. pending_stays ports stays (c.faults is);
      leads_here = c.leads_here;
      took_is = taken ∙ ap (λ (values : List Value). values ++ added) c.took_is
          ∙ append_assoc (put_in c.calls) (held_by block) added
          ∙ ap (λ (values : List Value). put_in c.calls ++ values) (sym held);
      gave_is = λ k here. gave (link_at block.copies k).rule.id ∙ c.gave_is k here;
      each = λ k here. copied_same journal later (link_at block.copies k) (gave (link_at block.copies k).rule.id) (c.each k here);
    }

    -- one port changes, at which the same messages wait
    pub port_changes : (p : ℕ) (port : PortState) → StaysSeen (fault_at_ends (port_in block.ports p).ends) (fault_at_ends port.ends)
        → port.waiting ≡ (port_in block.ports p).waiting → Copier layout b (record block { ports = set block.ports p port }) journal
    port_changes p port stays waits =
        ports_change (set block.ports p port) journal [] (stays_at_ports block.ports p port stays)
        (kept_at_one (λ (q : PortState). q.waiting) block.ports p 0 port waits ∙ sym (append-nil (held_by block)))
        (sym (append-nil (took journal))) (λ l. refl)

    -- what it works on changes
    pub jobs_change : (jobs : JobsState) → Copier layout b (record block { jobs = jobs }) journal
    jobs_change jobs = record {
      idle_exits = c.idle_exits;
      rules = c.rules;
      calls = c.calls;
      allowed = c.allowed;
      pending = c.pending;
      faults = c.faults;
      leads_here = c.leads_here;
      took_is = c.took_is;
      gave_is = c.gave_is;
      each = c.each;
    }

    -- a port completes, and its mark tells of no message
    pub complete_keeps : (p : ℕ) (mark : Mark) → taken_by_mark (λ port link. true) mark ≡ []
        → ((test : ℕ → Bool) → given_by_mark test mark ≡ [])
        → Copier layout b (record block { ports = set block.ports p (port_closes (port_in block.ports p)) }) (journal ++ mark ∷ [])
    complete_keeps p mark takes gives =
        let port = port_in block.ports p in
        ports_change (set block.ports p (port_closes port)) (journal ++ mark ∷ []) []
        (stays_at_ports block.ports p (port_closes port) (λ e. e))
        (kept_at_one (λ (q : PortState). q.waiting) block.ports p 0 (port_closes port) refl ∙ sym (append-nil (held_by block)))
        (took_same (λ port link. true) journal mark takes ∙ sym (append-nil (took journal)))
        (λ l. gave_same (λ n. n == l) journal mark (gives (λ n. n == l)))

    -- The calls at its links

    -- it went on by these calls
    goes_on : (after : BlockState) (later : List Mark) (more : List Call) (pending : Bool) → after.kind ≡ block.kind
        → after.exits ≡ block.exits → map rule_at_end after.copies.ends ≡ map rule_at_end block.copies.ends
        → AllAllowed more (course_of c.pending block)
        → after_all more (course_of c.pending block) ≡ course_of pending after
        → (pending ≡ true → is_pending after ≡ true)
        → took later ≡ (put_in c.calls ++ put_in more) ++ held_by after
        → ((k : ℕ) → k < length block.copies.ends → gave_over (link_at after.copies k).rule.id later
        ≡ gave_over (link_at block.copies k).rule.id journal ++ given_in k more (course_of c.pending block))
        → ((k : ℕ) → k < length block.copies.ends → CopiedOver later (link_at after.copies k))
        → Copier layout b after later
    goes_on after later more pending kind exits rules allowed leads faults taken gave each =
        let start = copier_start layout b block.kind in
        let few : length after.copies.ends ≡ length block.copies.ends =
        sym (length-map after.copies.ends rule_at_end) ∙ ap length rules ∙ length-map block.copies.ends rule_at_end in
        record {
          idle_exits = exits ∙ c.idle_exits;
          rules = rules ∙ c.rules;
          calls = c.calls ++ more;
          allowed = rw kind (allowed_more c.calls more start c.allowed (subst (AllAllowed more) (sym c.leads_here) allowed));
          pending = pending;
          faults = faults;
          leads_here = rw kind (after_more c.calls more start ∙ ap (after_all more) c.leads_here ∙ leads);
          took_is = taken ∙ ap (λ (values : List Value). values ++ held_by after) (sym (put_more c.calls more));
          gave_is = λ k there.
              let here : k < length block.copies.ends = omega (arith, there, few) in
              rw kind (gave k here
              ∙ ap (λ (values : List Value). values ++ given_in k more (course_of c.pending block)) (c.gave_is k here)
              ∙ ap (λ (run : Course). given_in k c.calls start ++ given_in k more run) (sym c.leads_here)
              ∙ sym (given_more k c.calls more start));
          each = λ k there. each k (omega (arith, there, few));
        }

    -- only what it copies changes, with the room that it takes
    copies_move : (copies : SpreadState) (later : List Mark) (more : List Call) (pending : Bool)
        → map rule_at_end copies.ends ≡ map rule_at_end block.copies.ends
        → AllAllowed more (course_of c.pending block)
        → after_all more (course_of c.pending block) ≡ record { spread = copies; pending = pending; stopped = block.stopped }
        → (pending ≡ true → is_pending block ≡ true) → put_in more ≡ [] → took later ≡ took journal
        → ((k : ℕ) → k < length block.copies.ends → gave_over (link_at copies k).rule.id later
        ≡ gave_over (link_at block.copies k).rule.id journal ++ given_in k more (course_of c.pending block))
        → ((k : ℕ) → k < length block.copies.ends → CopiedOver later (link_at copies k))
        → Copier layout b (with_copies copies block) later
    copies_move copies later more pending rules allowed leads faults none taken gave each =
        let change = gives_room (copies_weight block.copies - copies_weight copies) in
        let seen = seen_over_ports change (λ port. refl) block.ports in
        let held : (port_in (map change block.ports) 0).waiting ≡ held_by block =
        kept_at_all (λ (port : PortState). port.waiting) change block.ports 0 (λ port. refl) in
        goes_on (with_copies copies block) later more pending refl refl rules allowed leads
        (λ is. pending_stays (map change block.ports) (λ e. subst (λ (f : Option ℕ). is_some f ≡ true) (sym seen) e) (faults is))
        (taken ∙ c.took_is ∙ ap (λ (values : List Value). values ++ held_by block) (sym (append-nil (put_in c.calls)))
        ∙ ap (λ (values : List Value). (put_in c.calls ++ values) ++ held_by block) (sym none)
        ∙ ap (λ (values : List Value). (put_in c.calls ++ put_in more) ++ values) (sym held))
        gave each

    module _ (k : ℕ) (here : k < length block.copies.ends) where
      abbrev mine : OutEnd
      mine = link_at block.copies k

      -- one end moves, over which nothing goes
      end_moves : (end : CopyEnd) (more : List Call) (pending : Bool) → end.link.rule ≡ mine.rule → CopiedOver journal end.link
          → AllAllowed more (course_of c.pending block)
          → after_all more (course_of c.pending block)
          ≡ record { spread = changes k end block.copies; pending = pending; stopped = block.stopped }
          → (pending ≡ true → is_pending block ≡ true) → put_in more ≡ []
          → ((j : ℕ) → given_in j more (course_of c.pending block) ≡ [])
          → Copier layout b (with_copies (changes k end block.copies) block) journal
      end_moves end more pending rule copied allowed leads faults none nothing =
          copies_move (changes k end block.copies) journal more pending
          (map-set_same rule_at_end block.copies.ends k end no_end rule) allowed leads faults none refl
          (λ j there. rw (nothing j)
          (at_links (λ i link. gave_over link.rule.id journal ≡ gave_over (link_at block.copies i).rule.id journal ++ [])
          block.copies.ends k end here
          (ap (λ (r : LinkRule). gave_over r.id journal) rule ∙ sym (append-nil (gave_over mine.rule.id journal)))
          (λ i low other. sym (append-nil (gave_over (link_at block.copies i).rule.id journal))) j there))
          (at_links (λ i link. CopiedOver journal link) block.copies.ends k end here copied (λ i low other. c.each i low))

      copied_on : (stage : SourceStage) (declined : ℕ) → CopiedOver journal (record mine { stage = stage; declined = declined })
      copied_on stage declined =
          let old = c.each k here in record { admitted = old.admitted; counted = old.counted; some = old.some }

      look_keeps : (phase : Phase) → IsAllowed (Call.look k phase) (course_of c.pending block)
          → Copier layout b (with_copies (looks k phase block.copies) block) journal
      look_keeps phase may =
          end_moves _ (Call.look k phase ∷ []) c.pending refl (copied_on _ mine.declined) (may, tt) refl c.faults refl (λ j. refl)

      hold_keeps : is_asked_by (stage_at block.copies k) ≡ true → Copier layout b (with_copies (holds k block.copies) block) journal
      hold_keeps asks =
          end_moves _ (Call.hold k ∷ []) c.pending refl (copied_on _ mine.declined) ((here, asks), tt) refl c.faults refl (λ j. refl)

      end_keeps : (how : LinkEnd) → is_free (stage_at block.copies k) ≡ true → end_of mine block.stopped ≡ Some how
          → Copier layout b (with_copies (ends_link k how block.copies) block) journal
      end_keeps how free due =
          end_moves _ (Call.«end» k how ∷ []) c.pending refl (copied_on _ mine.declined) ((here, free, due), tt) refl c.faults refl
          (λ j. refl)

      withdraw_keeps : (pending : Bool) → is_pending block ≡ pending → is_waiting (stage_at block.copies k) ≡ true
          → ((end_at block.copies k).owes ≡ true → is_pending block ≡ true)
          → Copier layout b (with_copies (withdraws k block.copies) block) journal
      withdraw_keeps true is waits owes =
          end_moves _ (Call.fault ∷ Call.withdraw k ∷ []) true refl (copied_on _ (asked_id (stage_at block.copies k)))
          (tt, ((here, waits, λ e. refl), tt)) refl (λ _. is) refl (λ j. refl)
      withdraw_keeps false is waits owes =
          end_moves _ (Call.withdraw k ∷ []) c.pending refl (copied_on _ (asked_id (stage_at block.copies k)))
          ((here, waits, λ e. never_both (is_pending block) (owes e) is), tt) refl c.faults refl (λ j. refl)

      -- an offer, with what is made for it
      offer_keeps : block.stopped ≡ None → may_offer k block.copies ≡ true
          → Copier layout b (with_copies (offers k (prepares k block.copies)) block) journal
      offer_keeps going may =
          let copies = block.copies in
          let first : CopyEnd = record (end_at copies k) { share = copies.element } in
          let ready = prepares k copies in
          let at_first : end_at ready k ≡ first = get_or-set_same copies.ends k first no_end here in
          let there : k < length ready.ends = omega (arith, here, length-set copies.ends k first) in
          let then : CopyEnd = moved (record (link_at ready k) { stage = Out ready.id }) (end_at ready k).owes (end_at ready k) in
          let rule : then.link.rule ≡ mine.rule = ap (λ (end : CopyEnd). end.link.rule) at_first in
          let twice : (P : ℕ → OutEnd → Type 0) → P k (record mine { stage = Out copies.id })
          → P k mine → ((i : ℕ) → i < length copies.ends → P i (link_at copies i)) → (j : ℕ) → j < length copies.ends
          → P j (link_at (offers k ready) j) =
          λ P moved_there was each j low. at_links P ready.ends k then there
          (subst (λ (end : CopyEnd). P k (record end.link { stage = Out copies.id })) (sym at_first) moved_there)
          (λ i less other. at_links P copies.ends k first here was (λ n small apart. each n small) i
          (omega (arith, less, length-set copies.ends k first)))
          j (omega (arith, low, length-set copies.ends k first)) in
          copies_move (offers k ready) journal (Call.prepare k ∷ Call.offer k ∷ []) c.pending
          (map-set_same rule_at_end ready.ends k then no_end refl ∙ map-set_same rule_at_end copies.ends k first no_end refl) (
            here,
            (
              (
                going,
                there,
                subst (λ (end : CopyEnd). (is_some copies.element && is_open copies.id end) ≡ true) (sym at_first) may,
                ap (λ (end : CopyEnd). end.share) at_first,
              ),
              tt,
            ),
          )
          refl c.faults refl refl
          (twice (λ i link. gave_over link.rule.id journal ≡ gave_over (link_at copies i).rule.id journal ++ [])
          (sym (append-nil (gave_over mine.rule.id journal))) (sym (append-nil (gave_over mine.rule.id journal)))
          (λ i low. sym (append-nil (gave_over (link_at copies i).rule.id journal))))
          (twice (λ i link. CopiedOver journal link) (copied_on (Out copies.id) mine.declined) (c.each k here) c.each)

    -- its links, by their places
    pub rule_is : (k : ℕ) → k < length block.copies.ends
        → (k < length (links_from layout b)) × ((link_at block.copies k).rule ≡ rule_of layout (get_or (links_from layout b) k 0))
    rule_is k here =
        let small : k < length (links_from layout b) = omega (arith, here, count_copies layout b block.copies c.rules) in
        (small, rule_at layout b block.copies c.rules k small)

    pub differ : (j k : ℕ) → j < length block.copies.ends → k < length block.copies.ends → j ≢ k
        → (link_at block.copies k).rule.id == (link_at block.copies j).rule.id ≡ false
    differ j k here there apart = copies_differ layout b block.copies c.rules j k here there apart

    -- the element goes over a link
    module _ (k : ℕ) (here : k < length block.copies.ends) (may : may_give k block.copies ≡ true) where
      abbrev over : ℕ
      over = (link_at block.copies k).rule.id

      give_to : (value : Value) → block.copies.element ≡ Some value
          → Copier layout b (with_copies (gives k block.copies) block) (journal ++ Gave over value ∷ [])
      give_to value is =
          let copies = block.copies in
          let law = copies_lawful in
          let well = law_tells.given 1 c.pending block.stopped copies law k here may in
          let later = journal ++ Gave over value ∷ [] in
          let old = c.each k here in
          let one_more = gave_here (λ n. n == over) journal over value (number_same over) in
          let admitted = admits_it (link_at copies k).rule.when copies.element value is well.admitted in
          let same : (j : ℕ) → j < length copies.ends → j ≢ k
          → gave_over (link_at copies j).rule.id later ≡ gave_over (link_at copies j).rule.id journal =
          λ j there other. gave_same (λ n. n == (link_at copies j).rule.id) journal (Gave over value)
          (ap (λ (so : Bool). cond so (value ∷ []) []) (differ j k there here other)) in
          copies_move (gives k copies) later (Call.give k ∷ []) c.pending
          (map-set_same rule_at_end copies.ends k _ no_end refl) ((here, may), tt) refl c.faults refl
          (took_same (λ port link. true) journal (Gave over value) refl)
          (at_links (λ i link. gave_over link.rule.id later
          ≡ gave_over (link_at copies i).rule.id journal ++ given_in i (Call.give k ∷ []) (course_of c.pending block))
          copies.ends k _ here (rw (number_same k, is) one_more)
          (λ j there other. rw (ne_eqb k j (λ e. other (sym e)))
          (same j there other ∙ sym (append-nil (gave_over (link_at copies j).rule.id journal)))))
          (at_links (λ i link. CopiedOver later link) copies.ends k _ here
          (record {
            admitted = rw one_more (every_more (admits (link_at copies k).rule.when) (gave_over over journal) value old.admitted admitted);
            counted = λ limited. rw one_more
                (count_more (link_at copies k).rule.max (link_at copies k).given (gave_over over journal) value old.counted limited);
            some = λ _. law.some_since well.is_element;
          })
          (λ j there other. copied_same journal later (link_at copies j) (same j there other) (c.each j there)))

      give_keeps : (element : Option Value) → block.copies.element ≡ element → is_some element ≡ true
          → Copier layout b (with_copies (gives k block.copies) block) (marks_copied over element journal)
      give_keeps None is some = absurd (cc)
      give_keeps (Some value) is some = give_to value is

    pub copy_keeps : (grouped : ℕ) (round : RoundState) (call : CopyCall)
        (law : MayCopy call (record { block = block; journal = journal; grouped = grouped; round = round }))
        → Copier layout b (with_copies (after_copy call block.copies) block) (marks_copy call block.copies journal)
    copy_keeps grouped round (CopyCall.offer k) may = offer_keeps k may.place may.stands.0 may.stands.1
    copy_keeps grouped round (CopyCall.look k phase) may = look_keeps k may.place phase (may.place, may.stands)
    copy_keeps grouped round (CopyCall.give k) may =
        let well = law_tells.given 1 c.pending block.stopped block.copies copies_lawful k may.place may.stands in
        give_keeps k may.place may.stands block.copies.element refl well.is_element
    copy_keeps grouped round (CopyCall.hold k) may = hold_keeps k may.place may.stands
    copy_keeps grouped round (CopyCall.withdraw k) may = withdraw_keeps k may.place (is_pending block) refl may.stands.0 may.stands.1
    copy_keeps grouped round (CopyCall.end_link k how) may = end_keeps k may.place how may.stands.0 may.stands.1

    -- What it does by itself

    pub put_keeps : (first : Option Value) → first_of (held_by block) ≡ first → length block.ports ≡ 1 → block.stopped ≡ None
        → is_spread_free block.copies ≡ true → block.copies.id + 1 < 2 ^ 59 → Copier layout b (copies_next first block) journal
    put_keeps None is alone going free ids = c
    put_keeps (Some value) is alone going free ids =
        let copies = block.copies in
        let change : PortState → PortState = λ port. gives_room (1 - copies_weight (puts value copies)) (takes_next port) in
        let port = port_in block.ports 0 in
        let held : (port_in (set block.ports 0 (change port)) 0).waiting ≡ drop 1 (held_by block) =
        ap (λ (q : PortState). q.waiting) (get_or-set_same block.ports 0 (change port) (fresh_port None) (omega (arith, alone))) in
        let link_is : (j : ℕ) → j < length copies.ends → get_or (map (takes_up value) copies.ends) j no_end ≡ takes_up value (end_at copies j) =
        λ j there. lists.get_or-map (takes_up value) copies.ends j no_end no_end there in
        goes_on (copies_it value block) journal (Call.put value ∷ []) c.pending refl refl (rules_taken_up value copies.ends)
        ((going, free, ids), tt) refl
        (λ so. pending_stays (set block.ports 0 (change port)) (stays_at_ports block.ports 0 (change port) (λ e. e)) (c.faults so))
        (c.took_is ∙ ap (λ (values : List Value). put_in c.calls ++ values) (first_is (held_by block) value is)
        ∙ sym (append_assoc (put_in c.calls) (value ∷ []) (drop 1 (held_by block)))
        ∙ ap (λ (values : List Value). (put_in c.calls ++ value ∷ []) ++ values) (sym held))
        (λ j there. subst (λ (end : CopyEnd). gave_over end.link.rule.id journal ≡ gave_over (link_at copies j).rule.id journal ++ [])
        (sym (link_is j there)) (sym (append-nil (gave_over (link_at copies j).rule.id journal))))
        (λ j there. subst (λ (end : CopyEnd). CopiedOver journal end.link) (sym (link_is j there))
        (copied_on j there (forgotten_stage (stage_at copies j)) (link_at copies j).declined))

    pub stop_keeps : (how : Outcome) (mark : Mark) → taken_by_mark (λ port link. true) mark ≡ []
        → ((test : ℕ → Bool) → given_by_mark test mark ≡ []) → block.stopped ≡ None → is_at_rest block.copies ≡ true
        → (how ≡ outcome.Done → left_of block.copies ≡ None)
        → Copier layout b (stops_by how block) (journal ++ mark ∷ [])
    stop_keeps how mark takes gives going rests done =
        let later = journal ++ mark ∷ [] in
        let seen = seen_over_ports port_closes (λ port. refl) block.ports in
        let held : (port_in (map port_closes block.ports) 0).waiting ≡ held_by block =
        kept_at_all (λ (port : PortState). port.waiting) port_closes block.ports 0 (λ port. refl) in
        let same : (l : ℕ) → gave_over l later ≡ gave_over l journal = λ l. gave_same (λ n. n == l) journal mark (gives (λ n. n == l)) in
        goes_on (stops_by how block) later (Call.stop how ∷ []) c.pending refl refl refl ((going, rests, done), tt) refl
        (λ so. pending_stays (map port_closes block.ports) (λ e. subst (λ (f : Option ℕ). is_some f ≡ true) (sym seen) e) (c.faults so))
        (took_same (λ port link. true) journal mark takes ∙ c.took_is
        ∙ ap (λ (values : List Value). values ++ held_by block) (sym (append-nil (put_in c.calls)))
        ∙ ap (λ (values : List Value). (put_in c.calls ++ []) ++ values) (sym held))
        (λ j there. same (link_at block.copies j).rule.id ∙ sym (append-nil (gave_over (link_at block.copies j).rule.id journal)))
        (λ j there. copied_same journal later (link_at block.copies j) (same (link_at block.copies j).rule.id) (c.each j there))
