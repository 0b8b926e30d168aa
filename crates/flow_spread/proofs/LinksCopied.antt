-- Over any calls that may be made, each link has its copies.
use Rattle.std.proofs.Common.{◌≡◌, ◌≢◌, ℕ, ◌+◌, ◌-◌, ◌^◌, ◌<◌, ◌≤◌, ◌==◌, ◌&&◌, not, zero, suc, cond, Bool, true, false, List, [], ◌∷◌, ◌++◌, length, map, Option, Some, None, is_some, refl, sym, ◌∙◌, ap, subst, inl, inr, arith, append_assoc}
use Rattle.std.specs.Bool.{OnTrue}
use Rattle.std.proofs.lemmas.Bool.{cases_eq, OnTrue_at, false_from_ne_true}
use Rattle.std.proofs.lemmas.Bool.Decides.{nat_tests}
use Rattle.std.proofs.lemmas.List.{append-nil, length-set, length-map, get_or-set_same, get_or-set_other}
use Rattle.flow_value.specs.declared.value.Value.{Value}
use Rattle.flow_value.specs.declared.message.MessageStatus.{MessageStatus}
use Rattle.flow_value.specs.declared.message.MessageStatus.TheVariants as status
use Rattle.flow_link.specs.Copies.{up_to}
use Rattle.flow_link.specs.declared.phase.LinkEnd.{LinkEnd}
use Rattle.flow_link.specs.declared.phase.Phase.{Phase}
use Rattle.flow_link.specs.declared.stage.SourceStage.{SourceStage}
use Rattle.flow_link.specs.declared.stage.SourceStage.TheVariants.{Free, Out, Reserved, Ended}
use Rattle.flow_link.specs.declared.trace.Outcome.{Outcome}
use Rattle.flow_link.specs.Stage.{source_looks}
use Rattle.flow_outlet.specs.ByLink.{answer_stage}
use Rattle.flow_outlet.specs.Outlet.{first_of, given_end}
use Rattle.flow_outlet.specs.End.{is_free, is_waiting, counted}
use Rattle.flow_outlet.specs.History.{listed}
use Rattle.flow_outlet.specs.KeepsByLink.{settles_it}
use Rattle.flow_outlet.specs.Law.{is_put_off, is_refused}
use Rattle.flow_outlet.proofs.LookTells.{look_tells}
use Rattle.flow_outlet.proofs.StagesTell.{free_is, waits_for}
use Rattle.flow_outlet.specs.declared.ends.LinkRule.{LinkRule}
use Rattle.flow_spread.specs.declared.end.CopyEnd.{CopyEnd}
use Rattle.flow_spread.specs.ByLink.{answered, answered_link, still_owes}
use Rattle.flow_spread.specs.Copied.{Call, Course, after, IsAllowed, after_all, AllAllowed, put_by, given_by, put_in, given_in, IsPartOf, IsFrontOf, carried, LinkHas, fresh_course, EachLinkHasItsCopies}
use Rattle.flow_spread.specs.End.{no_end, fresh_end, moved, is_answer, takes_up}
use Rattle.flow_spread.specs.Law.{SpreadLaw, MayPutOff, speaks}
use Rattle.flow_spread.specs.Spread.{SpreadState, end_at, link_at, stage_at, changes, fresh_spread, is_spread_free, puts, may_offer, offers, looks, is_wanted, gives, is_asked_by, asked_id, holds, withdraws, ends_link}
use Rattle.flow_spread.proofs.CarriedValues.{no_part, front_same}
use Rattle.flow_spread.proofs.CountsOfEnds.{none_there}
use Rattle.flow_spread.proofs.EndsOwe.{open_parts}
use Rattle.flow_spread.specs.End.{owes_it}
use Rattle.flow_spread.proofs.LawKept.{calls_keep_law, end_mapped, admits_some, each_fresh}
use Rattle.flow_spread.proofs.LawKept as kept
use Rattle.flow_spread.proofs.StagesTell.{or_first, or_second, never_so, wanted_is, asks_for}
use Rattle.flow_spread.proofs.CopiesSoFar.{HadSoFar, HadBy, OwesOrHad, moved_had, at_change, not_back, answers_off, owes_same, answers_put_off, owes_or_late, once_or_late, given_had, put_had}

-- One call

abbrev pub older_by : Call → Course → List Value → List Value
older_by (Call.put value) c older = older ++ listed c.spread.element
older_by _ c older = older

faulted : (first : ℕ) (pending : Bool) (stopped : Option Outcome) (s : SpreadState) → SpreadLaw first pending stopped s
    → SpreadLaw first true stopped s
faulted first true stopped s law = law
faulted first false stopped s law = calls_keep_law.fault first stopped s law

pub law_after : (first : ℕ) (call : Call) (c : Course) → IsAllowed call c → SpreadLaw first c.pending c.stopped c.spread
    → SpreadLaw first (after call c).pending (after call c).stopped (after call c).spread
law_after first (Call.put value) c may law =
    rw may.0 (calls_keep_law.put first c.pending c.spread (rw may.0 at law) value may.1 may.2)
law_after first (Call.prepare k) c may law = calls_keep_law.prepare first c.pending c.stopped c.spread law k may
law_after first (Call.offer k) c may law =
    rw may.0 (calls_keep_law.offer first c.pending c.spread (rw may.0 at law) k may.1 may.2 may.3)
law_after first (Call.look k phase) c may law = calls_keep_law.look first c.pending c.stopped c.spread law k may.0 phase may.1
law_after first (Call.give k) c may law = calls_keep_law.give first c.pending c.stopped c.spread law k may.0 may.1
law_after first (Call.hold k) c may law = calls_keep_law.hold first c.pending c.stopped c.spread law k may.0 may.1
law_after first (Call.withdraw k) c may law = calls_keep_law.withdraw first c.pending c.stopped c.spread law k may.0 may.1 may.2
law_after first (Call.«end» k how) c may law = calls_keep_law.ends first c.pending c.stopped c.spread law k may.0 how may.1 may.2
law_after first (Call.answer k header status) c may law =
    rw may.3 (calls_keep_law.answer first c.stopped c.spread (rw may.3 at law) k header may.0 status may.1 may.2)
law_after first Call.fault c may law = faulted first c.pending c.stopped c.spread law
law_after first (Call.stop outcome) c may law =
    calls_keep_law.stop first c.pending outcome c.spread (rw may.0 at law) may.1 may.2

-- nothing more was given
with_none : {older given : List Value} {element : Option Value} {id : ℕ} {rule : LinkRule} {count last : ℕ} {stage : SourceStage} {owes : Bool}
    → HadSoFar older given element id rule count last stage owes → HadSoFar older (given ++ []) element id rule count last stage owes
with_none {older} {given} {element} {id} {rule} {count} {last} {stage} {owes} had =
    subst (λ (gs : List Value). HadSoFar older gs element id rule count last stage owes) (sym (append-nil given)) had

pub some_value : {Q : Type 0} (element : Option Value) → is_some element ≡ true → ((value : Value) → element ≡ Some value → Q) → Q
some_value None e f = absurd (cc)
some_value (Some value) e f = f value refl

pub other_number : (j k : ℕ) → k ≢ j → (j == k) ≡ false
other_number j k other = false_from_ne_true (j == k) (λ e. let same : j ≡ k = grind (arith, nat_tests) in other (sym same))

pub same_number : (j : ℕ) → (j == j) ≡ true
same_number j = grind (arith, nat_tests)

module _ {first : ℕ} {pending : Bool} {stopped : Option Outcome} (s : SpreadState) (law : SpreadLaw first pending stopped s) (j : ℕ) (here : j < length s.ends) (k : ℕ) {older given : List Value} (had : HadBy older given s.element s.id (end_at s k)) where
  at_end : k ≡ j → HadBy older (given ++ []) s.element s.id (end_at s j)
  at_end same = subst (λ (n : ℕ). HadBy older (given ++ []) s.element s.id (end_at s n)) same (with_none had)

  prepare_had : HadBy older (given ++ []) s.element s.id (end_at (changes j (record (end_at s j) { share = s.element }) s) k)
  prepare_had = at_change (λ (end : CopyEnd). HadBy older (given ++ []) s.element s.id end) s j k
      (record (end_at s j) { share = s.element }) here (with_none had) at_end

  -- the link of one end stands elsewhere, and a steady one owes as before
  move_had : (end : CopyEnd) → HadSoFar older (given ++ []) s.element s.id (link_at s j).rule (link_at s j).given (link_at s j).last end.link.stage end.owes
      ≡ HadBy older (given ++ []) s.element s.id end
      → ((link_at s j).rule.steady ≡ true → is_refused end.link.stage ≡ false → (is_refused (stage_at s j) ≡ false) × (end.owes ≡ (end_at s j).owes))
      → ((link_at s j).rule.sole ≡ true → is_refused end.link.stage ≡ false
      → (is_refused (stage_at s j) ≡ false) × OwesOrHad (link_at s j).last (end_at s j).owes end.owes)
      → HadBy older (given ++ []) s.element s.id (end_at (changes j end s) k)
  move_had end alike same alone = at_change (λ (e : CopyEnd). HadBy older (given ++ []) s.element s.id e) s j k end here (with_none had)
      (λ at_j. subst (λ (P : Type 0). P) alike (moved_had (at_end at_j) end.link.stage end.owes same alone))

  off_steady : {Q : Type 0} → is_put_off (stage_at s j) ≡ true → (link_at s j).rule.steady ≡ true → Q
  off_steady off steady = let well : MayPutOff (link_at s j) = OnTrue_at off (law.each j here).put_off in
      never_so (link_at s j).rule.steady steady well.unsteady

  give_here : {k : ℕ} → k ≡ j → is_wanted s.id (stage_at s j) ≡ true → HadBy older given s.element s.id (end_at s k)
      → HadBy older (given ++ cond (j == k) (listed s.element) []) s.element s.id (end_at (gives j s) k)
  give_here {k} same wanted had =
      let is = wanted_is s.id (stage_at s j) wanted in
      let end = end_at s j in
      let after = moved (given_end s.id (link_at s j)) false end in
      let mine : HadBy older given s.element s.id end = subst (λ (n : ℕ). HadBy older given s.element s.id (end_at s n)) same had in
      let some : is_some s.element ≡ true =
      admits_some end.link.rule.when s.element (OnTrue_at (or_first (speaks end.link.stage) end.owes is.speaks) (law.each j here).admitted) in
      let gave : HadBy older (given ++ listed s.element) s.element s.id after = some_value s.element some (λ value e.
      subst (λ (el : Option Value). HadBy older (given ++ listed el) el s.id after) (sym e)
      (given_had end value e (law.each j here) is.speaks is.out_or_off is.not_refused mine)) in
      let at_j : HadBy older (given ++ cond (j == j) (listed s.element) []) s.element s.id (end_at (gives j s) j) =
      rw (same_number j, get_or-set_same s.ends j after no_end here) gave in
      subst (λ (n : ℕ). HadBy older (given ++ cond (j == n) (listed s.element) []) s.element s.id (end_at (gives j s) n)) (sym same) at_j

  give_had : is_wanted s.id (stage_at s j) ≡ true
      → HadBy older (given ++ cond (j == k) (listed s.element) []) s.element s.id (end_at (gives j s) k)
  give_had wanted = elim (cases_eq k j) [
    | inl same ↦ give_here same wanted had
    | inr other ↦ rw (other_number j k other, get_or-set_other s.ends j k (moved (given_end s.id (link_at s j)) false (end_at s j)) no_end other)
        (with_none had)
  ]

  offer_had : may_offer j s ≡ true → HadBy older (given ++ []) s.element s.id (end_at (offers j s) k)
  offer_had may =
      let parts = open_parts (is_some s.element) (end_at s j).owes (is_free (stage_at s j)) ((link_at s j).declined == s.id) may in
      move_had (moved (record (link_at s j) { stage = Out s.id }) (end_at s j).owes (end_at s j)) refl
      (λ steady taking. (ap is_refused (free_is (stage_at s j) parts.2), refl))
      (λ sole taking. (ap is_refused (free_is (stage_at s j) parts.2), inl refl))

  look_had : (phase : Phase) → OnTrue (is_put_off (source_looks (stage_at s j) phase)) (MayPutOff (link_at s j))
      → HadBy older (given ++ []) s.element s.id (end_at (looks j phase s) k)
  look_had phase well =
      let stage = source_looks (stage_at s j) phase in
      let end = end_at s j in
      move_had (moved (record (link_at s j) { stage = stage }) (end.owes && not (is_answer s.once stage)) end) refl
      (λ steady taking.
      let off : is_put_off stage ≡ false = false_from_ne_true (is_put_off stage) (λ off.
      let may : MayPutOff (link_at s j) = OnTrue_at off well in never_so (link_at s j).rule.steady steady may.unsteady) in (
        not_back (is_refused (stage_at s j)) (is_refused stage) (look_tells (stage_at s j) phase).refused taking,
        owes_same end.owes (is_answer s.once stage) (answers_off s.once stage taking off),
      ))
      (λ sole taking. (
        not_back (is_refused (stage_at s j)) (is_refused stage) (look_tells (stage_at s j) phase).refused taking,
        owes_or_late end.owes (is_answer s.once stage) (λ answers.
            let may : MayPutOff (link_at s j) = OnTrue_at (answers_put_off s.once stage taking answers) well in may.late sole),
      ))

  hold_had : is_asked_by (stage_at s j) ≡ true → HadBy older (given ++ []) s.element s.id (end_at (holds j s) k)
  hold_had asked =
      move_had (moved (record (link_at s j) { stage = Reserved (asked_id (stage_at s j)) }) (end_at s j).owes (end_at s j)) refl
      (λ steady taking. off_steady (ap is_put_off (asks_for (stage_at s j) asked).is) steady)
      (λ sole taking. (ap is_refused (asks_for (stage_at s j) asked).is, inl refl))

  withdraw_had : is_waiting (stage_at s j) ≡ true → HadBy older (given ++ []) s.element s.id (end_at (withdraws j s) k)
  withdraw_had wait =
      move_had (moved (record (link_at s j) { declined = asked_id (stage_at s j); stage = Free }) (end_at s j).owes (end_at s j)) refl
      (λ steady taking. off_steady (ap is_put_off (waits_for (stage_at s j) wait).is) steady)
      (λ sole taking. (ap is_refused (waits_for (stage_at s j) wait).is, inl refl))

  end_had : (how : LinkEnd) → is_free (stage_at s j) ≡ true → HadBy older (given ++ []) s.element s.id (end_at (ends_link j how s) k)
  end_had how free =
      move_had (moved (record (link_at s j) { stage = Ended how }) (end_at s j).owes (end_at s j)) refl
      (λ steady taking. (ap is_refused (free_is (stage_at s j) free), refl))
      (λ sole taking. (ap is_refused (free_is (stage_at s j) free), inl refl))

  answer_same : (header : ℕ) (answer : MessageStatus) → stage_at s j ≡ Out header → (settles_it answer ≡ false → MayPutOff (link_at s j))
      → (link_at s j).rule.steady ≡ true → is_refused (answer_stage answer header) ≡ false
      → (is_refused (stage_at s j) ≡ false) × (still_owes answer s.once (end_at s j).owes ≡ (end_at s j).owes)
  answer_same header status.Accepted is late steady taking = (ap is_refused is, refl)
  answer_same header status.DecliningPermanently is late steady taking = cc
  answer_same header status.Declined is late steady taking =
      let may : MayPutOff (link_at s j) = late refl in never_so (link_at s j).rule.steady steady may.unsteady
  answer_same header status.Postponed is late steady taking =
      let may : MayPutOff (link_at s j) = late refl in never_so (link_at s j).rule.steady steady may.unsteady
  answer_same header status.NotAvailable is late steady taking =
      let may : MayPutOff (link_at s j) = late refl in never_so (link_at s j).rule.steady steady may.unsteady

  answer_alone : (header : ℕ) (answer : MessageStatus) → stage_at s j ≡ Out header → (settles_it answer ≡ false → MayPutOff (link_at s j))
      → (link_at s j).rule.sole ≡ true → is_refused (answer_stage answer header) ≡ false
      → (is_refused (stage_at s j) ≡ false) × OwesOrHad (link_at s j).last (end_at s j).owes (still_owes answer s.once (end_at s j).owes)
  answer_alone header status.Accepted is late sole taking = (ap is_refused is, inl refl)
  answer_alone header status.DecliningPermanently is late sole taking = cc
  answer_alone header status.Declined is late sole taking =
      let may : MayPutOff (link_at s j) = late refl in (ap is_refused is, once_or_late (end_at s j).owes s.once (may.late sole))
  answer_alone header status.Postponed is late sole taking =
      let may : MayPutOff (link_at s j) = late refl in (ap is_refused is, once_or_late (end_at s j).owes s.once (may.late sole))
  answer_alone header status.NotAvailable is late sole taking =
      let may : MayPutOff (link_at s j) = late refl in (ap is_refused is, once_or_late (end_at s j).owes s.once (may.late sole))

  answer_had : (header : ℕ) (answer : MessageStatus) → stage_at s j ≡ Out header → (settles_it answer ≡ false → MayPutOff (link_at s j))
      → HadBy older (given ++ []) s.element s.id (end_at (answered answer header j s) k)
  answer_had header answer is late =
      move_had (moved (answered_link answer header (link_at s j)) (still_owes answer s.once (end_at s j).owes) (end_at s j)) refl
      (answer_same header answer is late) (answer_alone header answer is late)

put_step : {first : ℕ} {pending : Bool} (s : SpreadState) → SpreadLaw first pending None s → is_spread_free s ≡ true → (value : Value)
    → (k : ℕ) → k < length s.ends → {older given : List Value} → HadBy older given s.element s.id (end_at s k)
    → HadBy (older ++ listed s.element) (given ++ []) (Some value) (s.id + 1) (end_at (puts value s) k)
put_step s law free value k here had =
    let nobody = kept.free_is s free in
    rw (end_mapped value s.ends k here)
    (with_none (put_had (end_at s k) value (law.each k here) (none_there owes_it s.ends k here nobody.none_owes) had))

step_had : (first : ℕ) (call : Call) (c : Course) → IsAllowed call c → SpreadLaw first c.pending c.stopped c.spread
    → (k : ℕ) → k < length c.spread.ends → {older given : List Value} → HadBy older given c.spread.element c.spread.id (end_at c.spread k)
    → HadBy (older_by call c older) (given ++ given_by k call c) (after call c).spread.element (after call c).spread.id
    (end_at (after call c).spread k)
step_had first (Call.put value) c may law k here had = put_step c.spread (rw may.0 at law) may.1 value k here had
step_had first (Call.prepare j) c may law k here had = prepare_had c.spread law j may k had
step_had first (Call.offer j) c may law k here had = offer_had c.spread law j may.1 k had may.2
step_had first (Call.look j phase) c may law k here had = look_had c.spread law j may.0 k had phase may.1
step_had first (Call.give j) c may law k here had = give_had c.spread law j may.0 k had may.1
step_had first (Call.hold j) c may law k here had = hold_had c.spread law j may.0 k had may.1
step_had first (Call.withdraw j) c may law k here had = withdraw_had c.spread law j may.0 k had may.1
step_had first (Call.«end» j how) c may law k here had = end_had c.spread law j may.0 k had how may.1
step_had first (Call.answer j header status) c may law k here had = answer_had c.spread law j may.0 k had header status may.1 may.2
step_had first Call.fault c may law k here had = with_none had
step_had first (Call.stop outcome) c may law k here had = with_none had

-- All calls

pub same_count : (call : Call) (c : Course) → length (after call c).spread.ends ≡ length c.spread.ends
same_count (Call.put value) c = length-map c.spread.ends (takes_up value)
same_count (Call.prepare k) c = length-set c.spread.ends k _
same_count (Call.offer k) c = length-set c.spread.ends k _
same_count (Call.look k phase) c = length-set c.spread.ends k _
same_count (Call.give k) c = length-set c.spread.ends k _
same_count (Call.hold k) c = length-set c.spread.ends k _
same_count (Call.withdraw k) c = length-set c.spread.ends k _
same_count (Call.«end» k how) c = length-set c.spread.ends k _
same_count (Call.answer k header status) c = length-set c.spread.ends k _
same_count Call.fault c = refl
same_count (Call.stop outcome) c = refl

pub one_put : (call : Call) (c : Course) (older : List Value)
    → older_by call c older ++ listed (after call c).spread.element ≡ (older ++ listed c.spread.element) ++ put_by call
one_put (Call.put value) c older = refl
one_put (Call.prepare k) c older = sym (append-nil (older ++ listed c.spread.element))
one_put (Call.offer k) c older = sym (append-nil (older ++ listed c.spread.element))
one_put (Call.look k phase) c older = sym (append-nil (older ++ listed c.spread.element))
one_put (Call.give k) c older = sym (append-nil (older ++ listed c.spread.element))
one_put (Call.hold k) c older = sym (append-nil (older ++ listed c.spread.element))
one_put (Call.withdraw k) c older = sym (append-nil (older ++ listed c.spread.element))
one_put (Call.«end» k how) c older = sym (append-nil (older ++ listed c.spread.element))
one_put (Call.answer k header status) c older = sym (append-nil (older ++ listed c.spread.element))
one_put Call.fault c older = sym (append-nil (older ++ listed c.spread.element))
one_put (Call.stop outcome) c older = sym (append-nil (older ++ listed c.spread.element))

-- what is known of a link after some calls
record Known (first : ℕ) (elements given : List Value) (k : ℕ) (c : Course) : Type 0 where
  older : List Value
  newest : older ++ listed c.spread.element ≡ elements
  had : HadBy older given c.spread.element c.spread.id (end_at c.spread k)
  law : SpreadLaw first c.pending c.stopped c.spread
  there : k < length c.spread.ends

known_after : (first : ℕ) (calls : List Call) (c : Course) (k : ℕ) (elements given : List Value) → AllAllowed calls c → Known first elements given k c
    → Known first (elements ++ put_in calls) (given ++ given_in k calls c) k (after_all calls c)
known_after first [] c k elements given may known = record {
  older = known.older;
  newest = known.newest ∙ sym (append-nil elements);
  had = with_none known.had;
  law = known.law;
  there = known.there;
}
known_after first (call ∷ calls) c k elements given may known =
    let step : Known first (elements ++ put_by call) (given ++ given_by k call c) k (after call c) = record {
      older = older_by call c known.older;
      newest = one_put call c known.older ∙ ap (λ (vs : List Value). vs ++ put_by call) known.newest;
      had = step_had first call c may.0 known.law k known.there known.had;
      law = law_after first call c may.0 known.law;
      there = rw (same_count call c) known.there;
    } in
    let rest = known_after first calls (after call c) k (elements ++ put_by call) (given ++ given_by k call c) may.1 step in
    rw (sym (append_assoc elements (put_by call) (put_in calls)), sym (append_assoc given (given_by k call c) (given_in k calls (after call c)))) rest

none_up_to : (max : Option ℕ) → [] ≡ up_to max []
none_up_to None = refl
none_up_to (Some zero) = refl
none_up_to (Some (suc n)) = refl

fresh_had : (rule : LinkRule) (id : ℕ) → HadBy [] [] None id (fresh_end rule)
fresh_had rule id = record {
  part = no_part;
  before = λ l. no_part;
  counted = λ m e. refl;
  all = λ steady taking. none_up_to rule.max;
  front = λ steady. front_same [] (up_to rule.max []) (none_up_to rule.max);
  some = λ l. absurd (omega (arith, l));
  first = λ sole taking. ap first_of (none_up_to rule.max);
  begun = λ sole some. cc;
}

has_copies : (first : ℕ) (elements given : List Value) (k : ℕ) (c : Course) → Known first elements given k c
    → LinkHas given elements k c.spread
has_copies first elements given k c known =
    let s = c.spread in
    let law = known.law.each k known.there in
    record {
      older = known.older;
      newest = known.newest;
      part = subst (λ (whole : List Value). IsPartOf given whole) known.newest known.had.part;
      owed = λ owes. known.had.before (OnTrue_at (or_second (speaks (stage_at s k)) (end_at s k).owes owes) law.fresh);
      all = known.had.all;
      first = known.had.first;
      front = λ steady. subst (λ (whole : List Value). IsFrontOf given (carried (link_at s k).rule whole)) known.newest (known.had.front steady);
      went = known.had.some;
      begun = λ sole some.
          known.had.begun sole some ∙ ap (λ (whole : List Value). first_of (carried (link_at s k).rule whole)) known.newest;
    }

link_has : (once pending : Bool) (rules : List LinkRule) (first : ℕ) → 1 ≤ first → first ≤ 2 ^ 59
    → (calls : List Call) → AllAllowed calls (fresh_course once pending rules first) → (k : ℕ) → k < length rules
    → LinkHas (given_in k calls (fresh_course once pending rules first)) (put_in calls) k
    (after_all calls (fresh_course once pending rules first)).spread
link_has once pending rules first low high calls may k here =
    let c = fresh_course once pending rules first in
    let law : SpreadLaw first pending None (fresh_spread once rules first) = calls_keep_law.fresh pending once None rules first low high in
    let there : k < length (map fresh_end rules) = omega (arith, here, length-map rules fresh_end) in
    let start : Known first [] [] k c = record {
      older = [];
      newest = refl;
      had = each_fresh rules (λ (end : CopyEnd). HadBy [] [] None (first - 1) end) (λ rule. fresh_had rule (first - 1)) k there;
      law = law;
      there = there;
    } in
    has_copies first (put_in calls) (given_in k calls c) k (after_all calls c) (known_after first calls c k [] [] may start)

pub each_link_has : EachLinkHasItsCopies
each_link_has = record { each = link_has }
