-- Over any calls that keep a spread's law each link has its accounts.
use Rattle.std.proofs.Common.{◌≡◌, ℕ, ◌+◌, ◌-◌, ◌^◌, ◌<◌, ◌≤◌, ◌==◌, ◌&&◌, not, cond, Bool, true, false, List, [], ◌∷◌, ◌++◌, length, map, Option, Some, None, is_some, refl, sym, ◌∙◌, ap, subst, inl, inr, arith, append_assoc}
use Rattle.std.specs.Option.{ForSome}
use Rattle.std.proofs.lemmas.Bool.{cases_eq, OnTrue_at}
use Rattle.std.proofs.lemmas.List.{append-nil, length-map, get_or-set_same, get_or-set_other}
use Rattle.flow_value.specs.declared.value.Value.{Value}
use Rattle.flow_value.specs.declared.message.MessageStatus.{MessageStatus}
use Rattle.flow_value.specs.declared.message.MessageStatus.TheVariants as status
use Rattle.flow_link.specs.LinkOk.{IsWithin}
use Rattle.flow_link.specs.Stage.{source_looks}
use Rattle.flow_link.specs.declared.stage.SourceStage.TheVariants.{Free, Out, Reserved, Ended}
use Rattle.flow_link.specs.declared.phase.Phase.{Phase}
use Rattle.flow_link.specs.declared.trace.Outcome.{Outcome}
use Rattle.flow_outlet.specs.ByLink.{answer_stage}
use Rattle.flow_outlet.specs.End.{id_of}
use Rattle.flow_outlet.specs.History.{listed}
use Rattle.flow_outlet.specs.Law.{is_refused}
use Rattle.flow_outlet.specs.Outlet.{given_end}
use Rattle.flow_outlet.specs.declared.ends.LinkRule.{LinkRule}
use Rattle.flow_outlet.proofs.LookTells.{look_tells}
use Rattle.flow_spread.specs.declared.end.CopyEnd.{CopyEnd}
use Rattle.flow_spread.specs.Accounts.{Told, nothing_told, told_both, told_gift, told_answer, told_look, told_by, told_in, those_among, LinkAccounts}
use Rattle.flow_spread.specs.ByLink.{answered, answered_link, still_owes}
use Rattle.flow_spread.specs.Copied.{Call, Course, after, IsAllowed, after_all, AllAllowed, put_by, given_by, put_in, given_in, fresh_course}
use Rattle.flow_spread.specs.End.{no_end, fresh_end, moved, is_answer, owes_it}
use Rattle.flow_spread.specs.Law.{SpreadLaw, speaks}
use Rattle.flow_spread.specs.Spread.{SpreadState, end_at, link_at, stage_at, changes, fresh_spread, is_spread_free, puts, looks, gives, may_give, asked_id}
use Rattle.flow_spread.proofs.CountsOfEnds.{none_there}
use Rattle.flow_spread.proofs.LawKept.{calls_keep_law, end_mapped, admits_some, each_fresh}
use Rattle.flow_spread.proofs.LawKept as kept
use Rattle.flow_spread.proofs.CopiesSoFar.{at_change}
use Rattle.flow_spread.proofs.LinksCopied.{law_after, older_by, one_put, same_count, some_value, other_number, same_number}
use Rattle.flow_spread.proofs.NumberedElements.{not_among}
use Rattle.flow_spread.proofs.StagesTell.{or_first, or_second, wanted_is}
use Rattle.flow_spread.proofs.AccountsSoFar.{AccountSoFar, AccountBy, answer_of, moved_account, stays_account, look_owes, look_refused, answer_owes, answer_refused, given_account, put_account}

-- One call

module _ {first : ℕ} {pending : Bool} {stopped : Option Outcome} (s : SpreadState) (law : SpreadLaw first pending stopped s) (j : ℕ) (here : j < length s.ends) (k : ℕ) {older given : List Value} {told : Told} (so : AccountBy first older given told s.element s.id (end_at s k)) where
  abbrev Moved : Told → CopyEnd → Type 0
  Moved more end = AccountBy first older (given ++ []) (told_both told more) s.element s.id end

  -- the link of one end stands elsewhere, and these are told
  changed_account : (end : CopyEnd) (more : Told) → AccountSoFar first older (given ++ []) (told_both told more) s.element s.id
      (link_at s j).rule (link_at s j).given (link_at s j).last end.link.stage end.owes ≡ Moved more end
      → (AccountBy first older given told s.element s.id (end_at s j) → AccountSoFar first older (given ++ []) (told_both told more) s.element s.id
      (link_at s j).rule (link_at s j).given (link_at s j).last end.link.stage end.owes)
      → Moved (cond (j == k) more nothing_told) (end_at (changes j end s) k)
  changed_account end more alike moves = elim (cases_eq k j) [
    | inl same ↦
        subst (λ (n : ℕ). Moved (cond (j == n) more nothing_told) (end_at (changes j end s) n)) (sym same)
        (rw (same_number j, get_or-set_same s.ends j end no_end here)
        (subst (λ (P : Type 0). P) alike (moves (subst (λ (n : ℕ). AccountBy first older given told s.element s.id (end_at s n)) same so))))
    | inr other ↦ rw (other_number j k other, get_or-set_other s.ends j k end no_end other) (stays_account so)
  ]

  -- a call that tells nothing
  quiet_account : (end : CopyEnd) → AccountSoFar first older (given ++ []) (told_both told nothing_told) s.element s.id
      (link_at s j).rule (link_at s j).given (link_at s j).last end.link.stage end.owes ≡ Moved nothing_told end
      → (is_refused end.link.stage ≡ true → is_refused (stage_at s j) ≡ true) → end.owes ≡ (end_at s j).owes
      → Moved nothing_told (end_at (changes j end s) k)
  quiet_account end alike refuses owes =
      at_change (Moved nothing_told) s j k end here (stays_account so)
      (λ same. subst (λ (P : Type 0). P) alike
      (moved_account (subst (λ (n : ℕ). AccountBy first older given told s.element s.id (end_at s n)) same so) [] [] end.link.stage end.owes
      (λ is. inl (refuses is)) (inl owes)))

  look_account : (phase : Phase) → Moved (cond (j == k) (told_look s.id (stage_at s j) (source_looks (stage_at s j) phase)) nothing_told) (end_at (looks j phase s) k)
  look_account phase =
      let before = stage_at s j in
      let later = source_looks before phase in
      let end = end_at s j in
      let told_now = told_look s.id before later in
      let owes = end.owes && not (is_answer s.once later) in
      let current : ForSome (id_of later) (λ i. i ≡ s.id) = λ i is. (law.each j here).current i ((look_tells before phase).same_id i is) in
      changed_account (moved (record end.link { stage = later }) owes end) told_now refl
      (λ mine. moved_account mine told_now.put_off told_now.refused later owes (look_refused s.id before later)
      (look_owes s.once end.owes s.id before later current (law.each j here).owing))

  answer_account : (header : ℕ) (answer : MessageStatus) → stage_at s j ≡ Out header
      → Moved (cond (j == k) (told_answer header answer) nothing_told) (end_at (answered answer header j s) k)
  answer_account header answer is =
      let end = end_at s j in
      let same : header ≡ s.id = (law.each j here).current header (ap id_of is) in
      let owes = still_owes answer s.once end.owes in
      changed_account (moved (answered_link answer header end.link) owes end) (told_answer header answer) refl
      (λ mine. answer_moves answer owes
      (moved_account mine (told_answer header answer).put_off (told_answer header answer).refused (answer_stage answer header) owes
      (answer_refused s.id header (stage_at s j) same answer) (answer_owes s.once end.owes s.id header same answer)))
    where
      answer_moves : (answer : MessageStatus) (owes : Bool)
          → AccountSoFar first older (given ++ []) (told_both told (answer_of (told_answer header answer).put_off (told_answer header answer).refused)) s.element s.id
          (link_at s j).rule (link_at s j).given (link_at s j).last (answer_stage answer header) owes
          → AccountSoFar first older (given ++ []) (told_both told (told_answer header answer)) s.element s.id
          (link_at s j).rule (link_at s j).given (link_at s j).last (answer_stage answer header) owes
      answer_moves status.Accepted owes so = so
      answer_moves status.Declined owes so = so
      answer_moves status.Postponed owes so = so
      answer_moves status.NotAvailable owes so = so
      answer_moves status.DecliningPermanently owes so = so

  give_account : may_give j s ≡ true
      → AccountBy first older (given ++ cond (j == k) (listed s.element) []) (told_both told (cond (j == k) (told_gift s.id) nothing_told)) s.element s.id (end_at (gives j s) k)
  give_account wanted =
      let end = end_at s j in
      let gone = moved (given_end s.id (link_at s j)) false end in
      elim (cases_eq k j) [
        | inl same ↦
            let is = wanted_is s.id (stage_at s j) wanted in
            let mine : AccountBy first older given told s.element s.id end = subst (λ (n : ℕ). AccountBy first older given told s.element s.id (end_at s n)) same so in
            let there : is_some s.element ≡ true =
            admits_some end.link.rule.when s.element (OnTrue_at (or_first (speaks end.link.stage) end.owes is.speaks) (law.each j here).admitted) in
            let gave : AccountBy first older (given ++ listed s.element) (told_both told (told_gift s.id)) s.element s.id gone = some_value s.element there (λ value e.
            subst (λ (el : Option Value). AccountBy first older (given ++ listed el) (told_both told (told_gift s.id)) el s.id gone) (sym e)
            (given_account end value e (law.each j here) is.speaks mine)) in
            subst (λ (n : ℕ). AccountBy first older (given ++ cond (j == n) (listed s.element) []) (told_both told (cond (j == n) (told_gift s.id) nothing_told)) s.element s.id (end_at (gives j s) n)) (sym same)
            (rw (same_number j, get_or-set_same s.ends j gone no_end here) gave)
        | inr other ↦ rw (other_number j k other, get_or-set_other s.ends j k gone no_end other) (stays_account so)
      ]

put_step : {first : ℕ} {pending : Bool} (s : SpreadState) → SpreadLaw first pending None s → is_spread_free s ≡ true → (value : Value)
    → (k : ℕ) → k < length s.ends → {older given : List Value} {told : Told} → AccountBy first older given told s.element s.id (end_at s k)
    → AccountBy first (older ++ listed s.element) (given ++ []) (told_both told nothing_told) (Some value) (s.id + 1) (end_at (puts value s) k)
put_step s law free value k here so =
    let nobody = kept.free_is s free in
    rw (end_mapped value s.ends k here)
    (stays_account (put_account (end_at s k) value (law.each k here) (none_there owes_it s.ends k here nobody.none_owes) so))

step_account : (first : ℕ) (call : Call) (c : Course) → IsAllowed call c → SpreadLaw first c.pending c.stopped c.spread
    → (k : ℕ) → k < length c.spread.ends → {older given : List Value} {told : Told} → AccountBy first older given told c.spread.element c.spread.id (end_at c.spread k)
    → AccountBy first (older_by call c older) (given ++ given_by k call c) (told_both told (told_by k call c)) (after call c).spread.element (after call c).spread.id
    (end_at (after call c).spread k)
step_account first (Call.put value) c may law k here so = put_step c.spread (rw may.0 at law) may.1 value k here so
step_account first (Call.prepare j) c may law k here so =
    quiet_account c.spread law j may k so (record (end_at c.spread j) { share = c.spread.element }) refl (λ is. is) refl
step_account first (Call.offer j) c may law k here so =
    quiet_account c.spread law j may.1 k so
    (moved (record (link_at c.spread j) { stage = Out c.spread.id }) (end_at c.spread j).owes (end_at c.spread j)) refl (λ is. absurd (cc)) refl
step_account first (Call.look j phase) c may law k here so = look_account c.spread law j may.0 k so phase
step_account first (Call.give j) c may law k here so = give_account c.spread law j may.0 k so may.1
step_account first (Call.hold j) c may law k here so =
    quiet_account c.spread law j may.0 k so
    (moved (record (link_at c.spread j) { stage = Reserved (asked_id (stage_at c.spread j)) }) (end_at c.spread j).owes (end_at c.spread j)) refl
    (λ is. absurd (cc)) refl
step_account first (Call.withdraw j) c may law k here so =
    quiet_account c.spread law j may.0 k so
    (moved (record (link_at c.spread j) { declined = asked_id (stage_at c.spread j); stage = Free }) (end_at c.spread j).owes (end_at c.spread j)) refl
    (λ is. absurd (cc)) refl
step_account first (Call.«end» j how) c may law k here so =
    quiet_account c.spread law j may.0 k so
    (moved (record (link_at c.spread j) { stage = Ended how }) (end_at c.spread j).owes (end_at c.spread j)) refl (λ is. absurd (cc)) refl
step_account first (Call.answer j header answer) c may law k here so = answer_account c.spread law j may.0 k so header answer may.1
step_account first Call.fault c may law k here so = stays_account so
step_account first (Call.stop outcome) c may law k here so = stays_account so

-- All calls

-- what is known of a link after some calls
record Known (first : ℕ) (elements given : List Value) (told : Told) (k : ℕ) (c : Course) : Type 0 where
  pub older : List Value
  pub newest : older ++ listed c.spread.element ≡ elements
  pub so : AccountBy first older given told c.spread.element c.spread.id (end_at c.spread k)
  pub law : SpreadLaw first c.pending c.stopped c.spread
  pub there : k < length c.spread.ends

told_assoc : (a b d : Told) → told_both (told_both a b) d ≡ told_both a (told_both b d)
told_assoc a b d =
    ap (λ (l : List ℕ). record { gave = l; put_off = (a.put_off ++ b.put_off) ++ d.put_off; refused = (a.refused ++ b.refused) ++ d.refused }) (append_assoc a.gave b.gave d.gave)
    ∙ ap (λ (l : List ℕ). record { gave = a.gave ++ (b.gave ++ d.gave); put_off = l; refused = (a.refused ++ b.refused) ++ d.refused }) (append_assoc a.put_off b.put_off d.put_off)
    ∙ ap (λ (l : List ℕ). record { gave = a.gave ++ (b.gave ++ d.gave); put_off = a.put_off ++ (b.put_off ++ d.put_off); refused = l }) (append_assoc a.refused b.refused d.refused)

known_after : (first : ℕ) (calls : List Call) (c : Course) (k : ℕ) (elements given : List Value) (told : Told) → AllAllowed calls c
    → Known first elements given told k c
    → Known first (elements ++ put_in calls) (given ++ given_in k calls c) (told_both told (told_in k calls c)) k (after_all calls c)
known_after first [] c k elements given told may known = record {
  older = known.older;
  newest = known.newest ∙ sym (append-nil elements);
  so = stays_account known.so;
  law = known.law;
  there = known.there;
}
known_after first (call ∷ calls) c k elements given told may known =
    let step : Known first (elements ++ put_by call) (given ++ given_by k call c) (told_both told (told_by k call c)) k (after call c) = record {
      older = older_by call c known.older;
      newest = one_put call c known.older ∙ ap (λ (vs : List Value). vs ++ put_by call) known.newest;
      so = step_account first call c may.0 known.law k known.there known.so;
      law = law_after first call c may.0 known.law;
      there = rw (same_count call c) known.there;
    } in
    let rest = known_after first calls (after call c) k (elements ++ put_by call) (given ++ given_by k call c) (told_both told (told_by k call c)) may.1 step in
    subst (λ (t : Told). Known first (elements ++ (put_by call ++ put_in calls)) (given ++ (given_by k call c ++ given_in k calls (after call c))) t k (after_all calls (after call c)))
    (told_assoc told (told_by k call c) (told_in k calls (after call c)))
    (rw (sym (append_assoc elements (put_by call) (put_in calls)), sym (append_assoc given (given_by k call c) (given_in k calls (after call c)))) rest)

within_count : (max : Option ℕ) (count given : ℕ) → IsWithin max count → ForSome max (λ _. count ≡ given) → IsWithin max given
within_count None count given within same = tt
within_count (Some m) count given within same = let is : count ≡ given = same m refl in omega (arith, within, is)

pub has_accounts : (once pending : Bool) (rules : List LinkRule) (first : ℕ) → 1 ≤ first → first ≤ 2 ^ 59
    → (calls : List Call) → AllAllowed calls (fresh_course once pending rules first) → (k : ℕ) → k < length rules
    → LinkAccounts first (given_in k calls (fresh_course once pending rules first)) (put_in calls)
    (told_in k calls (fresh_course once pending rules first)) k (after_all calls (fresh_course once pending rules first)).spread
has_accounts once pending rules first low high calls may k here =
    let c = fresh_course once pending rules first in
    let law : SpreadLaw first pending None (fresh_spread once rules first) = calls_keep_law.fresh pending once None rules first low high in
    let there : k < length (map fresh_end rules) = omega (arith, here, length-map rules fresh_end) in
    let start : Known first [] [] nothing_told k c = record {
      older = [];
      newest = refl;
      so = each_fresh rules (λ (end : CopyEnd). AccountBy first [] [] nothing_told None (first - 1) end) (λ rule. fresh_account rule) k there;
      law = law;
      there = there;
    } in
    accounts (known_after first calls c k [] [] nothing_told may start)
  where
    fresh_account : (rule : LinkRule) → AccountBy first [] [] nothing_told None (first - 1) (fresh_end rule)
    fresh_account rule = record {
      numbered = omega (arith, low);
      late = refl;
      as_many = refl;
      counts = λ m e. refl;
      given_are = refl;
      admitted = refl;
      refused = λ is. absurd (cc);
      each = refl;
    }

    accounts : {elements given : List Value} {told : Told} {k : ℕ} {c : Course} → Known first elements given told k c → LinkAccounts first given elements told k c.spread
    accounts {elements} {given} {told} {k} {c} known =
        let s = c.spread in
        let law = known.law.each k known.there in
        record {
          older = known.older;
          newest = known.newest;
          numbered = known.so.numbered ∙ ap (λ (vs : List Value). first + length vs) known.newest;
          given_are = known.so.given_are ∙ ap (those_among told.gave first) known.newest;
          owed = λ owes.
              let fresh : (link_at s k).last < s.id = OnTrue_at (or_second (speaks (stage_at s k)) (end_at s k).owes owes) law.fresh in
              not_among told.gave (link_at s k).last s.id fresh known.so.late;
          admitted = known.so.admitted;
          within = within_count (link_at s k).rule.max (link_at s k).given (length given) law.within known.so.counts;
          each = known.so.each;
        }
