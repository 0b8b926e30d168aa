-- Each call keeps the law of a spread.
use Rattle.std.proofs.Common.{◌≡◌, ℕ, ◌+◌, ◌-◌, ◌^◌, ◌<◌, ◌≤◌, ◌==◌, ◌&&◌, not, zero, suc, Bool, true, false, cond, List, [], ◌∷◌, length, set, map, Option, Some, None, is_some, refl, ap, inl, inr, arith, ◌∙◌}
use Rattle.std.proofs.lemmas.Bool.{cases_eq, OnTrue_at, OnTrue_from, and_parts}
use Rattle.std.proofs.lemmas.Bool.Decides.{nat_tests}
use Rattle.std.proofs.lemmas.List.{length-set, length-map, get_or-set_same, get_or-set_other}
use Rattle.flow_value.specs.declared.value.Value.{Value}
use Rattle.flow_value.specs.declared.when.When.{When}
use Rattle.flow_link.specs.declared.trace.Outcome.{Outcome}
use Rattle.flow_link.specs.declared.trace.Outcome.TheVariants.{Done}
use Rattle.flow_outlet.specs.declared.ends.LinkRule.{LinkRule}
use Rattle.flow_outlet.specs.ByLink.{is_taken}
use Rattle.flow_outlet.specs.Outlet.{given_end}
use Rattle.flow_link.specs.declared.stage.SourceStage.{SourceStage}
use Rattle.flow_link.specs.declared.stage.SourceStage.TheVariants.{Free, Crossing, Waiting}
use Rattle.flow_outlet.specs.Law.{is_put_off, admits_head}
use Rattle.flow_link.specs.declared.phase.Phase.{Phase}
use Rattle.flow_link.specs.declared.phase.Phase.TheVariants.{Idle, Wanted, Asked, Postponed}
use Rattle.flow_link.specs.Stage.{source_looks}
use Rattle.std.specs.Bool.{OnTrue}
use Rattle.flow_spread.specs.ByLink.{is_there, gives_home, place_of, reserved}
use Rattle.flow_spread.specs.declared.end.CopyEnd.{CopyEnd}
use Rattle.flow_spread.specs.End.{end_in, no_end, fresh_end, moved, is_answer, takes_up, count_of, owes_it, is_away_at, is_busy_at}
use Rattle.flow_spread.specs.Spread.{SpreadState, end_at, link_at, stage_at, changes, fresh_spread, is_spread_free, is_at_rest, puts, left_of, looks, gives, may_give, is_wanted, is_asked_by, holds}
use Rattle.flow_spread.specs.Law.{SpreadLaw, CopyEndLaw, MayPutOff, speaks}
use Rattle.flow_spread.specs.Keeps.{CallsKeepLaw, IsGivenWell, LawTells}
use Rattle.flow_spread.proofs.CountsOfEnds.{none_there, count_same}
use Rattle.flow_spread.proofs.EndsOwe.{puts_each}
use Rattle.flow_spread.proofs.EndsKeepLaw.{prepares_each, looks_each, gives_each, holds_each, withdraws_each, ends_each, offers_each, answers_each, faults_each, stops_each, fresh_each}
use Rattle.flow_spread.proofs.StagesTell.{never_so, or_first, or_second, wanted_is, taken_is}

-- here and elsewhere is everywhere
pub each_set : (P : CopyEnd → Type 0) (ends : List CopyEnd) (k : ℕ) (end : CopyEnd) → k < length ends → P end
    → ((j : ℕ) → j < length ends → P (end_in ends j))
    → (j : ℕ) → j < length (set ends k end) → P (end_in (set ends k end) j)
each_set P ends k end here at_k elsewhere j l = elim (cases_eq j k) [
  | inl same ↦ rw (same, get_or-set_same ends k end no_end here) at_k
  | inr other ↦ rw (get_or-set_other ends k j end no_end other) (elsewhere j (omega (arith, l, length-set ends k end)))
]

-- the law stays where one end changes and keeps its own
pub one_changes : {first : ℕ} {pending : Bool} {stopped : Option Outcome} (s : SpreadState) → SpreadLaw first pending stopped s
    → (k : ℕ) → k < length s.ends → (end : CopyEnd) → CopyEndLaw s.element s.id s.once pending stopped end
    → SpreadLaw first pending stopped (changes k end s)
one_changes {pending} {stopped} s law k here end at_k = record {
  begins = law.begins;
  ids = law.ids;
  counted = law.counted;
  none_yet = law.none_yet;
  some_since = law.some_since;
  only_one = law.only_one;
  each = each_set (λ (e : CopyEnd). CopyEndLaw s.element s.id s.once pending stopped e) s.ends k end here at_k law.each;
}

-- and where all do
all_change : {first : ℕ} {pending pending' : Bool} {stopped stopped' : Option Outcome} (s : SpreadState)
    → SpreadLaw first pending stopped s
    → ((k : ℕ) → k < length s.ends → CopyEndLaw s.element s.id s.once pending' stopped' (end_at s k))
    → SpreadLaw first pending' stopped' s
all_change s law each = record {
  begins = law.begins;
  ids = law.ids;
  counted = law.counted;
  none_yet = law.none_yet;
  some_since = law.some_since;
  only_one = law.only_one;
  each = each;
}

-- A new element

pub record IsFree (s : SpreadState) : Type 0 where
  pub none_owes : count_of owes_it s.ends ≡ 0
  pub none_busy : count_of is_busy_at s.ends ≡ 0
  pub once_none : s.once ≡ true → s.element ≡ None

pub is_none : (element : Option Value) → is_some element ≡ false → element ≡ None
is_none None e = refl
is_none (Some value) e = cc

not_both : (once some : Bool) → not (once && some) ≡ true → once ≡ true → some ≡ false
not_both true true e o = cc
not_both true false e o = refl
not_both false some e o = cc

is_zero : (n : ℕ) → (n == 0) ≡ true → n ≡ 0
is_zero n e = grind (arith, nat_tests)

pub free_is : (s : SpreadState) → is_spread_free s ≡ true → IsFree s
free_is s e =
    let nobody = count_of owes_it s.ends == 0 && count_of is_busy_at s.ends == 0 in
    let all = and_parts nobody (not (s.once && is_some s.element)) e in
    let both = and_parts (count_of owes_it s.ends == 0) (count_of is_busy_at s.ends == 0) all.0 in
    record {
      none_owes = is_zero (count_of owes_it s.ends) both.0;
      none_busy = is_zero (count_of is_busy_at s.ends) both.1;
      once_none = λ o. is_none s.element (not_both s.once (is_some s.element) all.1 o);
    }

pub end_mapped : (value : Value) (ends : List CopyEnd) (k : ℕ) → k < length ends
    → end_in (map (takes_up value) ends) k ≡ takes_up value (end_in ends k)
end_mapped value [] k l = absurd (omega arith)
end_mapped value (end ∷ ends) zero l = refl
end_mapped value (end ∷ ends) (suc k) l = end_mapped value ends k (omega arith)

pub puts_keep : (first : ℕ) (pending : Bool) (s : SpreadState) → SpreadLaw first pending None s → (value : Value)
    → is_spread_free s ≡ true → s.id + 1 < 2 ^ 59 → SpreadLaw first pending None (puts value s)
puts_keep first pending s law value free fit =
    let is = free_is s free in
    record {
      begins = law.begins;
      ids = fit;
      counted = omega (arith, law.counted);
      none_yet = λ e. cc;
      some_since = λ e. omega (arith, law.counted);
      only_one = λ o. omega (arith, law.none_yet (is.once_none o));
      each = λ k l.
          let here : k < length s.ends = omega (arith, l, length-map s.ends (takes_up value)) in
          rw (end_mapped value s.ends k here) (puts_each (end_at s k) value (law.each k here) (none_there is_busy_at s.ends k here is.none_busy));
    }

-- A new spread

pub each_fresh : (rules : List LinkRule) (P : CopyEnd → Type 0) → ((rule : LinkRule) → P (fresh_end rule))
    → (k : ℕ) → k < length (map fresh_end rules) → P (end_in (map fresh_end rules) k)
each_fresh [] P f k l = absurd (omega arith)
each_fresh (rule ∷ rules) P f zero l = f rule
each_fresh (rule ∷ rules) P f (suc k) l = each_fresh rules P f k (omega arith)

pub fresh_keeps : (pending once : Bool) (stopped : Option Outcome) (rules : List LinkRule) (first : ℕ) → 1 ≤ first → first ≤ 2 ^ 59
    → SpreadLaw first pending stopped (fresh_spread once rules first)
fresh_keeps pending once stopped rules first low high = record {
  begins = low;
  ids = omega arith;
  counted = omega arith;
  none_yet = λ e. omega arith;
  some_since = λ e. cc;
  only_one = λ o. omega arith;
  each = each_fresh rules (λ (end : CopyEnd). CopyEndLaw None (first - 1) once pending stopped end)
      (λ rule. fresh_each rule (first - 1) once pending stopped);
}

-- What is left

none_where : (none : Bool) (element : Option Value) → is_some element ≡ true → cond none None element ≡ None → none ≡ true
none_where true element some e = refl
none_where false None some e = cc
none_where false (Some value) some e = cc

pub admits_some : (when : When) (element : Option Value) → admits_head when element ≡ true → is_some element ≡ true
admits_some when None e = cc
admits_some when (Some value) e = refl

nobody_owes : (owes : Bool) → (owes ≡ true → ⊥) → owes ≡ false
nobody_owes true f = absurd (f refl)
nobody_owes false f = refl

count_none : (ends : List CopyEnd) → ((k : ℕ) → k < length ends → (end_in ends k).owes ≡ false) → count_of owes_it ends ≡ 0
count_none [] none = refl
count_none (end ∷ ends) none = rw (none 0 (omega arith), count_none ends (λ k l. none (suc k) (omega arith))) refl

-- where nothing is left, nobody owes
pub none_left_owes : {first : ℕ} {pending : Bool} {stopped : Option Outcome} (s : SpreadState) → SpreadLaw first pending stopped s
    → left_of s ≡ None → (k : ℕ) → k < length s.ends → (end_at s k).owes ≡ false
none_left_owes s law none k here = nobody_owes (end_at s k).owes (λ owes.
    let some : is_some s.element ≡ true =
    admits_some (link_at s k).rule.when s.element (OnTrue_at (or_second (speaks (link_at s k).stage) (end_at s k).owes owes) (law.each k here).admitted) in
    let zero = none_where (count_of owes_it s.ends == 0) s.element some none in
    never_so (end_at s k).owes owes (none_there owes_it s.ends k here (is_zero (count_of owes_it s.ends) zero)))

pub stops_keep : (first : ℕ) (pending : Bool) (outcome : Outcome) (s : SpreadState) → SpreadLaw first pending None s
    → is_at_rest s ≡ true → (outcome ≡ Done → left_of s ≡ None) → SpreadLaw first pending (Some outcome) s
stops_keep first pending outcome s law rest done = all_change s law
    (λ k l. stops_each (end_at s k) outcome (law.each k l)
    (none_there is_away_at s.ends k l (is_zero (count_of is_away_at s.ends) rest))
    (λ e. none_left_owes s law (done e) k l))

looks_keep : {first : ℕ} {pending : Bool} {stopped : Option Outcome} (s : SpreadState) → SpreadLaw first pending stopped s → (k : ℕ)
    → k < length s.ends → (phase : Phase) → OnTrue (is_put_off (source_looks (stage_at s k) phase)) (MayPutOff (link_at s k))
    → SpreadLaw first pending stopped (looks k phase s)
looks_keep s law k here phase off = one_changes s law k here _ (looks_each (end_at s k) (law.each k here) phase off)

gives_keep : {first : ℕ} {pending : Bool} {stopped : Option Outcome} (s : SpreadState) → SpreadLaw first pending stopped s → (k : ℕ)
    → k < length s.ends → may_give k s ≡ true → SpreadLaw first pending stopped (gives k s)
gives_keep s law k here wanted = one_changes s law k here _ (gives_each (end_at s k) (law.each k here) wanted)

look_stage : (s : SpreadState) (k : ℕ) (phase : Phase) → k < length s.ends
    → stage_at (looks k phase s) k ≡ source_looks (stage_at s k) phase
look_stage s k phase here =
    let stage = source_looks (stage_at s k) phase in
    ap (λ (end : CopyEnd). end.link.stage)
    (get_or-set_same s.ends k (moved (record (link_at s k) { stage = stage }) ((end_at s k).owes && not (is_answer s.once stage)) (end_at s k)) no_end here)

give_stage : (s : SpreadState) (k : ℕ) → k < length s.ends → stage_at (gives k s) k ≡ Crossing
give_stage s k here =
    ap (λ (end : CopyEnd). end.link.stage)
    (get_or-set_same s.ends k (moved (given_end s.id (link_at s k)) false (end_at s k)) no_end here)

look_count : (s : SpreadState) (k : ℕ) (phase : Phase) → length (looks k phase s).ends ≡ length s.ends
look_count s k phase = length-set s.ends k _

give_count : (s : SpreadState) (k : ℕ) → length (gives k s).ends ≡ length s.ends
give_count s k = length-set s.ends k _

-- the source finds the message wanted, gives it, and finds it home
home_keeps : {first : ℕ} {pending : Bool} {stopped : Option Outcome} (s : SpreadState) → SpreadLaw first pending stopped s → (k header : ℕ)
    → k < length s.ends → is_taken s.id false (stage_at s k) ≡ true → SpreadLaw first pending stopped (gives_home k header s)
home_keeps s law k header here taken =
    let is = taken_is s.id header (stage_at s k) taken in
    let seen = looks k (Wanted header) s in
    let seen_law = looks_keep s law k here (Wanted header)
    (OnTrue_from (is_put_off (source_looks (stage_at s k) (Wanted header))) _ (λ o. OnTrue_at (is.off o) (law.each k here).put_off)) in
    let there : k < length seen.ends = rw (look_count s k (Wanted header)) here in
    let wanted : may_give k seen ≡ true = ap (is_wanted s.id) (look_stage s k (Wanted header) here) ∙ is.wanted in
    let gave = gives k seen in
    let gave_law = gives_keep seen seen_law k there wanted in
    let still : k < length gave.ends = rw (give_count seen k) there in
    let free : source_looks (stage_at gave k) Idle ≡ Free = ap (λ (stage : SourceStage). source_looks stage Idle) (give_stage seen k there) in
    looks_keep gave gave_law k still Idle
    (OnTrue_from (is_put_off (source_looks (stage_at gave k) Idle)) _ (λ o. never_so (is_put_off (source_looks (stage_at gave k) Idle)) o (ap is_put_off free)))

consumed_or_not : {first : ℕ} {pending : Bool} {stopped : Option Outcome} (s : SpreadState) → SpreadLaw first pending stopped s
    → (k header : ℕ) → k < length s.ends → (there : Bool) → is_there k header s ≡ there
    → SpreadLaw first pending stopped (cond there (gives_home k header s) s)
consumed_or_not s law k header here true e =
    home_keeps s law k header here (and_parts (header == s.id) (is_taken s.id false (stage_at s k)) e).1
consumed_or_not s law k header here false e = law

reserved_or_not : {first : ℕ} {pending : Bool} {stopped : Option Outcome} (s : SpreadState) → SpreadLaw first pending stopped s
    → (k header : ℕ) → k < length s.ends → stage_at s k ≡ Waiting header → (b : Bool)
    → SpreadLaw first pending stopped (cond b (holds k (looks k (Asked header) s)) s)
reserved_or_not s law k header here waits false = law
reserved_or_not s law k header here waits true =
    let seen = looks k (Asked header) s in
    let seen_law = looks_keep s law k here (Asked header)
    (OnTrue_from (is_put_off (source_looks (stage_at s k) (Asked header))) _ (λ o. OnTrue_at (ap is_put_off waits) (law.each k here).put_off)) in
    let there : k < length seen.ends = rw (look_count s k (Asked header)) here in
    let asks : is_asked_by (stage_at seen k) ≡ true =
    ap is_asked_by (look_stage s k (Asked header) here ∙ ap (λ (stage : SourceStage). source_looks stage (Asked header)) waits) in
    one_changes seen seen_law k there _ (holds_each (end_at seen k) (seen_law.each k there) asks)

pub calls_keep_law : CallsKeepLaw
calls_keep_law = record {
  fresh = fresh_keeps;
  put = puts_keep;
  prepare = λ first pending stopped s law k here.
      one_changes s law k here (record (end_at s k) { share = s.element }) (prepares_each (end_at s k) (law.each k here));
  offer = λ first pending s law k here may ready. one_changes s law k here _ (offers_each (end_at s k) (law.each k here) may ready);
  look = λ first pending stopped s law k here phase off. one_changes s law k here _ (looks_each (end_at s k) (law.each k here) phase off);
  give = λ first pending stopped s law k here wanted. one_changes s law k here _ (gives_each (end_at s k) (law.each k here) wanted);
  reserve = λ first pending stopped s law link header may.
      reserved_or_not s law (place_of link s.ends) header may.known may.waits (reserved header s);
  release = λ first pending stopped s law link header kept.
      looks_keep s law (place_of link s.ends) kept.known (Postponed header)
      (OnTrue_from (is_put_off (source_looks (stage_at s (place_of link s.ends)) (Postponed header))) _
      (λ o. OnTrue_at (ap is_put_off kept.kept) (law.each (place_of link s.ends) kept.known).put_off));
  hold = λ first pending stopped s law k here asked. one_changes s law k here _ (holds_each (end_at s k) (law.each k here) asked);
  withdraw = λ first pending stopped s law k here wait up. one_changes s law k here _ (withdraws_each (end_at s k) (law.each k here) wait up);
  ends = λ first pending stopped s law k here how free by. one_changes s law k here _ (ends_each (end_at s k) (law.each k here) how free by);
  answer = λ first stopped s law k header here answer is late.
      one_changes s law k here _ (answers_each (end_at s k) (law.each k here) header is answer late);
  consume = λ first pending stopped s law link header here.
      consumed_or_not s law (place_of link s.ends) header here (is_there (place_of link s.ends) header s) refl;
  fault = λ first stopped s law. all_change s law (λ k l. faults_each (end_at s k) (law.each k l));
  stop = stops_keep;
}

given_well : {first : ℕ} {pending : Bool} {stopped : Option Outcome} (s : SpreadState) → SpreadLaw first pending stopped s
    → (k : ℕ) → k < length s.ends → may_give k s ≡ true → IsGivenWell s k
given_well s law k here may =
    let old = law.each k here in
    let spoken = (wanted_is s.id (link_at s k).stage may).speaks in
    let concerned = or_first (speaks (link_at s k).stage) (end_at s k).owes spoken in
    let admitted = OnTrue_at concerned old.admitted in
    record {
      ready = OnTrue_at spoken old.ready;
      is_element = admits_some (link_at s k).rule.when s.element admitted;
      admitted = admitted;
      new = OnTrue_at concerned old.fresh;
      room = OnTrue_at concerned old.room;
    }

pub law_tells : LawTells
law_tells = record {
  given = λ first pending stopped s law k here may. given_well s law k here may;
  left_stays = λ first pending stopped s law k here how.
      ap (λ (n : ℕ). cond (n == 0) None s.element) (count_same owes_it s.ends k _ here refl);
  served_once = λ first pending stopped s law k here once none admits.
      rw (none_left_owes s law none k here) at (law.each k here).once_owes once admits;
  done = λ first pending s law. rw (count_none s.ends (λ k l. (law.each k l).served refl)) refl;
}
