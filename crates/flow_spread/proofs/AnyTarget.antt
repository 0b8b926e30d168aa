-- Whatever targets answer, each link has its accounts. A call that may be made may also be made over links of which no answer is
-- asked, and does there the same.
use Rattle.std.proofs.Common.{◌≡◌, ℕ, ◌+◌, ◌^◌, ◌<◌, ◌≤◌, ◌==◌, ◌&&◌, not, cond, Bool, true, false, List, [], ◌∷◌, ◌++◌, length, map, set, Some, None, is_some, refl, sym, ◌∙◌, ap, ap₂, subst, arith}
use Rattle.std.proofs.lemmas.Bool.{OnTrue_from}
use Rattle.std.proofs.lemmas.List.{length-map, map-set}
use Rattle.std.proofs.Math.ListN.{get_or-map}
use Rattle.flow_value.specs.When.{admits}
use Rattle.flow_value.specs.declared.value.Value.{Value}
use Rattle.flow_link.specs.Lists.{every}
use Rattle.flow_link.specs.LinkOk.{IsWithin}
use Rattle.flow_link.specs.Stage.{source_looks}
use Rattle.flow_link.specs.declared.stage.SourceStage.{SourceStage}
use Rattle.flow_link.specs.declared.stage.SourceStage.TheVariants.{Free, Out, Reserved, Ended}
use Rattle.flow_outlet.specs.End.{is_free, is_waiting}
use Rattle.flow_outlet.specs.History.{listed}
use Rattle.flow_outlet.specs.Law.{is_put_off}
use Rattle.flow_outlet.specs.Outlet.{given_end, end_of}
use Rattle.flow_outlet.specs.declared.ends.LinkRule.{LinkRule}
use Rattle.flow_spread.specs.declared.end.CopyEnd.{CopyEnd}
use Rattle.flow_spread.specs.Accounts.{Told, nothing_told, told_both, told_look, told_by, told_in, has_account, every_from, LinkAccounts, IsMade, AllMade, EachLinkHasItsAccounts}
use Rattle.flow_spread.specs.ByLink.{answered_link, still_owes}
use Rattle.flow_spread.specs.Copied.{Call, Course, after, IsAllowed, after_all, AllAllowed, given_by, put_in, given_in, fresh_course}
use Rattle.flow_spread.specs.End.{no_end, fresh_end, moved, is_answer, is_open, takes_up, count_of, owes_it, is_away_at, is_busy_at}
use Rattle.flow_spread.specs.Law.{MayPutOff}
use Rattle.flow_spread.specs.Spread.{SpreadState, end_at, link_at, stage_at, changes, is_wanted, is_asked_by, asked_id}
use Rattle.flow_spread.proofs.ElementsAccounted.{has_accounts}

-- a link of which no answer is asked: its target may put off what it likes
abbrev freed_rule : LinkRule → LinkRule
freed_rule rule = record rule { steady = false; sole = false }

abbrev freed_end : CopyEnd → CopyEnd
freed_end end = record end { link = record end.link { rule = freed_rule end.link.rule } }

abbrev freed : SpreadState → SpreadState
freed s = record s { ends = map freed_end s.ends }

abbrev freed_course : Course → Course
freed_course c = record c { spread = freed c.spread }

end_freed : (s : SpreadState) (k : ℕ) → end_at (freed s) k ≡ freed_end (end_at s k)
end_freed s k = get_or-map freed_end s.ends k no_end

count_freed : (s : SpreadState) → length (freed s).ends ≡ length s.ends
count_freed s = length-map s.ends freed_end

may_put_off : (s : SpreadState) (k : ℕ) → MayPutOff (link_at (freed s) k)
may_put_off s k = subst (λ (end : CopyEnd). MayPutOff end.link) (sym (end_freed s k)) may
  where
    may : MayPutOff (freed_end (end_at s k)).link
    may = record { unsteady = refl; late = λ sole. absurd (cc) }

-- one end changes in the same way
changed : (f : CopyEnd → CopyEnd) → ((end : CopyEnd) → f (freed_end end) ≡ freed_end (f end)) → (k : ℕ) (s : SpreadState)
    → changes k (f (end_at (freed s) k)) (freed s) ≡ freed (changes k (f (end_at s k)) s)
changed f same k s =
    ap (λ (ends : List CopyEnd). record { ends = ends; element = s.element; id = s.id; once = s.once })
    (ap (λ (end : CopyEnd). set (map freed_end s.ends) k (f end)) (end_freed s k)
    ∙ ap (λ (end : CopyEnd). set (map freed_end s.ends) k end) (same (end_at s k))
    ∙ sym (map-set freed_end s.ends k (f (end_at s k))))

all_take_up : (value : Value) (ends : List CopyEnd) → map (takes_up value) (map freed_end ends) ≡ map freed_end (map (takes_up value) ends)
all_take_up value [] = refl
all_take_up value (end ∷ ends) = ap (λ (rest : List CopyEnd). freed_end (takes_up value end) ∷ rest) (all_take_up value ends)

counts_freed : (test : CopyEnd → Bool) → ((end : CopyEnd) → test (freed_end end) ≡ test end) → (ends : List CopyEnd)
    → count_of test (map freed_end ends) ≡ count_of test ends
counts_freed test same [] = refl
counts_freed test same (end ∷ ends) = ap₂ (λ (b : Bool) (n : ℕ). cond b 1 0 + n) (same end) (counts_freed test same ends)

owing_freed : (s : SpreadState) → count_of owes_it (freed s).ends ≡ count_of owes_it s.ends
owing_freed s = counts_freed owes_it (λ end. refl) s.ends

-- One call

spread_after : (call : Call) (c : Course) → (after call (freed_course c)).spread ≡ freed (after call c).spread
spread_after (Call.put value) c =
    ap (λ (ends : List CopyEnd). record { ends = ends; element = Some value; id = c.spread.id + 1; once = c.spread.once }) (all_take_up value c.spread.ends)
spread_after (Call.prepare k) c = changed (λ (end : CopyEnd). record end { share = c.spread.element }) (λ end. refl) k c.spread
spread_after (Call.offer k) c =
    changed (λ (end : CopyEnd). moved (record end.link { stage = Out c.spread.id }) end.owes end) (λ end. refl) k c.spread
spread_after (Call.look k phase) c =
    changed (λ (end : CopyEnd). moved (record end.link { stage = source_looks end.link.stage phase })
    (end.owes && not (is_answer c.spread.once (source_looks end.link.stage phase))) end) (λ end. refl) k c.spread
spread_after (Call.give k) c = changed (λ (end : CopyEnd). moved (given_end c.spread.id end.link) false end) (λ end. refl) k c.spread
spread_after (Call.hold k) c =
    changed (λ (end : CopyEnd). moved (record end.link { stage = Reserved (asked_id end.link.stage) }) end.owes end) (λ end. refl) k c.spread
spread_after (Call.withdraw k) c =
    changed (λ (end : CopyEnd). moved (record end.link { declined = asked_id end.link.stage; stage = Free }) end.owes end) (λ end. refl) k c.spread
spread_after (Call.«end» k how) c =
    changed (λ (end : CopyEnd). moved (record end.link { stage = Ended how }) end.owes end) (λ end. refl) k c.spread
spread_after (Call.answer k header answer) c =
    changed (λ (end : CopyEnd). moved (answered_link answer header end.link) (still_owes answer c.spread.once end.owes) end) (λ end. refl) k c.spread
spread_after Call.fault c = refl
spread_after (Call.stop outcome) c = refl

-- a spread that became this one
in_course : (c : Course) {new other : SpreadState} → new ≡ other → record c { spread = new } ≡ record c { spread = other }
in_course c same = ap (λ (s : SpreadState). record c { spread = s }) same

same_after : (call : Call) (c : Course) → after call (freed_course c) ≡ freed_course (after call c)
same_after (Call.put value) c = in_course c (spread_after (Call.put value) c)
same_after (Call.prepare k) c = in_course c (spread_after (Call.prepare k) c)
same_after (Call.offer k) c = in_course c (spread_after (Call.offer k) c)
same_after (Call.look k phase) c = in_course c (spread_after (Call.look k phase) c)
same_after (Call.give k) c = in_course c (spread_after (Call.give k) c)
same_after (Call.hold k) c = in_course c (spread_after (Call.hold k) c)
same_after (Call.withdraw k) c = in_course c (spread_after (Call.withdraw k) c)
same_after (Call.«end» k how) c = in_course c (spread_after (Call.«end» k how) c)
same_after (Call.answer k header answer) c = in_course c (spread_after (Call.answer k header answer) c)
same_after Call.fault c = refl
same_after (Call.stop outcome) c = refl

there : (c : Course) (k : ℕ) → k < length c.spread.ends → k < length (freed_course c).spread.ends
there c k l = let count = count_freed c.spread in omega (arith, l, count)

stage_freed : (s : SpreadState) (k : ℕ) → stage_at (freed s) k ≡ stage_at s k
stage_freed s k = ap (λ (end : CopyEnd). end.link.stage) (end_freed s k)

owes_freed : (s : SpreadState) (k : ℕ) → (end_at (freed s) k).owes ≡ (end_at s k).owes
owes_freed s k = ap (λ (end : CopyEnd). end.owes) (end_freed s k)

same_allowed : (call : Call) (c : Course) → IsMade call c → IsAllowed call (freed_course c)
same_allowed (Call.put value) c may = (
  may.0,
  ap₂ (λ (owing busy : ℕ). owing == 0 && busy == 0 && not (c.spread.once && is_some c.spread.element))
      (owing_freed c.spread) (counts_freed is_busy_at (λ end. refl) c.spread.ends) ∙ may.1,
  may.2,
)
same_allowed (Call.prepare k) c may = there c k may
same_allowed (Call.offer k) c may = (
  may.0,
  there c k may.1,
  ap (λ (end : CopyEnd). is_some c.spread.element && is_open c.spread.id end) (end_freed c.spread k) ∙ may.2,
  ap (λ (end : CopyEnd). end.share) (end_freed c.spread k) ∙ may.3,
)
same_allowed (Call.look k phase) c may =
    (there c k may, OnTrue_from (is_put_off (source_looks (stage_at (freed c.spread) k) phase)) _ (λ off. may_put_off c.spread k))
same_allowed (Call.give k) c may = (there c k may.0, ap (is_wanted c.spread.id) (stage_freed c.spread k) ∙ may.1)
same_allowed (Call.hold k) c may = (there c k may.0, ap is_asked_by (stage_freed c.spread k) ∙ may.1)
same_allowed (Call.withdraw k) c may = (
  there c k may.0,
  ap is_waiting (stage_freed c.spread k) ∙ may.1,
  λ owes. may.2 (sym (owes_freed c.spread k) ∙ owes),
)
same_allowed (Call.«end» k how) c may = (
  there c k may.0,
  ap is_free (stage_freed c.spread k) ∙ may.1,
  ap (λ (end : CopyEnd). end_of end.link c.stopped) (end_freed c.spread k) ∙ may.2,
)
same_allowed (Call.answer k header answer) c may =
    (there c k may.0, stage_freed c.spread k ∙ may.1, (λ late. may_put_off c.spread k), may.2)
same_allowed Call.fault c may = tt
same_allowed (Call.stop outcome) c may = (
  may.0,
  ap (λ (n : ℕ). n == 0) (counts_freed is_away_at (λ end. refl) c.spread.ends) ∙ may.1,
  λ done. ap (λ (n : ℕ). cond (n == 0) None c.spread.element) (owing_freed c.spread) ∙ may.2 done,
)

same_given : (k : ℕ) (call : Call) (c : Course) → given_by k call (freed_course c) ≡ given_by k call c
same_given k (Call.give j) c = refl
same_given k _ c = refl

same_told : (k : ℕ) (call : Call) (c : Course) → told_by k call (freed_course c) ≡ told_by k call c
same_told k (Call.look j phase) c =
    ap (λ (stage : SourceStage). cond (j == k) (told_look c.spread.id stage (source_looks stage phase)) nothing_told) (stage_freed c.spread j)
same_told k _ c = refl

-- All calls

all_allowed : (calls : List Call) (c : Course) → AllMade calls c → AllAllowed calls (freed_course c)
all_allowed [] c made = tt
all_allowed (call ∷ calls) c made = (
  same_allowed call c made.0,
  subst (λ (d : Course). AllAllowed calls d) (sym (same_after call c)) (all_allowed calls (after call c) made.1),
)

all_after : (calls : List Call) (c : Course) → after_all calls (freed_course c) ≡ freed_course (after_all calls c)
all_after [] c = refl
all_after (call ∷ calls) c = ap (after_all calls) (same_after call c) ∙ all_after calls (after call c)

all_given : (k : ℕ) (calls : List Call) (c : Course) → given_in k calls (freed_course c) ≡ given_in k calls c
all_given k [] c = refl
all_given k (call ∷ calls) c =
    ap₂ (λ (now later : List Value). now ++ later) (same_given k call c)
    (ap (given_in k calls) (same_after call c) ∙ all_given k calls (after call c))

all_told : (k : ℕ) (calls : List Call) (c : Course) → told_in k calls (freed_course c) ≡ told_in k calls c
all_told k [] c = refl
all_told k (call ∷ calls) c =
    ap₂ told_both (same_told k call c) (ap (told_in k calls) (same_after call c) ∙ all_told k calls (after call c))

-- what is known of a link of which no answer is asked
accounts_freed : {first : ℕ} {given elements : List Value} {told : Told} {k : ℕ} (s : SpreadState) → LinkAccounts first given elements told k (freed s)
    → LinkAccounts first given elements told k s
accounts_freed {first} {given} {elements} {told} {k} s has = record {
  older = has.older;
  newest = has.newest;
  numbered = has.numbered;
  given_are = has.given_are;
  owed = λ owes. has.owed (owes_freed s k ∙ owes);
  admitted = subst (λ (end : CopyEnd). every (admits end.link.rule.when) given ≡ true) (end_freed s k) has.admitted;
  within = subst (λ (end : CopyEnd). IsWithin end.link.rule.max (length given)) (end_freed s k) has.within;
  each = subst (λ (end : CopyEnd). every_from (has_account end.link.rule told) first (has.older ++ cond end.owes [] (listed s.element)) ≡ true)
      (end_freed s k) has.each;
}

fresh_freed : (rules : List LinkRule) → map fresh_end (map freed_rule rules) ≡ map freed_end (map fresh_end rules)
fresh_freed [] = refl
fresh_freed (rule ∷ rules) = ap (λ (rest : List CopyEnd). fresh_end (freed_rule rule) ∷ rest) (fresh_freed rules)

accounted : (once pending : Bool) (rules : List LinkRule) (first : ℕ) → 1 ≤ first → first ≤ 2 ^ 59
    → (calls : List Call) → AllMade calls (fresh_course once pending rules first) → (k : ℕ) → k < length rules
    → LinkAccounts first (given_in k calls (fresh_course once pending rules first)) (put_in calls)
    (told_in k calls (fresh_course once pending rules first)) k (after_all calls (fresh_course once pending rules first)).spread
accounted once pending rules first low high calls made k here =
    let c = fresh_course once pending rules first in
    let free = fresh_course once pending (map freed_rule rules) first in
    let same : free ≡ freed_course c =
    ap (λ (ends : List CopyEnd). record c { spread = record c.spread { ends = ends } }) (fresh_freed rules) in
    let near : k < length (map freed_rule rules) = (let count = length-map rules freed_rule in omega (arith, here, count)) in
    let may : AllAllowed calls free = subst (λ (d : Course). AllAllowed calls d) (sym same) (all_allowed calls c made) in
    let has = has_accounts once pending (map freed_rule rules) first low high calls may k near in
    let moved_has : LinkAccounts first (given_in k calls (freed_course c)) (put_in calls) (told_in k calls (freed_course c)) k (after_all calls (freed_course c)).spread =
    subst (λ (d : Course). LinkAccounts first (given_in k calls d) (put_in calls) (told_in k calls d) k (after_all calls d).spread) same has in
    let after_has : LinkAccounts first (given_in k calls (freed_course c)) (put_in calls) (told_in k calls (freed_course c)) k (freed (after_all calls c).spread) =
    subst (λ (d : Course). LinkAccounts first (given_in k calls (freed_course c)) (put_in calls) (told_in k calls (freed_course c)) k d.spread) (all_after calls c) moved_has in
    accounts_freed (after_all calls c).spread
    (subst (λ (given : List Value). LinkAccounts first given (put_in calls) (told_in k calls c) k (freed (after_all calls c).spread)) (all_given k calls c)
    (subst (λ (told : Told). LinkAccounts first (given_in k calls (freed_course c)) (put_in calls) told k (freed (after_all calls c).spread)) (all_told k calls c) after_has))

pub each_link_accounts : EachLinkHasItsAccounts
each_link_accounts = record { each = accounted }
