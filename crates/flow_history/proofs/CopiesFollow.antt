-- What a call of a block by the name of a link is to the block's copies: a list of their own calls, and what that gives and tells.
use Rattle.std.proofs.Common.{◌≡◌, ℕ, zero, suc, ◌+◌, ◌<◌, ◌^◌, ◌==◌, ltb, Bool, true, false, not, ◌&&◌, ◌||◌, cond, is_some, List, [], ◌∷◌, ◌++◌, length, map, set, get_or, position, Option, Some, None, unwrap_or, refl, ap, ap₂, sym, subst, ◌∙◌, arith, append-nil, append_assoc, eqb-true, eq-eqb, ne_eqb}
use Rattle.std.proofs.lemmas.Bool.{and_parts, ltb-true}
use Rattle.std.proofs.lemmas.List.{length-map, length-set, get_or-set_same}
use Rattle.std.proofs.lemmas.List.Quantifiers.{position-Some}
use Rattle.std.proofs.Math.ListN.{get_or-map}
use Rattle.std.proofs.Math.Seq.{map-set_same}
use Rattle.flow_value.specs.declared.value.Value.{Value}
use Rattle.flow_value.specs.declared.message.MessageStatus.{MessageStatus}
use Rattle.flow_link.specs.declared.phase.Phase.TheVariants.{Idle, Wanted, Asked, Postponed}
use Rattle.flow_link.specs.declared.stage.SourceStage.{SourceStage}
use Rattle.flow_link.specs.declared.stage.SourceStage.TheVariants as source
use Rattle.flow_link.specs.Stage.{source_looks}
use Rattle.flow_outlet.specs.ByLink.{is_taken}
use Rattle.flow_outlet.specs.History.{listed}
use Rattle.flow_outlet.specs.Outlet.{given_end}
use Rattle.flow_spread.specs.declared.end.CopyEnd.{CopyEnd}
use Rattle.flow_spread.specs.End.{end_in, no_end, takes_up, is_answer, moved}
use Rattle.flow_spread.specs.ByLink.{place_of, answered as copy_answered, answered_link, still_owes, is_there, tests_take, tests_consume, gives_home, reserves, releases}
use Rattle.flow_spread.specs.Accounts.{Told, nothing_told, told_both, told_gift, told_answer, told_look, told_in, AllMade}
use Rattle.flow_spread.specs.Accounts.{told_by as told_by_copies}
use Rattle.flow_spread.specs.Copied as copied
use Rattle.flow_spread.specs.Spread.{SpreadState, end_at, link_at, stage_at, next_place, is_spread_free, puts, prepares, offers, looks, is_wanted, may_give, gives, changes, asked_id, is_asked_by, holds}
use Rattle.flow_spread.proofs.NextOffer.{next_is, prepared_may}
use Rattle.flow_block.specs.Traits.{copy_over, may_take_copy, may_keep_copy}
use Rattle.flow_block.proofs.CopyKept.{looked_end as copy_looked, may_reserve, kept_so, is_reserved}
use Rattle.flow_block.proofs.CopyStands.{is_asked}
use Rattle.flow_link.proofs.PlacesNamed.{place_set, place_map}
use Rattle.flow_history.specs.Copied.{link_id, NamesItself}
use Rattle.flow_history.specs.History.{Gift, given_over, gifts_of}

-- Lists of the spread's own calls

pub after_both : (first then_on : List copied.Call) (c : copied.Course)
    → copied.after_all (first ++ then_on) c ≡ copied.after_all then_on (copied.after_all first c)
after_both [] then_on c = refl
after_both (call ∷ first) then_on c = after_both first then_on (copied.after call c)

pub made_both : (first then_on : List copied.Call) (c : copied.Course) → AllMade first c → AllMade then_on (copied.after_all first c)
    → AllMade (first ++ then_on) c
made_both [] then_on c one other = other
made_both (call ∷ first) then_on c one other = (one.0, made_both first then_on (copied.after call c) one.1 other)

pub put_both : (first then_on : List copied.Call) → copied.put_in (first ++ then_on) ≡ copied.put_in first ++ copied.put_in then_on
put_both [] then_on = refl
put_both (call ∷ first) then_on =
    ap (λ (values : List Value). copied.put_by call ++ values) (put_both first then_on)
    ∙ sym (append_assoc (copied.put_by call) (copied.put_in first) (copied.put_in then_on))

pub given_both : (k : ℕ) (first then_on : List copied.Call) (c : copied.Course)
    → copied.given_in k (first ++ then_on) c ≡ copied.given_in k first c ++ copied.given_in k then_on (copied.after_all first c)
given_both k [] then_on c = refl
given_both k (call ∷ first) then_on c =
    ap (λ (values : List Value). copied.given_by k call c ++ values) (given_both k first then_on (copied.after call c))
    ∙ sym (append_assoc (copied.given_by k call c) (copied.given_in k first (copied.after call c))
    (copied.given_in k then_on (copied.after_all first (copied.after call c))))

-- what is told by one list of calls and then by another
pub told_assoc : (a b d : Told) → told_both (told_both a b) d ≡ told_both a (told_both b d)
told_assoc a b d =
    ap (λ (l : List ℕ). record { gave = l; put_off = (a.put_off ++ b.put_off) ++ d.put_off; refused = (a.refused ++ b.refused) ++ d.refused })
    (append_assoc a.gave b.gave d.gave)
    ∙ ap (λ (l : List ℕ). record { gave = a.gave ++ (b.gave ++ d.gave); put_off = l; refused = (a.refused ++ b.refused) ++ d.refused })
    (append_assoc a.put_off b.put_off d.put_off)
    ∙ ap (λ (l : List ℕ). record { gave = a.gave ++ (b.gave ++ d.gave); put_off = a.put_off ++ (b.put_off ++ d.put_off); refused = l })
    (append_assoc a.refused b.refused d.refused)

pub told_no_more : (told : Told) → told_both told nothing_told ≡ told
told_no_more told =
    ap (λ (l : List ℕ). record { gave = l; put_off = told.put_off ++ []; refused = told.refused ++ [] }) (append-nil told.gave)
    ∙ ap (λ (l : List ℕ). record { gave = told.gave; put_off = l; refused = told.refused ++ [] }) (append-nil told.put_off)
    ∙ ap (λ (l : List ℕ). record { gave = told.gave; put_off = told.put_off; refused = l }) (append-nil told.refused)

pub told_all_both : (k : ℕ) (first then_on : List copied.Call) (c : copied.Course)
    → told_in k (first ++ then_on) c ≡ told_both (told_in k first c) (told_in k then_on (copied.after_all first c))
told_all_both k [] then_on c = refl
told_all_both k (call ∷ first) then_on c =
    ap (told_both (told_by_copies k call c)) (told_all_both k first then_on (copied.after call c))
    ∙ sym (told_assoc (told_by_copies k call c) (told_in k first (copied.after call c)) (told_in k then_on (copied.after_all first (copied.after call c))))

-- Links that stay where they are

pub record SameLinks (old new : SpreadState) : Type 0 where
  pub count : length new.ends ≡ length old.ends
  pub ids : (k : ℕ) → link_id new k ≡ link_id old k
  pub places : (link : ℕ) → place_of link new.ends ≡ place_of link old.ends

pub links_same : (s : SpreadState) → SameLinks s s
links_same s = record { count = refl; ids = λ k. refl; places = λ link. refl }

pub links_both : (a b c : SpreadState) → SameLinks a b → SameLinks b c → SameLinks a c
links_both a b c first second = record {
  count = second.count ∙ first.count;
  ids = λ k. second.ids k ∙ first.ids k;
  places = λ link. second.places link ∙ first.places link;
}

abbrev pub id_of_end : CopyEnd → ℕ
id_of_end end = end.link.rule.id

pub links_change : (j : ℕ) (s : SpreadState) (end : CopyEnd) → end.link.rule.id ≡ (link_at s j).rule.id → SameLinks s (changes j end s)
links_change j s end same = record {
  count = length-set s.ends j end;
  ids = λ k.
      sym (get_or-map id_of_end (set s.ends j end) k no_end)
      ∙ ap (λ (ids : List ℕ). get_or ids k (id_of_end no_end)) (map-set_same id_of_end s.ends j end no_end same)
      ∙ get_or-map id_of_end s.ends k no_end;
  places = λ link.
      ap₂ unwrap_or
      (place_set (λ (e : CopyEnd). e.link.rule.id == link) s.ends j end no_end (ap (λ (id : ℕ). id == link) same)) (length-set s.ends j end);
}

pub links_put : (value : Value) (s : SpreadState) → SameLinks s (puts value s)
links_put value s = record {
  count = length-map s.ends (takes_up value);
  ids = λ k. ids_of s.ends k;
  places = λ link.
      ap₂ unwrap_or (place_map (λ (e : CopyEnd). e.link.rule.id == link) (takes_up value) (λ end. refl) s.ends)
      (length-map s.ends (takes_up value));
}
  where
    ids_of : (ends : List CopyEnd) (k : ℕ) → id_of_end (get_or (map (takes_up value) ends) k no_end) ≡ id_of_end (get_or ends k no_end)
    ids_of [] k = refl
    ids_of (end ∷ ends) zero = refl
    ids_of (end ∷ ends) (suc k) = ids_of ends k

-- What a block's call is to its copies

abbrev pub course : SpreadState → copied.Course
course s = record { spread = s; pending = true; stopped = None }

abbrev pub puts_of : List Value → List copied.Call
puts_of values = map copied.Call.put values

abbrev pub offers_of : Option ℕ → List copied.Call
offers_of None = []
offers_of (Some k) = copied.Call.prepare k ∷ copied.Call.offer k ∷ []

abbrev pub gives_of : (k header : ℕ) → Option Value → List copied.Call
gives_of k header None = []
gives_of k header (Some value) = copied.Call.look k (Wanted header) ∷ copied.Call.give k ∷ copied.Call.look k Idle ∷ []

abbrev pub keeps_of : (k header : ℕ) → List copied.Call
keeps_of k header = copied.Call.look k (Asked header) ∷ copied.Call.hold k ∷ []

abbrev pub releases_of : (k header : ℕ) → List copied.Call
releases_of k header = copied.Call.look k (Postponed header) ∷ []

pub record Follows (calls : List copied.Call) (old new : SpreadState) (values : List Value) (gifts : List Gift) (tells : ℕ → Told) : Type 0 where
  pub made : AllMade calls (course old)
  pub after : copied.after_all calls (course old) ≡ course new
  pub put : copied.put_in calls ≡ values
  pub given : (k : ℕ) → k < length old.ends → NamesItself old k → copied.given_in k calls (course old) ≡ given_over (link_id old k) gifts
  pub told : (k : ℕ) → k < length old.ends → NamesItself old k → told_in k calls (course old) ≡ tells (link_id old k)
  pub links : SameLinks old new

abbrev pub tells_nothing : ℕ → Told
tells_nothing link = nothing_told

pub nothing_follows : (s : SpreadState) → Follows [] s s [] [] tells_nothing
nothing_follows s = record { made = tt; after = refl; put = refl; given = λ k l own. refl; told = λ k l own. refl; links = links_same s }

-- an element is put
pub put_follows : (value : Value) (s : SpreadState) → is_spread_free s ≡ true → s.id + 1 < 2 ^ 59
    → Follows (puts_of (value ∷ [])) s (puts value s) (value ∷ []) [] tells_nothing
put_follows value s free ids = record {
  made = ((refl, free, ids), tt);
  after = refl;
  put = refl;
  given = λ k l own. refl;
  told = λ k l own. refl;
  links = links_put value s;
}

-- it is offered next
pub offer_follows : (s : SpreadState) (k : ℕ) → next_place s ≡ Some k → Follows (offers_of (Some k)) s (offers k (prepares k s)) [] [] tells_nothing
offer_follows s k is =
    let next = next_is s k is in
    let ready = record (end_at s k) { share = s.element } in
    let there : k < length (prepares k s).ends = (let l = next.there in omega (arith, l, length-set s.ends k ready)) in
    let share : (end_at (prepares k s) k).share ≡ s.element = ap (λ (end : CopyEnd). end.share) (get_or-set_same s.ends k ready no_end next.there) in
    record {
      made = (next.there, ((refl, there, prepared_may s k next.there next.may, share), tt));
      after = refl;
      put = refl;
      given = λ j l own. refl;
      told = λ j l own. refl;
      links = links_both s (prepares k s) (offers k (prepares k s)) (links_change k s ready refl)
          (links_change k (prepares k s) (moved (record (link_at (prepares k s) k) { stage = source.Out s.id }) (end_at (prepares k s) k).owes (end_at (prepares k s) k)) refl);
    }

-- the place of a link's end is the end's own
pub place_there : (link : ℕ) (ends : List CopyEnd) (place : Option ℕ) → position (λ (end : CopyEnd). end.link.rule.id == link) ends ≡ place
    → unwrap_or place (length ends) < length ends → (end_in ends (unwrap_or place (length ends))).link.rule.id ≡ link
place_there link ends (Some k) at l =
    eqb-true (end_in ends k).link.rule.id link (position-Some (λ (end : CopyEnd). end.link.rule.id == link) ends k no_end at).1
place_there link ends None at l = absurd (omega arith)

-- an end that its link names is at the place of a link exactly where it is that link's
pub same_place : (s : SpreadState) (link : ℕ) → place_of link s.ends < length s.ends → (k : ℕ) → NamesItself s k
    → (place_of link s.ends == k) ≡ (link == link_id s k)
same_place s link near k own = where_it_is (place_of link s.ends == k) refl
  where
    where_it_is : (here : Bool) → (place_of link s.ends == k) ≡ here → here ≡ (link == link_id s k)
    where_it_is true is =
        let mine : link_id s (place_of link s.ends) ≡ link = place_there link s.ends (position (λ (end : CopyEnd). end.link.rule.id == link) s.ends) refl near in
        let same : link ≡ link_id s k = sym mine ∙ ap (link_id s) (eqb-true (place_of link s.ends) k is) in
        sym (eq-eqb link (link_id s k) same)
    where_it_is false is =
        let apart : link ≡ link_id s k → ⊥ = λ same.
        let e : place_of link s.ends ≡ k = ap (λ (n : ℕ). place_of n s.ends) same ∙ own in
        let yes = eq-eqb (place_of link s.ends) k e in cc in
        sym (ne_eqb link (link_id s k) apart)

-- it is answered
pub answer_follows : (s : SpreadState) (link header : ℕ) (how : MessageStatus) → copy_over s link ≡ source.Out header
    → Follows (copied.Call.answer (place_of link s.ends) header how ∷ []) s (copy_answered how header (place_of link s.ends) s) [] []
    (λ id. cond (link == id) (told_answer header how) nothing_told)
answer_follows s link header how out =
    let asked = is_asked s link header out in
    let k = place_of link s.ends in
    record {
      made = ((asked.known, asked.unanswered, refl), tt);
      after = refl;
      put = refl;
      given = λ j l own. refl;
      told = λ j l own.
          told_no_more (cond (k == j) (told_answer header how) nothing_told)
          ∙ ap (λ (b : Bool). cond b (told_answer header how) nothing_told) (same_place s link asked.known j own);
      links = links_change k s (moved (answered_link how header (link_at s k)) (still_owes how s.once (end_at s k).owes) (end_at s k)) refl;
    }

-- it is given

-- where a copy is taken, a look finds it wanted, and tells nothing new
pub record IsWanted (id header : ℕ) (stage : SourceStage) : Type 0 where
  pub wanted : is_wanted id (source_looks stage (Wanted header)) ≡ true
  pub quiet : told_look id stage (source_looks stage (Wanted header)) ≡ nothing_told

pub wanted_where : (id header : ℕ) (stage : SourceStage) → is_taken id false stage ≡ true → IsWanted id header stage
wanted_where id header (source.Accepted i) taken = record { wanted = taken; quiet = refl }
wanted_where id header (source.Waiting i) taken = record { wanted = (and_parts (i == id) true taken).0; quiet = refl }
wanted_where id header (source.Wished i) taken = record { wanted = (and_parts (i == id) true taken).0; quiet = refl }
wanted_where id header (source.Reserved i) taken = record { wanted = taken; quiet = refl }
wanted_where id header _ taken = absurd (cc)

-- of three calls the second gives, and the others tell nothing
pub told_once : (here : Bool) (first then_on home : Told) (header : ℕ) → first ≡ nothing_told → then_on ≡ told_gift header → home ≡ nothing_told
    → told_both (cond here first nothing_told) (told_both (cond here then_on nothing_told) (told_both (cond here home nothing_told) nothing_told))
    ≡ cond here (told_gift header) nothing_told
told_once true first then_on home header one two three = rw (one, two, three) refl
told_once false first then_on home header one two three = refl

module _ (s : SpreadState) (link header : ℕ) (value : Value) (element : s.element ≡ Some value) (takes : may_take_copy link header s ≡ true) where
  abbrev at : ℕ
  at = place_of link s.ends

  tests : (tests_consume at header s ≡ true) × (is_there at header s ≡ true)
  tests =
      let both = and_parts (is_some s.element && tests_consume at header s) (is_there at header s) takes in
      ((and_parts (is_some s.element) (tests_consume at header s) both.0).1, both.1)

  near : at < length s.ends
  near = ltb-true at (length s.ends) (and_parts (ltb at (length s.ends)) (not (is_there at header s) || tests_take at s) tests.0).0

  is_newest : s.id ≡ header
  is_newest = sym (eqb-true header s.id (and_parts (header == s.id) (is_taken s.id false (stage_at s at)) tests.1).0)

  is_wanted_there : IsWanted s.id header (stage_at s at)
  is_wanted_there = wanted_where s.id header (stage_at s at) (and_parts (header == s.id) (is_taken s.id false (stage_at s at)) tests.1).1

  abbrev looked : SpreadState
  looked = looks at (Wanted header) s

  abbrev looked_end : CopyEnd
  looked_end =
      moved (record (link_at s at) { stage = source_looks (stage_at s at) (Wanted header) })
      ((end_at s at).owes && not (is_answer s.once (source_looks (stage_at s at) (Wanted header)))) (end_at s at)

  near_looked : at < length looked.ends
  near_looked = (let l = near in omega (arith, l, length-set s.ends at looked_end))

  may_give_it : may_give at looked ≡ true
  may_give_it =
      ap (λ (end : CopyEnd). is_wanted s.id end.link.stage) (get_or-set_same s.ends at looked_end no_end near) ∙ is_wanted_there.wanted

  abbrev gave : SpreadState
  gave = gives at looked

  abbrev gave_end : CopyEnd
  gave_end = moved (given_end looked.id (link_at looked at)) false (end_at looked at)

  near_gave : at < length gave.ends
  near_gave = (let l = near_looked in omega (arith, l, length-set looked.ends at gave_end))

  home_quiet : told_look s.id (stage_at gave at) (source_looks (stage_at gave at) Idle) ≡ nothing_told
  home_quiet =
      ap (λ (end : CopyEnd). told_look s.id end.link.stage (source_looks end.link.stage Idle)) (get_or-set_same looked.ends at gave_end no_end near_looked)

  abbrev home_end : CopyEnd
  home_end =
      moved (record (link_at gave at) { stage = source_looks (stage_at gave at) Idle })
      ((end_at gave at).owes && not (is_answer gave.once (source_looks (stage_at gave at) Idle))) (end_at gave at)

  pub gift_follows : Follows (gives_of at header (Some value)) s (gives_home at header s) [] (gifts_of link (Some value))
      (λ id. cond (link == id) (told_gift header) nothing_told)
  gift_follows = record {
    made = (near, ((near_looked, may_give_it), (near_gave, tt)));
    after = refl;
    put = refl;
    given = λ k l own.
        append-nil (cond (at == k) (listed s.element) [])
        ∙ ap (λ (e : Option Value). cond (at == k) (listed e) []) element
        ∙ ap (λ (b : Bool). cond b (value ∷ []) []) (same_place s link near k own);
    told = λ k l own.
        told_once (at == k) (told_look s.id (stage_at s at) (source_looks (stage_at s at) (Wanted header))) (told_gift s.id)
        (told_look s.id (stage_at gave at) (source_looks (stage_at gave at) Idle)) header is_wanted_there.quiet (ap told_gift is_newest) home_quiet
        ∙ ap (λ (b : Bool). cond b (told_gift header) nothing_told) (same_place s link near k own);
    links =
        links_both s gave (gives_home at header s)
        (links_both s looked gave (links_change at s looked_end refl) (links_change at looked gave_end refl))
        (links_change at gave home_end refl);
  }

-- it is kept, or given up: that tells nothing new

told_none : (here : Bool) (told : Told) → told ≡ nothing_told → told_both (cond here told nothing_told) nothing_told ≡ nothing_told
told_none true told none = rw none refl
told_none false told none = refl

pub keep_follows : (s : SpreadState) (link header : ℕ) → may_keep_copy link header s ≡ true
    → Follows (keeps_of (place_of link s.ends) header) s (reserves link header s) [] [] tells_nothing
keep_follows s link header keep =
    let k = place_of link s.ends in
    let may = may_reserve s link header keep in
    let asked = looks k (Asked header) s in
    let asked_end = copy_looked s k (source_looks (stage_at s k) (Asked header)) in
    let near : k < length asked.ends = (let l = may.known in omega (arith, l, length-set s.ends k asked_end)) in
    let asks : is_asked_by (stage_at asked k) ≡ true =
    ap (λ (end : CopyEnd). is_asked_by end.link.stage) (get_or-set_same s.ends k asked_end no_end may.known)
    ∙ ap (λ (stage : SourceStage). is_asked_by (source_looks stage (Asked header))) may.waits in
    subst (λ (after : SpreadState). Follows (keeps_of k header) s after [] [] tells_nothing) (sym (kept_so s link header keep)) (record {
      made = (may.known, ((near, asks), tt));
      after = refl;
      put = refl;
      given = λ j l own. refl;
      told = λ j l own.
          told_none (k == j) (told_look s.id (stage_at s k) (source_looks (stage_at s k) (Asked header)))
          (ap (λ (stage : SourceStage). told_look s.id stage (source_looks stage (Asked header))) may.waits);
      links =
          links_both s asked (holds k asked) (links_change k s asked_end refl)
          (links_change k asked (moved (record (link_at asked k) { stage = source.Reserved (asked_id (stage_at asked k)) }) (end_at asked k).owes (end_at asked k)) refl);
    })

pub release_follows : (s : SpreadState) (link header : ℕ) → copy_over s link ≡ source.Reserved header
    → Follows (releases_of (place_of link s.ends) header) s (releases link header s) [] [] tells_nothing
release_follows s link header shown =
    let k = place_of link s.ends in
    let kept = is_reserved s link header shown in
    record {
      made = (kept.known, tt);
      after = refl;
      put = refl;
      given = λ j l own. refl;
      told = λ j l own.
          told_none (k == j) (told_look s.id (stage_at s k) (source_looks (stage_at s k) (Postponed header)))
          (ap (λ (stage : SourceStage). told_look s.id stage (source_looks stage (Postponed header))) kept.kept);
      links = links_change k s (copy_looked s k (source_looks (stage_at s k) (Postponed header))) refl;
    }
