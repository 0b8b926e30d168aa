-- Why a link of a spread has an element or not, as its end moves, is given one, and a new one is put.
use Rattle.std.proofs.Common.{◌≡◌, ℕ, ◌+◌, ◌-◌, ◌<◌, ◌≤◌, ◌==◌, leb, ◌&&◌, not, cond, Bool, true, false, List, [], ◌∷◌, ◌++◌, length, Option, Some, None, refl, sym, ◌∙◌, ap, subst, inl, inr, arith, ◌⊎◌}
use Rattle.std.specs.Bool.{OnTrue}
use Rattle.std.specs.Option.{ForSome}
use Rattle.std.proofs.lemmas.Bool.{OnTrue_at, le-leb, leb-true}
use Rattle.std.proofs.lemmas.Bool.Decides.{nat_tests}
use Rattle.std.proofs.lemmas.List.{append-nil, length-append}
use Rattle.flow_value.specs.When.{admits}
use Rattle.flow_value.specs.declared.value.Value.{Value}
use Rattle.flow_value.specs.declared.message.MessageStatus.{MessageStatus}
use Rattle.flow_value.specs.declared.message.MessageStatus.TheVariants as status
use Rattle.flow_link.specs.Lists.{every, some}
use Rattle.flow_link.specs.declared.stage.SourceStage.{SourceStage}
use Rattle.flow_link.specs.declared.stage.SourceStage.TheVariants.{Waiting, Wished, AskedBy, Reserved, Claimed, Refused, Crossing}
use Rattle.flow_link.specs.declared.trace.Outcome.{Outcome}
use Rattle.flow_link.proofs.OneMoreMark.{every_more as every_value_more}
use Rattle.flow_outlet.specs.ByLink.{forgotten_stage, answer_stage}
use Rattle.flow_outlet.specs.End.{id_of, is_over, is_cut, is_limit, counted}
use Rattle.flow_outlet.specs.History.{listed}
use Rattle.flow_outlet.specs.Law.{is_put_off, is_refused}
use Rattle.flow_outlet.specs.declared.ends.LinkRule.{LinkRule}
use Rattle.flow_spread.specs.declared.end.CopyEnd.{CopyEnd}
use Rattle.flow_spread.specs.Accounts.{Told, nothing_told, told_both, told_gift, told_answer, told_look, is_among, has_account, every_from, those_among}
use Rattle.flow_spread.specs.ByLink.{still_owes}
use Rattle.flow_spread.specs.End.{is_answer, takes_up}
use Rattle.flow_spread.specs.Law.{CopyEndLaw, speaks, concerns_it, may_owe}
use Rattle.flow_spread.proofs.EndsOwe.{ended_cut}
use Rattle.flow_spread.proofs.CopiesSoFar.{closed_or_turned_away, over_before, is_kept}
use Rattle.flow_spread.proofs.LinksCopied.{same_number}
use Rattle.flow_spread.proofs.NumberedElements.{some_more, some_last, every_more, every_later, not_among, all_below, account_stays, went_over, turned_away, was_put_off, had_refused, had_its_limit, from_weaker, from_more, those_more, those_same}
use Rattle.flow_spread.proofs.StagesTell.{or_either, or_first, or_second}

-- what is known of a link so far, where this is the newest element, and those are the older ones
pub record AccountSoFar (first : ℕ) (older given : List Value) (told : Told) (element : Option Value) (id : ℕ) (rule : LinkRule) (count last : ℕ) (stage : SourceStage) (owes : Bool) : Type 0 where
  pub numbered : id + 1 ≡ first + length (older ++ listed element)
  pub late : every (λ i. leb i last) told.gave ≡ true
  pub as_many : length given ≡ length told.gave
  pub counts : ForSome rule.max (λ _. count ≡ length given)
  pub given_are : given ≡ those_among told.gave first (older ++ listed element)
  pub admitted : every (admits rule.when) given ≡ true
  pub refused : is_refused stage ≡ true → some (λ i. leb i id) told.refused ≡ true
  pub each : every_from (has_account rule told) first (older ++ cond owes [] (listed element)) ≡ true

abbrev pub AccountBy : ℕ → List Value → List Value → Told → Option Value → ℕ → CopyEnd → Type 0
AccountBy first older given told element id end =
    AccountSoFar first older given told element id end.link.rule end.link.given end.link.last end.link.stage end.owes

-- Where nothing is given

-- what a link owes stays; or it owes no more, and its target answered
abbrev OwesOrTold : ℕ → List ℕ → List ℕ → Bool → Bool → Type 0
OwesOrTold id off refused owes owes' = (owes' ≡ owes) ⊎ ((owes ≡ true) × (owes' ≡ false) × ((is_among id off ≡ true) ⊎ (some (λ i. leb i id) refused ≡ true)))

abbrev pub answer_of : List ℕ → List ℕ → Told
answer_of off refused = record { gave = []; put_off = off; refused = refused }

-- the newest element has its account once its target answered
newest_answered : (rule : LinkRule) (told : Told) (off refused : List ℕ) (first id : ℕ) (older : List Value) (element : Option Value)
    → id + 1 ≡ first + length (older ++ listed element)
    → every_from (has_account rule (told_both told (answer_of off refused))) first older ≡ true
    → (is_among id off ≡ true) ⊎ (some (λ i. leb i id) refused ≡ true)
    → every_from (has_account rule (told_both told (answer_of off refused))) first (older ++ listed element) ≡ true
newest_answered rule told off refused first id older None numbered each answers = each_none
  where
    each_none : every_from (has_account rule (told_both told (answer_of off refused))) first (older ++ []) ≡ true
    each_none = ap (every_from (has_account rule (told_both told (answer_of off refused))) first) (append-nil older) ∙ each
newest_answered rule told off refused first id older (Some value) numbered each answers =
    let more = told_both told (answer_of off refused) in
    let here : id ≡ first + length older = omega (arith, numbered, length-append older (value ∷ [])) in
    let mine : has_account rule more id value ≡ true = elim (answers) [
      | inl off_now ↦ was_put_off rule more id value (some_last (λ i. i == id) told.put_off off off_now)
      | inr refused_now ↦ had_refused rule more id value (some_last (λ i. leb i id) told.refused refused refused_now)
    ] in
    from_more (has_account rule more) first older value each (ap (λ (n : ℕ). has_account rule more n value) (sym here) ∙ mine)

pub moved_account : {first : ℕ} {older given : List Value} {told : Told} {element : Option Value} {id : ℕ} {rule : LinkRule} {count last : ℕ} {stage : SourceStage} {owes : Bool}
    → AccountSoFar first older given told element id rule count last stage owes → (off refused : List ℕ) (stage' : SourceStage) (owes' : Bool)
    → (is_refused stage' ≡ true → (is_refused stage ≡ true) ⊎ (some (λ i. leb i id) refused ≡ true))
    → OwesOrTold id off refused owes owes'
    → AccountSoFar first older (given ++ []) (told_both told (answer_of off refused)) element id rule count last stage' owes'
moved_account {first} {older} {given} {told} {element} {id} {rule} {count} {last} {stage} {owes} so off refused stage' owes' refuses owing =
    let more = told_both told (answer_of off refused) in
    let same_given : given ++ [] ≡ given = append-nil given in
    let same_gave : told.gave ++ [] ≡ told.gave = append-nil told.gave in
    let weaker = from_weaker (has_account rule told) (has_account rule more) first in
    record {
      numbered = so.numbered;
      late = rw same_gave so.late;
      as_many = rw (same_given, same_gave) so.as_many;
      counts = rw same_given so.counts;
      given_are = rw (same_given, same_gave) so.given_are;
      admitted = rw same_given so.admitted;
      refused = λ is. elim (refuses is) [
        | inl before ↦ some_more (λ i. leb i id) told.refused refused (so.refused before)
        | inr now ↦ some_last (λ i. leb i id) told.refused refused now
      ];
      each = elim (owing) [
        | inl stays ↦ rw stays
            (weaker (older ++ cond owes [] (listed element)) (λ i v l e. account_stays rule told (answer_of off refused) i v refl e) so.each)
        | inr answers ↦ rw (answers.1)
            (newest_answered rule told off refused first id older element so.numbered
            (weaker older (λ i v l e. account_stays rule told (answer_of off refused) i v refl e)
            (let was : every_from (has_account rule told) first (older ++ []) ≡ true = rw (answers.0) at so.each in
            ap (every_from (has_account rule told) first) (sym (append-nil older)) ∙ was))
            answers.2)
      ];
    }

-- nothing is told
pub stays_account : {first : ℕ} {older given : List Value} {told : Told} {element : Option Value} {id : ℕ} {rule : LinkRule} {count last : ℕ} {stage : SourceStage} {owes : Bool}
    → AccountSoFar first older given told element id rule count last stage owes
    → AccountSoFar first older (given ++ []) (told_both told nothing_told) element id rule count last stage owes
stays_account {stage = stage} {owes} so = moved_account so [] [] stage owes (λ is. inl is) (inl refl)

-- A look

-- what is new in a stage, where the stage later speaks of the element only, and the link owed as it may
pub look_owes : (once owes : Bool) (id : ℕ) (before later : SourceStage) → ForSome (id_of later) (λ i. i ≡ id) → OnTrue owes (may_owe once before ≡ true)
    → OwesOrTold id (told_look id before later).put_off (told_look id before later).refused owes (owes && not (is_answer once later))
look_owes once false id before later current owing = inl refl
look_owes once true id before later current owing = by_stage once later current owing
  where
    off_before : (once : Bool) (stage : SourceStage) → may_owe once stage ≡ true → not once ≡ true → is_put_off stage ≡ false
    off_before true stage may none = absurd (cc)
    off_before false (Waiting _) may none = cc
    off_before false (Wished _) may none = cc
    off_before false (AskedBy _) may none = cc
    off_before false (Reserved _) may none = cc
    off_before false (Claimed _) may none = cc
    off_before false stage may none = refl

    refused_before : (once : Bool) (stage : SourceStage) → may_owe once stage ≡ true → is_refused stage ≡ false
    refused_before true Refused may = cc
    refused_before false Refused may = cc
    refused_before once stage may = refl

    told_off : (once : Bool) (i : ℕ) → i ≡ id → may_owe once before ≡ true → (answers : Bool) → not once ≡ answers
        → OwesOrTold id (cond (not (is_put_off before)) (i ∷ []) []) (cond false (id ∷ []) []) true (not answers)
    told_off once i current may false none = inl refl
    told_off once i current may true none =
        let not_off : is_put_off before ≡ false = off_before once before may none in
        let here : is_among id (i ∷ []) ≡ true = (let same : (i == id) ≡ true = grind (arith, nat_tests) in rw same refl) in
        inr (refl, refl, inl (rw not_off here))

    by_stage : (once : Bool) (later : SourceStage) → ForSome (id_of later) (λ i. i ≡ id) → may_owe once before ≡ true
        → OwesOrTold id (told_look id before later).put_off (told_look id before later).refused true (not (is_answer once later))
    by_stage once Refused current may =
        let none : is_refused before ≡ false = refused_before once before may in
        let here : some (λ i. leb i id) (id ∷ []) ≡ true = (let same : leb id id ≡ true = grind (arith, nat_tests) in rw same refl) in
        inr (refl, refl, inr (rw none here))
    by_stage once (Waiting i) current may = told_off once i (current i refl) may (not once) refl
    by_stage once (AskedBy i) current may = told_off once i (current i refl) may (not once) refl
    by_stage once later current may = inl refl

pub look_refused : (id : ℕ) (before later : SourceStage) → is_refused later ≡ true
    → (is_refused before ≡ true) ⊎ (some (λ i. leb i id) (told_look id before later).refused ≡ true)
look_refused id before later is = one (is_refused before) (is_refused later) is
  where
    one : (was is : Bool) → is ≡ true → (was ≡ true) ⊎ (some (λ i. leb i id) (cond (is && not was) (id ∷ []) []) ≡ true)
    one true is e = inl refl
    one false true e = inr (let same : leb id id ≡ true = grind (arith, nat_tests) in rw same refl)
    one false false e = absurd (cc)

-- An answer

pub answer_owes : (once owes : Bool) (id header : ℕ) → header ≡ id → (answer : MessageStatus)
    → OwesOrTold id (told_answer header answer).put_off (told_answer header answer).refused owes (still_owes answer once owes)
answer_owes once owes id header same status.Accepted = inl refl
answer_owes once false id header same status.DecliningPermanently = inl refl
answer_owes once true id header same status.DecliningPermanently =
    inr (refl, refl, inr (let below : leb header id ≡ true = grind (arith, nat_tests) in rw below refl))
answer_owes once false id header same status.Declined = inl refl
answer_owes once false id header same status.Postponed = inl refl
answer_owes once false id header same status.NotAvailable = inl refl
answer_owes true true id header same status.Declined = inl refl
answer_owes true true id header same status.Postponed = inl refl
answer_owes true true id header same status.NotAvailable = inl refl
answer_owes false true id header same status.Declined = inr (refl, refl, inl (let is : (header == id) ≡ true = grind (arith, nat_tests) in rw is refl))
answer_owes false true id header same status.Postponed = inr (refl, refl, inl (let is : (header == id) ≡ true = grind (arith, nat_tests) in rw is refl))
answer_owes false true id header same status.NotAvailable = inr (refl, refl, inl (let is : (header == id) ≡ true = grind (arith, nat_tests) in rw is refl))

pub answer_refused : (id header : ℕ) (before : SourceStage) → header ≡ id → (answer : MessageStatus) → is_refused (answer_stage answer header) ≡ true
    → (is_refused before ≡ true) ⊎ (some (λ i. leb i id) (told_answer header answer).refused ≡ true)
answer_refused id header before same status.DecliningPermanently is = inr (let below : leb header id ≡ true = grind (arith, nat_tests) in rw below refl)
answer_refused id header before same status.Accepted is = absurd (cc)
answer_refused id header before same status.Declined is = absurd (cc)
answer_refused id header before same status.Postponed is = absurd (cc)
answer_refused id header before same status.NotAvailable is = absurd (cc)

-- A gift

one_counted : (max : Option ℕ) (count : ℕ) (given : List Value) (value : Value) → ForSome max (λ _. count ≡ length given)
    → ForSome max (λ _. counted max count ≡ length (given ++ value ∷ []))
one_counted None count given value e = λ m is. cc
one_counted (Some max) count given value e = λ m is.
    let before : count ≡ length given = e max refl in
    omega (arith, length-append given (value ∷ []))

pub given_account : {first : ℕ} {older given : List Value} {told : Told} {element : Option Value} {id : ℕ} {once pending : Bool} {stopped : Option Outcome} (end : CopyEnd) (value : Value)
    → element ≡ Some value → CopyEndLaw element id once pending stopped end → speaks end.link.stage ≡ true
    → AccountBy first older given told element id end
    → AccountSoFar first older (given ++ value ∷ []) (told_both told (told_gift id)) (Some value) id end.link.rule (counted end.link.rule.max end.link.given) id Crossing false
given_account {first} {older} {given} {told} {element} {id} end value is law spoken so =
    let mine : AccountBy first older given told (Some value) id end = subst (λ (el : Option Value). AccountBy first older given told el id end) is so in
    let rule = end.link.rule in
    let more = told_both told (told_gift id) in
    let concerned : concerns_it end ≡ true = or_first (speaks end.link.stage) end.owes spoken in
    let admitted : admits rule.when value ≡ true = is_kept rule value element is (OnTrue_at concerned law.admitted) in
    let before : end.link.last < id = OnTrue_at concerned law.fresh in
    let here : id ≡ first + length older = omega (arith, mine.numbered, length-append older (value ∷ [])) in
    let none : is_among id told.gave ≡ false = not_among told.gave end.link.last id before mine.late in
    let here_now : is_among id (told.gave ++ id ∷ []) ≡ true =
    some_last (λ i. i == id) told.gave (id ∷ []) (let same : (id == id) ≡ true = same_number id in rw same refl) in
    let was : given ≡ those_among told.gave first older =
    mine.given_are ∙ those_more told.gave first older value
    ∙ ap (λ (n : ℕ). those_among told.gave first older ++ cond (is_among n told.gave) (value ∷ []) []) (sym here)
    ∙ ap (λ (b : Bool). those_among told.gave first older ++ cond b (value ∷ []) []) none
    ∙ append-nil (those_among told.gave first older) in
    let now : those_among (told.gave ++ id ∷ []) first (older ++ value ∷ []) ≡ those_among told.gave first older ++ value ∷ [] =
    those_more (told.gave ++ id ∷ []) first older value
    ∙ ap (λ (n : ℕ). those_among (told.gave ++ id ∷ []) first older ++ cond (is_among n (told.gave ++ id ∷ [])) (value ∷ []) []) (sym here)
    ∙ ap (λ (b : Bool). those_among (told.gave ++ id ∷ []) first older ++ cond b (value ∷ []) []) here_now
    ∙ ap (λ (vs : List Value). vs ++ value ∷ []) (those_same told.gave id first older (omega (arith, here))) in
    let less : end.link.last ≤ id = omega (arith, before) in
    let old_each : every_from (has_account rule told) first older ≡ true = older_each (has_account rule told) first older (cond end.owes [] (value ∷ [])) mine.each in
    let later = λ (i : ℕ) (l : i < first + length older).
    let below : leb i id ≡ true = le-leb i id (omega (arith, l, here)) in
    (let all : every (λ j. leb i j) (id ∷ []) ≡ true = rw below refl in all) in
    record {
      numbered = mine.numbered;
      late = every_more (λ i. leb i id) told.gave id (every_later told.gave end.link.last id less mine.late) (le-leb id id (omega arith));
      as_many = omega (arith, mine.as_many, length-append given (value ∷ []), length-append told.gave (id ∷ []));
      counts = one_counted rule.max end.link.given given value mine.counts;
      given_are = ap (λ (vs : List Value). vs ++ value ∷ []) was ∙ sym now;
      admitted = every_value_more (admits rule.when) given value mine.admitted admitted;
      refused = λ r. absurd (cc);
      each = from_more (has_account rule more) first older value
          (from_weaker (has_account rule told) (has_account rule more) first older
          (λ i v l e. account_stays rule told (told_gift id) i v (later i l) e) old_each)
          (ap (λ (n : ℕ). has_account rule more n value) (sym here) ∙ went_over rule more id value here_now);
    }
  where
    older_each : (f : ℕ → Value → Bool) (first : ℕ) (older more : List Value) → every_from f first (older ++ more) ≡ true → every_from f first older ≡ true
    older_each f first [] more e = refl
    older_each f first (v ∷ older) more e = and_front (f first v) (every_from f (first + 1) (older ++ more)) (every_from f (first + 1) older)
        (older_each f (first + 1) older more) e
      where
        and_front : (a b c : Bool) → (b ≡ true → c ≡ true) → (a && b) ≡ true → (a && c) ≡ true
        and_front true b c g e = g e
        and_front false b c g e = absurd (cc)

-- A new element

pub put_account : {first : ℕ} {older given : List Value} {told : Told} {element : Option Value} {id : ℕ} {once pending : Bool} (end : CopyEnd) (value : Value)
    → CopyEndLaw element id once pending None end → end.owes ≡ false → AccountBy first older given told element id end
    → AccountBy first (older ++ listed element) given told (Some value) (id + 1) (takes_up value end)
put_account {first} {older} {given} {told} {element} {id} end value law owes so =
    let rule = end.link.rule in
    let all = older ++ listed element in
    let stage = forgotten_stage end.link.stage in
    let here : id + 1 ≡ first + length all = so.numbered in
    let below : end.link.last < id + 1 = (let risen = law.risen in omega (arith, risen)) in
    let none : is_among (first + length all) told.gave ≡ false =
    ap (λ (n : ℕ). is_among n told.gave) (sym here) ∙ not_among told.gave end.link.last (id + 1) below so.late in
    let each : every_from (has_account rule told) first all ≡ true = rw owes at so.each in
    record {
      numbered = omega (arith, here, length-append all (value ∷ []));
      late = so.late;
      as_many = so.as_many;
      counts = so.counts;
      given_are =
          so.given_are
          ∙ sym (append-nil (those_among told.gave first all))
          ∙ ap (λ (b : Bool). those_among told.gave first all ++ cond b (value ∷ []) []) (sym none)
          ∙ sym (those_more told.gave first all value);
      admitted = so.admitted;
      refused = λ is. refused_later told.refused id (so.refused (refused_is end.link.stage is));
      each = due_each (takes_up value end).owes refl each
          (λ closed. ap (λ (n : ℕ). has_account rule told n value) (sym here)
          ∙ elim (cases_eq_bool (is_refused stage)) [
            | inl refuses ↦ had_refused rule told (id + 1) value (refused_later told.refused id (so.refused (refused_is end.link.stage refuses)))
            | inr taking ↦ or_either (is_cut end.link) (not (admits rule.when value))
                (λ cut. had_its_limit rule told (id + 1) value
                (ap (is_limit rule.max) (all_below told.gave end.link.last (id + 1) below so.late ∙ sym so.as_many)
                ∙ limit_is rule.max end.link.given (length given) so.counts cut))
                (λ away. turned_away rule told (id + 1) value away)
                (closed_or_turned_away (is_over stage) (is_cut end.link) (admits rule.when value) closed
                (λ over. ended_cut end.link law.ended stage (over_before end.link.stage over) over taking))
          ]);
    }
  where
    cases_eq_bool : (b : Bool) → (b ≡ true) ⊎ (b ≡ false)
    cases_eq_bool true = inl refl
    cases_eq_bool false = inr refl

    refused_is : (stage : SourceStage) → is_refused (forgotten_stage stage) ≡ true → is_refused stage ≡ true
    refused_is Refused e = refl
    refused_is (Waiting _) e = cc
    refused_is stage e = e

    refused_later : (ids : List ℕ) (id : ℕ) → some (λ i. leb i id) ids ≡ true → some (λ i. leb i (id + 1)) ids ≡ true
    refused_later [] id e = absurd (cc)
    refused_later (i ∷ ids) id e =
        or_either (leb i id) (some (λ i. leb i id) ids)
        (λ here. let below : i ≤ id = leb-true i id here in
        or_first (leb i (id + 1)) (some (λ i. leb i (id + 1)) ids) (le-leb i (id + 1) (omega (arith, below))))
        (λ later. or_second (leb i (id + 1)) (some (λ i. leb i (id + 1)) ids) (refused_later ids id later)) e

    limit_is : (max : Option ℕ) (count given : ℕ) → ForSome max (λ _. count ≡ given) → is_limit max count ≡ true → is_limit max given ≡ true
    limit_is None count given same full = absurd (cc)
    limit_is (Some m) count given same full = ap (λ (n : ℕ). n == m) (sym (same m refl)) ∙ full

    due_each : (due : Bool) → (takes_up value end).owes ≡ due
        → every_from (has_account end.link.rule told) first (older ++ listed element) ≡ true
        → ((takes_up value end).owes ≡ false → has_account end.link.rule told (first + length (older ++ listed element)) value ≡ true)
        → every_from (has_account end.link.rule told) first ((older ++ listed element) ++ cond (takes_up value end).owes [] (value ∷ [])) ≡ true
    due_each true is each closed =
        ap (λ (b : Bool). every_from (has_account end.link.rule told) first ((older ++ listed element) ++ cond b [] (value ∷ []))) is
        ∙ ap (every_from (has_account end.link.rule told) first) (append-nil (older ++ listed element)) ∙ each
    due_each false is each closed =
        ap (λ (b : Bool). every_from (has_account end.link.rule told) first ((older ++ listed element) ++ cond b [] (value ∷ []))) is
        ∙ from_more (has_account end.link.rule told) first (older ++ listed element) value each (closed is)
