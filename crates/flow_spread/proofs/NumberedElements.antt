-- Lists of ids, elements that are numbered, and what one more of them changes.
use Rattle.std.proofs.Common.{◌≡◌, ℕ, ◌+◌, ◌<◌, ◌≤◌, ◌==◌, ltb, leb, cond, Bool, true, false, not, ◌||◌, List, [], ◌∷◌, ◌++◌, length, refl, sym, ◌∙◌, ap, arith, ne_eqb}
use Rattle.std.proofs.lemmas.Bool.{and_parts, and_from, le-leb, leb-true}
use Rattle.std.proofs.lemmas.Bool.Decides.{nat_tests}
use Rattle.flow_value.specs.declared.value.Value.{Value}
use Rattle.flow_link.specs.Lists.{every, some}
use Rattle.flow_outlet.specs.End.{is_limit}
use Rattle.flow_outlet.specs.declared.ends.LinkRule.{LinkRule}
use Rattle.flow_value.specs.When.{admits}
use Rattle.flow_spread.specs.Accounts.{Told, told_both, is_among, count_below, has_account, every_from, those_among}
use Rattle.flow_spread.proofs.StagesTell.{or_first, or_second, or_either}

-- Lists of ids

pub some_more : (test : ℕ → Bool) (ids more : List ℕ) → some test ids ≡ true → some test (ids ++ more) ≡ true
some_more test [] more e = absurd (cc)
some_more test (i ∷ ids) more e =
    or_either (test i) (some test ids) (λ here. or_first (test i) (some test (ids ++ more)) here)
    (λ later. or_second (test i) (some test (ids ++ more)) (some_more test ids more later)) e

pub some_last : (test : ℕ → Bool) (ids more : List ℕ) → some test more ≡ true → some test (ids ++ more) ≡ true
some_last test [] more e = e
some_last test (i ∷ ids) more e = or_second (test i) (some test (ids ++ more)) (some_last test ids more e)

pub every_more : (test : ℕ → Bool) (ids : List ℕ) (id : ℕ) → every test ids ≡ true → test id ≡ true → every test (ids ++ id ∷ []) ≡ true
every_more test [] id e last = and_from (test id) true last refl
every_more test (i ∷ ids) id e last =
    let both = and_parts (test i) (every test ids) e in
    and_from (test i) (every test (ids ++ id ∷ [])) both.0 (every_more test ids id both.1 last)

pub every_later : (ids : List ℕ) (last id : ℕ) → last ≤ id → every (λ i. leb i last) ids ≡ true → every (λ i. leb i id) ids ≡ true
every_later [] last id l e = refl
every_later (i ∷ ids) last id l e =
    let both = and_parts (leb i last) (every (λ i. leb i last) ids) e in
    let below : i ≤ last = leb-true i last both.0 in
    and_from (leb i id) (every (λ i. leb i id) ids) (le-leb i id (omega (arith, below, l))) (every_later ids last id l both.1)

-- an id above all is not among them, and all are below it
pub not_among : (ids : List ℕ) (last id : ℕ) → last < id → every (λ i. leb i last) ids ≡ true → is_among id ids ≡ false
not_among [] last id l e = refl
not_among (i ∷ ids) last id l e =
    let both = and_parts (leb i last) (every (λ i. leb i last) ids) e in
    let below : i ≤ last = leb-true i last both.0 in
    rw (not_among ids last id l both.1) (let none : (i == id) ≡ false = ne_eqb i id (λ same. omega (arith, below, l, same)) in rw none refl)

pub all_below : (ids : List ℕ) (last id : ℕ) → last < id → every (λ i. leb i last) ids ≡ true → count_below id ids ≡ length ids
all_below [] last id l e = refl
all_below (i ∷ ids) last id l e =
    let both = and_parts (leb i last) (every (λ i. leb i last) ids) e in
    let below : i ≤ last = leb-true i last both.0 in
    let less : ltb i id ≡ true = grind (arith, nat_tests) in
    let rest : count_below id ids ≡ length ids = all_below ids last id l both.1 in
    rw (less, rest) (omega arith)

-- ids that come later do not count
pub count_more : (ids more : List ℕ) (id : ℕ) → every (λ i. leb id i) more ≡ true → count_below id (ids ++ more) ≡ count_below id ids
count_more [] [] id e = refl
count_more [] (i ∷ more) id e =
    let both = and_parts (leb id i) (every (λ i. leb id i) more) e in
    let above : id ≤ i = leb-true id i both.0 in
    let less : ltb i id ≡ false = grind (arith, nat_tests) in
    rw (less, count_more [] more id both.1) refl
count_more (i ∷ ids) more id e = ap (λ (n : ℕ). cond (ltb i id) 1 0 + n) (count_more ids more id e)

-- Accounts

or_grows : (a b c d e : Bool) {a' c' d' e' : Bool} → (a ≡ true → a' ≡ true) → (c ≡ true → c' ≡ true) → (d ≡ true → d' ≡ true) → (e ≡ true → e' ≡ true)
    → (a || b || c || d || e) ≡ true → (a' || b || c' || d' || e') ≡ true
or_grows a b c d e {a'} {c'} {d'} {e'} f g h k any =
    or_either (a || b || c || d) e
    (λ four. or_first (a' || b || c' || d') e'
    (or_either (a || b || c) d
    (λ three. or_first (a' || b || c') d'
    (or_either (a || b) c
    (λ two. or_first (a' || b) c'
    (or_either a b (λ one. or_first a' b (f one)) (λ one. or_second a' b one) two))
    (λ one. or_second (a' || b) c' (g one)) three))
    (λ one. or_second (a' || b || c') d' (h one)) four))
    (λ one. or_second (a' || b || c' || d') e' (k one)) any

-- an account stays, whatever is told of later elements
pub account_stays : (rule : LinkRule) (told more : Told) (id : ℕ) (value : Value) → every (λ i. leb id i) more.gave ≡ true
    → has_account rule told id value ≡ true → has_account rule (told_both told more) id value ≡ true
account_stays rule told more id value later e =
    or_grows (is_among id told.gave) (not (admits rule.when value)) (is_among id told.put_off) (some (λ i. leb i id) told.refused)
    (is_limit rule.max (count_below id told.gave))
    (λ one. some_more (λ i. i == id) told.gave more.gave one)
    (λ one. some_more (λ i. i == id) told.put_off more.put_off one)
    (λ one. some_more (λ i. leb i id) told.refused more.refused one)
    (λ one. ap (is_limit rule.max) (count_more told.gave more.gave id later) ∙ one)
    e

module _ (rule : LinkRule) (told : Told) (id : ℕ) (value : Value) where
  abbrev went : Bool
  went = is_among id told.gave

  abbrev away : Bool
  away = not (admits rule.when value)

  abbrev off : Bool
  off = is_among id told.put_off

  abbrev refuses : Bool
  refuses = some (λ i. leb i id) told.refused

  abbrev full : Bool
  full = is_limit rule.max (count_below id told.gave)

  pub went_over : is_among id told.gave ≡ true → has_account rule told id value ≡ true
  went_over e = or_first (went || away || off || refuses) full (or_first (went || away || off) refuses (or_first (went || away) off (or_first went away e)))

  pub turned_away : not (admits rule.when value) ≡ true → has_account rule told id value ≡ true
  turned_away e = or_first (went || away || off || refuses) full (or_first (went || away || off) refuses (or_first (went || away) off (or_second went away e)))

  pub was_put_off : is_among id told.put_off ≡ true → has_account rule told id value ≡ true
  was_put_off e = or_first (went || away || off || refuses) full (or_first (went || away || off) refuses (or_second (went || away) off e))

  pub had_refused : some (λ i. leb i id) told.refused ≡ true → has_account rule told id value ≡ true
  had_refused e = or_first (went || away || off || refuses) full (or_second (went || away || off) refuses e)

  pub had_its_limit : is_limit rule.max (count_below id told.gave) ≡ true → has_account rule told id value ≡ true
  had_its_limit e = or_second (went || away || off || refuses) full e

-- Numbered elements

pub from_weaker : (f g : ℕ → Value → Bool) (first : ℕ) (values : List Value)
    → ((id : ℕ) (value : Value) → id < first + length values → f id value ≡ true → g id value ≡ true)
    → every_from f first values ≡ true → every_from g first values ≡ true
from_weaker f g first [] weaker e = refl
from_weaker f g first (value ∷ values) weaker e =
    let both = and_parts (f first value) (every_from f (first + 1) values) e in
    and_from (g first value) (every_from g (first + 1) values)
    (weaker first value (omega arith) both.0)
    (from_weaker f g (first + 1) values (λ id v l. weaker id v (omega (arith, l))) both.1)

pub from_more : (f : ℕ → Value → Bool) (first : ℕ) (values : List Value) (value : Value) → every_from f first values ≡ true
    → f (first + length values) value ≡ true → every_from f first (values ++ value ∷ []) ≡ true
from_more f first [] value e last =
    let here : first + length {A = Value} [] ≡ first = omega arith in
    and_from (f first value) true (ap (λ (id : ℕ). f id value) (sym here) ∙ last) refl
from_more f first (v ∷ values) value e last =
    let both = and_parts (f first v) (every_from f (first + 1) values) e in
    let here : first + length (v ∷ values) ≡ first + 1 + length values = omega arith in
    and_from (f first v) (every_from f (first + 1) (values ++ value ∷ [])) both.0
    (from_more f (first + 1) values value both.1 (ap (λ (id : ℕ). f id value) (sym here) ∙ last))

pub those_more : (ids : List ℕ) (first : ℕ) (values : List Value) (value : Value)
    → those_among ids first (values ++ value ∷ []) ≡ those_among ids first values ++ cond (is_among (first + length values) ids) (value ∷ []) []
those_more ids first [] value =
    let here : first ≡ first + length {A = Value} [] = omega arith in
    ap (λ (id : ℕ). cond (is_among id ids) (value ∷ []) []) here
those_more ids first (v ∷ values) value =
    one (is_among first ids) (those_more ids (first + 1) values value
    ∙ ap (λ (id : ℕ). those_among ids (first + 1) values ++ cond (is_among id ids) (value ∷ []) []) here)
  where
    here : first + 1 + length values ≡ first + length (v ∷ values)
    here = omega arith

    one : (is : Bool) → those_among ids (first + 1) (values ++ value ∷ [])
        ≡ those_among ids (first + 1) values ++ cond (is_among (first + length (v ∷ values)) ids) (value ∷ []) []
        → cond is (v ∷ those_among ids (first + 1) (values ++ value ∷ [])) (those_among ids (first + 1) (values ++ value ∷ []))
        ≡ cond is (v ∷ those_among ids (first + 1) values) (those_among ids (first + 1) values)
        ++ cond (is_among (first + length (v ∷ values)) ids) (value ∷ []) []
    one true rest = ap (λ (vs : List Value). v ∷ vs) rest
    one false rest = rest

among_other : (ids : List ℕ) (id new : ℕ) → id < new → is_among id (ids ++ new ∷ []) ≡ is_among id ids
among_other [] id new l = let none : (new == id) ≡ false = ne_eqb new id (λ same. omega (arith, l, same)) in rw none refl
among_other (i ∷ ids) id new l = ap (λ (b : Bool). i == id || b) (among_other ids id new l)

-- an id above theirs makes no difference
pub those_same : (ids : List ℕ) (new first : ℕ) (values : List Value) → first + length values ≤ new
    → those_among (ids ++ new ∷ []) first values ≡ those_among ids first values
those_same ids new first [] l = refl
those_same ids new first (value ∷ values) l =
    let here : first < new = omega (arith, l) in
    rw (among_other ids first new here, those_same ids new (first + 1) values (omega (arith, l))) refl
