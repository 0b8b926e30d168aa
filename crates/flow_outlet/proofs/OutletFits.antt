-- What the outlet keeps ready stays right when one end changes.
use Rattle.std.proofs.Common.{◌≡◌, ℕ, ◌+◌, ◌-◌, ◌<◌, ◌≤◌, ◌^◌, ◌==◌, ◌||◌, ◌&&◌, not, ltb, cond, Bool, true, false, List, [], ◌∷◌, ◌++◌, length, set, get_or, drop, map, zero, suc, Option, Some, None, refl, sym, subst, arith}
use Rattle.std.specs.Option.{ForSome}
use Rattle.std.proofs.lemmas.List.{length-set, length-append, length-map, get_or_read}
use Rattle.std.proofs.lemmas.Bool.Decides.{nat_tests}
use Rattle.flow_value.specs.declared.value.Value.{Value}
use Rattle.flow_link.specs.declared.stage.SourceStage.{SourceStage}
use Rattle.flow_link.specs.declared.stage.SourceStage.TheVariants.{Free, Waiting}
use Rattle.flow_outlet.specs.declared.ends.LinkRule.{LinkRule}
use Rattle.flow_outlet.specs.declared.ends.OutEnd.{OutEnd}
use Rattle.flow_outlet.specs.declared.group.Group.{Group}
use Rattle.flow_outlet.specs.End.{end_in, no_end, fresh_end, is_away, is_waiting, cursor_after, place_in, count_at}
use Rattle.flow_outlet.specs.ByLink.{forgotten, forgotten_stage, forgotten_for}
use Rattle.flow_outlet.specs.Fits.{Fits, weight_of}
use Rattle.flow_outlet.specs.Outlet.{first_of, is_empty, recounted, given_end, groups_after, weight_at, groups_with, room_with}
use Rattle.flow_outlet.proofs.CursorMoves.{cursor_is, count_is, count_some, count_below}

ends_or_not : (ends : Bool) (group : Group) (groups : List Group)
    → cond ends group.weight 0 + weight_of (cond ends groups (group ∷ groups)) ≡ weight_of (group ∷ groups)
ends_or_not true group groups = refl
ends_or_not false group groups = omega arith

-- the weight of the group that ends is that of one group less
pub weight_stays : (next : ℕ) (groups : List Group) → weight_at next groups + weight_of (groups_after next groups) ≡ weight_of groups
weight_stays next [] = refl
weight_stays next (group ∷ groups) = ends_or_not (group.until == next) group groups

fewer_or_same : (ends : Bool) (group : Group) (groups : List Group)
    → length (cond ends groups (group ∷ groups)) ≤ length (group ∷ groups)
fewer_or_same true group groups = omega arith
fewer_or_same false group groups = omega arith

-- no group more is kept where the head is given
pub fewer_groups : (next : ℕ) (groups : List Group) → length (groups_after next groups) ≤ length groups
fewer_groups next [] = omega arith
fewer_groups next (group ∷ groups) = fewer_or_same (group.until == next) group groups

weight_push : (groups : List Group) (group : Group) → weight_of (groups ++ group ∷ []) ≡ weight_of groups + group.weight
weight_push [] group = omega arith
weight_push (g ∷ groups) group = omega (arith, weight_push groups group)

module _ {ends : List OutEnd} {left : List Value} {next : ℕ} {parcel : Option Value} {groups : List Group} {room cursor away waiting spare space slots : ℕ} (fits : Fits ends left next parcel groups room cursor away waiting spare space slots) (k : ℕ) (l : k < length ends) (before : OutEnd) (is : before ≡ get_or ends k before) where
  was : before ≡ end_in ends k
  was = get_or_read ends k before l is no_end

  pub away_counted : is_away before.stage ≡ true → 0 < away
  away_counted e = rw (fits.away_is) (count_some is_away ends k l (rw was at e))

  pub waiting_counted : is_waiting before.stage ≡ true → 0 < waiting
  waiting_counted e = rw (fits.waiting_is) (count_some is_waiting ends k l (rw was at e))

  pub away_below : away < 2 ^ 63
  away_below = omega (arith, fits.few, fits.away_is, count_below is_away ends)

  pub waiting_below : waiting < 2 ^ 63
  waiting_below = omega (arith, fits.few, fits.waiting_is, count_below is_waiting ends)

  pub fits_changed : (end : OutEnd) → Fits (set ends k end) left next parcel groups room
      (cursor_after k cursor next (first_of left) (set ends k end))
      (recounted away (is_away before.stage) (is_away end.stage))
      (recounted waiting (is_waiting before.stage) (is_waiting end.stage)) spare space slots
  fits_changed end = record {
    few = omega (arith, fits.few, length-set ends k end);
    cursor_is = rw (fits.cursor_is) (cursor_is next (first_of left) ends k end l);
    away_is = rw (fits.away_is, was) (count_is is_away ends k end l);
    waiting_is = rw (fits.waiting_is, was) (count_is is_waiting ends k end l);
    ids_begin = fits.ids_begin;
    ids_fit = fits.ids_fit;
    values_fit = fits.values_fit;
    groups_fit = fits.groups_fit;
    room_fits = fits.room_fits;
    parcel_is = fits.parcel_is;
  }

  -- the head is given
  pub fits_given : (value : Value) (rest : List Value) → left ≡ value ∷ rest
      → Fits (set ends k (given_end next before)) rest (next + 1) None (groups_after next groups) (room + weight_at next groups)
      (0 + place_in (next + 1) (first_of rest) (drop 0 (set ends k (given_end next before))))
      (recounted away (is_away before.stage) true) (recounted waiting (is_waiting before.stage) false) spare space slots
  fits_given value rest e = record {
    few = omega (arith, fits.few, length-set ends k (given_end next before));
    cursor_is = omega arith;
    away_is = rw (fits.away_is, was) (count_is is_away ends k (given_end next (end_in ends k)) l);
    waiting_is = rw (fits.waiting_is, was) (count_is is_waiting ends k (given_end next (end_in ends k)) l);
    ids_begin = omega (arith, fits.ids_begin);
    ids_fit = let all : next + length (value ∷ rest) + spare ≤ 2 ^ 59 = rw e at fits.ids_fit in omega arith;
    values_fit = let all : length (value ∷ rest) + spare ≤ space = rw e at fits.values_fit in omega arith;
    groups_fit = omega (arith, fits.groups_fit, fewer_groups next groups);
    room_fits = omega (arith, fits.room_fits, weight_stays next groups);
    parcel_is = λ _ none. cc;
  }

kept_or_back : (none light : Bool) (groups : List Group) (group : Group) (room weight : ℕ) → group.weight ≡ weight → (light ≡ true → weight ≡ 0)
    → room + cond none weight 0 + weight_of (cond (none || light) groups (groups ++ group ∷ [])) ≡ room + weight_of groups + weight
kept_or_back true light groups group room weight e none = omega arith
kept_or_back false true groups group room weight e none = let nothing : weight ≡ 0 = none refl in omega arith
kept_or_back false false groups group room weight e none = omega (arith, weight_push groups group)

is_zero : (weight : ℕ) → (weight == 0) ≡ true → weight ≡ 0
is_zero weight e = grind (arith, nat_tests)

-- the room that comes back at once, and the weights that are kept, are what was put
pub room_put : (start count weight room : ℕ) (groups : List Group)
    → room_with count weight room + weight_of (groups_with start count weight groups) ≡ room + weight_of groups + weight
room_put start count weight room groups =
    kept_or_back (count == 0) (weight == 0) groups (record { until = start + (count - 1); weight = weight }) room weight refl (is_zero weight)

fits_parcel : (left values : List Value) (parcel : Option Value) → ForSome parcel (λ value. first_of left ≡ Some value)
    → ForSome parcel (λ value. first_of (left ++ values) ≡ Some value)
fits_parcel [] values parcel h = λ value e. let none = h value e in cc
fits_parcel (v ∷ left) values parcel h = h

same_first : (left values : List Value) (next cursor : ℕ) (ends : List OutEnd) → cursor ≡ place_in next (first_of left) ends
    → cond (is_empty left) (0 + place_in next (first_of (left ++ values)) (drop 0 ends)) cursor ≡ place_in next (first_of (left ++ values)) ends
same_first [] values next cursor ends e = omega arith
same_first (v ∷ left) values next cursor ends e = e

kept_or_more : (none light : Bool) (most : ℕ) (groups : List Group) (group : Group) → (none ≡ false → 1 ≤ most)
    → length (cond (none || light) groups (groups ++ group ∷ [])) ≤ length groups + most
kept_or_more true light most groups group one = omega arith
kept_or_more false true most groups group one = omega arith
kept_or_more false false most groups group one = omega (arith, one refl, length-append groups (group ∷ []))

-- a result is one group more at most, and none more where it has no value
group_put : (start count weight most : ℕ) (groups : List Group) → ((count == 0) ≡ false → 1 ≤ most)
    → length (groups_with start count weight groups) ≤ length groups + most
group_put start count weight most groups one =
    kept_or_more (count == 0) (weight == 0) most groups (record { until = start + (count - 1); weight = weight }) one

pub has_some : (count : ℕ) → (count == 0) ≡ false → 1 ≤ count
has_some count e = grind (arith, nat_tests)

-- more values are put: there is memory for them, and for what is set aside after that
pub fits_put : {ends : List OutEnd} {left : List Value} {next : ℕ} {parcel : Option Value} {groups : List Group} {room cursor away waiting spare space slots : ℕ} →
    Fits ends left next parcel groups room cursor away waiting spare space slots
    → (values : List Value) (weight spare' most space' slots' : ℕ) → ((length values == 0) ≡ false → 1 ≤ most) →
    next + length left + length values + spare' ≤ 2 ^ 59 → room + weight_of groups + weight < 2 ^ 32
    → length left + length values + spare' ≤ space'
    → length groups + most + spare' ≤ slots'
    → Fits ends (left ++ values) next parcel (groups_with (next + length left) (length values) weight groups)
    (room_with (length values) weight room)
    (cond (is_empty left) (0 + place_in next (first_of (left ++ values)) (drop 0 ends)) cursor) away waiting spare' space' slots'
fits_put {ends} {left} {next} {parcel} {groups} {room} {cursor} fits values weight spare' most space' slots' one ids small held grouped = record {
  few = fits.few;
  cursor_is = same_first left values next cursor ends fits.cursor_is;
  away_is = fits.away_is;
  waiting_is = fits.waiting_is;
  ids_begin = fits.ids_begin;
  ids_fit = omega (arith, ids, length-append left values);
  values_fit = omega (arith, held, length-append left values);
  groups_fit = omega (arith, grouped, group_put (next + length left) (length values) weight most groups one);
  room_fits = omega (arith, small, room_put (next + length left) (length values) weight room groups);
  parcel_is = fits_parcel left values parcel fits.parcel_is;
}

-- one value is put, whose room does not come back at once
pub fits_put_one : {ends : List OutEnd} {left : List Value} {next : ℕ} {parcel : Option Value} {groups : List Group} {room cursor away waiting spare space slots : ℕ} →
    Fits ends left next parcel groups room cursor away waiting spare space slots → (value : Value) (weight space' slots' : ℕ) →
    next + length left + spare < 2 ^ 59 → room + weight_of groups + weight < 2 ^ 32
    → length left + (spare + 1) ≤ space' → length groups + (spare + 1) ≤ slots'
    → Fits ends (left ++ value ∷ []) next parcel (groups_with (next + length left) 1 weight groups) room
    (cond (is_empty left) (0 + place_in next (first_of (left ++ value ∷ [])) (drop 0 ends)) cursor) away waiting spare space' slots'
fits_put_one {ends} {left} {next} {parcel} {groups} {room} {cursor} {away} {waiting} {spare} fits value weight space' slots' ids small held grouped =
    let same : room_with 1 weight room ≡ room = omega arith in
    let fit : next + length left + 1 + spare ≤ 2 ^ 59 = omega (arith, ids) in
    let values : length left + 1 + spare ≤ space' = omega (arith, held) in
    let groups_too : length groups + 1 + spare ≤ slots' = omega (arith, grouped) in
    subst
    (λ r. Fits ends (left ++ value ∷ []) next parcel (groups_with (next + length left) 1 weight groups) r (cond (is_empty left) (0 + place_in next (first_of (left ++ value ∷ [])) (drop 0 ends)) cursor) away waiting spare space' slots')
    same (fits_put fits (value ∷ []) weight spare 1 space' slots' (λ _. omega arith) fit small values groups_too)

no_count : (test : SourceStage → Bool) (rules : List LinkRule) → test Free ≡ false → count_at test (map fresh_end rules) ≡ 0
no_count test [] e = refl
no_count test (rule ∷ rules) e = rw (e, no_count test rules e) refl

pub fits_fresh : (rules : List LinkRule) (first space slots : ℕ) → length rules < 2 ^ 63 → 1 ≤ first → first < 2 ^ 59
    → Fits (map fresh_end rules) [] first None [] 0 (0 + place_in first None (drop 0 (map fresh_end rules))) 0 0 0 space slots
fits_fresh rules first space slots few low high = record {
  few = omega (arith, few, length-map rules fresh_end);
  cursor_is = omega arith;
  away_is = sym (no_count is_away rules refl);
  waiting_is = sym (no_count is_waiting rules refl);
  ids_begin = low;
  ids_fit = omega (arith, high);
  values_fit = omega arith;
  groups_fit = omega arith;
  room_fits = omega arith;
  parcel_is = λ _ none. cc;
}

-- where ids are not lacking, there are enough
pub ids_there : (values left : List Value) (next spare : ℕ) → next + length left + spare ≤ 2 ^ 59
    → (not (is_empty values) && ltb (2 ^ 59) (next + length left + spare + length values)) ≡ false
    → next + length left + spare + length values ≤ 2 ^ 59
ids_there [] left next spare fit e = omega arith
ids_there (value ∷ values) left next spare fit e = grind (arith, nat_tests)

-- the same, for so many values
pub ids_there_for : (count taken : ℕ) → taken ≤ 2 ^ 59 → (not (count == 0) && ltb (2 ^ 59) (taken + count)) ≡ false
    → taken + count ≤ 2 ^ 59
ids_there_for zero taken fit e = omega arith
ids_there_for (suc count) taken fit e = grind (arith, nat_tests)

one_less : (stage : SourceStage)
    → cond (is_away (forgotten_stage stage)) 1 0 + cond (is_waiting stage) 1 0 ≡ cond (is_away stage) 1 0
one_less (Waiting _) = refl
one_less _ = refl

none_waits : (stage : SourceStage) → is_waiting (forgotten_stage stage) ≡ false
none_waits (Waiting _) = refl
none_waits _ = refl

-- what only waited is away no more, where that is forgotten
pub away_less : (ends : List OutEnd) → count_at is_away (map forgotten ends) + count_at is_waiting ends ≡ count_at is_away ends
away_less [] = omega arith
away_less (end ∷ ends) = omega (arith, away_less ends, one_less end.stage)

no_waiting : (ends : List OutEnd) → count_at is_waiting (map forgotten ends) ≡ 0
no_waiting [] = refl
no_waiting (end ∷ ends) = rw (none_waits end.stage, no_waiting ends) refl

-- the same, where it is forgotten what was declined, too
away_less_for : (id : ℕ) (ends : List OutEnd) → count_at is_away (map (forgotten_for id) ends) + count_at is_waiting ends ≡ count_at is_away ends
away_less_for id [] = omega arith
away_less_for id (end ∷ ends) = omega (arith, away_less_for id ends, one_less end.stage)

no_waiting_for : (id : ℕ) (ends : List OutEnd) → count_at is_waiting (map (forgotten_for id) ends) ≡ 0
no_waiting_for id [] = refl
no_waiting_for id (end ∷ ends) = rw (none_waits end.stage, no_waiting_for id ends) refl

module _ {ends : List OutEnd} {left : List Value} {next : ℕ} {parcel : Option Value} {groups : List Group} {room cursor away waiting spare space slots : ℕ} (fits : Fits ends left next parcel groups room cursor away waiting spare space slots) where
  pub fits_forgotten_for : Fits (map (forgotten_for next) ends) left next parcel groups room
      (0 + place_in next (first_of left) (drop 0 (map (forgotten_for next) ends))) (away - waiting) 0 spare space slots
  fits_forgotten_for = record {
    few = omega (arith, fits.few, length-map ends (forgotten_for next));
    cursor_is = omega arith;
    away_is = omega (arith, fits.away_is, fits.waiting_is, away_less_for next ends);
    waiting_is = sym (no_waiting_for next ends);
    ids_begin = fits.ids_begin;
    ids_fit = fits.ids_fit;
    values_fit = fits.values_fit;
    groups_fit = fits.groups_fit;
    room_fits = fits.room_fits;
    parcel_is = fits.parcel_is;
  }

  pub waiting_less : waiting ≤ away
  waiting_less = omega (arith, fits.away_is, fits.waiting_is, away_less ends)

  pub fits_forgotten : Fits (map forgotten ends) left next parcel groups room
      (0 + place_in next (first_of left) (drop 0 (map forgotten ends))) (away - waiting) 0 spare space slots
  fits_forgotten = record {
    few = omega (arith, fits.few, length-map ends forgotten);
    cursor_is = omega arith;
    away_is = omega (arith, fits.away_is, fits.waiting_is, away_less ends);
    waiting_is = sym (no_waiting ends);
    ids_begin = fits.ids_begin;
    ids_fit = fits.ids_fit;
    values_fit = fits.values_fit;
    groups_fit = fits.groups_fit;
    room_fits = fits.room_fits;
    parcel_is = fits.parcel_is;
  }
