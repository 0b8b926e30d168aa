-- What a spread keeps ready stays right when one end changes.
use Rattle.std.proofs.Common.{◌≡◌, ℕ, ◌+◌, ◌<◌, ◌≤◌, ◌^◌, zero, suc, cond, Bool, true, false, List, [], ◌∷◌, length, set, map, drop, subst, Option, Some, None, is_some, Result, Ok, Err, refl, sym, ◌∙◌, ap, inl, inr, arith}
use Rattle.std.specs.Option.{ForSome}
use Rattle.std.specs.Result.{OnOk, OnErr}
use Rattle.std.specs.declared.alloc.AllocError.{AllocError}
use Rattle.std.proofs.lemmas.Bool.{cases_eq}
use Rattle.std.proofs.lemmas.List.{length-set, length-map, get_or-set_same, get_or-set_other, set-get_or}
use Rattle.flow_value.specs.declared.value.Value.{Value}
use Rattle.flow_spread.specs.declared.end.CopyEnd.{CopyEnd}
use Rattle.flow_outlet.specs.End.{id_of}
use Rattle.flow_outlet.specs.declared.ends.LinkRule.{LinkRule}
use Rattle.flow_outlet.specs.declared.ends.OutEnd.{OutEnd}
use Rattle.flow_spread.specs.End.{end_in, no_end, fresh_end, is_open, first_open, moved, takes_up}
use Rattle.flow_spread.specs.Fits.{Fits}

first_after : (id : ℕ) (first : CopyEnd) (rest : List CopyEnd) (b : Bool) → is_open id first ≡ b → b ≡ false
    → cond b 0 (first_open id rest + 1) ≡ suc (first_open id rest)
first_after id first rest true e f = cc
first_after id first rest false e f = omega arith

-- the search may begin behind what is not open
pub first_from : (id : ℕ) (ends : List CopyEnd) (cursor : ℕ) → cursor ≤ length ends
    → ((j : ℕ) → j < cursor → is_open id (end_in ends j) ≡ false)
    → cursor + first_open id (drop cursor ends) ≡ first_open id ends
first_from id ends zero low passed = omega arith
first_from id [] (suc cursor) low passed = absurd (omega arith)
first_from id (first ∷ rest) (suc cursor) low passed =
    let here : cond (is_open id first) 0 (first_open id rest + 1) ≡ suc (first_open id rest) =
    first_after id first rest (is_open id first) refl (passed 0 (omega arith)) in
    let later = first_from id rest cursor (omega arith) (λ j l. passed (suc j) (omega arith)) in
    omega (arith, here, later)

passed_in : (id : ℕ) (first : CopyEnd) (rest : List CopyEnd) (b : Bool) → is_open id first ≡ b
    → ((j : ℕ) → j < first_open id rest → is_open id (end_in rest j) ≡ false)
    → (j : ℕ) → j < cond b 0 (first_open id rest + 1) → is_open id (end_in (first ∷ rest) j) ≡ false
passed_in id first rest true e later j l = absurd (omega arith)
passed_in id first rest false e later zero l = e
passed_in id first rest false e later (suc j) l = later j (omega arith)

-- before the first that is open, none is
pub none_before : (id : ℕ) (ends : List CopyEnd) (j : ℕ) → j < first_open id ends → is_open id (end_in ends j) ≡ false
none_before id [] j l = absurd (omega arith)
none_before id (first ∷ rest) j l = passed_in id first rest (is_open id first) refl (none_before id rest) j l

first_within_in : (rest : List CopyEnd) (n : ℕ) (b : Bool) → n ≤ length rest → cond b 0 (n + 1) ≤ suc (length rest)
first_within_in rest n true l = omega arith
first_within_in rest n false l = omega arith

pub first_within : (id : ℕ) (ends : List CopyEnd) → first_open id ends ≤ length ends
first_within id [] = omega arith
first_within id (first ∷ rest) = first_within_in rest (first_open id rest) (is_open id first) (first_within id rest)

open_in : (id : ℕ) (first : CopyEnd) (rest : List CopyEnd) (b : Bool) → is_open id first ≡ b
    → (first_open id rest < length rest → is_open id (end_in rest (first_open id rest)) ≡ true)
    → cond b 0 (first_open id rest + 1) < length (first ∷ rest)
    → is_open id (end_in (first ∷ rest) (cond b 0 (first_open id rest + 1))) ≡ true
open_in id first rest true e later l = e
open_in id first rest false e later l =
    let here : first_open id rest + 1 ≡ suc (first_open id rest) = omega arith in
    rw here (later (omega arith))

-- the first that is open is open, if there is one
pub open_there : (id : ℕ) (ends : List CopyEnd) → first_open id ends < length ends → is_open id (end_in ends (first_open id ends)) ≡ true
open_there id [] l = absurd (omega arith)
open_there id (first ∷ rest) l = open_in id first rest (is_open id first) refl (open_there id rest) l

module _ {ends : List CopyEnd} {element : Option Value} {id cursor : ℕ} (fits : Fits ends element id cursor) where
  -- the search goes on from the first that is open
  pub fits_found : Fits ends element id (first_open id ends)
  fits_found = record {
    few = fits.few;
    ids_fit = fits.ids_fit;
    ids_begin = fits.ids_begin;
    within = first_within id ends;
    passed = none_before id ends;
    made = fits.made;
  }

  -- one end changes. The search goes back to it where it is open
  pub fits_changed : (k : ℕ) → k < length ends → (end : CopyEnd) → ForSome end.share (λ value. element ≡ Some value)
      → (cursor' : ℕ) → cursor' ≤ cursor → (k < cursor' → is_open id end ≡ false)
      → Fits (set ends k end) element id cursor'
  fits_changed k here end mine cursor' low shut = record {
    few = omega (arith, fits.few, length-set ends k end);
    ids_fit = fits.ids_fit;
    ids_begin = fits.ids_begin;
    within = omega (arith, low, fits.within, length-set ends k end);
    passed = λ j l. elim (cases_eq j k) [
      | inl same ↦ rw (same, get_or-set_same ends k end no_end here) (shut (let before : k < cursor' = rw (sym same) l in before))
      | inr other ↦ rw (get_or-set_other ends k j end no_end other) (fits.passed j (omega arith))
    ];
    made = λ j. elim (cases_eq j k) [
      | inl same ↦ rw (same, get_or-set_same ends k end no_end here) mine
      | inr other ↦ rw (get_or-set_other ends k j end no_end other) (fits.made j)
    ];
  }

made_stays : (b : Bool) (share element : Option Value) → ForSome share (λ value. element ≡ Some value)
    → ForSome (cond b share None) (λ value. element ≡ Some value)
made_stays true share element made = made
made_stays false share element made = λ value e. cc

-- the link of one end stands elsewhere
pub fits_moved : {ends : List CopyEnd} {element : Option Value} {id cursor : ℕ} → Fits ends element id cursor
    → (k : ℕ) → k < length ends → (link : OutEnd) (owes : Bool) (cursor' : ℕ) → cursor' ≤ cursor
    → (k < cursor' → is_open id (moved link owes (end_in ends k)) ≡ false)
    → Fits (set ends k (moved link owes (end_in ends k))) element id cursor'
fits_moved {ends} {element} fits k here link owes cursor' low shut =
    fits_changed fits k here (moved link owes (end_in ends k))
    (made_stays (is_some (id_of link.stage)) (end_in ends k).share element (fits.made k)) cursor' low shut

-- what one link is to have is made
pub fits_prepared : {ends : List CopyEnd} {element : Option Value} {id cursor : ℕ} → Fits ends element id cursor
    → (k : ℕ) → k < length ends → (value : Value) → element ≡ Some value
    → Fits (set ends k (record (end_in ends k) { share = Some value })) element id cursor
fits_prepared {ends} {element} {id} {cursor} fits k here value is =
    fits_changed fits k here (record (end_in ends k) { share = Some value })
    (λ v e. let same : value ≡ v = cc in is ∙ ap Some same) cursor (omega arith) (λ before. fits.passed k before)

no_shares : (value : Value) (ends : List CopyEnd) (j : ℕ) → (end_in (map (takes_up value) ends) j).share ≡ None
no_shares value [] j = refl
no_shares value (end ∷ ends) zero = refl
no_shares value (end ∷ ends) (suc j) = no_shares value ends j

-- a new element is taken
pub fits_put : {ends : List CopyEnd} {element : Option Value} {id cursor : ℕ} → Fits ends element id cursor
    → (value : Value) → id + 1 < 2 ^ 59 → Fits (map (takes_up value) ends) (Some value) (id + 1) 0
fits_put {ends} fits value fit = record {
  few = omega (arith, fits.few, length-map ends (takes_up value));
  ids_fit = fit;
  ids_begin = λ _. omega arith;
  within = omega arith;
  passed = λ j l. absurd (omega arith);
  made = λ j v e. let none : None ≡ Some v = sym (no_shares value ends j) ∙ e in cc;
}

fresh_share : (rules : List LinkRule) (j : ℕ) → (end_in (map fresh_end rules) j).share ≡ None
fresh_share [] j = refl
fresh_share (rule ∷ rules) zero = refl
fresh_share (rule ∷ rules) (suc j) = fresh_share rules j

pub fits_fresh : (rules : List LinkRule) (id : ℕ) → length rules < 2 ^ 63 → id < 2 ^ 59 → Fits (map fresh_end rules) None id 0
fits_fresh rules id few fit = record {
  few = omega (arith, few, length-map rules fresh_end);
  ids_fit = fit;
  ids_begin = λ e. cc;
  within = omega arith;
  passed = λ j l. absurd (omega arith);
  made = λ j v e. let none : None ≡ Some v = sym (fresh_share rules j) ∙ e in cc;
}

-- the last write to a place stands
pub set_twice : (ends : List CopyEnd) (k : ℕ) (first last : CopyEnd) → set (set ends k first) k last ≡ set ends k last
set_twice [] k first last = refl
set_twice (end ∷ ends) zero first last = refl
set_twice (end ∷ ends) (suc k) first last = ap (λ (es : List CopyEnd). end ∷ es) (set_twice ends k first last)

-- what is made already stays
made_is : (share element : Option Value) → is_some share ≡ true → ForSome share (λ value. element ≡ Some value) → share ≡ element
made_is None element some made = cc
made_is (Some value) element some made = sym (made value refl)

pub still_made : {ends : List CopyEnd} {element : Option Value} {id cursor : ℕ} → Fits ends element id cursor
    → (k : ℕ) → is_some (end_in ends k).share ≡ true → (end_in ends k).share ≡ element
still_made {ends} {element} fits k some = made_is (end_in ends k).share element some (fits.made k)

pub stays_made : (ends : List CopyEnd) (element : Option Value) (k : ℕ) → (end_in ends k).share ≡ element
    → ends ≡ set ends k (record (end_in ends k) { share = element })
stays_made ends element k e = let same : set ends k (record (end_in ends k) { share = (end_in ends k).share }) ≡ ends = set-get_or ends k no_end in
    sym (subst (λ (share : Option Value). set ends k (record (end_in ends k) { share = share }) ≡ ends) e same)

-- what one link is to have is made, or there is no memory for it
pub fits_tried : {ends : List CopyEnd} {element : Option Value} {id cursor : ℕ} → Fits ends element id cursor
    → (k : ℕ) → k < length ends → (value : Value) → element ≡ Some value
    → (result : Result (Unit {0}) AllocError) (new : List CopyEnd)
    → OnOk result (new ≡ set ends k (record (end_in ends k) { share = Some value })) → OnErr result (new ≡ ends)
    → Fits new element id cursor
fits_tried {element} {id} {cursor} fits k here value is (Ok _) new done kept =
    subst (λ (es : List CopyEnd). Fits es element id cursor) (sym done) (fits_prepared fits k here value is)
fits_tried {element} {id} {cursor} fits k here value is (Err _) new done kept =
    subst (λ (es : List CopyEnd). Fits es element id cursor) (sym kept) fits
