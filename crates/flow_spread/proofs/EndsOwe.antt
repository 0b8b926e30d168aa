-- What an end of a spread owes its link, and whether it is due.
use Rattle.std.proofs.Common.{◌≡◌, ℕ, ◌+◌, ◌<◌, ◌==◌, ◌||◌, ◌&&◌, not, Bool, true, false, cond, Option, Some, None, is_some, refl, sym, ◌∙◌, arith}
use Rattle.std.specs.Bool.{OnTrue}
use Rattle.std.proofs.lemmas.Bool.{OnTrue_from, and_parts}
use Rattle.std.proofs.lemmas.Bool.Decides.{nat_tests}
use Rattle.flow_value.specs.When.{admits}
use Rattle.flow_value.specs.declared.value.Value.{Value}
use Rattle.flow_link.specs.declared.phase.LinkEnd.{LinkEnd}
use Rattle.flow_link.specs.declared.stage.SourceStage.{SourceStage}
use Rattle.flow_link.specs.declared.stage.SourceStage.TheVariants.{Free, Posted, Out, Waiting, Accepted, Wished, AskedBy, Reserved, Claimed, Crossing, Refused, Ended}
use Rattle.flow_link.specs.LinkOk.{IsWithin, HasRoom}
use Rattle.flow_outlet.specs.ByLink.{forgotten, forgotten_stage}
use Rattle.flow_outlet.specs.End.{id_of, is_out, is_over, is_cut, is_limit, counted}
use Rattle.flow_outlet.specs.Law.{is_put_off, is_refused}
use Rattle.flow_outlet.specs.Outlet.{end_of}
use Rattle.flow_outlet.proofs.StagesTell.{cut_then}
use Rattle.flow_outlet.specs.declared.ends.OutEnd.{OutEnd}
use Rattle.flow_spread.specs.declared.end.CopyEnd.{CopyEnd}
use Rattle.flow_spread.specs.End.{is_busy, is_due, takes_up}
use Rattle.flow_spread.specs.Law.{CopyEndLaw, speaks, may_owe}
use Rattle.flow_spread.proofs.StagesTell.{or_second, or_either, never_so, number_below, quiet_is}

below_limit : (max : Option ℕ) (given : ℕ) → IsWithin max given → is_limit max given ≡ false → HasRoom max given
below_limit None given within e = tt
below_limit (Some max) given within e = grind (arith, nat_tests)

pub one_more : (max : Option ℕ) (given : ℕ) → HasRoom max given → IsWithin max (counted max given)
one_more None given room = tt
one_more (Some max) given room = omega (arith, room)

pub within_none : (max : Option ℕ) → IsWithin max 0
within_none None = tt
within_none (Some max) = omega arith

pub share_kept : (b : Bool) (share element : Option Value) → (b ≡ true → share ≡ element) → OnTrue b (cond b share None ≡ element)
share_kept true share element e = e refl
share_kept false share element e = tt

-- A new element

due_parts : (over cut admitted : Bool) → (not (over || cut) && admitted) ≡ true → (over ≡ false) × (cut ≡ false) × (admitted ≡ true)
due_parts false false true e = (refl, refl, refl)
due_parts false false false e = cc
due_parts false true admitted e = cc
due_parts true cut admitted e = cc

due_or_closed : (over cut admitted same refused : Bool) → admitted ≡ true → (over ≡ true → refused ≡ false → cut ≡ true)
    → ((not (over || cut) && admitted) || same || refused || cut) ≡ true
due_or_closed over true admitted same refused e f = or_second ((not (over || true) && admitted) || same || refused) true refl
due_or_closed false false true same refused e f = refl
due_or_closed false false false same refused e f = cc
due_or_closed true false admitted true refused e f = refl
due_or_closed true false admitted false true e f = refl
due_or_closed true false admitted false false e f = let no : false ≡ true = f refl refl in cc

pub first_of_four : (a b c d : Bool) → a ≡ true → (a || b || c || d) ≡ true
first_of_four true b c d e = refl
first_of_four false b c d e = cc

pub ended_cut : (link : OutEnd) → ((how : LinkEnd) → link.stage ≡ Ended how → end_of link None ≡ Some how)
    → (stage : SourceStage) → stage ≡ link.stage → is_over stage ≡ true → is_refused stage ≡ false → is_cut link ≡ true
ended_cut link ended (Ended how) same over kept = cut_then (is_cut link) None how (ended how (sym same)) refl
ended_cut link ended Refused same over kept = cc
ended_cut link ended Free same over kept = cc
ended_cut link ended (Posted _) same over kept = cc
ended_cut link ended (Out _) same over kept = cc
ended_cut link ended (Waiting _) same over kept = cc
ended_cut link ended (Accepted _) same over kept = cc
ended_cut link ended (Wished _) same over kept = cc
ended_cut link ended (AskedBy _) same over kept = cc
ended_cut link ended (Reserved _) same over kept = cc
ended_cut link ended (Claimed _) same over kept = cc
ended_cut link ended Crossing same over kept = cc

pub forgot_end : (stage : SourceStage) (how : LinkEnd) → forgotten_stage stage ≡ Ended how → stage ≡ Ended how
forgot_end (Waiting _) how e = cc
forgot_end stage how e = e

pub silent_speaks : {Q : Type 0} (o : Option ℕ) → o ≡ None → is_some o ≡ true → Q
silent_speaks None n e = absurd (cc)
silent_speaks (Some i) n e = absurd (cc)

pub puts_each : {element : Option Value} {id : ℕ} {once pending : Bool} (end : CopyEnd) (value : Value)
    → CopyEndLaw element id once pending None end → is_busy end.link.stage ≡ false
    → CopyEndLaw (Some value) (id + 1) once pending None (takes_up value end)
puts_each {id} {once} end value old free =
    let link = forgotten end.link in
    let quiet = quiet_is end.link.stage free in
    let due = λ (e : is_due value link ≡ true). due_parts (is_over link.stage) (is_cut link) (admits link.rule.when value) e in
    let fine = λ (e : (speaks link.stage || is_due value link) ≡ true).
    or_either {Q = is_due value link ≡ true} (speaks link.stage) (is_due value link) (λ s. silent_speaks (id_of link.stage) quiet.silent s) (λ d. d) e in
    record {
      current = λ i e. let none : None ≡ Some i = sym quiet.silent ∙ e in cc;
      offers = quiet.not_posted;
      risen = omega (arith, old.risen);
      declined_before = omega (arith, old.declined_before);
      fresh = OnTrue_from (speaks link.stage || is_due value link) _ (λ _. let later : end.link.last < id + 1 = omega (arith, old.risen) in later);
      admitted = OnTrue_from (speaks link.stage || is_due value link) _ (λ e. (due (fine e)).2);
      ready = OnTrue_from (speaks link.stage) _ (λ s. silent_speaks (id_of link.stage) quiet.silent s);
      within = old.within;
      room = OnTrue_from (speaks link.stage || is_due value link) _ (λ e. below_limit link.rule.max link.given old.within (due (fine e)).1);
      put_off = OnTrue_from (is_put_off link.stage) _ (λ e. never_so (is_put_off link.stage) e quiet.not_off);
      owed = OnTrue_from (is_out link.stage) _ (λ e. never_so (is_out link.stage) e quiet.not_out);
      owing = OnTrue_from (is_due value link) _ (λ e. quiet.may_owe once (due e).0);
      once_owes = λ o a. due_or_closed (is_over link.stage) (is_cut link) (admits link.rule.when value) (link.last == id + 1) (is_refused link.stage) a
          (λ over kept. ended_cut end.link old.ended link.stage (quiet.over over kept) over kept);
      given_up = OnTrue_from (link.declined == id + 1 && is_due value link) _ (λ e.
          let parts = and_parts (link.declined == id + 1) (is_due value link) e in
          never_so (link.declined == id + 1) parts.0 (number_below link.declined (id + 1) (let low : end.link.declined < id + 1 = omega (arith, old.declined_before) in low)));
      ended = λ how e. old.ended how (forgot_end end.link.stage how e);
      rests = λ e. cc;
      served = λ e. cc;
    }

-- Other calls

pub open_parts : (some owes free given_up : Bool) → (some && (owes && free && not given_up)) ≡ true
    → (some ≡ true) × (owes ≡ true) × (free ≡ true) × (given_up ≡ false)
open_parts true true true false e = (refl, refl, refl, refl)
open_parts true true true true e = cc
open_parts true true false _ e = cc
open_parts true false _ _ e = cc
open_parts false _ _ _ e = cc

pub owes_or : (owes same refused refused' cut owes' : Bool) → (owes ≡ true → owes' ≡ false → refused' ≡ true) → (refused ≡ true → refused' ≡ true)
    → (owes || same || refused || cut) ≡ true → (owes' || same || refused' || cut) ≡ true
owes_or owes same refused refused' cut true f g e = refl
owes_or owes true refused refused' cut false f g e = refl
owes_or owes false refused true cut false f g e = refl
owes_or owes false refused false true false f g e = refl
owes_or true false refused false false false f g e = f refl refl
owes_or false false true false false false f g e = g refl
owes_or false false false false false false f g e = e

pub owes_refused : (owes same refused cut : Bool) → (owes || refused) ≡ true → (owes || same || refused || cut) ≡ true
owes_refused true same refused cut e = refl
owes_refused false true refused cut e = refl
owes_refused false false true cut e = refl
owes_refused false false false cut e = cc

pub none_left : (owes answers : Bool) → owes ≡ true → (owes && not answers) ≡ false → answers ≡ true
none_left true true e f = refl
none_left true false e f = cc
none_left false answers e f = cc
