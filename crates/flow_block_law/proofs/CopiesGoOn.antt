-- What the end of a link over which copies go would do next is a call that it may make, and has its cause.
use Rattle.std.proofs.Common.{◌≡◌, ℕ, ◌<◌, ◌==◌, ◌⊎◌, inl, inr, Bool, true, false, cond, not, ◌&&◌, ◌||◌, length, Option, Some, None, is_some, is_none, refl, ap, sym, subst, ◌∙◌, ⊎_elim, arith, eqb-true}
use Rattle.std.proofs.lemmas.Bool.{OnTrue_at, and_parts, or_cases, false_from_ne_true}
use Rattle.flow_link.specs.declared.phase.LinkEnd.{LinkEnd}
use Rattle.flow_link.specs.declared.phase.LinkEnd.TheVariants.{Plain}
use Rattle.flow_link.specs.declared.phase.Move.{Move}
use Rattle.flow_link.specs.declared.phase.Move.TheVariants as move
use Rattle.flow_link.specs.declared.stage.SourceStage.{SourceStage}
use Rattle.flow_link.specs.declared.stage.SourceStage.TheVariants as source
use Rattle.flow_link.specs.declared.trace.Outcome.{Outcome}
use Rattle.flow_link.specs.Layout.{Layout}
use Rattle.flow_link.specs.Plan.{is_write_once}
use Rattle.flow_link.proofs.ListTests.{never_both}
use Rattle.flow_outlet.specs.End.{is_free, is_waiting, is_cut}
use Rattle.flow_outlet.specs.Outlet.{is_empty, end_of, end_by, is_at_rest as outlet_rest}
use Rattle.flow_outlet.proofs.StagesTell.{free_is}
use Rattle.flow_spread.specs.End.{count_of, owes_it}
use Rattle.flow_spread.specs.Law.{SpreadLaw, speaks}
use Rattle.flow_spread.specs.Spread.{SpreadState, end_at, link_at, stage_at, may_offer, is_spread_free, is_at_rest, only_waits, free_move, move_at}
use Rattle.flow_spread.proofs.CountsOfEnds.{none_there}
use Rattle.flow_spread.proofs.LawKept.{admits_some}
use Rattle.flow_spread.proofs.MovesAllowed.{moves_are_allowed}
use Rattle.flow_spread.proofs.StagesTell.{or_second}
use Rattle.flow_block.specs.Block.{BlockState, held_by}
use Rattle.flow_block_law.specs.Copier.{Copier}
use Rattle.flow_block.specs.Copies.{copies_left}
use Rattle.flow_block.specs.Node.{NodeState}
use Rattle.flow_block_law.specs.NextCopies.{next_copy, MayMoveCopy, NextCopiesMay, NextCopiesHaveCauses}
use Rattle.flow_block.specs.Peeks.{is_pending, fault_cause, fault_at_ports, is_worked_off, could_stop, has_all_given, would_copy, is_copy_held_up}
use Rattle.flow_block_law.proofs.CopierHolds.{copies_lawful}
use Rattle.flow_block_law.proofs.CopiesCalled.{once_is}
use Rattle.flow_block_law.proofs.EndsTell.{no_room_left}
use Rattle.flow_block_law.proofs.FaultsSeen.{cause_pending}

-- the moves of a source whose block copies
abbrev is_copy_move : Move → Bool
is_copy_move (move.Offer id) = true
is_copy_move move.Give = true
is_copy_move move.Hold = true
is_copy_move move.Withdraw = true
is_copy_move (move.End how) = true
is_copy_move _ = false

copy_move_if : (b : Bool) (m next : Move) → is_copy_move m ≡ true → cond b (Some m) None ≡ Some next → is_copy_move next ≡ true
copy_move_if true m next is e = let same : m ≡ next = cc in subst (λ (n : Move). is_copy_move n ≡ true) same is
copy_move_if false m next is e = absurd (cc)

copy_move_free : (s : SpreadState) (k : ℕ) (how : Option LinkEnd) (next : Move) → free_move s k how ≡ Some next
    → is_copy_move next ≡ true
copy_move_free s k (Some how) next e = copy_move_if true (move.End how) next refl e
copy_move_free s k None next e = copy_move_if (may_offer k s) (move.Offer s.id) next refl e

abbrev is_withdraw : Move → Bool
is_withdraw move.Withdraw = true
is_withdraw _ = false

free_withdraws_not : (s : SpreadState) (k : ℕ) (how : Option LinkEnd) (next : Move) → free_move s k how ≡ Some next
    → is_withdraw next ≡ false
free_withdraws_not s k (Some how) next e =
    let same : move.End how ≡ next = cc in subst (λ (n : Move). is_withdraw n ≡ false) same refl
free_withdraws_not s k None next e = by_offer (may_offer k s) e
  where
    by_offer : (b : Bool) → cond b (Some (move.Offer s.id)) None ≡ Some next → is_withdraw next ≡ false
    by_offer true e = let same : move.Offer s.id ≡ next = cc in subst (λ (n : Move). is_withdraw n ≡ false) same refl
    by_offer false e = absurd (cc)

copy_move_at : (s : SpreadState) (k : ℕ) (stopped : Option Outcome) (held_up : Bool) (stage : SourceStage) (next : Move)
    → move_at s k stopped held_up stage ≡ Some next → is_copy_move next ≡ true
copy_move_at s k stopped held_up source.Free next e = copy_move_free s k (end_of (link_at s k) stopped) next e
copy_move_at s k stopped held_up (source.Accepted i) next e = copy_move_if true move.Give next refl e
copy_move_at s k stopped held_up (source.Wished i) next e = copy_move_if true move.Give next refl e
copy_move_at s k stopped held_up (source.Claimed i) next e = copy_move_if true move.Give next refl e
copy_move_at s k stopped held_up (source.AskedBy i) next e = copy_move_if true move.Hold next refl e
copy_move_at s k stopped held_up (source.Waiting i) next e = copy_move_if held_up move.Withdraw next refl e
copy_move_at s k stopped held_up _ next e = absurd (cc)

withdraws_where : (s : SpreadState) (k : ℕ) (stopped : Option Outcome) (held_up : Bool) (stage : SourceStage)
    → move_at s k stopped held_up stage ≡ Some move.Withdraw → (is_waiting stage ≡ true) × (held_up ≡ true)
withdraws_where s k stopped true (source.Waiting i) e = (refl, refl)
withdraws_where s k stopped false (source.Waiting i) e = absurd (cc)
withdraws_where s k stopped held_up source.Free e =
    never_both (is_withdraw move.Withdraw) refl (free_withdraws_not s k (end_of (link_at s k) stopped) move.Withdraw e)
withdraws_where s k stopped held_up _ e = absurd (cc)

-- nobody owes where no copy is left
pub none_owe : (s : SpreadState) → copies_left s ≡ 0 → count_of owes_it s.ends ≡ 0
none_owe s e = by_test (count_of owes_it s.ends == 0) refl e
  where
    by_test : (nobody : Bool) → (count_of owes_it s.ends == 0) ≡ nobody → ◌≡◌ {A = ℕ} (cond nobody 0 1) 0
        → count_of owes_it s.ends ≡ 0
    by_test true is e = eqb-true (count_of owes_it s.ends) 0 is
    by_test false is e = absurd (omega (arith, e))

pub free_owes_none : (s : SpreadState) → is_spread_free s ≡ true → count_of owes_it s.ends ≡ 0
free_owes_none s e =
    eqb-true (count_of owes_it s.ends) 0
    (and_parts (count_of owes_it s.ends == 0) _ (and_parts (count_of owes_it s.ends == 0 && _) _ e).0).0

-- a link is not cut over which the element still goes
open_going : (cut passes : Bool) (stopped : Option Outcome) → stopped ≡ None → cut ≡ false
    → cond cut (Some Plain) (end_by passes stopped) ≡ None
open_going cut passes stopped going uncut = rw (going, uncut) refl

offers_or_late : {A : Type 0} {Q : Type 0} (late : Bool) (m : A) → (late ≡ true → Q)
    → (cond (not late) (Some m) None ≡ Some m) ⊎ Q
offers_or_late true m q = inr (q refl)
offers_or_late false m q = inl refl

open_by : {some owes free : Bool} → some ≡ true → owes ≡ true → free ≡ true → (late : Bool)
    → (some && (owes && free && not late)) ≡ not late
open_by s o f late = rw (s, o, f) refl

and_true : (a b : Bool) → a ≡ true → b ≡ true → (a && b) ≡ true
and_true a b ea eb = rw (ea, eb) refl

at_rest_where : (could exits copies : Bool) (cause : Option ℕ) (number : ℕ)
    → cond (could && (exits && copies)) cause None ≡ Some number → copies ≡ true
at_rest_where could exits true cause number e = refl
at_rest_where true true false cause number e = absurd (cc)
at_rest_where true false false cause number e = absurd (cc)
at_rest_where false exits false cause number e = absurd (cc)

module _ {W : Type 0} (layout : Layout W) (b : ℕ) (node : NodeState) (c : Copier layout b node.block node.journal) where
  abbrev block : BlockState
  block = node.block

  abbrev copies : SpreadState
  copies = node.block.copies

  law : SpreadLaw 1 c.pending node.block.stopped node.block.copies
  law = copies_lawful layout b node.block node.journal c

  -- what holds the block up, where a link still owes
  held_up_faults : (k : ℕ) → k < length copies.ends → (end_at copies k).owes ≡ true → is_copy_held_up block ≡ true
      → is_pending block ≡ true
  held_up_faults k here owes held_up =
      let free_not : count_of owes_it copies.ends ≡ 0 → is_pending block ≡ true =
      λ none. never_both (end_at copies k).owes owes (none_there owes_it copies.ends k here none) in
      let waits = could_stop block && only_waits copies in
      ⊎_elim
      (λ would. free_not (free_owes_none copies
      (and_parts (is_none block.stopped && not (is_empty (held_by block))) (is_spread_free copies) would).1))
      (λ stops. ⊎_elim
      (λ cause. cause_pending block.fault (fault_at_ports block.ports) (is_worked_off block) cause)
      (λ given. free_not (none_owe copies
      (eqb-true (copies_left copies) 0 (and_parts _ (copies_left copies == 0) given).1)))
      (or_cases (is_some (fault_cause block)) (has_all_given block)
      (and_parts waits (is_some (fault_cause block) || has_all_given block) stops).1))
      (or_cases (would_copy block) (waits && (is_some (fault_cause block) || has_all_given block)) held_up)

  may_by : (k : ℕ) (next : Move) → k < length copies.ends → next_copy k node ≡ Some next → is_copy_move next ≡ true
      → MayMoveCopy k node next
  may_by k (move.Offer id) here e is =
      let may = moves_are_allowed.offers 1 c.pending block.stopped (is_copy_held_up block) copies law k here id e in
      (may.1, record { place = here; stands = (may.2, may.0) })
  may_by k move.Give here e is = record {
    place = here;
    stands = moves_are_allowed.gives 1 c.pending block.stopped (is_copy_held_up block) copies law k here e;
  }
  may_by k move.Hold here e is = record {
    place = here;
    stands = moves_are_allowed.holds 1 c.pending block.stopped (is_copy_held_up block) copies law k here e;
  }
  may_by k move.Withdraw here e is =
      let may = moves_are_allowed.withdraws 1 c.pending block.stopped (is_copy_held_up block) copies law k here e in
      record { place = here; stands = (may.0, λ owes. held_up_faults k here owes may.1) }
  may_by k (move.End how) here e is = record {
    place = here;
    stands = moves_are_allowed.ends 1 c.pending block.stopped (is_copy_held_up block) copies law k here how e;
  }
  may_by k _ here e is = absurd (cc)

  -- a link that still owes has room, so it ends only with its block
  pub owing_goes : (k : ℕ) → k < length copies.ends → block.stopped ≡ None → (end_at copies k).owes ≡ true
      → end_of (link_at copies k) block.stopped ≡ None
  owing_goes k here going owes =
      let link = link_at copies k in
      let own = law.each k here in
      let room = OnTrue_at (or_second (speaks link.stage) (end_at copies k).owes owes) own.room in
      open_going (is_cut link) link.rule.passes block.stopped going
      (false_from_ne_true (is_cut link) (λ cut. no_room_left link.rule.max link.given cut room))

  pub offers_so : (k : ℕ) → k < length copies.ends → block.stopped ≡ None → (end_at copies k).owes ≡ true
      → is_free (stage_at copies k) ≡ true
      → (next_copy k node ≡ Some (move.Offer copies.id)) ⊎ ((is_write_once block.kind ≡ true) × (is_pending block ≡ true))
  offers_so k here going owes free =
      let link = link_at copies k in
      let own = law.each k here in
      let some : is_some copies.element ≡ true =
      admits_some link.rule.when copies.element
      (OnTrue_at (or_second (speaks link.stage) (end_at copies k).owes owes) own.admitted) in
      let late = link.declined == copies.id in
      let moves : next_copy k node ≡ free_move copies k (end_of link block.stopped) =
      ap (move_at copies k block.stopped (is_copy_held_up block)) (free_is link.stage free) in
      let offered : next_copy k node ≡ cond (may_offer k copies) (Some (move.Offer copies.id)) None =
      moves ∙ ap (free_move copies k) (owing_goes k here going owes) in
      let may : may_offer k copies ≡ not late = open_by some owes free late in
      ⊎_elim
      (λ is. inl (offered ∙ ap (λ (b : Bool). cond b (Some (move.Offer copies.id)) None) may ∙ is))
      (λ given_up. inr given_up)
      (offers_or_late late (move.Offer copies.id)
      (λ is. let given_up = OnTrue_at (and_true late (end_at copies k).owes is owes) own.given_up in
      (sym (once_is layout b block node.journal c) ∙ given_up.0, c.faults given_up.1)))

pub next_copies_may : (W : Type 0) → NextCopiesMay W
next_copies_may W layout b node c k next here e =
    may_by layout b node c k next here e
    (copy_move_at node.block.copies k node.block.stopped (is_copy_held_up node.block) (stage_at node.block.copies k) next e)

pub next_copies_have_causes : (W : Type 0) → NextCopiesHaveCauses W
next_copies_have_causes W layout b node c = record {
  offers = offers_so layout b node c;
  withdraws = λ k e. (withdraws_only k e).1;
  faults = λ number e.
      at_rest_where (could_stop node.block) (outlet_rest node.block.exits) (is_at_rest node.block.copies)
      (fault_cause node.block) number e;
}
  where
    withdraws_only : (k : ℕ) → next_copy k node ≡ Some move.Withdraw
        → (is_waiting (stage_at node.block.copies k) ≡ true) × (is_copy_held_up node.block ≡ true)
    withdraws_only k e =
        withdraws_where node.block.copies k node.block.stopped (is_copy_held_up node.block) (stage_at node.block.copies k) e
