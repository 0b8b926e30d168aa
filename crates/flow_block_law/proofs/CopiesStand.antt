-- Where what it copies is in order, a block stands at each link over which it copies as its end does.
use Rattle.std.proofs.Common.{◌≡◌, ℕ, ◌<◌, ◌==◌, ltb, Bool, true, false, not, ◌&&◌, ◌||◌, cond, length, Option, Some, None, is_some, refl, ap, ap₂, sym, ◌∙◌, subst, eq-eqb}
use Rattle.std.proofs.lemmas.Bool.{OnTrue_at, lt-ltb, or_left, or_right}
use Rattle.flow_link.specs.SourceCalls.{MayConsume, MayReserve}
use Rattle.flow_link.specs.declared.stage.SourceStage.{SourceStage}
use Rattle.flow_link.specs.declared.stage.SourceStage.TheVariants as source
use Rattle.flow_link.specs.declared.trace.Outcome.{Outcome}
use Rattle.flow_outlet.specs.End.{id_of, is_free}
use Rattle.flow_outlet.specs.ByLink.{has_room, is_taken, is_waiting_for}
use Rattle.flow_spread.specs.declared.end.CopyEnd.{CopyEnd}
use Rattle.flow_spread.specs.Law.{CopyEndLaw, SpreadLaw, speaks, concerns_it}
use Rattle.flow_spread.specs.Spread.{SpreadState, end_at, link_at, stage_at, next_place}
use Rattle.flow_spread.specs.ByLink.{place_of, is_there, tests_reserve, tests_consume, reserved}
use Rattle.flow_spread.proofs.NextOffer.{next_is}
use Rattle.flow_block_law.specs.Stands.{OwnCopies, CopiesStandInOrder}
use Rattle.flow_block.specs.Traits.{source_shown, is_copy_ready, copy_place_shown, copy_over, carries_copy, copies_over, may_take_copy, may_keep_copy}
use Rattle.flow_block.proofs.CopyStands.{shown_there, taken_all}
use Rattle.flow_block_law.proofs.StandsInOrder.{admits_there, room_for}

all_three : (a b c : Bool) → a ≡ true → b ≡ true → c ≡ true → (a && b && c) ≡ true
all_three a b c p q r = rw (p, q, r) refl

-- what is asked of an element that is to be kept
kept_all : (some share room there waits is head : Bool) → (some && share && room) ≡ true → there ≡ true → waits ≡ true → is ≡ true
    → head ≡ true → (((some && (there && waits)) && (there && (not is || share && room))) && head) ≡ true
kept_all true true true true true true true ready t w i h = refl
kept_all true true true true true true false ready t w i h = absurd (cc)
kept_all true true true true true false head ready t w i h = absurd (cc)
kept_all true true true true false is head ready t w i h = absurd (cc)
kept_all true true true false waits is head ready t w i h = absurd (cc)
kept_all true true false there waits is head ready t w i h = absurd (cc)
kept_all true false room there waits is head ready t w i h = absurd (cc)
kept_all false share room there waits is head ready t w i h = absurd (cc)

owes_first : (a b c d : Bool) → (a && (b && c && d)) ≡ true → b ≡ true
owes_first true true c d e = refl
owes_first true false c d e = absurd (cc)
owes_first false b c d e = absurd (cc)

module _ {first : ℕ} {pending : Bool} {stopped : Option Outcome} (s : SpreadState) (law : SpreadLaw first pending stopped s) (own : OwnCopies s)
    (k : ℕ) (l : k < length s.ends) where
  abbrev end : CopyEnd
  end = end_at s k

  end_law : CopyEndLaw s.element s.id s.once pending stopped end
  end_law = law.each k l

  concerns : speaks end.link.stage ≡ true → concerns_it end ≡ true
  concerns e = or_left (speaks end.link.stage) end.owes e

  -- what is under way over the link is there
  ready : speaks end.link.stage ≡ true → is_copy_ready s end ≡ true
  ready e =
      let some : is_some s.element ≡ true =
      admits_there end.link.rule.when s.element (OnTrue_at (concerns e) end_law.admitted) in
      all_three (is_some s.element) (is_some end.share) (has_room end.link.rule.max end.link.given)
      some (ap is_some (OnTrue_at e end_law.ready) ∙ some) (room_for end.link.rule.max end.link.given (OnTrue_at (concerns e) end_law.room))

  current : (i : ℕ) → id_of end.link.stage ≡ Some i → (i == s.id) ≡ true
  current i is = eq-eqb i s.id (end_law.current i is)

  shown_at : (stage : SourceStage) → end.link.stage ≡ stage → source_shown (is_copy_ready s end) s.id stage ≡ stage
  shown_at (source.Out i) is =
      ap₂ (λ (r b : Bool). cond (r && b) (source.Out i) source.Crossing) (ready (ap speaks is)) (current i (ap id_of is))
  shown_at (source.Accepted i) is =
      ap₂ (λ (r b : Bool). cond (r && b) (source.Accepted i) source.Crossing) (ready (ap speaks is)) (current i (ap id_of is))
  shown_at (source.Waiting i) is = ap (λ (b : Bool). cond b (source.Waiting i) source.Free) (current i (ap id_of is))
  shown_at (source.Reserved i) is =
      ap₂ (λ (r b : Bool). cond (r && b) (source.Reserved i) source.Crossing) (ready (ap speaks is)) (current i (ap id_of is))
  shown_at source.Free is = refl
  shown_at (source.Posted _) is = refl
  shown_at (source.Wished _) is = refl
  shown_at (source.AskedBy _) is = refl
  shown_at (source.Claimed _) is = refl
  shown_at source.Crossing is = refl
  shown_at source.Refused is = refl
  shown_at (source.Ended _) is = refl

  pub copy_stage_is : copy_over s (link_at s k).rule.id ≡ stage_at s k
  copy_stage_is = ap (λ (n : ℕ). copy_place_shown n s) (own k l) ∙ shown_there s k l ∙ shown_at (stage_at s k) refl

  taken_where : (stage : SourceStage) (header : ℕ) → end.link.stage ≡ stage → MayConsume header false stage
      → (speaks stage ≡ true) × ((header == s.id && is_taken s.id false stage) ≡ true)
  taken_where (source.Accepted i) header is may =
      let same = current i (ap id_of is) in
      (refl, ap₂ (λ (a b : Bool). a && b) (subst (λ (n : ℕ). (n == s.id) ≡ true) may same) same)
  taken_where (source.Waiting i) header is may =
      let same = current i (ap id_of is) in
      (refl, ap₂ (λ (a b : Bool). a && (b && true)) (subst (λ (n : ℕ). (n == s.id) ≡ true) may.0 same) same)
  taken_where (source.Reserved i) header is may =
      let same = current i (ap id_of is) in
      (refl, ap₂ (λ (a b : Bool). a && b) (subst (λ (n : ℕ). (n == s.id) ≡ true) may same) same)
  taken_where source.Free header is may = absurd may
  taken_where (source.Posted _) header is may = absurd may
  taken_where (source.Out _) header is may = absurd may
  taken_where (source.Wished _) header is may = absurd may
  taken_where (source.AskedBy _) header is may = absurd may
  taken_where (source.Claimed _) header is may = absurd may
  taken_where source.Crossing header is may = absurd may
  taken_where source.Refused header is may = absurd may
  taken_where (source.Ended _) header is may = absurd may

  pub copy_gives : (header : ℕ) → MayConsume header false (copy_over s (link_at s k).rule.id)
      → may_take_copy (link_at s k).rule.id header s ≡ true
  copy_gives header may =
      let told = taken_where (stage_at s k) header refl
      (subst (λ (stage : SourceStage). MayConsume header false stage) copy_stage_is may) in
      let there : is_there k header s ≡ true = told.1 in
      subst (λ (n : ℕ). (is_some s.element && (ltb n (length s.ends) && (not (is_there n header s) || is_some (end_at s n).share
      && has_room (link_at s n).rule.max (link_at s n).given)) && is_there n header s) ≡ true)
      (sym (own k l))
      (taken_all (is_some s.element) (is_some end.share) (has_room end.link.rule.max end.link.given) (ltb k (length s.ends))
      (is_there k header s) (ready told.0) (lt-ltb k (length s.ends) l) there)

  -- What may be kept for a link

  waits_where : (stage : SourceStage) (header : ℕ) → end.link.stage ≡ stage → MayReserve header false stage
      → ((header == s.id) ≡ true) × (end.link.stage ≡ source.Waiting header)
  waits_where (source.Waiting i) header is may =
      (subst (λ (n : ℕ). (n == s.id) ≡ true) may.0 (current i (ap id_of is)), is ∙ ap source.Waiting may.0)
  waits_where (source.Accepted _) header is may = absurd may
  waits_where (source.Reserved _) header is may = absurd may
  waits_where source.Free header is may = absurd may
  waits_where (source.Posted _) header is may = absurd may
  waits_where (source.Out _) header is may = absurd may
  waits_where (source.Wished _) header is may = absurd may
  waits_where (source.AskedBy _) header is may = absurd may
  waits_where (source.Claimed _) header is may = absurd may
  waits_where source.Crossing header is may = absurd may
  waits_where source.Refused header is may = absurd may
  waits_where (source.Ended _) header is may = absurd may

  pub copy_keeps : (header : ℕ) → MayReserve header false (copy_over s (link_at s k).rule.id)
      → may_keep_copy (link_at s k).rule.id header s ≡ true
  copy_keeps header may =
      let waits = waits_where (stage_at s k) header refl
      (subst (λ (stage : SourceStage). MayReserve header false stage) copy_stage_is may) in
      let speaking : speaks end.link.stage ≡ true = ap speaks waits.1 in
      let there : is_there k header s ≡ true =
      ap₂ (λ (a b : Bool). a && b) waits.0 (ap (is_taken s.id false) waits.1 ∙ ap (λ (b : Bool). b && true) waits.0) in
      subst (λ (n : ℕ). (((is_some s.element && tests_reserve n header s) && tests_consume n header s) && reserved header s) ≡ true)
      (sym (own k l))
      (kept_all (is_some s.element) (is_some end.share) (has_room end.link.rule.max end.link.given) (ltb k (length s.ends))
      (is_waiting_for header (stage_at s k)) (is_there k header s) (header == s.id) (ready speaking) (lt-ltb k (length s.ends) l)
      (ap (is_waiting_for header) waits.1 ∙ eq-eqb header header refl) there waits.0)

module _ {first : ℕ} {pending : Bool} {stopped : Option Outcome} (s : SpreadState) (law : SpreadLaw first pending stopped s) (own : OwnCopies s) where
  pub copy_offered : (k : ℕ) → next_place s ≡ Some k → copies_over s (next_place s) ≡ Some k
  copy_offered k is =
      let next = next_is s k is in
      let end = end_at s k in
      let end_law = law.each k next.there in
      let owes : end.owes ≡ true = owes_first (is_some s.element) end.owes (is_free end.link.stage) (not (end.link.declined == s.id)) next.may in
      let room = room_for end.link.rule.max end.link.given
      (OnTrue_at (or_right (speaks end.link.stage) end.owes owes) end_law.room) in
      let carried : carries_copy k s.ends ≡ true =
      ap₂ (λ (a b : Bool). a && b) (eq-eqb (place_of end.link.rule.id s.ends) k (own k next.there)) room in
      ap (copies_over s) is ∙ ap (λ (b : Bool). cond b (Some k) None) carried

pub copies_stand_in_order : CopiesStandInOrder
copies_stand_in_order first pending stopped s = record {
  stages = λ law own k l. copy_stage_is s law own k l;
  gives = λ law own k l header may. copy_gives s law own k l header may;
  keeps = λ law own k l header may. copy_keeps s law own k l header may;
  offers = λ law own k is. copy_offered s law own k is;
}
