-- In any block that shares its messages out a message is kept for one link alone.
use Rattle.std.proofs.Common.{◌≡◌, ◌≢◌, ℕ, ◌<◌, ◌==◌, ltb, Bool, true, false, not, ◌&&◌, ◌||◌, cond, length, Option, Some, None, is_some, refl, ap, sym, ◌∙◌, subst, eqb-true}
use Rattle.std.proofs.lemmas.Bool.{false_from_ne_true}
use Rattle.flow_link.specs.declared.stage.SourceStage.{SourceStage}
use Rattle.flow_link.specs.declared.stage.SourceStage.TheVariants as source
use Rattle.flow_outlet.specs.Outlet.{OutletState, end_at, stage_at, head_of, is_at, is_empty, is_renewing, out_at, has_offer_out, may_offer}
use Rattle.flow_outlet.specs.End.{is_out, is_free, place_in}
use Rattle.flow_outlet.specs.ByLink.{place_of, has_room, is_head, is_kept_elsewhere, tests_consume, consumed, tests_reserve}
use Rattle.flow_outlet.proofs.TestsTell.{at_is}
use Rattle.flow_block.specs.Block.{BlockState}
use Rattle.flow_block.specs.Traits.{source_over, offers_over, may_take, may_keep, shares, source_at, offer_by}
use Rattle.flow_block.proofs.HeadKept.{known, is_kept}
use Rattle.flow_block.proofs.SourceMoves.{at_shared}
use Rattle.flow_block.proofs.SourceStands.{own, first_of_four}
use Rattle.flow_block_law.specs.Stands.{KeptForOne}

never : (a : Bool) → (a && false) ≡ false
never true = refl
never false = refl

held_back : (empty there free : Bool) (place : ℕ) → cond (empty || true || there || free) None (Some place) ≡ None
held_back true there free place = refl
held_back false there free place = refl

module _ (o : OutletState) (link header : ℕ) (shown : source_over o link ≡ source.Reserved header) where
  abbrev k : ℕ
  k = place_of link o.ends

  offer_is : o.offer ≡ Some k
  offer_is =
      at_is o.offer k
      (first_of_four (is_at o.offer k) (not (is_empty o.left)) (is_some o.parcel) (has_room (end_at o k).rule.max (end_at o k).given)
      (is_kept o link header shown).ready_is)

  none_out : has_offer_out o ≡ false
  none_out = ap (out_at o) offer_is ∙ ap is_out (is_kept o link header shown).stage_is

  -- its place is that of no other link
  apart : (other : ℕ) → other ≢ link → place_of other o.ends ≢ k
  apart other unlike same =
      unlike (sym (own o other (subst (λ (n : ℕ). n < length o.ends) (sym same) (known o link header shown)))
      ∙ ap (λ (n : ℕ). (end_at o n).rule.id) same ∙ own o link (known o link header shown))

  elsewhere : (other : ℕ) → other ≢ link → is_kept_elsewhere (place_of other o.ends) o ≡ true
  elsewhere other unlike =
      let far : is_at o.offer (place_of other o.ends) ≡ false =
      ap (λ (offer : Option ℕ). is_at offer (place_of other o.ends)) offer_is
      ∙ false_from_ne_true (k == place_of other o.ends) (λ e. apart other unlike (sym (eqb-true k (place_of other o.ends) e))) in
      ap (λ (some : Bool). some && not (is_at o.offer (place_of other o.ends)) && not (has_offer_out o)) (ap is_some offer_is)
      ∙ ap (λ (at : Bool). not at && not (has_offer_out o)) far ∙ ap not none_out

  pub alone : (other i : ℕ) → source_over o other ≡ source.Reserved i → other ≡ link
  alone other i also =
      let theirs : o.offer ≡ Some (place_of other o.ends) =
      at_is o.offer (place_of other o.ends)
      (first_of_four (is_at o.offer (place_of other o.ends)) (not (is_empty o.left)) (is_some o.parcel)
      (has_room (end_at o (place_of other o.ends)).rule.max (end_at o (place_of other o.ends)).given) (is_kept o other i also).ready_is) in
      let both : Some (place_of other o.ends) ≡ Some k = sym theirs ∙ offer_is in
      let same : place_of other o.ends ≡ k = cc in
      sym (own o other (known o other i also)) ∙ ap (λ (n : ℕ). (end_at o n).rule.id) same ∙ own o link (known o link header shown)

  pub unoffered : may_offer o ≡ None
  unoffered =
      let n = place_in o.next (head_of o) o.ends in
      ap (λ (some : Bool). cond (is_empty o.left || (some || is_renewing o) || not (ltb n (length o.ends)) || not (is_free (stage_at o n))) None (Some n))
      (ap is_some offer_is)
      ∙ held_back (is_empty o.left) (not (ltb n (length o.ends))) (not (is_free (stage_at o n))) n

  pub ungiven : (other i : ℕ) → other ≢ link → may_take other i o ≡ false
  ungiven other i unlike =
      let n = place_of other o.ends in
      ap (λ (kept : Bool). tests_consume n i o && (is_head i o && not kept)) (elsewhere other unlike)
      ∙ ap (λ (there : Bool). tests_consume n i o && there) (never (is_head i o))
      ∙ never (tests_consume n i o)

  pub unkept : (other i : ℕ) → may_keep other i o ≡ false
  unkept other i =
      let n = place_of other o.ends in
      ap (λ (some : Bool). (tests_reserve n i o && tests_consume n i o) && (is_head i o && not some)) (ap is_some offer_is)
      ∙ ap (λ (kept : Bool). (tests_reserve n i o && tests_consume n i o) && kept) (never (is_head i o))
      ∙ never (tests_reserve n i o && tests_consume n i o)

over_exits : (block : BlockState) (link header : ℕ) → shares block ≡ true → source_at block link ≡ source.Reserved header
    → source_over block.exits link ≡ source.Reserved header
over_exits block link header one kept =
    subst (λ (stages : ℕ → SourceStage). stages link ≡ source.Reserved header) (at_shared block one) kept

nothing_next : (stopped : Bool) → ◌≡◌ {A = Option ℕ} (cond stopped None None) None
nothing_next true = refl
nothing_next false = refl

pub kept_for_one : KeptForOne
kept_for_one = record {
  alone = λ block link header one kept other i also.
      alone block.exits link header (over_exits block link header one kept) other i (over_exits block other i one also);
  unoffered = λ block link header one kept.
      ap (λ (shared : Bool). cond (is_some block.stopped) None (offer_by shared block)) one
      ∙ ap (λ (place : Option ℕ). cond (is_some block.stopped) None (offers_over block.exits place))
      (unoffered block.exits link header (over_exits block link header one kept))
      ∙ nothing_next (is_some block.stopped);
  ungiven = λ block link header one kept other i unlike.
      ap (λ (take : Bool). cond take (consumed other i block.exits) None)
      (ungiven block.exits link header (over_exits block link header one kept) other i unlike);
  unkept = λ block link header one kept other i unlike.
      unkept block.exits link header (over_exits block link header one kept) other i;
}
