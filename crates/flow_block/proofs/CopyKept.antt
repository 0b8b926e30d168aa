-- How a block's stages at the links over which it copies change where the element is kept for one of them, and where it is given up.
use Rattle.std.proofs.Common.{◌≡◌, ℕ, ◌<◌, ltb, Bool, true, false, not, ◌&&◌, ◌||◌, cond, length, is_some, refl, ap, ap₂, sym, ◌∙◌, subst, arith}
use Rattle.std.proofs.lemmas.Bool.{and_parts, ltb-true}
use Rattle.std.proofs.lemmas.List.{length-set, get_or-set_same}
use Rattle.flow_link.specs.declared.phase.Phase.TheVariants.{Asked, Postponed}
use Rattle.flow_link.specs.declared.stage.SourceStage.{SourceStage}
use Rattle.flow_link.specs.declared.stage.SourceStage.TheVariants as source
use Rattle.flow_link.specs.Stage.{source_looks}
use Rattle.flow_link.specs.StagesMove.{MovesTo}
use Rattle.flow_outlet.specs.ByLink.{has_room, is_waiting_for, is_taken}
use Rattle.flow_outlet.proofs.TestsTell.{waiting_is}
use Rattle.flow_spread.specs.declared.end.CopyEnd.{CopyEnd}
use Rattle.flow_spread.specs.End.{no_end, is_answer, moved}
use Rattle.flow_spread.specs.Spread.{SpreadState, end_at, link_at, stage_at, asked_id, looks, holds}
use Rattle.flow_spread.specs.ByLink.{place_of, tests_reserve, tests_consume, tests_take, MayReserve, reserved, reserves, IsReserved, is_there, releases}
use Rattle.flow_block.specs.Traits.{is_copy_ready, copy_shown, copy_over, may_keep_copy}
use Rattle.flow_block.proofs.CopyStands.{Alone, alone_changed, alone_both, copy_here, copy_elsewhere, shown_there, there_where}
use Rattle.flow_block.proofs.HeadKept.{shown_reserved}
use Rattle.flow_block.proofs.SourceStands.{IsOut}

-- the end, and what the block looked at there
abbrev pub looked_end : SpreadState → ℕ → SourceStage → CopyEnd
looked_end s k stage =
    moved (record (link_at s k) { stage = stage }) ((end_at s k).owes && not (is_answer s.once stage)) (end_at s k)

all_three : (a b c : Bool) → a ≡ true → b ≡ true → c ≡ true → (a && b && c) ≡ true
all_three a b c p q r = rw (p, q, r) refl

-- The element is kept

module _ (s : SpreadState) (link header : ℕ) (keep : may_keep_copy link header s ≡ true) where
  abbrev kept_at : ℕ
  kept_at = place_of link s.ends

  tests : (((is_some s.element && tests_reserve kept_at header s) && tests_consume kept_at header s) ≡ true) × (reserved header s ≡ true)
  tests = and_parts ((is_some s.element && tests_reserve kept_at header s) && tests_consume kept_at header s) (reserved header s) keep

  more_tests : ((is_some s.element && tests_reserve kept_at header s) ≡ true) × (tests_consume kept_at header s ≡ true)
  more_tests = and_parts (is_some s.element && tests_reserve kept_at header s) (tests_consume kept_at header s) tests.0

  asks : (is_some s.element ≡ true) × (tests_reserve kept_at header s ≡ true)
  asks = and_parts (is_some s.element) (tests_reserve kept_at header s) more_tests.0

  waits_there : (ltb kept_at (length s.ends) ≡ true) × (is_waiting_for header (stage_at s kept_at) ≡ true)
  waits_there = and_parts (ltb kept_at (length s.ends)) (is_waiting_for header (stage_at s kept_at)) asks.1

  pub may_reserve : MayReserve link header s
  may_reserve = record {
    known = ltb-true kept_at (length s.ends) waits_there.0;
    waits = waiting_is header (stage_at s kept_at) waits_there.1;
  }

  is_there_now : is_there kept_at header s ≡ true
  is_there_now =
      ap₂ (λ (a b : Bool). a && b) tests.1
      (ap (is_taken s.id false) may_reserve.waits ∙ ap (λ (b : Bool). b && true) tests.1)

  takes : (is_some (end_at s kept_at).share ≡ true) × (has_room (link_at s kept_at).rule.max (link_at s kept_at).given ≡ true)
  takes =
      and_parts (is_some (end_at s kept_at).share) (has_room (link_at s kept_at).rule.max (link_at s kept_at).given)
      (ap (λ (h : Bool). not h || tests_take kept_at s) (sym is_there_now)
      ∙ (and_parts (ltb kept_at (length s.ends)) (not (is_there kept_at header s) || tests_take kept_at s) more_tests.1).1)

  abbrev asked : SpreadState
  asked = looks kept_at (Asked header) s

  abbrev asked_end : CopyEnd
  asked_end = looked_end s kept_at (source_looks (stage_at s kept_at) (Asked header))

  abbrev kept : SpreadState
  kept = holds kept_at asked

  abbrev held : CopyEnd → CopyEnd
  held end = moved (record end.link { stage = source.Reserved (asked_id end.link.stage) }) end.owes end

  alone_kept : Alone kept_at s kept
  alone_kept =
      alone_both kept_at s asked kept (alone_changed kept_at s asked_end refl)
      (alone_changed kept_at asked (held (end_at asked kept_at)) refl)

  end_kept : end_at kept kept_at ≡ held (looked_end s kept_at (source.AskedBy header))
  end_kept =
      get_or-set_same asked.ends kept_at (held (end_at asked kept_at)) no_end
      (let l = may_reserve.known in let count = length-set s.ends kept_at asked_end in omega (arith, l, count))
      ∙ ap held (get_or-set_same s.ends kept_at asked_end no_end may_reserve.known
      ∙ ap (λ (stage : SourceStage). looked_end s kept_at (source_looks stage (Asked header))) may_reserve.waits)

  shown_kept : copy_shown (end_at kept kept_at) kept ≡ source.Reserved header
  shown_kept =
      let ready : (is_some s.element && is_some (end_at s kept_at).share && has_room (link_at s kept_at).rule.max (link_at s kept_at).given) ≡ true =
      all_three (is_some s.element) (is_some (end_at s kept_at).share) (has_room (link_at s kept_at).rule.max (link_at s kept_at).given)
      asks.0 takes.0 takes.1 in
      ap (λ (end : CopyEnd). copy_shown end kept) end_kept
      ∙ ap₂ (λ (r b : Bool). cond (r && b) (source.Reserved header) source.Crossing) ready tests.1

  pub kept_so : reserves link header s ≡ kept
  kept_so = ap (λ (b : Bool). cond b kept s) tests.1

  pub copy_keep_moves : MovesTo (source.Reserved header) link (copy_over s) (copy_over (reserves link header s))
  copy_keep_moves =
      subst (λ (new : SpreadState). MovesTo (source.Reserved header) link (copy_over s) (copy_over new)) (sym kept_so) (record {
        here = copy_here kept_at s kept alone_kept may_reserve.known link refl ∙ shown_kept;
        elsewhere = λ other apart. copy_elsewhere kept_at s kept alone_kept may_reserve.known link other refl apart;
      })

-- The element is given up

module _ (s : SpreadState) (link header : ℕ) (shown : copy_over s link ≡ source.Reserved header) where
  abbrev given_up_at : ℕ
  given_up_at = place_of link s.ends

  known : given_up_at < length s.ends
  known = there_where s given_up_at (source.Reserved header) shown (λ e. cc)

  pub is_kept : IsOut (is_copy_ready s (end_at s given_up_at)) s.id header (stage_at s given_up_at) (source.Reserved header)
  is_kept =
      shown_reserved (is_copy_ready s (end_at s given_up_at)) s.id header (stage_at s given_up_at)
      (sym (shown_there s given_up_at known) ∙ shown)

  -- what the call of the spread asks for
  pub is_reserved : IsReserved link header s
  is_reserved = record { known = known; kept = is_kept.stage_is }

  abbrev given_up : SpreadState
  given_up = releases link header s

  abbrev given_up_end : CopyEnd
  given_up_end = looked_end s given_up_at (source_looks (stage_at s given_up_at) (Postponed header))

  alone_given_up : Alone given_up_at s given_up
  alone_given_up = alone_changed given_up_at s given_up_end refl

  end_given_up : end_at given_up given_up_at ≡ looked_end s given_up_at (source.Waiting header)
  end_given_up =
      get_or-set_same s.ends given_up_at given_up_end no_end known
      ∙ ap (λ (stage : SourceStage). looked_end s given_up_at (source_looks stage (Postponed header))) is_kept.stage_is

  pub copy_release_moves : MovesTo (source.Waiting header) link (copy_over s) (copy_over given_up)
  copy_release_moves = record {
    here = copy_here given_up_at s given_up alone_given_up known link refl
        ∙ ap (λ (end : CopyEnd). copy_shown end given_up) end_given_up
        ∙ ap (λ (b : Bool). cond b (source.Waiting header) source.Free) is_kept.head;
    elsewhere = λ other apart. copy_elsewhere given_up_at s given_up alone_given_up known link other refl apart;
  }
