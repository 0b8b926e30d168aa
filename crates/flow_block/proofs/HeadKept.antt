-- How a block's stages at the links over which it shares its messages out change where the head is kept for one of them, and where
-- it is given up.
use Rattle.std.proofs.Common.{◌≡◌, ◌≢◌, ℕ, ◌<◌, ◌==◌, ltb, Bool, true, false, not, ◌&&◌, ◌||◌, cond, length, Option, None, is_some, refl, ap, ap₂, sym, ◌∙◌, subst, arith, eqb-true, eq-eqb}
use Rattle.std.proofs.lemmas.Bool.{and_parts, and_from, not-true}
use Rattle.std.proofs.lemmas.List.{length-set}
use Rattle.flow_link.specs.declared.phase.Phase.TheVariants.{Asked, Postponed}
use Rattle.flow_link.specs.declared.stage.SourceStage.{SourceStage}
use Rattle.flow_link.specs.declared.stage.SourceStage.TheVariants as source
use Rattle.flow_link.specs.SourceCalls.{stage_forgotten, ForgetsAll}
use Rattle.flow_link.specs.Stage.{source_looks}
use Rattle.flow_link.specs.StagesMove.{MovesTo}
use Rattle.flow_outlet.specs.End.{is_spoken_for, no_end}
use Rattle.flow_outlet.specs.Outlet.{OutletState, end_at, stage_at, is_at, is_empty, has_offer_out, looks, holds}
use Rattle.flow_outlet.specs.ByLink.{place_of, has_room, is_head, is_kept_elsewhere, is_there, is_taken, tests_take, tests_consume, tests_reserve, MayReserve, reserved, reserves, keeps, IsReserved, forgotten_stage, forgotten_for, releases}
use Rattle.flow_outlet.specs.declared.ends.OutEnd.{OutEnd}
use Rattle.flow_outlet.proofs.TestsTell.{reserve_tells}
use Rattle.flow_block.specs.Traits.{is_ready, source_shown, end_shown, source_over, may_keep}
use Rattle.flow_block.proofs.SourceStands.{Apart, Alone, IsOut, alone_set, alone_both, apart_mapped, all_four, dark_ready, elsewhere, end_mapped, known_where, none_dark, out_only, set_here, shown_dark, shown_known, stays, there}

-- The head is kept

module _ (o : OutletState) (link header : ℕ) (keep : may_keep link header o ≡ true) where
  abbrev kept_at : ℕ
  kept_at = place_of link o.ends

  tests : ((tests_reserve kept_at header o && tests_consume kept_at header o) ≡ true) × (reserved header o ≡ true)
  tests = and_parts (tests_reserve kept_at header o && tests_consume kept_at header o) (reserved header o) keep

  both_tests : (tests_reserve kept_at header o ≡ true) × (tests_consume kept_at header o ≡ true)
  both_tests = and_parts (tests_reserve kept_at header o) (tests_consume kept_at header o) tests.0

  pub may_reserve : MayReserve link header o
  may_reserve = (reserve_tells link header o).0 both_tests.0

  head_alone : (is_head header o ≡ true) × (not (is_some o.offer) ≡ true)
  head_alone = and_parts (is_head header o) (not (is_some o.offer)) tests.1

  none_spoken : is_some o.offer ≡ false
  none_spoken = not-true (is_some o.offer) head_alone.1

  head_parts : ((header == o.next) ≡ true) × (not (is_empty o.left) ≡ true)
  head_parts = and_parts (header == o.next) (not (is_empty o.left)) head_alone.0

  same : header ≡ o.next
  same = eqb-true header o.next head_parts.0

  is_there_now : is_there kept_at header o ≡ true
  is_there_now =
      and_from (is_head header o) (not (is_kept_elsewhere kept_at o)) head_alone.0
      (ap (λ (some : Bool). not (some && not (is_at o.offer kept_at) && not (has_offer_out o))) none_spoken)

  takes : tests_take kept_at o ≡ true
  takes =
      ap (λ (h : Bool). not h || tests_take kept_at o) (sym is_there_now)
      ∙ (and_parts (ltb kept_at (length o.ends)) (not (is_there kept_at header o) || tests_take kept_at o) both_tests.1).1

  crosses : ((is_taken o.next (is_some o.offer) (stage_at o kept_at) && is_some o.parcel) ≡ true)
      × (has_room (end_at o kept_at).rule.max (end_at o kept_at).given ≡ true)
  crosses =
      and_parts (is_taken o.next (is_some o.offer) (stage_at o kept_at) && is_some o.parcel)
      (has_room (end_at o kept_at).rule.max (end_at o kept_at).given) takes

  abbrev asked : OutletState
  asked = looks kept_at (Asked header) o

  abbrev asked_end : OutEnd
  asked_end = record (end_at o kept_at) { stage = source_looks (stage_at o kept_at) (Asked header) }

  abbrev kept : OutletState
  kept = holds kept_at asked

  abbrev kept_end : OutEnd
  kept_end = record (end_at asked kept_at) { stage = source.Reserved o.next }

  abbrev kept_is : OutEnd
  kept_is = record (end_at o kept_at) { stage = source.Reserved o.next }

  alone_kept : Alone kept_at o kept
  alone_kept =
      alone_both kept_at o asked kept (alone_set kept_at o asked asked_end refl refl) (alone_set kept_at asked kept kept_end refl refl)

  end_kept : end_at kept kept_at ≡ kept_is
  end_kept =
      set_here kept_at asked kept kept_end refl
      (let l = may_reserve.known in let count = length-set o.ends kept_at asked_end in omega (arith, l, count))
      ∙ ap (λ (end : OutEnd). record end { stage = source.Reserved o.next }) (set_here kept_at o asked asked_end refl may_reserve.known)

  shown_kept : end_shown kept_at kept_is kept ≡ source.Reserved header
  shown_kept =
      let ready : is_ready kept_at kept_is kept ≡ true =
      all_four (kept_at == kept_at) (not (is_empty o.left)) (is_some o.parcel) (has_room (end_at o kept_at).rule.max (end_at o kept_at).given)
      (eq-eqb kept_at kept_at refl) head_parts.1
      (and_parts (is_taken o.next (is_some o.offer) (stage_at o kept_at)) (is_some o.parcel) crosses.0).1 crosses.1 in
      ap₂ (λ (r b : Bool). cond (r && b) (source.Reserved o.next) source.Crossing) ready (eq-eqb o.next o.next refl)
      ∙ ap source.Reserved (sym same)

  pub keep_moves : MovesTo (source.Reserved header) link (source_over o) (source_over (reserves link header o))
  keep_moves =
      subst (λ (new : OutletState). MovesTo (source.Reserved header) link (source_over o) (source_over new))
      (sym (ap (λ (b : Bool). cond b (keeps kept_at header o) o) tests.1)) (record {
        here = there (λ end. end) o kept link may_reserve.known alone_kept (source.Reserved header)
            (ap (λ (end : OutEnd). end_shown kept_at end kept) end_kept ∙ shown_kept);
        elsewhere = stays o kept link may_reserve.known alone_kept refl
            (λ j far. none_dark o.offer j none_spoken) (λ j far. out_only kept_at j far);
      })

-- The head is given up

kept_where : (ready head : Bool) (next i header : ℕ) → head ≡ (i == next)
    → cond (ready && head) (source.Reserved i) source.Crossing ≡ source.Reserved header
    → IsOut ready next header (source.Reserved i) (source.Reserved header)
kept_where true true next i header at e =
    let same : i ≡ header = cc in
    record { stage_is = e; ready_is = refl; head = subst (λ (n : ℕ). (n == next) ≡ true) same (sym at) }
kept_where true false next i header at e = absurd (cc)
kept_where false head next i header at e = absurd (cc)

never_waits : (head : Bool) (i header : ℕ) → cond head (source.Waiting i) source.Free ≡ source.Reserved header → ⊥
never_waits true i header e = cc
never_waits false i header e = cc

never_out : (both : Bool) (i header : ℕ) → cond both (source.Out i) source.Crossing ≡ source.Reserved header → ⊥
never_out true i header e = cc
never_out false i header e = cc

never_taken : (both : Bool) (i header : ℕ) → cond both (source.Accepted i) source.Crossing ≡ source.Reserved header → ⊥
never_taken true i header e = cc
never_taken false i header e = cc

pub shown_reserved : (ready : Bool) (next header : ℕ) (stage : SourceStage) → source_shown ready next stage ≡ source.Reserved header
    → IsOut ready next header stage (source.Reserved header)
shown_reserved ready next header (source.Reserved i) e = kept_where ready (i == next) next i header refl e
shown_reserved ready next header (source.Waiting i) e = absurd (never_waits (i == next) i header e)
shown_reserved ready next header (source.Out i) e = absurd (never_out (ready && i == next) i header e)
shown_reserved ready next header (source.Accepted i) e = absurd (never_taken (ready && i == next) i header e)
shown_reserved ready next header source.Free e = absurd (cc)
shown_reserved ready next header (source.Posted _) e = absurd (cc)
shown_reserved ready next header (source.Wished _) e = absurd (cc)
shown_reserved ready next header (source.AskedBy _) e = absurd (cc)
shown_reserved ready next header (source.Claimed _) e = absurd (cc)
shown_reserved ready next header source.Crossing e = absurd (cc)
shown_reserved ready next header source.Refused e = absurd (cc)
shown_reserved ready next header (source.Ended _) e = absurd (cc)

-- nobody waits for the message any more, as the links have it
forgets_waiting : (head : Bool) (header i : ℕ) → (i == header) ≡ head
    → source.Free ≡ stage_forgotten header (cond head (source.Waiting i) source.Free)
forgets_waiting true header i is = sym (ap (λ (b : Bool). cond b source.Free (source.Waiting i)) is)
forgets_waiting false header i is = refl

forgets_shown : (next header : ℕ) (stage : SourceStage) → header ≡ next
    → source_shown false next (forgotten_stage stage) ≡ stage_forgotten header (source_shown false next stage)
forgets_shown next header (source.Waiting i) is =
    forgets_waiting (i == next) header i (ap (λ (n : ℕ). i == n) is)
forgets_shown next header source.Free is = refl
forgets_shown next header (source.Posted _) is = refl
forgets_shown next header (source.Out _) is = refl
forgets_shown next header (source.Accepted _) is = refl
forgets_shown next header (source.Wished _) is = refl
forgets_shown next header (source.AskedBy _) is = refl
forgets_shown next header (source.Reserved _) is = refl
forgets_shown next header (source.Claimed _) is = refl
forgets_shown next header source.Crossing is = refl
forgets_shown next header source.Refused is = refl
forgets_shown next header (source.Ended _) is = refl

-- an offer that is out over no other end is not after it is dropped, too
dark_dropped : (drop : Bool) (offer : Option ℕ) (j : ℕ) → is_at offer j ≡ false → is_at (cond drop None offer) j ≡ false
dark_dropped true offer j dark = refl
dark_dropped false offer j dark = dark

none_declined : (b : Bool) → ◌≡◌ {A = ℕ} (cond b 0 0) 0
none_declined true = refl
none_declined false = refl

module _ (o : OutletState) (link header : ℕ) (shown : source_over o link ≡ source.Reserved header) where
  abbrev given_up_at : ℕ
  given_up_at = place_of link o.ends

  pub known : given_up_at < length o.ends
  known = known_where o given_up_at (source.Reserved header) shown (λ e. cc)

  pub is_kept : IsOut (is_ready given_up_at (end_at o given_up_at) o) o.next header (stage_at o given_up_at) (source.Reserved header)
  is_kept =
      shown_reserved (is_ready given_up_at (end_at o given_up_at) o) o.next header (stage_at o given_up_at)
      (sym (shown_known o given_up_at known) ∙ shown)

  -- what the call of the exits asks for
  pub is_reserved : IsReserved link header o
  is_reserved = record { known = known; kept = is_kept.stage_is }

  its_own : header ≡ o.next
  its_own = eqb-true header o.next is_kept.head

  abbrev looked : OutletState
  looked = looks given_up_at (Postponed header) o

  abbrev looked_end : OutEnd
  looked_end = record (end_at o given_up_at) { stage = source_looks (stage_at o given_up_at) (Postponed header) }

  abbrev given_up : OutletState
  given_up = releases link header o

  abbrev forgotten_end : OutEnd → OutEnd
  forgotten_end = forgotten_for o.next

  apart : Apart forgotten_end given_up_at o given_up
  apart =
      apart_mapped forgotten_end (ap (λ (n : ℕ). record no_end { declined = n }) (none_declined (0 == o.next))) (λ end. refl) given_up_at o looked
      given_up (alone_set given_up_at o looked looked_end refl refl) refl

  stage_free : stage_at given_up given_up_at ≡ source.Free
  stage_free =
      ap (λ (end : OutEnd). end.stage)
      (end_mapped forgotten_end (ap (λ (n : ℕ). record no_end { declined = n }) (none_declined (0 == o.next))) looked.ends given_up_at)
      ∙ ap (λ (end : OutEnd). forgotten_stage end.stage) (set_here given_up_at o looked looked_end refl known)
      ∙ ap (λ (stage : SourceStage). forgotten_stage (source_looks stage (Postponed header))) is_kept.stage_is

  dark : (j : ℕ) → j ≢ given_up_at → is_at o.offer j ≡ false
  dark j far = dark_ready o given_up_at is_kept.ready_is j far

  pub release_moves : ForgetsAll link header (source_over o) (source_over given_up)
  release_moves = record {
    here = there forgotten_end o given_up link known apart source.Free
        (ap (λ (s : SourceStage). source_shown (is_ready given_up_at (end_at given_up given_up_at) given_up) given_up.next s) stage_free);
    elsewhere = elsewhere forgotten_end o given_up link known apart (λ was is. is ≡ stage_forgotten header was) refl (λ j far.
        shown_dark given_up j (forgotten_end (end_at o j))
        (dark_dropped (is_at o.offer given_up_at && not (is_spoken_for (source_looks (stage_at o given_up_at) (Postponed header)))) o.offer j
        (dark j far))
        ∙ forgets_shown o.next header (stage_at o j) its_own
        ∙ ap (stage_forgotten header) (sym (shown_dark o j (end_at o j) (dark j far))));
  }
