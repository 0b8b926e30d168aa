-- The answer to an offer keeps the round of a join by hand in order: the offer waits behind the others, or is refused.
use Rattle.std.proofs.Common.{◌≡◌, ◌≢◌, ℕ, ◌<◌, ◌==◌, ◌||◌, ◌&&◌, cond, not, Bool, true, false, List, [], ◌∷◌, ◌++◌, length, set, Option, Some, None, unwrap_or, refl, ap, sym, ◌∙◌, subst, arith, ne_eqb}
use Rattle.std.proofs.lemmas.List.{length-set, length-append, set-set, set-get_or, get_or-set_same}
use Rattle.std.proofs.Math.Bool.{or-false}
use Rattle.flow_value.specs.declared.message.MessageStatus.{MessageStatus}
use Rattle.flow_value.specs.declared.message.MessageStatus.TheVariants as status
use Rattle.flow_link.specs.declared.stage.Refusal.{Refusal}
use Rattle.flow_link.specs.declared.stage.TargetStage.{TargetStage}
use Rattle.flow_link.specs.declared.stage.TargetStage.TheVariants.{Free, Offered, Postponed}
use Rattle.flow_link.specs.Lists.{is_empty}
use Rattle.flow_intake.specs.Port.{EndState, PortState, fresh_end, fresh_port, end_in, stage_in, stage_at, coming, is_coming, is_queued, has_room}
use Rattle.flow_intake.specs.PortLaw.{is_in}
use Rattle.flow_intake.specs.Calls.{first_of, is_front, is_offered, may_be_refused, answer_where, answer_to, put_stage, message_of, refused_by, postpones, refuses, puts_off}
use Rattle.flow_intake.specs.Queue.{without}
use Rattle.flow_intake.specs.ByLink.{place_of, with_link_at, closes_link, answered}
use Rattle.flow_intake.proofs.QueueOrder.{gone, in_joined}
use Rattle.flow_intake.proofs.CountsOfEnds.{count_same}
use Rattle.flow_group.specs.Round.{RoundState, port_in}
use Rattle.flow_group.specs.RoundLaw.{RoundLaw, InTurn, FrontsWait, RoundGoesOn, TurnGoesOn}
use Rattle.flow_group.proofs.RoundKeeps.{at_is}
use Rattle.flow_group.proofs.RoundStays.{rounds_kept}
use Rattle.flow_group.proofs.RoundTurn.{turns_kept}
use Rattle.flow_block.specs.Traits.{port_shown, shown_over}
use Rattle.flow_block.proofs.TargetStands.{found}
use Rattle.flow_kinds.specs.RoundOrder.{took_at, QueueWaits, RoundFits}
use Rattle.flow_kinds.proofs.RoundFrames.{set_alike, fits_alike, waits_after, still_fits, goes_still, with_new, new_keeps}
use Rattle.flow_kinds.proofs.RoundCalls.{not_in, in_rest, front_in, offered_fits}

-- Twice at one place

stage_put : (k : ℕ) (stage : TargetStage) (ends : List EndState) → k < length ends → end_in k (put_stage k stage ends) ≡ record (end_in k ends) { stage = stage }
stage_put k stage ends l = get_or-set_same ends k (record (end_in k ends) { stage = stage }) (fresh_end 0) l

put_twice : (k : ℕ) (stage later : TargetStage) (ends : List EndState) → k < length ends → put_stage k later (put_stage k stage ends) ≡ put_stage k later ends
put_twice k stage later ends l =
    ap (λ (end : EndState). set (put_stage k stage ends) k (record end { stage = later })) (stage_put k stage ends l)
    ∙ set-set ends k (record (end_in k ends) { stage = stage }) (record (end_in k ends) { stage = later })

kept_whole : (k i : ℕ) (queue rest : List ℕ) (same : Bool) → rest ≡ queue → (same || is_in k queue) ≡ false
    → cond (not same) (i ∷ rest) rest ≡ i ∷ queue
kept_whole k i queue rest true whole none = absurd (cc)
kept_whole k i queue rest false whole none = ap (λ (more : List ℕ). i ∷ more) whole

none_behind : (k i : ℕ) (queue : List ℕ) (same : Bool) → (same || is_in k queue) ≡ false → is_in k queue ≡ false
none_behind k i queue true none = absurd (cc)
none_behind k i queue false none = none

without_none : (k : ℕ) (queue : List ℕ) → is_in k queue ≡ false → without k queue ≡ queue
without_none k [] none = refl
without_none k (i ∷ queue) none =
    kept_whole k i queue (without k queue) (i == k) (without_none k queue (none_behind k i queue (i == k) none)) none

in_joined_rest : (j k : ℕ) (queue : List ℕ) → j ≢ k → is_in j (queue ++ k ∷ []) ≡ true → is_in j queue ≡ true
in_joined_rest j k queue other there =
    sym (in_joined j k queue ∙ ap (λ (b : Bool). is_in j queue || b) (ne_eqb k j (λ same. other (sym same))) ∙ or-false (is_in j queue)) ∙ there

without_twice : (k : ℕ) (queue : List ℕ) → without k (without k queue) ≡ without k queue
without_twice k queue = without_none k (without k queue) (gone k queue)

module _ (round : RoundState) (ports : List PortState) (fits : RoundFits round ports) (p k i : ℕ) (here : p < length ports)
    (place : k < length (port_in ports p).ends) (free : stage_at k (port_in ports p) ≡ Free) where
  abbrev port : PortState
  port = port_in ports p

  abbrev before : PortState
  before = record port { ends = put_stage k (Offered i) port.ends; queue = without k port.queue }

  abbrev ports_before : List PortState
  ports_before = set ports p before

  fits_before : RoundFits round ports_before
  fits_before = offered_fits round ports fits p k here place i free

  here_before : p < length ports_before
  here_before = omega (arith, here, length-set ports p before)

  before_is : port_in ports_before p ≡ before
  before_is = get_or-set_same ports p before (fresh_port None) here

  place_before : k < length (port_in ports_before p).ends
  place_before =
      subst (λ (x : PortState). k < length x.ends) (sym before_is)
      (omega (arith, place, length-set port.ends k (record (end_in k port.ends) { stage = Offered i })))

  stage_before : stage_at k before ≡ Offered i
  stage_before = ap (λ (end : EndState). end.stage) (stage_put k (Offered i) port.ends place)

  offered_before : is_offered (stage_at k (port_in ports_before p)) ≡ true
  offered_before = ap (λ (x : PortState). is_offered (stage_at k x)) before_is ∙ ap is_offered stage_before

  may_before : may_be_refused (stage_at k (port_in ports_before p)) ≡ true
  may_before = ap (λ (x : PortState). may_be_refused (stage_at k x)) before_is ∙ ap may_be_refused stage_before

  -- it waits behind the others

  abbrev postponed : PortState
  postponed = postpones k before

  length_before : k < length before.ends
  length_before = omega (arith, place, length-set port.ends k (record (end_in k port.ends) { stage = Offered i }))

  postponed_comes : coming postponed ≡ coming (port_in ports_before p)
  postponed_comes =
      count_same is_coming before.ends k (record (end_in k before.ends) { stage = Postponed (message_of (stage_at k before)) }) length_before
      (ap is_coming stage_before)
      ∙ sym (ap coming before_is)

  postponed_queue : QueueWaits postponed
  postponed_queue =
      waits_after before postponed k (record (end_in k before.ends) { stage = Postponed (message_of (stage_at k before)) }) length_before refl
      (λ j other there. in_rest j k before.queue other (in_joined_rest j k (without k before.queue) other there)) (λ _. refl)
      (subst QueueWaits before_is (fits_before.queues p here_before))

  fronts_before : FrontsWait ports_before
  fronts_before q j l front = fits_before.queues q l j (front_in (port_in ports_before q).queue j front)

  postponed_before : RoundFits round (set ports_before p postponed)
  postponed_before =
      still_fits round ports_before fits_before p here_before postponed postponed_comes (ap (λ (x : PortState). x.waiting) (sym before_is)) postponed_queue
      (subst (λ (x : PortState). RoundLaw round.step (set ports_before p (postpones k x)) (took_at ports_before)) before_is
      (rounds_kept.postpone round.step ports_before (took_at ports_before) fits_before.law p k here_before place_before offered_before))
      (subst (λ (x : PortState). InTurn round.sources round.step (set ports_before p (postpones k x))) before_is
      (turns_kept.postpone round.sources round.step ports_before (took_at ports_before) fits_before.law fits_before.turn p k here_before place_before
      fronts_before offered_before))

  pub postponed_fits : (now : PortState) → now.ends ≡ put_stage k (Postponed i) port.ends → now.queue ≡ without k port.queue ++ k ∷ []
      → now.waiting ≡ port.waiting → RoundFits round (set ports p now)
  postponed_fits now ends queue waiting =
      fits_alike round (set ports p postponed) (set ports p now)
      (subst (λ (ps : List PortState). RoundFits round ps) (set-set ports p before postponed) postponed_before)
      (set_alike ports p postponed now
      (ends ∙ sym (ap (λ (stage : TargetStage). put_stage k (Postponed (message_of stage)) before.ends) stage_before
      ∙ put_twice k (Offered i) (Postponed i) port.ends place))
      (queue ∙ ap (λ (rest : List ℕ). rest ++ k ∷ []) (sym (without_twice k port.queue))) waiting)

  -- it is refused

  abbrev refused : PortState
  refused = refuses k before

  refused_comes : coming refused ≡ coming (port_in ports_before p)
  refused_comes =
      count_same is_coming before.ends k (record (end_in k before.ends) { stage = refused_by port.refusing }) length_before
      (ap is_coming stage_before ∙ never_comes port.refusing)
      ∙ sym (ap coming before_is)
    where
      never_comes : (why : Option Refusal) → false ≡ is_coming (refused_by why)
      never_comes None = refl
      never_comes (Some _) = refl

  refused_queue : QueueWaits refused
  refused_queue =
      waits_after before refused k (record (end_in k before.ends) { stage = refused_by port.refusing }) length_before refl
      (λ j other. in_rest j k before.queue other) (not_in k before.queue _)
      (subst QueueWaits before_is (fits_before.queues p here_before))

  not_in_front : is_front k (port_in ports_before p) ≡ false
  not_in_front = ap (is_front k) before_is ∙ by (is_front k before) refl
    where
      by : (b : Bool) → is_front k before ≡ b → is_front k before ≡ false
      by false e = e
      by true e = not_in k port.queue _ (front_in (without k port.queue) k (at_is k (first_of (without k port.queue)) e))

  refused_before : RoundFits round (set ports_before p refused)
  refused_before =
      goes_still round ports_before fits_before p here_before refused refused_comes (ap (λ (x : PortState). x.waiting) (sym before_is)) refused_queue
      (is_front k (port_in ports_before p)) not_in_front
      (subst (λ (x : PortState). RoundGoesOn round.step (is_front k (port_in ports_before p)) (set ports_before p (refuses k x)) (took_at ports_before)) before_is
      (rounds_kept.refuse round.step ports_before (took_at ports_before) fits_before.law p k here_before place_before may_before))
      (subst (λ (x : PortState). TurnGoesOn round.sources round.step (is_front k (port_in ports_before p)) (set ports_before p (refuses k x))) before_is
      (turns_kept.refuse round.sources round.step ports_before (took_at ports_before) fits_before.law fits_before.turn p k here_before place_before may_before))

  -- where it stood in no queue
  not_queued : is_in k port.queue ≡ false
  not_queued = by (is_in k port.queue) refl
    where
      by : (b : Bool) → is_in k port.queue ≡ b → is_in k port.queue ≡ false
      by false e = e
      by true e =
          let queued = fits.queues p here k e in
          absurd (let no : is_queued Free ≡ true = sym (ap is_queued free) ∙ queued in cc)

  pub refused_fits : (now : PortState) → now.ends ≡ put_stage k (refused_by port.refusing) port.ends → now.queue ≡ port.queue
      → now.waiting ≡ port.waiting → RoundFits round (set ports p now)
  refused_fits now ends queue waiting =
      fits_alike round (set ports p refused) (set ports p now)
      (subst (λ (ps : List PortState). RoundFits round ps) (set-set ports p before refused) refused_before)
      (set_alike ports p refused now (ends ∙ sym (put_twice k (Offered i) (refused_by port.refusing) port.ends place))
      (queue ∙ sym (without_none k port.queue not_queued) ∙ sym (without_twice k port.queue)) waiting)

-- The answer

never_accepts : (refusing : Option Refusal) (free may_postpone : Bool)
    → answer_where refusing true free (cond may_postpone status.Postponed status.Declined) ≡ status.Accepted → ⊥
never_accepts (Some _) free may_postpone e = cc
never_accepts None free true e = cc
never_accepts None free false e = cc

pub port_keeps : (round : RoundState) (ports : List PortState) → RoundFits round ports → (p link i : ℕ) → p < length ports
    → (port_in ports p).reserves ≡ true → shown_over (port_in ports p) link ≡ Free → (may_postpone : Bool) (how : MessageStatus)
    → how ≡ answer_to may_postpone (port_in ports p) → RoundFits round (set ports p (answered link i how (port_in ports p)))
port_keeps round ports fits p link i here reserves free may_postpone how is = by how is
  where
    port : PortState
    port = port_in ports p

    unchanged : RoundFits round (set ports p (port_in ports p))
    unchanged = subst (λ (ps : List PortState). RoundFits round ps) (sym (set-get_or ports p (fresh_port None))) fits

    postponed_at : (place : Option ℕ) → place_of link (port_in ports p).ends ≡ place
        → RoundFits round (set ports p (puts_off (unwrap_or place (length (port_in ports p).ends)) i (with_link_at place link (port_in ports p))))
    postponed_at (Some k) at =
        let stands : stage_at k (port_in ports p) ≡ Free = sym (ap (λ (x : Option ℕ). port_shown x (port_in ports p)) at) ∙ free in
        postponed_fits round ports fits p k i here (found link (port_in ports p).ends k at).0 stands (puts_off k i (port_in ports p)) refl refl refl
    postponed_at None at =
        let k = length (port_in ports p).ends in
        let new = with_new link (port_in ports p) in
        let more = set ports p new in
        let fits_more = new_keeps round ports fits p here link in
        let here_more : p < length more = omega (arith, here, length-set ports p new) in
        let new_is : port_in more p ≡ new = get_or-set_same ports p new (fresh_port None) here in
        let there : k < length (port_in more p).ends =
        subst (λ (x : PortState). k < length x.ends) (sym new_is) (omega (arith, length-append (port_in ports p).ends (fresh_end link ∷ []))) in
        let stands : stage_at k (port_in more p) ≡ Free = ap (stage_at k) new_is ∙ last_free (port_in ports p).ends link in
        subst (λ (ps : List PortState). RoundFits round ps) (set-set ports p new (puts_off k i new))
        (postponed_fits round more fits_more p k i here_more there stands (puts_off k i new)
        (ap (λ (x : PortState). put_stage k (Postponed i) x.ends) (sym new_is))
        (ap (λ (x : PortState). without k x.queue ++ k ∷ []) (sym new_is)) (ap (λ (x : PortState). x.waiting) (sym new_is)))
      where
        last_free : (ends : List EndState) (link : ℕ) → stage_in (length ends) (ends ++ fresh_end link ∷ []) ≡ Free
        last_free [] link = refl
        last_free (end ∷ ends) link = last_free ends link

    closed_at : (place : Option ℕ) → place_of link (port_in ports p).ends ≡ place → RoundFits round (set ports p (closes_link place (port_in ports p)))
    closed_at (Some k) at =
        let stands : stage_at k (port_in ports p) ≡ Free = sym (ap (λ (x : Option ℕ). port_shown x (port_in ports p)) at) ∙ free in
        refused_fits round ports fits p k i here (found link (port_in ports p).ends k at).0 stands (closes_link (Some k) (port_in ports p)) refl refl refl
    closed_at None at = unchanged

    by : (how : MessageStatus) → how ≡ answer_to may_postpone (port_in ports p) → RoundFits round (set ports p (answered link i how (port_in ports p)))
    by status.Accepted is =
        absurd (never_accepts (port_in ports p).refusing (has_room (port_in ports p) && is_empty (port_in ports p).queue) may_postpone
        (sym (ap (λ (b : Bool). answer_where (port_in ports p).refusing b (has_room (port_in ports p) && is_empty (port_in ports p).queue)
        (cond may_postpone status.Postponed status.Declined)) reserves) ∙ sym is))
    by status.Postponed is = postponed_at (place_of link (port_in ports p).ends) refl
    by status.DecliningPermanently is = closed_at (place_of link (port_in ports p).ends) refl
    by status.Declined is = unchanged
    by status.NotAvailable is = unchanged
