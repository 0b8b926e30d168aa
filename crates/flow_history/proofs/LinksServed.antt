-- Over any calls each link of a write-once block has the message to come, or was given it, or has a cause why it never will be.
use Rattle.std.proofs.Common.{◌≡◌, ℕ, ◌+◌, ◌<◌, ◌≤◌, ◌^◌, ◌==◌, ltb, Bool, true, false, not, ◌&&◌, ◌||◌, cond, is_some, List, [], ◌∷◌, length, set, Option, Some, None, Ok, Err, refl, ap, ap₂, sym, subst, ◌∙◌, arith}
use Rattle.std.proofs.lemmas.Bool.{and_parts, ltb-true}
use Rattle.std.proofs.lemmas.List.{length-set, get_or-set_same}
use Rattle.flow_value.specs.When.{admits}
use Rattle.flow_value.specs.declared.value.Value.{Value}
use Rattle.flow_value.specs.declared.message.MessageStatus.{MessageStatus}
use Rattle.flow_value.specs.declared.message.MessageStatus.TheVariants as status
use Rattle.flow_link.specs.BlockCalls.{BlockCall}
use Rattle.flow_link.specs.SourceCalls.{SourceCall}
use Rattle.flow_link.specs.TargetCalls.{TargetCall}
use Rattle.flow_link.specs.declared.phase.Phase.TheVariants.{Idle, Wanted, Asked, Postponed}
use Rattle.flow_link.specs.declared.phase.Phase.{Phase}
use Rattle.flow_link.specs.declared.stage.SourceStage.{SourceStage}
use Rattle.flow_link.specs.declared.stage.SourceStage.TheVariants.{Out, Reserved}
use Rattle.flow_link.specs.Plan.{is_broadcast, is_write_once}
use Rattle.flow_link.specs.Stage.{source_looks}
use Rattle.flow_outlet.specs.End.{is_cut, is_limit, is_free}
use Rattle.flow_outlet.specs.Law.{is_refused}
use Rattle.flow_outlet.specs.Outlet.{given_end}
use Rattle.flow_outlet.specs.declared.ends.LinkRule.{LinkRule}
use Rattle.flow_spread.specs.declared.end.CopyEnd.{CopyEnd}
use Rattle.flow_spread.specs.ByLink.{place_of, answered, answered_link, still_owes, gives_home, is_there, tests_take, tests_consume}
use Rattle.flow_spread.specs.End.{end_in, no_end, fresh_end, takes_up, is_answer, is_open, moved}
use Rattle.flow_spread.specs.Spread.{SpreadState, is_spread_free, end_at, link_at, stage_at, next_place, puts, prepares, offers, looks, gives, asked_id, holds}
use Rattle.flow_spread.proofs.LawKept.{each_set}
use Rattle.flow_spread.proofs.NextOffer.{Next, next_is}
use Rattle.flow_spread.proofs.SpreadFits.{set_twice}
use Rattle.flow_block.specs.Block.{BlockState}
use Rattle.flow_block.specs.Traits.{carries_copy, copies_over, may_take_copy, copies_home, copy_over, has_turn, offer_next, offered_by, answered_by, may_keep_copy, keeps_copy, released_by}
use Rattle.flow_block.proofs.CopyKept.{may_reserve, kept_so, is_reserved}
use Rattle.flow_block.proofs.CopyStands.{is_asked}
use Rattle.flow_history.specs.Calls.{Call, MayCall, MayCallInOrder, Does, Fits, Step, AllDone, after_all}
use Rattle.flow_history.specs.History.{History, came_by, made_by, gave_by, noted}
use Rattle.flow_history.proofs.OnceByHand.{AllOnce, asked_leaves_copies, acts_leave_copies, takes_leave_copies, offer_is, offered_is, noted_is, out_is, consumed_is, copies_it, never_makes, one_once, reserved_is, released_is, kept_is}

-- Why a link asks for the message no more, or that it still does

pub data Cause (value : Value) (id : ℕ) (end : CopyEnd) : Type 0 where
  is_owed : end.owes ≡ true → Cause value id end
  was_given : end.link.last ≡ id → Cause value id end
  has_refused : is_refused end.link.stage ≡ true → Cause value id end
  is_rejected : admits end.link.rule.when value ≡ false → Cause value id end
  is_full : is_cut end.link ≡ true → Cause value id end

pub record Settled (value : Value) (id : ℕ) (end : CopyEnd) : Type 0 where
  pub cause : Cause value id end
  pub admitted : end.owes ≡ true → admits end.link.rule.when value ≡ true

-- of all ends, once there is a message
pub record AllSettled (count : ℕ) (copies : SpreadState) : Type 0 where
  pub each : (value : Value) → copies.element ≡ Some value → (k : ℕ) → k < length copies.ends → Settled value copies.id (end_at copies k)
  pub begun : (value : Value) → copies.element ≡ Some value → 1 ≤ copies.id
  pub links : length copies.ends ≡ count

-- Of one end

-- a new message is taken up
module _ (value : Value) (id : ℕ) (rule : LinkRule) where
  abbrev pub taken_up : CopyEnd
  taken_up = takes_up value (fresh_end rule)

  by_rule : (full admitted : Bool) → is_limit rule.max 0 ≡ full → admits rule.when value ≡ admitted → Settled value id taken_up
  by_rule true admitted is passes = record {
    cause = Cause.is_full is;
    admitted = λ e. absurd (let never : taken_up.owes ≡ false = ap (λ (b : Bool). not b && admits rule.when value) is in cc);
  }
  by_rule false false is passes = record {
    cause = Cause.is_rejected passes;
    admitted = λ e. absurd (let never : taken_up.owes ≡ false = ap₂ (λ (a b : Bool). not a && b) is passes in cc);
  }
  by_rule false true is passes = record {
    cause = Cause.is_owed (ap₂ (λ (a b : Bool). not a && b) is passes);
    admitted = λ e. passes;
  }

  pub fresh_settled : Settled value id taken_up
  fresh_settled = by_rule (is_limit rule.max 0) (admits rule.when value) refl refl

-- it is offered
offer_settled : (value : Value) (id : ℕ) (end : CopyEnd) → end.owes ≡ true → Settled value id end
    → Settled value id (moved (record end.link { stage = Out id }) end.owes end)
offer_settled value id end owes so = record { cause = Cause.is_owed owes; admitted = so.admitted }

-- it is answered
module _ (value : Value) (id header : ℕ) (once : Bool) (end : CopyEnd) (out : end.link.stage ≡ Out header) (so : Settled value id end) where
  abbrev answered_end : MessageStatus → CopyEnd
  answered_end how = moved (answered_link how header end.link) (still_owes how once end.owes) end

  unrefused : is_refused end.link.stage ≡ false
  unrefused = ap is_refused out

  -- the link goes on asking for it, if it did
  goes_on : (how : MessageStatus) → still_owes how once end.owes ≡ end.owes → Settled value id (answered_end how)
  goes_on how same = record {
    cause = of_cause so.cause;
    admitted = λ owes. so.admitted (sym same ∙ owes);
  }
    where
      of_cause : Cause value id end → Cause value id (answered_end how)
      of_cause (Cause.is_owed e) = Cause.is_owed (same ∙ e)
      of_cause (Cause.was_given e) = Cause.was_given e
      of_cause (Cause.has_refused e) = absurd (let never = unrefused in cc)
      of_cause (Cause.is_rejected e) = Cause.is_rejected e
      of_cause (Cause.is_full e) = Cause.is_full e

  still_so : (owes once : Bool) → once ≡ true → (owes && once) ≡ owes
  still_so true true e = refl
  still_so false true e = refl
  still_so owes false e = absurd (cc)

  answer_settled : (how : MessageStatus) → once ≡ true → Settled value id (answered_end how)
  answer_settled status.Accepted e = goes_on status.Accepted refl
  answer_settled status.Declined e = goes_on status.Declined (still_so end.owes once e)
  answer_settled status.Postponed e = goes_on status.Postponed (still_so end.owes once e)
  answer_settled status.NotAvailable e = goes_on status.NotAvailable (still_so end.owes once e)
  answer_settled status.DecliningPermanently e = record { cause = Cause.has_refused refl; admitted = λ owes. absurd (cc) }

-- it is kept, or given up: the link goes on asking for it, if it did
stands_on : (value : Value) (id : ℕ) (end : CopyEnd) (stage : SourceStage) (owes : Bool) → owes ≡ end.owes → is_refused end.link.stage ≡ false
    → Settled value id end → Settled value id (moved (record end.link { stage = stage }) owes end)
stands_on value id end stage owes same unrefused so = record {
  cause = of_cause so.cause;
  admitted = λ e. so.admitted (sym same ∙ e);
}
  where
    of_cause : Cause value id end → Cause value id (moved (record end.link { stage = stage }) owes end)
    of_cause (Cause.is_owed e) = Cause.is_owed (same ∙ e)
    of_cause (Cause.was_given e) = Cause.was_given e
    of_cause (Cause.has_refused e) = absurd (let never = unrefused in cc)
    of_cause (Cause.is_rejected e) = Cause.is_rejected e
    of_cause (Cause.is_full e) = Cause.is_full e

-- Of all ends

module _ (count : ℕ) (s : SpreadState) (so : AllSettled count s) where
  looks_settle : (k : ℕ) (phase : Phase) → k < length s.ends
      → ((end_at s k).owes && not (is_answer s.once (source_looks (stage_at s k) phase))) ≡ (end_at s k).owes
      → is_refused (stage_at s k) ≡ false → AllSettled count (looks k phase s)
  looks_settle k phase there same unrefused =
      let stage = source_looks (stage_at s k) phase in
      let owes = (end_at s k).owes && not (is_answer s.once stage) in
      let end = moved (record (link_at s k) { stage = stage }) owes (end_at s k) in
      record {
        each = λ value some.
            each_set (Settled value s.id) s.ends k end there
            (stands_on value s.id (end_at s k) stage owes same unrefused (so.each value some k there)) (so.each value some);
        begun = so.begun;
        links = length-set s.ends k end ∙ so.links;
      }

  holds_settle : (k : ℕ) → k < length s.ends → is_refused (stage_at s k) ≡ false → AllSettled count (holds k s)
  holds_settle k there unrefused =
      let stage = Reserved (asked_id (stage_at s k)) in
      let end = moved (record (link_at s k) { stage = stage }) (end_at s k).owes (end_at s k) in
      record {
        each = λ value some.
            each_set (Settled value s.id) s.ends k end there
            (stands_on value s.id (end_at s k) stage (end_at s k).owes refl unrefused (so.each value some k there)) (so.each value some);
        begun = so.begun;
        links = length-set s.ends k end ∙ so.links;
      }

  pub answers_settle : (link header : ℕ) (how : MessageStatus) → place_of link s.ends < length s.ends
      → stage_at s (place_of link s.ends) ≡ Out header → s.once ≡ true → AllSettled count (answered how header (place_of link s.ends) s)
  answers_settle link header how there out once =
      let k = place_of link s.ends in
      let end = moved (answered_link how header (link_at s k)) (still_owes how s.once (end_at s k).owes) (end_at s k) in
      record {
        each = λ value some.
            each_set (Settled value s.id) s.ends k end there
            (answer_settled value s.id header s.once (end_at s k) out (so.each value some k there) how once) (so.each value some);
        begun = so.begun;
        links = length-set s.ends k end ∙ so.links;
      }

  module _ (k : ℕ) (next : Next s k) where
    abbrev ready : CopyEnd
    ready = record (end_at s k) { share = s.element }

    abbrev prepared : SpreadState
    prepared = prepares k s

    abbrev offered_end : CopyEnd
    offered_end = moved (record (link_at prepared k) { stage = Out s.id }) (end_at prepared k).owes (end_at prepared k)

    ready_is : end_at prepared k ≡ ready
    ready_is = get_or-set_same s.ends k ready no_end next.there

    end_is : offered_end ≡ moved (record ready.link { stage = Out s.id }) ready.owes ready
    end_is = ap (λ (e : CopyEnd). moved (record e.link { stage = Out s.id }) e.owes e) ready_is

    offered_ends : (offers k prepared).ends ≡ set s.ends k offered_end
    offered_ends = set_twice s.ends k ready offered_end

    owing : ready.owes ≡ true
    owing =
        let opened = (and_parts (is_some s.element) (is_open s.id (end_at s k)) next.may).1 in
        let free = and_parts (ready.owes && is_free ready.link.stage) (not (ready.link.declined == s.id)) opened in
        (and_parts ready.owes (is_free ready.link.stage) free.0).0

    pub offers_settle : AllSettled count (offers k (prepares k s))
    offers_settle = record {
      each = λ value some.
          let before : Settled value s.id ready =
          record { cause = Cause.is_owed owing; admitted = (so.each value some k next.there).admitted } in
          let settled : Settled value s.id offered_end =
          subst (Settled value s.id) (sym end_is) (offer_settled value s.id ready owing before) in
          subst (λ (ends : List CopyEnd). (j : ℕ) → j < length ends → Settled value s.id (end_in ends j)) (sym offered_ends)
          (each_set (Settled value s.id) s.ends k offered_end next.there settled (so.each value some));
      begun = so.begun;
      links = ap length offered_ends ∙ length-set s.ends k offered_end ∙ so.links;
    }

  module _ (k header : ℕ) (there : k < length s.ends) where
    abbrev looked : SpreadState
    looked = looks k (Wanted header) s

    abbrev looked_end : CopyEnd
    looked_end =
        moved (record (link_at s k) { stage = source_looks (stage_at s k) (Wanted header) })
        ((end_at s k).owes && not (is_answer s.once (source_looks (stage_at s k) (Wanted header)))) (end_at s k)

    abbrev gave : SpreadState
    gave = gives k looked

    abbrev gave_end : CopyEnd
    gave_end = moved (given_end looked.id (link_at looked k)) false (end_at looked k)

    abbrev home : CopyEnd
    home =
        moved (record (link_at gave k) { stage = source_looks (stage_at gave k) Idle })
        ((end_at gave k).owes && not (is_answer gave.once (source_looks (stage_at gave k) Idle))) (end_at gave k)

    home_ends : (gives_home k header s).ends ≡ set s.ends k home
    home_ends = set_twice looked.ends k gave_end home ∙ set_twice s.ends k looked_end home

    there_looked : k < length looked.ends
    there_looked = (let l = there in omega (arith, l, length-set s.ends k looked_end))

    gave_is : end_at gave k ≡ gave_end
    gave_is = get_or-set_same looked.ends k gave_end no_end there_looked

    last_is : home.link.last ≡ s.id
    last_is = ap (λ (end : CopyEnd). end.link.last) gave_is

    owes_none : home.owes ≡ false
    owes_none = ap (λ (end : CopyEnd). end.owes && not (is_answer gave.once (source_looks end.link.stage Idle))) gave_is

    pub gives_settle : AllSettled count (gives_home k header s)
    gives_settle = record {
      each = λ value some.
          let settled : Settled value s.id home =
          record { cause = Cause.was_given last_is; admitted = λ owes. absurd (let never = owes_none in cc) } in
          subst (λ (ends : List CopyEnd). (j : ℕ) → j < length ends → Settled value s.id (end_in ends j)) (sym home_ends)
          (each_set (Settled value s.id) s.ends k home there settled (so.each value some));
      begun = so.begun;
      links = ap length home_ends ∙ length-set s.ends k home ∙ so.links;
    }

-- a block that takes once goes on waiting for a target that put the message off
owes_still : (owes once : Bool) → once ≡ true → (owes && not (not once)) ≡ owes
owes_still true true e = refl
owes_still false once e = refl
owes_still true false e = absurd (cc)

module _ (count : ℕ) (s : SpreadState) (so : AllSettled count s) (link header : ℕ) (once : s.once ≡ true) where
  abbrev at : ℕ
  at = place_of link s.ends

  pub keeps_settle : may_keep_copy link header s ≡ true → AllSettled count (holds at (looks at (Asked header) s))
  keeps_settle keep =
      let may = may_reserve s link header keep in
      let asked = looks at (Asked header) s in
      let stage = source_looks (stage_at s at) (Asked header) in
      let asked_end = moved (record (link_at s at) { stage = stage }) ((end_at s at).owes && not (is_answer s.once stage)) (end_at s at) in
      let settled : AllSettled count asked =
      looks_settle count s so at (Asked header) may.known
      (ap (λ (was : SourceStage). (end_at s at).owes && not (is_answer s.once (source_looks was (Asked header)))) may.waits
      ∙ owes_still (end_at s at).owes s.once once)
      (ap is_refused may.waits) in
      holds_settle count asked settled at
      (let l = may.known in omega (arith, l, length-set s.ends at asked_end))
      (ap (λ (end : CopyEnd). is_refused end.link.stage) (get_or-set_same s.ends at asked_end no_end may.known)
      ∙ ap (λ (was : SourceStage). is_refused (source_looks was (Asked header))) may.waits)

  pub releases_settle : copy_over s link ≡ Reserved header → AllSettled count (looks at (Postponed header) s)
  releases_settle shown =
      let kept = is_reserved s link header shown in
      looks_settle count s so at (Postponed header) kept.known
      (ap (λ (was : SourceStage). (end_at s at).owes && not (is_answer s.once (source_looks was (Postponed header)))) kept.kept
      ∙ owes_still (end_at s at).owes s.once once)
      (ap is_refused kept.kept)

pub same_settled : (count : ℕ) (old new : SpreadState) → new ≡ old → AllSettled count old → AllSettled count new
same_settled count old new is so = subst (AllSettled count) (sym is) so

-- By each call

module _ (count : ℕ) (old new : BlockState) (once : is_write_once old.kind ≡ true) (one : old.copies.once ≡ true)
    (so : AllSettled count old.copies) where
  next_where : (stopped : Bool) (place : Option ℕ) (k : ℕ) → cond stopped None (copies_over old.copies place) ≡ Some k → place ≡ Some k
  next_where true place k e = absurd (cc)
  next_where false None k e = absurd (cc)
  next_where false (Some j) k e = carried (carries_copy j old.copies.ends) e
    where
      carried : (carries : Bool) → cond carries (Some j) None ≡ Some k → Some j ≡ Some k
      carried true e = e
      carried false e = absurd (cc)

  offered_settled : (place : Option ℕ) → offer_next old ≡ place → AllSettled count (offered_by false place old).copies
  offered_settled None is = so
  offered_settled (Some k) is =
      offers_settle count old.copies so k
      (next_is old.copies k (next_where (is_some old.stopped) (next_place old.copies) k (sym (offer_is old new once) ∙ is)))

  given_where : (link header : ℕ) (taken : Bool) → may_take_copy link header old.copies ≡ taken
      → AllSettled count (cond taken (copies_home link header old) old).copies
  given_where link header false is = so
  given_where link header true is =
      let k = place_of link old.copies.ends in
      let both = and_parts (is_some old.copies.element && tests_consume k header old.copies) (is_there k header old.copies) is in
      let tests = (and_parts (is_some old.copies.element) (tests_consume k header old.copies) both.0).1 in
      let near = (and_parts (ltb k (length old.copies.ends)) (not (is_there k header old.copies) || tests_take k old.copies) tests).0 in
      gives_settle count old.copies so k header (ltb-true k (length old.copies.ends) near)

  kept_where : (link header : ℕ) (keep : Bool) → may_keep_copy link header old.copies ≡ keep
      → AllSettled count (cond keep (keeps_copy link header old) old).copies
  kept_where link header false is = so
  kept_where link header true is =
      subst (AllSettled count) (sym (kept_so old.copies link header is)) (keeps_settle count old.copies so link header one is)

  as_it_is : (block : BlockState) → new ≡ block → AllSettled count block.copies → AllSettled count new.copies
  as_it_is block is settled = subst (λ (b : BlockState). AllSettled count b.copies) (sym is) settled

  pub gives_settled : (call : SourceCall) → MayCall (Call.gives call) old → Does (Call.gives call) old new → AllSettled count new.copies
  gives_settled (SourceCall.offered offer) may does =
      as_it_is (offered_by false (offer_next old) old) (offered_is old new once offer does) (offered_settled (offer_next old) refl)
  gives_settled (SourceCall.noted link header how) may does =
      let asked = is_asked old.copies link header (out_is old new once link header how may) in
      as_it_is (answered_by false link header how old) (noted_is old new once link header how does)
      (answers_settle count old.copies so link header how asked.known asked.unanswered one)
  gives_settled (SourceCall.consumed link header value) may does =
      as_it_is (cond (may_take_copy link header old.copies) (copies_home link header old) old)
      (consumed_is old new once link header value does) (given_where link header (may_take_copy link header old.copies) refl)
  gives_settled (SourceCall.reserved link header kept) may does =
      as_it_is (cond (may_keep_copy link header old.copies) (keeps_copy link header old) old)
      (reserved_is old new once link header kept does) (kept_where link header (may_keep_copy link header old.copies) refl)
  gives_settled (SourceCall.released link header) may does =
      as_it_is (released_by false link header old) (released_is old new once link header does)
      (releases_settle count old.copies so link header one (kept_is old new once link header may))

-- Over all

-- what it is to copy, once it has taken it up
abbrev StartsWell : ℕ → SpreadState → Type 0
StartsWell count first = (value : Value) → AllSettled count (puts value first)

module _ (count : ℕ) (first : SpreadState) (free : is_spread_free first ≡ true) (ids : first.id + 1 < 2 ^ 59) (starts : StartsWell count first) where
  one_settled : (h : History) (old new : BlockState) → AllOnce first h old → Fits old → AllSettled count old.copies
      → (call : Call) → MayCallInOrder call old → Does call old new → AllSettled count new.copies
  one_settled h old new once fits so (Call.acts (BlockCall.completed p)) may does =
      same_settled count old.copies new.copies (acts_leave_copies old new (BlockCall.completed p) tt does) so
  one_settled h old new once fits so (Call.acts (BlockCall.faulted number)) may does =
      same_settled count old.copies new.copies (acts_leave_copies old new (BlockCall.faulted number) tt does) so
  one_settled h old new once fits so (Call.acts (BlockCall.made (Ok true))) may does =
      absurd (never_makes old.kind (length old.ports) (has_turn (is_broadcast old.kind) old) (once.kept.place refl).once does.0.by_itself)
  one_settled h old new once fits so (Call.acts (BlockCall.made (Ok false))) may does =
      same_settled count old.copies new.copies (acts_leave_copies old new (BlockCall.made (Ok false)) tt does) so
  one_settled h old new once fits so (Call.acts (BlockCall.made (Err fault))) may does =
      same_settled count old.copies new.copies (acts_leave_copies old new (BlockCall.made (Err fault)) tt does) so
  one_settled h old new once fits so (Call.gives call) may does =
      gives_settled count old new (once.kept.place refl).once (once.kept.takes_once (once.kept.place refl).once) so call may.0 does
  one_settled h old new once fits so (Call.takes (TargetCall.handed link header value)) may does =
      same_settled count (puts value first) new.copies
      (copies_it first free ids h old new once.kept fits once.once link header value may does) (starts value)
  one_settled h old new once fits so (Call.takes (TargetCall.offered link header may_postpone how)) may does =
      same_settled count old.copies new.copies (takes_leave_copies old new (TargetCall.offered link header may_postpone how) tt does) so
  one_settled h old new once fits so (Call.takes (TargetCall.wished told)) may does =
      same_settled count old.copies new.copies (takes_leave_copies old new (TargetCall.wished told) tt does) so
  one_settled h old new once fits so (Call.takes (TargetCall.noted link told)) may does =
      same_settled count old.copies new.copies (takes_leave_copies old new (TargetCall.noted link told) tt does) so
  one_settled h old new once fits so Call.asked may does =
      same_settled count old.copies new.copies (asked_leaves_copies old new does) so

  pub all_settled : (steps : List (Step Call BlockState)) (old : BlockState) (h : History) → Fits old → AllDone Fits MayCallInOrder Does steps old
      → AllOnce first h old → AllSettled count old.copies → AllSettled count (after_all steps old).copies
  all_settled [] old h fits done once so = so
  all_settled (step ∷ steps) old h fits done once so =
      all_settled steps step.left (noted came_by made_by gave_by step.call old h) done.1.1.0 done.1.1.1
      (one_once first free ids h old step.left fits once step.call done.0 done.1.0)
      (one_settled h old step.left once fits so step.call done.0 done.1.0)
