-- Each call of a spread keeps its law, told of the one end that changes.
use Rattle.std.proofs.Common.{◌≡◌, ℕ, ◌≤◌, ◌==◌, ◌||◌, ◌&&◌, not, Bool, true, false, cond, Option, Some, None, is_some, refl, sym, ◌∙◌, ap, arith}
use Rattle.std.specs.Bool.{OnTrue}
use Rattle.std.proofs.lemmas.Bool.{OnTrue_at, OnTrue_from, and_parts, not-true}
use Rattle.flow_value.specs.declared.value.Value.{Value}
use Rattle.flow_value.specs.declared.message.MessageStatus.{MessageStatus}
use Rattle.flow_value.specs.declared.message.MessageStatus.TheVariants as status
use Rattle.flow_link.specs.declared.phase.LinkEnd.{LinkEnd}
use Rattle.flow_link.specs.declared.phase.LinkEnd.TheVariants.{Plain}
use Rattle.flow_link.specs.declared.phase.Phase.{Phase}
use Rattle.flow_link.specs.declared.stage.SourceStage.{SourceStage}
use Rattle.flow_link.specs.declared.stage.SourceStage.TheVariants.{Free, Out, Waiting, Accepted, Reserved, Refused, Ended}
use Rattle.flow_link.specs.declared.trace.Outcome.{Outcome}
use Rattle.flow_link.specs.declared.trace.Outcome.TheVariants.{Done}
use Rattle.flow_link.specs.Stage.{source_looks}
use Rattle.flow_outlet.specs.End.{id_of, is_out, is_free, is_away, is_waiting, is_cut}
use Rattle.flow_outlet.specs.KeepsByLink.{settles_it}
use Rattle.flow_outlet.specs.Law.{is_put_off, is_posted, is_refused}
use Rattle.flow_outlet.specs.Outlet.{end_of, given_end}
use Rattle.flow_outlet.proofs.LookTells.{look_tells}
use Rattle.flow_outlet.proofs.StagesTell.{free_is, waits_for}
use Rattle.flow_outlet.specs.declared.ends.LinkRule.{LinkRule}
use Rattle.flow_spread.specs.declared.end.CopyEnd.{CopyEnd}
use Rattle.flow_spread.specs.ByLink.{answered_link, still_owes}
use Rattle.flow_spread.specs.End.{is_open, is_answer, moved, fresh_end}
use Rattle.flow_spread.specs.Spread.{is_wanted, is_asked_by, asked_id}
use Rattle.flow_spread.specs.Law.{CopyEndLaw, MayPutOff, speaks, concerns_it, may_owe}
use Rattle.flow_spread.proofs.StagesTell.{or_first, or_second, or_either, never_so, some_is, number_same, looks_owing, looks_rest, out_is_no_answer, once_refused, wanted_is, asks_for, owes_once}
use Rattle.flow_spread.proofs.EndsOwe.{one_more, within_none, share_kept, first_of_four, silent_speaks, open_parts, owes_or, owes_refused, none_left}

module _ {element : Option Value} {id : ℕ} {once pending : Bool} {stopped : Option Outcome} (end : CopyEnd) (old : CopyEndLaw element id once pending stopped end) where
  owed_concerns : end.owes ≡ true → concerns_it end ≡ true
  owed_concerns e = or_second (speaks end.link.stage) end.owes e

  spoken_concerns : speaks end.link.stage ≡ true → concerns_it end ≡ true
  spoken_concerns e = or_first (speaks end.link.stage) end.owes e

  same_id : (i : ℕ) → id_of end.link.stage ≡ Some i → i ≡ id
  same_id i e = old.current i e

  pub prepares_each : CopyEndLaw element id once pending stopped (record end { share = element })
  prepares_each = record {
    current = old.current;
    offers = old.offers;
    risen = old.risen;
    declined_before = old.declined_before;
    fresh = old.fresh;
    admitted = old.admitted;
    ready = OnTrue_from (speaks end.link.stage) _ (λ _. refl);
    within = old.within;
    room = old.room;
    put_off = old.put_off;
    owed = old.owed;
    owing = old.owing;
    once_owes = old.once_owes;
    given_up = old.given_up;
    ended = old.ended;
    rests = old.rests;
    served = old.served;
  }

  pub looks_each : (phase : Phase) → OnTrue (is_put_off (source_looks end.link.stage phase)) (MayPutOff end.link)
      → CopyEndLaw element id once pending stopped
      (moved (record end.link { stage = source_looks end.link.stage phase }) (end.owes && not (is_answer once (source_looks end.link.stage phase))) end)
  looks_each phase off =
      let stage = source_looks end.link.stage phase in
      let owes = end.owes && not (is_answer once stage) in
      let tells = look_tells end.link.stage phase in
      let spoke : speaks stage ≡ true → speaks end.link.stage ≡ true =
      λ e. some_is (id_of stage) e (λ i is. ap is_some (tells.same_id i is)) in
      let concerned : (speaks stage || owes) ≡ true → concerns_it end ≡ true =
      λ e. or_either (speaks stage) owes (λ s. spoken_concerns (spoke s)) (λ o. owed_concerns (and_parts end.owes (not (is_answer once stage)) o).0) e in
      record {
        current = λ i e. old.current i (tells.same_id i e);
        offers = tells.not_posted old.offers;
        risen = old.risen;
        declined_before = old.declined_before;
        fresh = OnTrue_from (speaks stage || owes) _ (λ e. OnTrue_at (concerned e) old.fresh);
        admitted = OnTrue_from (speaks stage || owes) _ (λ e. OnTrue_at (concerned e) old.admitted);
        ready = share_kept (speaks stage) end.share element (λ e. OnTrue_at (spoke e) old.ready);
        within = old.within;
        room = OnTrue_from (speaks stage || owes) _ (λ e. OnTrue_at (concerned e) old.room);
        put_off = off;
        owed = OnTrue_from (is_out stage) _ (λ e. rw (OnTrue_at (tells.was_out old.offers e) old.owed, out_is_no_answer once stage e) refl);
        owing = OnTrue_from owes _ (λ e.
            let parts = and_parts end.owes (not (is_answer once stage)) e in
            looks_owing once end.link.stage phase (OnTrue_at parts.0 old.owing) (not-true (is_answer once stage) parts.1));
        once_owes = λ o a. owes_or end.owes (end.link.last == id) (is_refused end.link.stage) (is_refused stage) (is_cut end.link) owes
            (λ e none. once_refused stage (let answers : is_answer once stage ≡ true = none_left end.owes (is_answer once stage) e none in rw o at answers))
            tells.refused (old.once_owes o a);
        given_up = OnTrue_from (end.link.declined == id && owes) _ (λ e.
            let parts = and_parts (end.link.declined == id) owes e in
            OnTrue_at (rw (parts.0, (and_parts end.owes (not (is_answer once stage)) parts.1).0) refl) old.given_up);
        ended = λ how e. old.ended how (tells.ended how e);
        rests = λ e. looks_rest end.link.stage phase (old.rests e);
        served = λ e. rw (old.served e) refl;
      }

  pub gives_each : is_wanted id end.link.stage ≡ true → CopyEndLaw element id once pending stopped (moved (given_end id end.link) false end)
  gives_each wanted =
      let is = wanted_is id end.link.stage wanted in
      record {
        current = λ i e. cc;
        offers = refl;
        risen = omega arith;
        declined_before = old.declined_before;
        fresh = tt;
        admitted = tt;
        ready = tt;
        within = one_more end.link.rule.max end.link.given (OnTrue_at (spoken_concerns is.speaks) old.room);
        room = tt;
        put_off = tt;
        owed = tt;
        owing = tt;
        once_owes = λ o a. rw (number_same id) refl;
        given_up = OnTrue_from (end.link.declined == id && false) _ (λ e. let parts = and_parts (end.link.declined == id) false e in absurd (let never : false ≡ true = parts.1 in cc));
        ended = λ how e. cc;
        rests = λ e. never_so (is_away end.link.stage) is.away (old.rests e);
        served = λ e. refl;
      }

  pub holds_each : is_asked_by end.link.stage ≡ true
      → CopyEndLaw element id once pending stopped (moved (record end.link { stage = Reserved (asked_id end.link.stage) }) end.owes end)
  holds_each asked =
      let asks = asks_for end.link.stage asked in
      let was : id_of end.link.stage ≡ Some asks.id = ap id_of asks.is in
      let same : asked_id end.link.stage ≡ asks.id = ap asked_id asks.is in
      let here : asks.id ≡ id = old.current asks.id was in
      let spoken : speaks end.link.stage ≡ true = ap is_some was in
      record {
        current = λ i e. let mine : asked_id end.link.stage ≡ i = cc in sym mine ∙ same ∙ here;
        offers = refl;
        risen = old.risen;
        declined_before = old.declined_before;
        fresh = OnTrue_at (spoken_concerns spoken) old.fresh;
        admitted = OnTrue_at (spoken_concerns spoken) old.admitted;
        ready = OnTrue_at spoken old.ready;
        within = old.within;
        room = OnTrue_at (spoken_concerns spoken) old.room;
        put_off = OnTrue_at (ap is_put_off asks.is) old.put_off;
        owed = tt;
        owing = OnTrue_from end.owes _ (λ e. ap (may_owe once) (sym asks.is) ∙ OnTrue_at e old.owing);
        once_owes = λ o a. owes_or end.owes (end.link.last == id) (is_refused end.link.stage) false (is_cut end.link) end.owes
            (λ e none. never_so end.owes e none) (λ e. sym (ap is_refused asks.is) ∙ e) (old.once_owes o a);
        given_up = old.given_up;
        ended = λ how e. cc;
        rests = λ e. let no : is_away end.link.stage ≡ false = old.rests e in sym (ap is_away asks.is) ∙ no;
        served = old.served;
      }

  pub withdraws_each : is_waiting end.link.stage ≡ true → (end.owes ≡ true → pending ≡ true)
      → CopyEndLaw element id once pending stopped
      (moved (record end.link { declined = asked_id end.link.stage; stage = Free }) end.owes end)
  withdraws_each wait up =
      let waits = waits_for end.link.stage wait in
      let was : id_of end.link.stage ≡ Some waits.id = ap id_of waits.is in
      let same : asked_id end.link.stage ≡ waits.id = ap asked_id waits.is in
      let here : waits.id ≡ id = old.current waits.id was in
      record {
        current = λ i e. cc;
        offers = refl;
        risen = old.risen;
        declined_before = omega (arith, same, here);
        fresh = OnTrue_from end.owes _ (λ e. OnTrue_at (owed_concerns e) old.fresh);
        admitted = OnTrue_from end.owes _ (λ e. OnTrue_at (owed_concerns e) old.admitted);
        ready = tt;
        within = old.within;
        room = OnTrue_from end.owes _ (λ e. OnTrue_at (owed_concerns e) old.room);
        put_off = tt;
        owed = tt;
        owing = OnTrue_from end.owes _ (λ _. refl);
        once_owes = λ o a. owes_or end.owes (end.link.last == id) (is_refused end.link.stage) false (is_cut end.link) end.owes
            (λ e none. never_so end.owes e none) (λ e. sym (ap is_refused waits.is) ∙ e) (old.once_owes o a);
        given_up = OnTrue_from (asked_id end.link.stage == id && end.owes) _ (λ e.
            let owes = (and_parts (asked_id end.link.stage == id) end.owes e).1 in
            (owes_once once (ap (may_owe once) (sym waits.is) ∙ OnTrue_at owes old.owing), up owes));
        ended = λ how e. cc;
        rests = λ e. refl;
        served = old.served;
      }

  pub ends_each : (how : LinkEnd) → is_free end.link.stage ≡ true → end_of end.link stopped ≡ Some how
      → CopyEndLaw element id once pending stopped (moved (record end.link { stage = Ended how }) end.owes end)
  ends_each how free by =
      let is : end.link.stage ≡ Free = free_is end.link.stage free in
      record {
        current = λ i e. cc;
        offers = refl;
        risen = old.risen;
        declined_before = old.declined_before;
        fresh = OnTrue_from end.owes _ (λ e. OnTrue_at (owed_concerns e) old.fresh);
        admitted = OnTrue_from end.owes _ (λ e. OnTrue_at (owed_concerns e) old.admitted);
        ready = tt;
        within = old.within;
        room = OnTrue_from end.owes _ (λ e. OnTrue_at (owed_concerns e) old.room);
        put_off = tt;
        owed = tt;
        owing = OnTrue_from end.owes _ (λ _. refl);
        once_owes = λ o a. owes_or end.owes (end.link.last == id) (is_refused end.link.stage) false (is_cut end.link) end.owes
            (λ e none. never_so end.owes e none) (λ e. sym (ap is_refused is) ∙ e) (old.once_owes o a);
        given_up = old.given_up;
        ended = λ other e. let equal : how ≡ other = cc in by ∙ ap Some equal;
        rests = λ e. refl;
        served = old.served;
      }

-- a new offer
pub offers_each : {element : Option Value} {id : ℕ} {once pending : Bool} (end : CopyEnd) → CopyEndLaw element id once pending None end
    → is_some element && is_open id end ≡ true → end.share ≡ element
    → CopyEndLaw element id once pending None (moved (record end.link { stage = Out id }) end.owes end)
offers_each {element} {id} {once} end old may ready =
    let parts = open_parts (is_some element) end.owes (is_free end.link.stage) (end.link.declined == id) may in
    let concerned = owed_concerns end old parts.1 in
    record {
      current = λ i e. let mine : id ≡ i = cc in sym mine;
      offers = refl;
      risen = old.risen;
      declined_before = old.declined_before;
      fresh = OnTrue_at concerned old.fresh;
      admitted = OnTrue_at concerned old.admitted;
      ready = ready;
      within = old.within;
      room = OnTrue_at concerned old.room;
      put_off = tt;
      owed = parts.1;
      owing = OnTrue_from end.owes _ (λ _. refl);
      once_owes = λ o a. first_of_four end.owes (end.link.last == id) false (is_cut end.link) parts.1;
      given_up = old.given_up;
      ended = λ how e. cc;
      rests = λ e. cc;
      served = λ e. cc;
    }

-- An answer that is noted, while the block may fault

module _ {element : Option Value} {id : ℕ} {once : Bool} {stopped : Option Outcome} (end : CopyEnd) (old : CopyEndLaw element id once true stopped end) (header : ℕ) (is : end.link.stage ≡ Out header) where
  asked_spoken : speaks end.link.stage ≡ true
  asked_spoken = ap (λ (stage : SourceStage). is_some (id_of stage)) is

  asked_here : header ≡ id
  asked_here = old.current header (ap id_of is)

  asked_owes : end.owes ≡ true
  asked_owes = OnTrue_at (ap is_out is) old.owed

  asked_concerns : concerns_it end ≡ true
  asked_concerns = spoken_concerns end old asked_spoken

  asked_busy : is_some stopped ≡ true → ⊥
  asked_busy e = never_so (is_away end.link.stage) (ap is_away is) (old.rests e)

  -- the offer was accepted, or put off
  stays_open : (stage : SourceStage) (owes : Bool) → id_of stage ≡ Some header → is_posted stage ≡ false
      → (is_out stage ≡ true → owes ≡ true) → (owes ≡ true → may_owe once stage ≡ true)
      → OnTrue (is_put_off stage) (MayPutOff end.link) → (once ≡ true → owes ≡ true) → ((how : LinkEnd) → stage ≡ Ended how → ⊥)
      → CopyEndLaw element id once true stopped (moved (record end.link { stage = stage }) owes end)
  stays_open stage owes mine plain out may off waits goes_on = record {
    current = λ i e. let same : header ≡ i = (let both : Some header ≡ Some i = sym mine ∙ e in cc) in sym same ∙ asked_here;
    offers = plain;
    risen = old.risen;
    declined_before = old.declined_before;
    fresh = OnTrue_from (speaks stage || owes) _ (λ _. OnTrue_at asked_concerns old.fresh);
    admitted = OnTrue_from (speaks stage || owes) _ (λ _. OnTrue_at asked_concerns old.admitted);
    ready = share_kept (speaks stage) end.share element (λ _. OnTrue_at asked_spoken old.ready);
    within = old.within;
    room = OnTrue_from (speaks stage || owes) _ (λ _. OnTrue_at asked_concerns old.room);
    put_off = off;
    owed = OnTrue_from (is_out stage) _ out;
    owing = OnTrue_from owes _ may;
    once_owes = λ o a. first_of_four owes (end.link.last == id) (is_refused stage) (is_cut end.link) (waits o);
    given_up = OnTrue_from (end.link.declined == id && owes) _ (λ e.
        OnTrue_at (rw ((and_parts (end.link.declined == id) owes e).0, asked_owes) refl) old.given_up);
    ended = λ how e. absurd (goes_on how e);
    rests = λ e. absurd (asked_busy e);
    served = λ e. absurd (asked_busy (ap is_some e));
  }

  -- it was not
  closes : (stage : SourceStage) (declined : ℕ) (owes : Bool) → id_of stage ≡ None → is_posted stage ≡ false → is_out stage ≡ false
      → is_put_off stage ≡ false → declined ≤ id → (owes ≡ true → (once ≡ true) × (may_owe once stage ≡ true))
      → (once ≡ true → (owes || is_refused stage) ≡ true) → ((how : LinkEnd) → stage ≡ Ended how → ⊥)
      → CopyEndLaw element id once true stopped (moved (record end.link { declined = declined; stage = stage }) owes end)
  closes stage declined owes none plain not_out not_off low may settled goes_on = record {
    current = λ i e. let never : None ≡ Some i = sym none ∙ e in cc;
    offers = plain;
    risen = old.risen;
    declined_before = low;
    fresh = OnTrue_from (speaks stage || owes) _ (λ _. OnTrue_at asked_concerns old.fresh);
    admitted = OnTrue_from (speaks stage || owes) _ (λ _. OnTrue_at asked_concerns old.admitted);
    ready = OnTrue_from (speaks stage) _ (λ s. silent_speaks (id_of stage) none s);
    within = old.within;
    room = OnTrue_from (speaks stage || owes) _ (λ _. OnTrue_at asked_concerns old.room);
    put_off = OnTrue_from (is_put_off stage) _ (λ e. never_so (is_put_off stage) e not_off);
    owed = OnTrue_from (is_out stage) _ (λ e. never_so (is_out stage) e not_out);
    owing = OnTrue_from owes _ (λ e. (may e).1);
    once_owes = λ o a. owes_refused owes (end.link.last == id) (is_refused stage) (is_cut end.link) (settled o);
    given_up = OnTrue_from (declined == id && owes) _ (λ e. ((may (and_parts (declined == id) owes e).1).0, refl));
    ended = λ how e. absurd (goes_on how e);
    rests = λ e. absurd (asked_busy e);
    served = λ e. absurd (asked_busy (ap is_some e));
  }

  pub answers_each : (answer : MessageStatus) → (settles_it answer ≡ false → MayPutOff end.link)
      → CopyEndLaw element id once true stopped (moved (answered_link answer header end.link) (still_owes answer once end.owes) end)
  answers_each status.Accepted late =
      stays_open (Accepted header) end.owes refl refl (λ _. asked_owes) (λ _. refl) tt (λ _. asked_owes) (λ how e. cc)
  answers_each status.Postponed late =
      stays_open (Waiting header) (end.owes && once) refl refl (λ e. cc)
      (λ e. rw ((and_parts end.owes once e).1) refl) (late refl) (λ o. rw (asked_owes, o) refl) (λ how e. cc)
  answers_each status.Declined late =
      closes Free header (end.owes && once) refl refl refl refl (omega (arith, asked_here))
      (λ e. ((and_parts end.owes once e).1, refl)) (λ o. rw (asked_owes, o) refl) (λ how e. cc)
  answers_each status.NotAvailable late =
      closes Free header (end.owes && once) refl refl refl refl (omega (arith, asked_here))
      (λ e. ((and_parts end.owes once e).1, refl)) (λ o. rw (asked_owes, o) refl) (λ how e. cc)
  answers_each status.DecliningPermanently late =
      closes Refused end.link.declined false refl refl refl refl old.declined_before (λ e. cc) (λ o. refl) (λ how e. cc)

-- The block comes to fault, and stops

pub faults_each : {element : Option Value} {id : ℕ} {once : Bool} {stopped : Option Outcome} (end : CopyEnd)
    → CopyEndLaw element id once false stopped end → CopyEndLaw element id once true stopped end
faults_each {id} end old = record {
  current = old.current;
  offers = old.offers;
  risen = old.risen;
  declined_before = old.declined_before;
  fresh = old.fresh;
  admitted = old.admitted;
  ready = old.ready;
  within = old.within;
  room = old.room;
  put_off = old.put_off;
  owed = old.owed;
  owing = old.owing;
  once_owes = old.once_owes;
  given_up = OnTrue_from (end.link.declined == id && end.owes) _ (λ e. ((OnTrue_at e old.given_up).0, refl));
  ended = old.ended;
  rests = old.rests;
  served = old.served;
}

stopped_as : (cut : Bool) (by : Option LinkEnd) (how : LinkEnd) → cond cut (Some Plain) None ≡ Some how
    → cond cut (Some Plain) by ≡ Some how
stopped_as true by how e = e
stopped_as false by how e = cc

pub stops_each : {element : Option Value} {id : ℕ} {once pending : Bool} (end : CopyEnd) (outcome : Outcome)
    → CopyEndLaw element id once pending None end → is_away end.link.stage ≡ false → (outcome ≡ Done → end.owes ≡ false)
    → CopyEndLaw element id once pending (Some outcome) end
stops_each end outcome old rest served = record {
  current = old.current;
  offers = old.offers;
  risen = old.risen;
  declined_before = old.declined_before;
  fresh = old.fresh;
  admitted = old.admitted;
  ready = old.ready;
  within = old.within;
  room = old.room;
  put_off = old.put_off;
  owed = old.owed;
  owing = old.owing;
  once_owes = old.once_owes;
  given_up = old.given_up;
  ended = λ how e. stopped_as (is_cut end.link) _ how (old.ended how e);
  rests = λ e. rest;
  served = λ e. served (let same : outcome ≡ Done = cc in same);
}

-- A new end

pub fresh_each : (rule : LinkRule) (id : ℕ) (once pending : Bool) (stopped : Option Outcome)
    → CopyEndLaw None id once pending stopped (fresh_end rule)
fresh_each rule id once pending stopped = record {
  current = λ i e. cc;
  offers = refl;
  risen = omega arith;
  declined_before = omega arith;
  fresh = tt;
  admitted = tt;
  ready = tt;
  within = within_none rule.max;
  room = tt;
  put_off = tt;
  owed = tt;
  owing = tt;
  once_owes = λ o a. cc;
  given_up = OnTrue_from (0 == id && false) _ (λ e. let parts = and_parts (0 == id) false e in absurd (let never : false ≡ true = parts.1 in cc));
  ended = λ how e. cc;
  rests = λ e. refl;
  served = λ e. refl;
}
