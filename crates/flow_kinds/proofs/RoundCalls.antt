-- The calls of a join by hand keep its round in order: an offer comes, is asked for, claimed or given up; a wish is answered, and a
-- message comes.
use Rattle.std.proofs.Common.{◌≡◌, ◌≢◌, ℕ, ◌+◌, ◌<◌, ◌≤◌, ◌==◌, ◌&&◌, cond, not, Bool, true, false, List, [], ◌∷◌, length, set, Some, refl, ap, sym, ◌∙◌, subst, arith}
use Rattle.std.proofs.lemmas.List.{length-set, length-append}
use Rattle.flow_value.specs.declared.value.Value.{Value}
use Rattle.flow_link.specs.declared.phase.Phase.{Phase}
use Rattle.flow_link.specs.declared.phase.Phase.TheVariants as phase
use Rattle.flow_link.specs.declared.stage.TargetStage.{TargetStage}
use Rattle.flow_link.specs.declared.stage.TargetStage.TheVariants.{Free, Offered, Postponed, Asking, Claiming, Arrived, Hand}
use Rattle.flow_link.specs.Stage.{target_looks}
use Rattle.flow_intake.specs.Port.{EndState, PortState, end_in, stage_at, coming, is_coming, is_queued, is_holding}
use Rattle.flow_intake.specs.PortLaw.{is_in}
use Rattle.flow_intake.specs.Calls.{first_of, is_front, is_postponed, put_stage, message_of, queue_after, takes, looks, asks, claims, releases}
use Rattle.flow_intake.specs.Queue.{without}
use Rattle.flow_intake.proofs.QueueOrder.{in_without, gone}
use Rattle.flow_intake.proofs.CountsOfEnds.{count_same, count_less}
use Rattle.flow_intake.proofs.EndsInOrder.{coming_moved}
use Rattle.flow_group.specs.declared.round.RoundStep.{RoundStep}
use Rattle.flow_group.specs.declared.round.RoundStep.TheVariants as steps
use Rattle.flow_group.specs.Round.{RoundState, port_in, reserves, none_comes, is_asked, is_asking, is_taken, step_after, settles, claims_on}
use Rattle.flow_group.specs.RoundLaw.{RoundLaw, PortInRound, InTurn, goes_from, level_of, takes_freely}
use Rattle.flow_group.specs.RoundTells.{AsksNow, ClaimsNow}
use Rattle.flow_group.proofs.RoundKeeps.{each_stage, each_port, at_is}
use Rattle.flow_group.proofs.RoundMoves.{goes_on, look_quietly}
use Rattle.flow_group.proofs.RoundStays.{rounds_kept}
use Rattle.flow_group.proofs.RoundTurn.{turns_kept}
use Rattle.flow_block.proofs.PortsChange.{kept_at_one}
use Rattle.flow_kinds.specs.RoundOrder.{took_at, QueueWaits, RoundFits}
use Rattle.flow_kinds.proofs.RoundFrames.{retook, none_in_turn, never_in_turn, settles_fit, waits_after, goes_still}

-- Of queues

pub not_in : (k : ℕ) (queue : List ℕ) (P : Type 0) → is_in k (without k queue) ≡ true → P
not_in k queue P there = absurd (let no : false ≡ true = sym (gone k queue) ∙ there in cc)

pub in_rest : (j k : ℕ) (queue : List ℕ) → j ≢ k → is_in j (without k queue) ≡ true → is_in j queue ≡ true
in_rest j k queue other there = sym (in_without j k queue other) ∙ there

in_after : (stage : TargetStage) (j k : ℕ) (queue : List ℕ) → j ≢ k → is_in j (queue_after stage k queue) ≡ true → is_in j queue ≡ true
in_after stage j k queue other = by (is_queued stage)
  where
    by : (b : Bool) → is_in j (cond b queue (without k queue)) ≡ true → is_in j queue ≡ true
    by true there = there
    by false there = in_rest j k queue other there

in_stays : (stage : TargetStage) (k : ℕ) (queue : List ℕ) → is_in k (queue_after stage k queue) ≡ true → is_queued stage ≡ true
in_stays stage k queue = by (is_queued stage) refl
  where
    by : (b : Bool) → is_queued stage ≡ b → is_in k (cond b queue (without k queue)) ≡ true → is_queued stage ≡ true
    by true e there = e
    by false e there = not_in k queue (is_queued stage ≡ true) there

-- who is in front stands in the queue
pub front_in : (queue : List ℕ) (k : ℕ) → first_of queue ≡ Some k → is_in k queue ≡ true
front_in [] k e = absurd (cc)
front_in (i ∷ queue) k e = let same : i ≡ k = cc in rw (same, same_in k) refl
  where
    same_in : (k : ℕ) → (k == k) ≡ true
    same_in k = grind arith

-- One port of a join in order

module _ (round : RoundState) (ports : List PortState) (fits : RoundFits round ports) (p k : ℕ) (here : p < length ports)
    (place : k < length (port_in ports p).ends) where
  abbrev port : PortState
  port = port_in ports p

  old_port : PortInRound round.step port
  old_port = fits.law.each p here

  near : (now : PortState) (q : ℕ) → q < length (set ports p now) → q < length ports
  near now q l = omega (arith, l, length-set ports p now)

  -- the end, where it stands elsewhere
  abbrev stands : TargetStage → EndState
  stands stage = record (end_in k port.ends) { stage = stage }

  took_same : (now : PortState) → now.waiting ≡ port.waiting → (q : ℕ) → took_at (set ports p now) q ≡ took_at ports q
  took_same now same q = kept_at_one (λ (x : PortState). length x.waiting) ports p q now (ap length same)

  queues_now : (now : PortState) → QueueWaits now → (q : ℕ) → q < length (set ports p now) → QueueWaits (port_in (set ports p now) q)
  queues_now now waits = each_port (λ q x. QueueWaits x) ports p now here waits (λ q l other. fits.queues q l)

  idle_now : (now : PortState) → coming now ≤ coming port → reserves round ≡ false
      → (q : ℕ) → q < length (set ports p now) → coming (port_in (set ports p now) q) ≡ 0
  idle_now now less none = each_port (λ q x. coming x ≡ 0) ports p now here
      (let zero = fits.idle none p here in omega (arith, zero, less)) (λ q l other. fits.idle none q l)

  -- An end looks

  look_less : (found : Phase) → coming (looks k found port) ≤ coming port
  look_less found = coming_moved port.ends k (stands (target_looks (stage_at k port) found)) place (look_quietly (stage_at k port) found).coming

  look_waits : (found : Phase) → QueueWaits (looks k found port)
  look_waits found =
      let stage = target_looks (stage_at k port) found in
      waits_after port (looks k found port) k (stands stage) place refl (λ j other. in_after stage j k port.queue other)
      (in_stays stage k port.queue) (fits.queues p here)

  pub look_fits : (found : Phase) (gone : Bool) → gone ≡ goes_from k port (target_looks (stage_at k port) found)
      → RoundFits (settles gone (set ports p (looks k found port)) round) (set ports p (looks k found port))
  look_fits found gone is =
      subst (λ (b : Bool). RoundFits (settles b (set ports p (looks k found port)) round) (set ports p (looks k found port))) (sym is)
      (settles_fit round (goes_from k port (target_looks (stage_at k port) found)) ports (set ports p (looks k found port)) fits
      (retook _ (set ports p (looks k found port)) (took_at ports) (took_at (set ports p (looks k found port)))
      (rounds_kept.look round.step ports (took_at ports) fits.law p k here place found) (took_same (looks k found port) refl))
      (turns_kept.look round.sources round.step ports (took_at ports) fits.law fits.turn p k here place found)
      (queues_now (looks k found port) (look_waits found)) (idle_now (looks k found port) (look_less found)))

  -- It asks, claims, or gives up

  asks_less : is_postponed (stage_at k port) ≡ true → QueueWaits (asks k port)
  asks_less waits = waits_after port (asks k port) k (stands (Asking (message_of (stage_at k port)))) place refl (λ j other there. there) (λ _. refl)
      (fits.queues p here)

  pub ask_fits : AsksNow p k round ports → RoundFits round (set ports p (asks k port))
  ask_fits now = record {
    law = retook round.step (set ports p (asks k port)) (took_at ports) (took_at (set ports p (asks k port)))
        (rounds_kept.wishes.ask round.step ports (took_at ports) fits.law p k here place now.asking now.front now.waits now.there)
        (took_same (asks k port) refl);
    turn = turns_kept.ask round.sources round.step ports (took_at ports) fits.law fits.turn p k here place now.asking now.front now.first;
    queues = queues_now (asks k port) (asks_less now.waits);
    idle = λ none. absurd (let no : true ≡ false = sym now.some ∙ none in cc);
  }

  claims_waits : QueueWaits (claims k port)
  claims_waits =
      waits_after port (claims k port) k (stands (Claiming (message_of (stage_at k port)))) place refl (λ j other. in_rest j k port.queue other)
      (not_in k port.queue _) (fits.queues p here)

  pub claim_fits : ClaimsNow p k round ports → RoundFits (claims_on round) (set ports p (claims k port))
  claim_fits now = record {
    law = retook steps.Claims (set ports p (claims k port)) (took_at ports) (took_at (set ports p (claims k port)))
        (rounds_kept.wishes.claim round.step ports (took_at ports) fits.law p k here place now.all now.goes_on now.held)
        (took_same (claims k port) refl);
    turn = turns_kept.claim round.sources round.step ports (took_at ports) fits.law fits.turn p k here place;
    queues = queues_now (claims k port) claims_waits;
    idle = λ none. absurd (let no : true ≡ false = sym now.some ∙ none in cc);
  }

  releases_waits : QueueWaits (releases k port)
  releases_waits =
      waits_after port (releases k port) k (stands (Postponed (message_of (stage_at k port)))) place refl (λ j other there. there) (λ _. refl)
      (fits.queues p here)

  pub release_fits : reserves round ≡ true → round.step ≡ steps.Releases → is_holding (stage_at k port) ≡ true
      → RoundFits (settles false (set ports p (releases k port)) round) (set ports p (releases k port))
  release_fits some is held =
      settles_fit round false ports (set ports p (releases k port)) fits
      (retook _ (set ports p (releases k port)) (took_at ports) (took_at (set ports p (releases k port)))
      (rounds_kept.wishes.release round.step ports (took_at ports) fits.law p k here place is held) (took_same (releases k port) refl))
      (turns_kept.release round.sources round.step ports (took_at ports) fits.law fits.turn p k here place is)
      (queues_now (releases k port) releases_waits)
      (λ none. absurd (let no : true ≡ false = sym some ∙ none in cc))

  -- A message comes

  module _ (value : Value) (claimed : is_taken (stage_at k port) ≡ true) where
    abbrev now : PortState
    now = takes value (put_stage k Free port.ends) port

    abbrev later : List PortState
    later = set ports p now

    comes : is_coming (stage_at k port) ≡ true
    comes = by (stage_at k port) claimed
      where
        by : (stage : TargetStage) → is_taken stage ≡ true → is_coming stage ≡ true
        by (Claiming i) e = refl
        by (Arrived i) e = refl
        by (Hand i) e = refl
        by stage e = absurd (cc)

    unqueued : is_queued (stage_at k port) ≡ false
    unqueued = by (stage_at k port) claimed
      where
        by : (stage : TargetStage) → is_taken stage ≡ true → is_queued stage ≡ false
        by (Claiming i) e = refl
        by (Arrived i) e = refl
        by (Hand i) e = refl
        by stage e = absurd (cc)

    is_claims : round.step ≡ steps.Claims
    is_claims = old_port.taken k place claimed

    one_less : coming now + 1 ≡ coming port
    one_less = count_less is_coming port.ends k (stands Free) place comes refl

    one_more : length now.waiting ≡ length port.waiting + 1
    one_more = length-append port.waiting (value ∷ [])

    as_far : (q : ℕ) → q < length later → took_at later q + coming (port_in later q) ≡ took_at ports q + coming (port_in ports q)
    as_far = each_port (λ q x. length x.waiting + coming x ≡ took_at ports q + coming (port_in ports q)) ports p now here
        (let less = one_less in let more = one_more in omega (arith, less, more)) (λ q l other. refl)

    port_claims : (q : ℕ) → q < length ports → PortInRound steps.Claims (port_in ports q)
    port_claims q l = subst (λ (s : RoundStep). PortInRound s (port_in ports q)) is_claims (fits.law.each q l)

    port_now : PortInRound steps.Claims now
    port_now = record {
      freely = each_stage (λ j stage. takes_freely stage ≡ false) port.ends k (stands Free) place refl (λ j l other. old_port.freely j l);
      front = each_stage (λ j stage. is_asked stage ≡ true → first_of port.queue ≡ Some j) port.ends k (stands Free) place (λ e. absurd (cc))
          (λ j l other. old_port.front j l);
      one = let less = one_less in let most = old_port.one in omega (arith, less, most);
      taken = λ j l e. refl;
      none_asked = λ _. each_stage (λ j stage. is_asking stage ≡ false) port.ends k (stands Free) place refl
          (λ j l other. old_port.none_asked is_claims j l);
    }

    level_was : (q r : ℕ) → q < length ports → r < length ports
        → took_at ports q + coming (port_in ports q) ≡ took_at ports r + coming (port_in ports r)
    level_was q r ql rl =
        subst (λ (s : RoundStep). level_of s (port_in ports q) (took_at ports q) ≡ level_of s (port_in ports r) (took_at ports r)) is_claims
        (fits.law.level q r ql rl)

    law_now : RoundLaw (step_after steps.Claims false (none_comes later)) later (took_at later)
    law_now = goes_on steps.Claims false later (took_at later)
        (each_port (λ q x. PortInRound steps.Claims x) ports p now here port_now (λ q l other. port_claims q l))
        (λ q r ql rl. as_far q ql ∙ level_was q r (near now q ql) (near now r rl) ∙ sym (as_far r rl))
        (λ is. absurd (let no : steps.Claims ≡ steps.Asks = is in cc))
        (none_comes later) refl

    turn_by : (none : Bool) → none_comes later ≡ none → InTurn round.sources (step_after steps.Claims false none) later
    turn_by true e = none_in_turn round.sources steps.Asks later e
    turn_by false e = never_in_turn round.sources steps.Claims later (λ is. let no : steps.Claims ≡ steps.Asks = is in cc)

    arrived_waits : QueueWaits now
    arrived_waits = waits_after port now k (stands Free) place refl (λ j other there. there)
        (λ there. absurd (let no : false ≡ true = sym unqueued ∙ fits.queues p here k there in cc)) (fits.queues p here)

    pub arrive_fits : RoundFits (settles false later round) later
    arrive_fits =
        settles_fit round false ports later fits
        (subst (λ (s : RoundStep). RoundLaw (step_after s false (none_comes later)) later (took_at later)) (sym is_claims) law_now)
        (subst (λ (s : RoundStep). InTurn round.sources (step_after s false (none_comes later)) later) (sym is_claims) (turn_by (none_comes later) refl))
        (queues_now now arrived_waits)
        (idle_now now (let less = one_less in omega (arith, less)))

  -- An offer comes

  module _ (i : ℕ) (free : stage_at k port ≡ Free) where
    -- the end has it, and has not answered
    abbrev has_offer : PortState
    has_offer = record port { ends = put_stage k (Offered i) port.ends; queue = without k port.queue }

    abbrev offered : List PortState
    offered = set ports p has_offer

    looked : looks k (phase.Offered i) port ≡ has_offer
    looked = ap (λ (stage : TargetStage). record port {
      ends = put_stage k (target_looks stage (phase.Offered i)) port.ends;
      queue = queue_after (target_looks stage (phase.Offered i)) k port.queue;
    }) free

    -- it is not in front before, so nothing goes by that
    not_front : is_front k port ≡ false
    not_front = by (is_front k port) refl
      where
        by : (b : Bool) → is_front k port ≡ b → is_front k port ≡ false
        by false e = e
        by true e =
            let queued = fits.queues p here k (front_in port.queue k (at_is k (first_of port.queue) e)) in
            absurd (let no : is_queued Free ≡ true = sym (ap is_queued free) ∙ queued in cc)

    same_coming : coming has_offer ≡ coming port
    same_coming = count_same is_coming port.ends k (stands (Offered i)) place (ap is_coming free)

    not_gone : goes_from k port (target_looks (stage_at k port) (phase.Offered i)) ≡ false
    not_gone = ap (λ (b : Bool). b && not (is_queued (target_looks (stage_at k port) (phase.Offered i)))) not_front

    offered_waits : QueueWaits has_offer
    offered_waits = waits_after port has_offer k (stands (Offered i)) place refl (λ j other. in_rest j k port.queue other)
        (not_in k port.queue _) (fits.queues p here)

    abbrev goes_by : ℕ → List PortState → RoundStep
    goes_by n later = step_after round.step (goes_from k port (target_looks (stage_at k port) (phase.Offered n))) (none_comes later)

    pub offered_fits : RoundFits round offered
    offered_fits =
        goes_still round ports fits p here has_offer same_coming refl offered_waits
        (goes_from k port (target_looks (stage_at k port) (phase.Offered i))) not_gone
        (subst (λ (x : PortState). RoundLaw (goes_by i (set ports p x)) (set ports p x) (took_at ports)) looked
        (rounds_kept.look round.step ports (took_at ports) fits.law p k here place (phase.Offered i)))
        (subst (λ (x : PortState). InTurn round.sources (goes_by i (set ports p x)) (set ports p x)) looked
        (turns_kept.look round.sources round.step ports (took_at ports) fits.law fits.turn p k here place (phase.Offered i)))
