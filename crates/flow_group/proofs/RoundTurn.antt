-- A round asks in the order of the sources.
use Rattle.std.proofs.Common.{◌≡◌, ◌≢◌, ℕ, zero, suc, ◌+◌, ◌<◌, ◌≤◌, leb, ◌||◌, cond, not, Bool, true, false, List, [], ◌∷◌, ◌++◌, length, set, Option, Some, None, refl, ap, sym, ◌∙◌, subst, inl, inr, arith, eq-eqb}
use Rattle.std.proofs.lemmas.Bool.{cases_eq, leb-true}
use Rattle.std.proofs.lemmas.List.{length-set, get_or-set_same, get_or-set_other}
use Rattle.flow_value.specs.declared.value.Value.{Value}
use Rattle.flow_link.specs.declared.phase.Phase.{Phase}
use Rattle.flow_link.specs.declared.phase.Phase.TheVariants as phase
use Rattle.flow_link.specs.declared.stage.Refusal.{Refusal}
use Rattle.flow_link.specs.declared.stage.TargetStage.{TargetStage}
use Rattle.flow_link.specs.declared.stage.TargetStage.TheVariants.{Free, Offered, Posted, Postponed, Accepted, Consuming, Asking, Holding, Claiming, Hand, Refused, Ended}
use Rattle.flow_link.specs.Stage.{target_looks}
use Rattle.flow_intake.specs.Port.{EndState, PortState, fresh_end, fresh_port, end_in, link_in, stage_in, stage_at, coming, is_coming, is_queued, is_hand}
use Rattle.flow_intake.specs.Calls.{first_of, is_front, is_offered, is_postponed, may_be_refused, message_of, refused_by, queue_after, asks, claims, releases, looks, refuses, turns_down, postpones, opens, closes}
use Rattle.flow_intake.specs.Queue.{without}
use Rattle.flow_intake.proofs.CountsOfEnds.{count_there}
use Rattle.flow_group.specs.declared.round.RoundStep.{RoundStep}
use Rattle.flow_group.specs.declared.round.RoundStep.TheVariants as steps
use Rattle.flow_group.specs.declared.round.Source.{Source}
use Rattle.flow_group.specs.Round.{is_asked, none_comes, has_front, front_stage, front_source, stage_from, source_from, source_of, is_behind, comes_first, step_after, port_in}
use Rattle.flow_group.specs.RoundLaw.{RoundLaw, FrontsWait, SameEnds, InTurn, TurnsKept, goes_from}
use Rattle.flow_group.proofs.RoundKeeps.{each_port, some_comes, there_at, at_is}
use Rattle.flow_group.proofs.RoundMoves.{look_quietly, refusal_unqueued, hand_taken, first_without, first_joined, first_there}
use Rattle.flow_group.proofs.RoundGoes.{pass_at}

-- What stands in front

asked_in : (ends : List EndState) (j : ℕ) → is_asked (stage_in j ends) ≡ true → j < length ends
asked_in [] j e = absurd (cc)
asked_in (end ∷ ends) zero e = omega arith
asked_in (end ∷ ends) (suc j) e = let l = asked_in ends j e in omega arith

asked_coming : (stage : TargetStage) → is_asked stage ≡ true → is_coming stage ≡ true
asked_coming (Asking i) e = refl
asked_coming (Holding i) e = refl
asked_coming stage e = absurd (cc)

front_coming : (port : PortState) (place : Option ℕ) → is_asked (stage_from place port) ≡ true → 1 ≤ coming port
front_coming port None e = absurd (cc)
front_coming port (Some j) e =
    let counted = count_there is_coming port.ends j (asked_in port.ends j e) in
    let one : ◌≡◌ {A = ℕ} (cond (is_coming (stage_at j port)) 1 0) 1 = ap (λ (b : Bool). cond {A = ℕ} b 1 0) (asked_coming (stage_at j port) e) in
    omega arith

asked_some : (ports : List PortState) (p : ℕ) → p < length ports → is_asked (front_stage (port_in ports p)) ≡ true → none_comes ports ≡ false
asked_some ports p l e = some_comes ports p l (front_coming (port_in ports p) (first_of (port_in ports p).queue) e)

-- The order where it is nobody's turn

none_in_turn : (sources : List Source) (step : RoundStep) (ports : List PortState) → none_comes ports ≡ true → InTurn sources step ports
none_in_turn sources step ports none = λ is p q pl ql asked waits.
    absurd (let no : true ≡ false = sym none ∙ asked_some ports p pl asked in cc)

never_in_turn : (sources : List Source) (step : RoundStep) (ports : List PortState) → (step ≡ steps.Asks → ⊥) → InTurn sources step ports
never_in_turn sources step ports never = λ is p q pl ql asked waits. absurd (never is)

turn_goes : (sources : List Source) (step : RoundStep) (gone : Bool) (ports : List PortState)
    → (step ≡ steps.Asks → gone ≡ false → InTurn sources steps.Asks ports)
    → (none : Bool) → none_comes ports ≡ none → InTurn sources (step_after step gone none) ports
turn_goes sources steps.Asks false ports kept none is = kept refl refl
turn_goes sources steps.Asks true ports kept true is = none_in_turn sources steps.Asks ports is
turn_goes sources steps.Asks true ports kept false is =
    never_in_turn sources steps.Releases ports (λ e. let no : steps.Releases ≡ steps.Asks = e in cc)
turn_goes sources steps.Releases gone ports kept true is = none_in_turn sources steps.Asks ports is
turn_goes sources steps.Releases gone ports kept false is =
    never_in_turn sources steps.Releases ports (λ e. let no : steps.Releases ≡ steps.Asks = e in cc)
turn_goes sources steps.Claims gone ports kept true is = none_in_turn sources steps.Asks ports is
turn_goes sources steps.Claims gone ports kept false is =
    never_in_turn sources steps.Claims ports (λ e. let no : steps.Claims ≡ steps.Asks = e in cc)

false_true : (b : Bool) → b ≡ false → b ≡ true → ⊥
false_true b e f = let no : false ≡ true = sym e ∙ f in cc

-- Of one port

-- what is in front comes from the same source, and nothing there is asked for, or waits, that did not before
record NoLater (sources : List Source) (before now : PortState) : Type 0 where
  source : front_source sources now ≡ front_source sources before
  asked : is_asked (front_stage now) ≡ true → is_asked (front_stage before) ≡ true
  waits : is_postponed (front_stage now) ≡ true → is_postponed (front_stage before) ≡ true

same_later : (sources : List Source) (port : PortState) → NoLater sources port port
same_later sources port = record { source = refl; asked = λ e. e; waits = λ e. e }

by_place : (sources : List Source) (before now : PortState) (place : Option ℕ) → first_of before.queue ≡ place → first_of now.queue ≡ place
    → source_from sources place now ≡ source_from sources place before
    → (is_asked (stage_from place now) ≡ true → is_asked (stage_from place before) ≡ true)
    → (is_postponed (stage_from place now) ≡ true → is_postponed (stage_from place before) ≡ true)
    → NoLater sources before now
by_place sources before now place was is source asked waits = record {
  source = ap (λ (x : Option ℕ). source_from sources x now) is ∙ source ∙ sym (ap (λ (x : Option ℕ). source_from sources x before) was);
  asked = λ e. subst (λ (x : Option ℕ). is_asked (stage_from x before) ≡ true) (sym was)
      (asked (subst (λ (x : Option ℕ). is_asked (stage_from x now) ≡ true) is e));
  waits = λ e. subst (λ (x : Option ℕ). is_postponed (stage_from x before) ≡ true) (sym was)
      (waits (subst (λ (x : Option ℕ). is_postponed (stage_from x now) ≡ true) is e));
}

-- one end stands elsewhere, and the same one is in front
module _ (sources : List Source) (before now : PortState) (k : ℕ) (end : EndState) (place : k < length before.ends)
    (ends_are : now.ends ≡ set before.ends k end) (link_is : end.link ≡ link_in k before.ends) where
  abbrev stage : TargetStage
  stage = end.stage

  mine_now : end_in k now.ends ≡ end
  mine_now = ap (end_in k) ends_are ∙ get_or-set_same before.ends k end (fresh_end 0) place

  other_now : (j : ℕ) → j ≢ k → end_in j now.ends ≡ end_in j before.ends
  other_now j other = ap (end_in j) ends_are ∙ get_or-set_other before.ends k j end (fresh_end 0) other

  mine_later : first_of before.queue ≡ Some k → first_of now.queue ≡ Some k
      → (is_asked stage ≡ true → is_asked (stage_at k before) ≡ true) → (is_postponed stage ≡ true → is_postponed (stage_at k before) ≡ true)
      → NoLater sources before now
  mine_later was is asked waits = by_place sources before now (Some k) was is
      (ap (λ (e : EndState). source_of e.link sources) mine_now ∙ ap (λ (link : ℕ). source_of link sources) link_is)
      (λ e. asked (subst (λ (x : EndState). is_asked x.stage ≡ true) mine_now e))
      (λ e. waits (subst (λ (x : EndState). is_postponed x.stage ≡ true) mine_now e))

  other_later : (j : ℕ) → first_of before.queue ≡ Some j → first_of now.queue ≡ Some j → j ≢ k → NoLater sources before now
  other_later j was is other = by_place sources before now (Some j) was is
      (ap (λ (e : EndState). source_of e.link sources) (other_now j other))
      (λ e. subst (λ (x : EndState). is_asked x.stage ≡ true) (other_now j other) e)
      (λ e. subst (λ (x : EndState). is_postponed x.stage ≡ true) (other_now j other) e)

  none_later : first_of before.queue ≡ None → first_of now.queue ≡ None → NoLater sources before now
  none_later was is = by_place sources before now None was is refl (λ e. e) (λ e. e)

  -- an end looks, or is refused: unless the one in front is gone
  quiet_later : (queue_is : now.queue ≡ queue_after stage k before.queue)
      → (is_asked stage ≡ true → is_asked (stage_at k before) ≡ true) → (is_postponed stage ≡ true → is_postponed (stage_at k before) ≡ true)
      → goes_from k before stage ≡ false → NoLater sources before now
  quiet_later queue_is asked waits stays = by (first_of before.queue) refl
    where
      nothing : (queue : List ℕ) → first_of queue ≡ None → (b : Bool) → first_of (cond b queue (without k queue)) ≡ None
      nothing [] e true = refl
      nothing [] e false = refl
      nothing (i ∷ queue) e b = absurd (cc)

      same_first : (queue : List ℕ) (j : ℕ) → first_of queue ≡ Some j → j ≢ k → (b : Bool) → first_of (cond b queue (without k queue)) ≡ Some j
      same_first queue j e other true = e
      same_first queue j e other false = first_without k j queue e other

      still : (first : is_front k before ≡ true) → (b : Bool) → is_queued stage ≡ b → is_queued stage ≡ true
      still first true e = e
      still first false e = let no : false ≡ true = sym stays ∙ rw (first, e) refl in cc

      by : (front : Option ℕ) → first_of before.queue ≡ front → NoLater sources before now
      by None e = none_later e (ap first_of queue_is ∙ nothing before.queue e (is_queued stage))
      by (Some j) e = elim (cases_eq j k) [
        | inl same ↦
            let mine : first_of before.queue ≡ Some k = e ∙ ap Some same in
            let queued = still (rw mine (eq-eqb k k refl)) (is_queued stage) refl in
            mine_later mine (ap first_of queue_is ∙ ap (λ (b : Bool). first_of (cond b before.queue (without k before.queue))) queued ∙ mine) asked waits
        | inr other ↦ other_later j e (ap first_of queue_is ∙ same_first before.queue j e other (is_queued stage)) other
      ]

  -- an offer joins the queue, where one waits already
  joined_later : (queue_is : now.queue ≡ without k before.queue ++ k ∷ []) → has_front before ≡ true
      → ((j : ℕ) → first_of before.queue ≡ Some j → j ≢ k) → NoLater sources before now
  joined_later queue_is has other =
      let front = first_there (first_of before.queue) has in
      other_later front.0 front.1
      (ap first_of queue_is ∙ first_joined k front.0 (without k before.queue) (first_without k front.0 before.queue front.1 (other front.0 front.1)))
      (other front.0 front.1)

  -- the queue stays, and what stands in front is not asked for, nor waits, because of this
  staying_later : (queue_is : now.queue ≡ before.queue) → is_asked stage ≡ false → is_postponed stage ≡ false → NoLater sources before now
  staying_later queue_is unasked gone = by (first_of before.queue) refl
    where
      by : (front : Option ℕ) → first_of before.queue ≡ front → NoLater sources before now
      by None e = none_later e (ap first_of queue_is ∙ e)
      by (Some j) e = elim (cases_eq j k) [
        | inl same ↦
            let mine : first_of before.queue ≡ Some k = e ∙ ap Some same in
            mine_later mine (ap first_of queue_is ∙ mine) (λ asked. absurd (false_true (is_asked stage) unasked asked))
            (λ waits. absurd (false_true (is_postponed stage) gone waits))
        | inr other ↦ other_later j e (ap first_of queue_is ∙ e) other
      ]

-- Of all ports

module _ (sources : List Source) (ports : List PortState) (p : ℕ) (here : p < length ports) (now : PortState) where
  kept_turn : NoLater sources (port_in ports p) now → InTurn sources steps.Asks ports → InTurn sources steps.Asks (set ports p now)
  kept_turn later old is q r ql rl asked waits =
      let each = each_port (λ q x. NoLater sources (port_in ports q) x) ports p now here later (λ q l other. same_later sources (port_in ports q)) in
      let mine = each q ql in
      let theirs = each r rl in
      let order = old refl q r (omega (arith, ql, length-set ports p now)) (omega (arith, rl, length-set ports p now)) (mine.asked asked) (theirs.waits waits) in
      let from = mine.source in
      let to = theirs.source in
      omega arith

  -- where the port has none in front, unless another comes
  joined_turn : (took : ℕ → ℕ) → RoundLaw steps.Asks ports took → (has_front (port_in ports p) ≡ true → NoLater sources (port_in ports p) now)
      → (is_asked (front_stage now) ≡ true → is_asked (front_stage (port_in ports p)) ≡ true)
      → InTurn sources steps.Asks ports → InTurn sources steps.Asks (set ports p now)
  joined_turn took law later asked_before old is q r ql rl asked waits =
      let before : is_asked (front_stage (port_in ports q)) ≡ true =
      each_port (λ q x. is_asked (front_stage x) ≡ true → is_asked (front_stage (port_in ports q)) ≡ true) ports p now here asked_before
      (λ q l other e. e) q ql asked in
      let all = law.there refl (asked_some ports q (omega (arith, ql, length-set ports p now)) before) in
      kept_turn (later (there_at ports p here all)) old is q r ql rl asked waits

-- Of the calls

stays_waiting : (stage : TargetStage) (found : Phase) → is_postponed (target_looks stage found) ≡ true → is_postponed stage ≡ true
stays_waiting (Postponed i) found e = refl
stays_waiting Free (phase.Posted _) e = absurd (cc)
stays_waiting Free (phase.Offered _) e = absurd (cc)
stays_waiting Free (phase.Ended _) e = absurd (cc)
stays_waiting (Consuming i) phase.Idle e = absurd (cc)
stays_waiting (Consuming i) (phase.Posted _) e = absurd (cc)
stays_waiting (Consuming i) (phase.Offered _) e = absurd (cc)
stays_waiting (Consuming i) (phase.Ended _) e = absurd (cc)
stays_waiting (Consuming i) (phase.Given _) e = absurd (cc)
stays_waiting (Asking i) phase.Idle e = absurd (cc)
stays_waiting (Asking i) (phase.Posted _) e = absurd (cc)
stays_waiting (Asking i) (phase.Offered _) e = absurd (cc)
stays_waiting (Asking i) (phase.Ended _) e = absurd (cc)
stays_waiting (Asking i) (phase.Held _) e = absurd (cc)
stays_waiting (Accepted i) (phase.Given _) e = absurd (cc)
stays_waiting (Claiming i) (phase.Given _) e = absurd (cc)
stays_waiting (Refused why) found e = absurd (cc)
stays_waiting stage found e = e

refused_waits : (refusing : Option Refusal) → is_postponed (refused_by refusing) ≡ false
refused_waits None = refl
refused_waits (Some _) = refl

refused_asked : (refusing : Option Refusal) → is_asked (refused_by refusing) ≡ false
refused_asked None = refl
refused_asked (Some _) = refl

module _ (sources : List Source) (step : RoundStep) (ports : List PortState) (took : ℕ → ℕ) (law : RoundLaw step ports took)
    (old : InTurn sources step ports) (p k : ℕ) (here : p < length ports) (place : k < length (port_in ports p).ends) where
  abbrev port : PortState
  port = port_in ports p

  -- the end, where it stands elsewhere
  abbrev stands : TargetStage → EndState
  stands stage = record (end_in k port.ends) { stage = stage }

  old_asks : step ≡ steps.Asks → InTurn sources steps.Asks ports
  old_asks is = subst (λ (s : RoundStep). InTurn sources s ports) is old

  law_asks : step ≡ steps.Asks → RoundLaw steps.Asks ports took
  law_asks is = subst (λ (s : RoundStep). RoundLaw s ports took) is law

  ask_turn : step ≡ steps.Asks → is_front k port ≡ true → comes_first sources port ports ≡ true
      → InTurn sources step (set ports p (asks k port))
  ask_turn is first least _ q r ql rl asked waits =
      elim (cases_eq r p) [
        | inl same ↦ absurd (not_mine (subst (λ (n : ℕ). is_postponed (front_stage (port_in (set ports p (asks k port)) n)) ≡ true) same waits))
        | inr other ↦ by_asked other
      ]
    where
      stage : TargetStage
      stage = Asking (message_of (stage_at k port))

      front : first_of port.queue ≡ Some k
      front = at_is k (first_of port.queue) first

      mine : port_in (set ports p (asks k port)) p ≡ asks k port
      mine = get_or-set_same ports p (asks k port) (fresh_port None) here

      end_is : end_in k (asks k port).ends ≡ record (end_in k port.ends) { stage = stage }
      end_is = get_or-set_same port.ends k (record (end_in k port.ends) { stage = stage }) (fresh_end 0) place

      not_mine : is_postponed (front_stage (port_in (set ports p (asks k port)) p)) ≡ true → ⊥
      not_mine e =
          let now : is_postponed (stage_from (first_of port.queue) (asks k port)) ≡ true =
          subst (λ (x : PortState). is_postponed (front_stage x) ≡ true) mine e in
          let at : is_postponed (stage_at k (asks k port)) ≡ true = subst (λ (x : Option ℕ). is_postponed (stage_from x (asks k port)) ≡ true) front now in
          let asks : is_postponed stage ≡ true = subst (λ (x : EndState). is_postponed x.stage ≡ true) end_is at in
          cc

      source_same : front_source sources (asks k port) ≡ front_source sources port
      source_same =
          ap (λ (x : Option ℕ). source_from sources x (asks k port)) front
          ∙ ap (λ (e : EndState). source_of e.link sources) end_is
          ∙ sym (ap (λ (x : Option ℕ). source_from sources x port) front)

      by_asked : r ≢ p → front_source sources (port_in (set ports p (asks k port)) q) ≤ front_source sources (port_in (set ports p (asks k port)) r)
      by_asked other =
          let near : q < length ports = omega (arith, ql, length-set ports p (asks k port)) in
          let far : r < length ports = omega (arith, rl, length-set ports p (asks k port)) in
          let theirs : port_in (set ports p (asks k port)) r ≡ port_in ports r = get_or-set_other ports p r (asks k port) (fresh_port None) other in
          let waited : is_postponed (front_stage (port_in ports r)) ≡ true = subst (λ (x : PortState). is_postponed (front_stage x) ≡ true) theirs waits in
          let to = ap (front_source sources) theirs in
          elim (cases_eq q p) [
            | inl same ↦
                let over = pass_at (is_behind sources (front_source sources port)) ports r far least in
                let over_now : leb (front_source sources port) (front_source sources (port_in ports r)) ≡ true =
                subst (λ (b : Bool). (not b || leb (front_source sources port) (front_source sources (port_in ports r))) ≡ true) waited over in
                let order = leb-true (front_source sources port) (front_source sources (port_in ports r)) over_now in
                let from : front_source sources (port_in (set ports p (asks k port)) q) ≡ front_source sources port =
                ap (λ (n : ℕ). front_source sources (port_in (set ports p (asks k port)) n)) same ∙ ap (front_source sources) mine ∙ source_same in
                omega (arith, order, from, to)
            | inr apart ↦
                let ours : port_in (set ports p (asks k port)) q ≡ port_in ports q = get_or-set_other ports p q (asks k port) (fresh_port None) apart in
                let order = old is q r near far (subst (λ (x : PortState). is_asked (front_stage x) ≡ true) ours asked) waited in
                let from = ap (front_source sources) ours in
                omega (arith, order, from, to)
          ]

  look_turn : (found : Phase) → InTurn sources (step_after step (goes_from k port (target_looks (stage_at k port) found)) (none_comes (set ports p (looks k found port))))
      (set ports p (looks k found port))
  look_turn found = turn_goes sources step (goes_from k port (target_looks (stage_at k port) found)) (set ports p (looks k found port))
      (λ is stays. kept_turn sources ports p here (looks k found port)
      (quiet_later sources port (looks k found port) k (stands (target_looks (stage_at k port) found)) place refl refl refl
      (look_quietly (stage_at k port) found).asked (stays_waiting (stage_at k port) found) stays) (old_asks is))
      (none_comes (set ports p (looks k found port))) refl

  refuse_turn : may_be_refused (stage_at k port) ≡ true
      → InTurn sources (step_after step (is_front k port) (none_comes (set ports p (refuses k port)))) (set ports p (refuses k port))
  refuse_turn may = turn_goes sources step (is_front k port) (set ports p (refuses k port))
      (λ is stays. kept_turn sources ports p here (refuses k port)
      (quiet_later sources port (refuses k port) k (stands (refused_by port.refusing)) place refl refl
      (sym (ap (λ (b : Bool). cond b port.queue (without k port.queue)) (refusal_unqueued port.refusing)))
      (λ e. absurd (false_true (is_asked (refused_by port.refusing)) (refused_asked port.refusing) e))
      (λ e. absurd (false_true (is_postponed (refused_by port.refusing)) (refused_waits port.refusing) e))
      (rw stays refl)) (old_asks is))
      (none_comes (set ports p (refuses k port))) refl

  close_turn : (value : Value) → is_hand (stage_at k port) ≡ true
      → InTurn sources (step_after step false (none_comes (set ports p (closes k value port)))) (set ports p (closes k value port))
  close_turn value hand = turn_goes sources step false (set ports p (closes k value port))
      (λ is _. absurd (let claims = (law.each p here).taken k place (hand_taken (stage_at k port) hand) in
      let no : steps.Asks ≡ steps.Claims = sym is ∙ claims in cc))
      (none_comes (set ports p (closes k value port))) refl

  release_turn : step ≡ steps.Releases
      → InTurn sources (step_after step false (none_comes (set ports p (releases k port)))) (set ports p (releases k port))
  release_turn is = turn_goes sources step false (set ports p (releases k port))
      (λ asks _. absurd (let no : steps.Releases ≡ steps.Asks = sym is ∙ asks in cc))
      (none_comes (set ports p (releases k port))) refl

  -- an end stands elsewhere, where it neither waits nor is asked for
  staying_turn : (now : PortState) (end : EndState) → now.ends ≡ set port.ends k end → end.link ≡ link_in k port.ends
      → now.queue ≡ port.queue → is_asked end.stage ≡ false → is_postponed end.stage ≡ false → InTurn sources step (set ports p now)
  staying_turn now end ends link queue unasked gone is =
      kept_turn sources ports p here now
      (staying_later sources port now k end place ends link queue unasked gone) (old_asks is) refl

  turned_down_turn : InTurn sources step (set ports p (turns_down k port))
  turned_down_turn = staying_turn (turns_down k port) (stands Free) refl refl refl refl refl

  opened_turn : (value : Value) → InTurn sources step (set ports p (opens k value port))
  opened_turn value =
      staying_turn (opens k value port) (record (stands (Hand (message_of (stage_at k port)))) { hand = Some value }) refl refl refl refl refl

  postpone_turn : FrontsWait ports → is_offered (stage_at k port) ≡ true → InTurn sources step (set ports p (postpones k port))
  postpone_turn fronts offered is = joined_turn sources ports p here (postpones k port) took (law_asks is) later asked_before (old_asks is) refl
    where
      not_front : (j : ℕ) → first_of port.queue ≡ Some j → j ≢ k
      not_front j e same =
          let queued = fronts p k here (e ∙ ap Some same) in
          unqueued (stage_at k port) offered queued
        where
          unqueued : (stage : TargetStage) → is_offered stage ≡ true → is_queued stage ≡ true → ⊥
          unqueued (Offered i) o q = cc
          unqueued stage o q = cc

      later : has_front port ≡ true → NoLater sources port (postpones k port)
      later has = joined_later sources port (postpones k port) k (stands (Postponed (message_of (stage_at k port)))) place refl refl refl has not_front

      asked_before : is_asked (front_stage (postpones k port)) ≡ true → is_asked (front_stage port) ≡ true
      asked_before e = by (first_of port.queue) refl
        where
          nothing : (queue : List ℕ) → first_of queue ≡ None → first_of (without k queue ++ k ∷ []) ≡ Some k
          nothing [] none = refl
          nothing (i ∷ queue) none = absurd (cc)

          by : (front : Option ℕ) → first_of port.queue ≡ front → is_asked (front_stage port) ≡ true
          by None none =
              let at : is_asked (stage_at k (postpones k port)) ≡ true =
              subst (λ (x : Option ℕ). is_asked (stage_from x (postpones k port)) ≡ true) (nothing port.queue none) e in
              let waits : is_asked (Postponed (message_of (stage_at k port))) ≡ true =
              subst (λ (x : EndState). is_asked x.stage ≡ true)
              (get_or-set_same port.ends k (record (end_in k port.ends) { stage = Postponed (message_of (stage_at k port)) }) (fresh_end 0) place) at in
              absurd (cc)
          by (Some j) some = (later (rw some refl)).asked e

-- where neither ends nor queues change
frame_turn : (sources : List Source) (step : RoundStep) (ports later : List PortState) → InTurn sources step ports → SameEnds ports later
    → InTurn sources step later
frame_turn sources step ports later old same is p q pl ql asked waits =
    let near : p < length ports = (let many = same.as_many in omega (arith, pl, many)) in
    let far : q < length ports = (let many = same.as_many in omega (arith, ql, many)) in
    let stands : (r : ℕ) → front_stage (port_in later r) ≡ front_stage (port_in ports r) = λ r.
    ap (λ (queue : List ℕ). stage_from (first_of queue) (port_in later r)) (same.queue r)
    ∙ front_of_ends (first_of (port_in ports r).queue) (port_in later r) (port_in ports r) (same.ends r) in
    let comes : (r : ℕ) → front_source sources (port_in later r) ≡ front_source sources (port_in ports r) = λ r.
    ap (λ (queue : List ℕ). source_from sources (first_of queue) (port_in later r)) (same.queue r)
    ∙ source_of_ends sources (first_of (port_in ports r).queue) (port_in later r) (port_in ports r) (same.ends r) in
    let order = old is p q near far (ap is_asked (sym (stands p)) ∙ asked) (ap is_postponed (sym (stands q)) ∙ waits) in
    let from = comes p in
    let to = comes q in
    omega (arith, order, from, to)
  where
    front_of_ends : (place : Option ℕ) (now was : PortState) → now.ends ≡ was.ends → stage_from place now ≡ stage_from place was
    front_of_ends None now was same = refl
    front_of_ends (Some k) now was same = ap (stage_in k) same

    source_of_ends : (sources : List Source) (place : Option ℕ) (now was : PortState) → now.ends ≡ was.ends
        → source_from sources place now ≡ source_from sources place was
    source_of_ends sources None now was same = refl
    source_of_ends sources (Some k) now was same = ap (λ (ends : List EndState). source_of (link_in k ends) sources) same

pub turns_kept : TurnsKept
turns_kept = record {
  ask = λ sources step ports took law old p k here place is first least. ask_turn sources step ports took law old p k here place is first least;
  claim = λ sources step ports took law old p k here place.
      never_in_turn sources steps.Claims (set ports p (claims k (port_in ports p))) (λ e. let no : steps.Claims ≡ steps.Asks = e in cc);
  release = λ sources step ports took law old p k here place is. release_turn sources step ports took law old p k here place is;
  look = λ sources step ports took law old p k here place found. look_turn sources step ports took law old p k here place found;
  refuse = λ sources step ports took law old p k here place may. refuse_turn sources step ports took law old p k here place may;
  turn_down = λ sources step ports took law old p k here place. turned_down_turn sources step ports took law old p k here place;
  opened = λ sources step ports took law old p k here place value. opened_turn sources step ports took law old p k here place value;
  frame = frame_turn;
  postpone = λ sources step ports took law old p k here place fronts offered. postpone_turn sources step ports took law old p k here place fronts offered;
  close = λ sources step ports took law old p k here place value hand. close_turn sources step ports took law old p k here place value hand;
}
