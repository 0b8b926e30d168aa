-- Each call of a join that reserves keeps its round in order.
use Rattle.std.proofs.Common.{◌≡◌, ◌≢◌, ℕ, zero, suc, ◌+◌, ◌<◌, ◌≤◌, ◌==◌, ◌⊎◌, ◌&&◌, cond, not, Bool, true, false, List, [], ◌∷◌, length, get_or, set, Option, Some, None, refl, ap, sym, ◌∙◌, subst, inl, inr, arith, eqb-true, ne_eqb}
use Rattle.std.proofs.lemmas.Bool.{cases_eq, and_parts}
use Rattle.std.proofs.lemmas.List.{length-set, get_or-set_same, get_or-set_other}
use Rattle.flow_link.specs.declared.stage.TargetStage.{TargetStage}
use Rattle.flow_link.specs.declared.stage.TargetStage.TheVariants.{Postponed, Accepted, Consuming, Asking, Holding, Claiming, Arrived, Hand}
use Rattle.flow_intake.specs.Port.{EndState, PortState, fresh_end, fresh_port, stage_in, stage_at, coming, count_at, is_coming, is_holding}
use Rattle.flow_intake.specs.Calls.{first_of, is_at, is_front, is_postponed, message_of, asks, claims, releases}
use Rattle.flow_intake.specs.Queue.{without}
use Rattle.flow_intake.proofs.CountsOfEnds.{count_after_set, count_there, count_same, count_less}
use Rattle.flow_group.specs.declared.round.RoundStep.{RoundStep}
use Rattle.flow_group.specs.declared.round.RoundStep.TheVariants as steps
use Rattle.flow_group.specs.Round.{is_asked, is_asking, is_taken, none_comes, has_front, all_there, all_held, front_stage, stage_from, step_after, port_in}
use Rattle.flow_group.specs.RoundLaw.{PortInRound, RoundLaw, WishesKept, level_of, takes_freely}

-- What a stage tells

pub coming_is : (stage : TargetStage) → is_coming stage ≡ true → takes_freely stage ≡ false → (is_asked stage ≡ true) ⊎ (is_taken stage ≡ true)
coming_is (Accepted i) comes free = absurd (cc)
coming_is (Consuming i) comes free = absurd (cc)
coming_is (Asking i) comes free = inl refl
coming_is (Holding i) comes free = inl refl
coming_is (Claiming i) comes free = inr refl
coming_is (Arrived i) comes free = inr refl
coming_is (Hand i) comes free = inr refl
coming_is stage comes free = absurd (cc)

postponed_not_asked : (stage : TargetStage) → is_postponed stage ≡ true → is_asked stage ≡ true → ⊥
postponed_not_asked (Postponed i) e asked = cc
postponed_not_asked stage e asked = cc

waits_not : (stage : TargetStage) → is_postponed stage ≡ true → is_coming stage ≡ false
waits_not (Postponed i) e = refl
waits_not stage e = absurd (cc)

holding_asked : (stage : TargetStage) → is_holding stage ≡ true → (is_asked stage ≡ true) × (is_coming stage ≡ true)
holding_asked (Holding i) e = (refl, refl)
holding_asked stage e = absurd (cc)

asking_asked : (stage : TargetStage) → is_asking stage ≡ true → is_asked stage ≡ true
asking_asked (Asking i) e = refl
asking_asked stage e = absurd (cc)

not_both : (stage : TargetStage) → is_asking stage ≡ true → is_holding stage ≡ true → ⊥
not_both (Asking i) a h = cc
not_both stage a h = cc

-- Of the ends of a port

pub each_stage : (P : ℕ → TargetStage → Type 0) (ends : List EndState) (k : ℕ) (end : EndState) → k < length ends → P k end.stage
    → ((j : ℕ) → j < length ends → j ≢ k → P j (stage_in j ends))
    → (j : ℕ) → j < length (set ends k end) → P j (stage_in j (set ends k end))
each_stage P ends k end here at_k elsewhere j l = elim (cases_eq j k) [
  | inl same ↦ subst (λ (n : ℕ). P n (stage_in n (set ends k end))) (sym same)
      (subst (λ (e : EndState). P k e.stage) (sym (get_or-set_same ends k end (fresh_end 0) here)) at_k)
  | inr other ↦ subst (λ (e : EndState). P j e.stage) (sym (get_or-set_other ends k j end (fresh_end 0) other))
      (elsewhere j (omega (arith, l, length-set ends k end)) other)
]

none_counted : (ends : List EndState) → ((j : ℕ) → j < length ends → is_coming (stage_in j ends) ≡ false) → count_at is_coming ends ≡ 0
none_counted [] none = refl
none_counted (end ∷ ends) none = rw (none 0 (omega arith), none_counted ends (λ j l. none (suc j) (omega arith))) refl

pub at_is : (k : ℕ) (place : Option ℕ) → is_at k place ≡ true → place ≡ Some k
at_is k None e = cc
at_is k (Some j) e = ap Some (eqb-true j k e)

-- Of all ports

pub each_port : (P : ℕ → PortState → Type 0) (ports : List PortState) (p : ℕ) (port : PortState) → p < length ports → P p port
    → ((q : ℕ) → q < length ports → q ≢ p → P q (port_in ports q))
    → (q : ℕ) → q < length (set ports p port) → P q (port_in (set ports p port) q)
each_port P ports p port here at_p elsewhere q l = elim (cases_eq q p) [
  | inl same ↦ subst (λ (n : ℕ). P n (port_in (set ports p port) n)) (sym same)
      (subst (λ (x : PortState). P p x) (sym (get_or-set_same ports p port (fresh_port None) here)) at_p)
  | inr other ↦ subst (λ (x : PortState). P q x) (sym (get_or-set_other ports p q port (fresh_port None) other))
      (elsewhere q (omega (arith, l, length-set ports p port)) other)
]

-- where one port has something that comes, something comes
pub some_comes : (ports : List PortState) (p : ℕ) → p < length ports → 1 ≤ coming (port_in ports p) → none_comes ports ≡ false
some_comes [] p l one = absurd (omega arith)
some_comes (port ∷ ports) zero l one = rw (ne_eqb (coming port) 0 (λ e. omega (arith, one, e))) refl
some_comes (port ∷ ports) (suc p) l one = rw (some_comes ports p (omega arith) one) (never (coming port == 0))
  where
    never : (b : Bool) → (b && false) ≡ false
    never true = refl
    never false = refl

pub all_there_set : (ports : List PortState) (p : ℕ) (port : PortState) → all_there ports ≡ true → has_front port ≡ true
    → all_there (set ports p port) ≡ true
all_there_set [] p port all has = refl
all_there_set (first ∷ ports) zero port all has = rw (has, (and_parts (has_front first) (all_there ports) all).1) refl
all_there_set (first ∷ ports) (suc p) port all has =
    let both = and_parts (has_front first) (all_there ports) all in
    rw (both.0, all_there_set ports p port both.1 has) refl

pub there_at : (ports : List PortState) (p : ℕ) → p < length ports → all_there ports ≡ true → has_front (port_in ports p) ≡ true
there_at [] p l all = absurd (omega arith)
there_at (port ∷ ports) zero l all = (and_parts (has_front port) (all_there ports) all).0
there_at (port ∷ ports) (suc p) l all = there_at ports p (omega arith) (and_parts (has_front port) (all_there ports) all).1

held_at : (ports : List PortState) (p : ℕ) → p < length ports → all_held ports ≡ true → is_holding (front_stage (port_in ports p)) ≡ true
held_at [] p l all = absurd (omega arith)
held_at (port ∷ ports) zero l all = (and_parts (is_holding (front_stage port)) (all_held ports) all).0
held_at (port ∷ ports) (suc p) l all = held_at ports p (omega arith) (and_parts (is_holding (front_stage port)) (all_held ports) all).1

-- It asks

module _ (step : RoundStep) (ports : List PortState) (took : ℕ → ℕ) (law : RoundLaw step ports took)
    (p k : ℕ) (here : p < length ports) (place : k < length (port_in ports p).ends) where
  abbrev port : PortState
  port = port_in ports p

  old : PortInRound step port
  old = law.each p here

  -- in front waits what is not asked for: nothing comes there
  module _ (is_asks : step ≡ steps.Asks) (in_front : is_front k port ≡ true) (waits : is_postponed (stage_at k port) ≡ true) where
    none_here : coming port ≡ 0
    none_here = none_counted port.ends (λ j l. not_coming j l (is_coming (stage_at j port)) refl)
      where
        asked_no : (j : ℕ) → j < length port.ends → is_asked (stage_at j port) ≡ true → ⊥
        asked_no j l asked =
            let both : Some j ≡ Some k = sym (old.front j l asked) ∙ at_is k (first_of port.queue) in_front in
            let same : j ≡ k = cc in
            postponed_not_asked (stage_at k port) waits (subst (λ (n : ℕ). is_asked (stage_at n port) ≡ true) same asked)

        taken_no : (j : ℕ) → j < length port.ends → is_taken (stage_at j port) ≡ true → ⊥
        taken_no j l taken = let no : steps.Asks ≡ steps.Claims = sym is_asks ∙ old.taken j l taken in cc

        not_coming : (j : ℕ) → j < length port.ends → (b : Bool) → is_coming (stage_at j port) ≡ b → is_coming (stage_at j port) ≡ false
        not_coming j l false e = e
        not_coming j l true e = elim (coming_is (stage_at j port) e (old.freely j l)) [
          | inl asked ↦ absurd (asked_no j l asked)
          | inr taken ↦ absurd (taken_no j l taken)
        ]

    abbrev end : EndState
    end = record (get_or port.ends k (fresh_end 0)) { stage = Asking (message_of (stage_at k port)) }

    one_now : coming (asks k port) ≤ 1
    one_now =
        let moved = count_after_set is_coming port.ends k end place in
        let before : is_coming (stage_at k port) ≡ false = waits_not (stage_at k port) waits in
        let none = none_here in
        let balanced : count_at is_coming (set port.ends k end) + 0 ≡ count_at is_coming port.ends + 1 = rw before at moved in
        omega arith

    asks_keep : all_there ports ≡ true → RoundLaw step (set ports p (asks k port)) took
    asks_keep all = record {
      each = each_port (λ q now. PortInRound step now) ports p (asks k port) here
          (record {
            freely = each_stage (λ j stage. takes_freely stage ≡ false) port.ends k end place refl (λ j l other. old.freely j l);
            front = each_stage (λ j stage. is_asked stage ≡ true → first_of port.queue ≡ Some j) port.ends k end place
                (λ _. at_is k (first_of port.queue) in_front) (λ j l other. old.front j l);
            one = one_now;
            taken = each_stage (λ j stage. is_taken stage ≡ true → step ≡ steps.Claims) port.ends k end place
                (λ e. cc) (λ j l other. old.taken j l);
            none_asked = λ is j l. let no : steps.Asks ≡ steps.Claims = sym is_asks ∙ is in absurd (cc);
          })
          (λ q l other. law.each q l);
      under_way = λ not_asks. absurd (not_asks is_asks);
      there = λ _ _. all_there_set ports p (asks k port) all (there_at ports p here all);
      level = λ q r ql rl. levels q r (omega (arith, ql, length-set ports p (asks k port))) (omega (arith, rl, length-set ports p (asks k port)));
    }
      where
        level_is : (q : ℕ) (now : PortState) → level_of step now (took q) ≡ took q
        level_is q now = subst (λ (s : RoundStep). level_of s now (took q) ≡ took q) (sym is_asks) refl

        levels : (q r : ℕ) → q < length ports → r < length ports
            → level_of step (port_in (set ports p (asks k port)) q) (took q) ≡ level_of step (port_in (set ports p (asks k port)) r) (took r)
        levels q r ql rl =
            level_is q (port_in (set ports p (asks k port)) q) ∙ sym (level_is q (port_in ports q)) ∙ law.level q r ql rl
            ∙ level_is r (port_in ports r) ∙ sym (level_is r (port_in (set ports p (asks k port)) r))

-- It claims, and it releases what it holds

in_range : (ends : List EndState) (j : ℕ) → is_holding (stage_in j ends) ≡ true → j < length ends
in_range [] j e = absurd (cc)
in_range (end ∷ ends) zero e = omega arith
in_range (end ∷ ends) (suc j) e = let l = in_range ends j e in omega arith

-- what is held in front of a port comes there
pub front_comes : (port : PortState) (place : Option ℕ) → is_holding (stage_from place port) ≡ true → 1 ≤ coming port
front_comes port None e = absurd (cc)
front_comes port (Some j) e =
    let counted = count_there is_coming port.ends j (in_range port.ends j e) in
    let comes : is_coming (stage_at j port) ≡ true = (holding_asked (stage_at j port) e).1 in
    let one : ◌≡◌ {A = ℕ} (cond (is_coming (stage_at j port)) 1 0) 1 = ap (λ (b : Bool). cond {A = ℕ} b 1 0) comes in
    omega arith

asking_front : (port : PortState) (place : Option ℕ) (j : ℕ) → place ≡ Some j → is_holding (stage_from place port) ≡ true
    → is_holding (stage_at j port) ≡ true
asking_front port None j e held = absurd (cc)
asking_front port (Some i) j e held = let same : i ≡ j = cc in subst (λ (n : ℕ). is_holding (stage_at n port) ≡ true) same held

module _ (step : RoundStep) (ports : List PortState) (took : ℕ → ℕ) (law : RoundLaw step ports took)
    (p k : ℕ) (here : p < length ports) (place : k < length (port_in ports p).ends)
    (holding : is_holding (stage_at k (port_in ports p)) ≡ true) where
  abbrev held_port : PortState
  held_port = port_in ports p

  was : PortInRound step held_port
  was = law.each p here

  -- nothing else is asked for there
  only_one : (j : ℕ) → j < length held_port.ends → j ≢ k → is_asked (stage_at j held_port) ≡ true → ⊥
  only_one j l other asked =
      let mine = was.front k place (holding_asked (stage_at k held_port) holding).0 in
      other (let both : Some j ≡ Some k = sym (was.front j l asked) ∙ mine in cc)

  none_asking_else : (j : ℕ) → j < length held_port.ends → j ≢ k → is_asking (stage_at j held_port) ≡ false
  none_asking_else j l other = by (is_asking (stage_at j held_port)) refl
    where
      by : (b : Bool) → is_asking (stage_at j held_port) ≡ b → is_asking (stage_at j held_port) ≡ false
      by false e = e
      by true e = absurd (only_one j l other (asking_asked (stage_at j held_port) e))

  abbrev claimed : EndState
  claimed = record (get_or held_port.ends k (fresh_end 0)) { stage = Claiming (message_of (stage_at k held_port)) }

  claims_same : coming (claims k held_port) ≡ coming held_port
  claims_same = count_same is_coming held_port.ends k claimed place (holding_asked (stage_at k held_port) holding).1

  coming_now : (q : ℕ) → q < length (set ports p (claims k held_port)) → coming (port_in (set ports p (claims k held_port)) q) ≡ coming (port_in ports q)
  coming_now = each_port (λ q now. coming now ≡ coming (port_in ports q)) ports p (claims k held_port) here claims_same (λ q l other. refl)

  -- none asks elsewhere, where all are held, or it claims already
  none_asks : (s : RoundStep) → step ≡ s → (step ≡ steps.Asks → all_held ports ≡ true) → (step ≡ steps.Releases → ⊥)
      → (q : ℕ) → q < length ports → (j : ℕ) → j < length (port_in ports q).ends → (b : Bool) → is_asking (stage_at j (port_in ports q)) ≡ b
      → is_asking (stage_at j (port_in ports q)) ≡ false
  none_asks s is all not q ql j jl false e = e
  none_asks steps.Asks is all not q ql j jl true e =
      let port = port_in ports q in
      let front = (law.each q ql).front j jl (asking_asked (stage_at j port) e) in
      absurd (not_both (stage_at j port) e (asking_front port (first_of port.queue) j front (held_at ports q ql (all is))))
  none_asks steps.Releases is all not q ql j jl true e = absurd (not is)
  none_asks steps.Claims is all not q ql j jl true e = (law.each q ql).none_asked is j jl

  -- each port has gone as far as each other, with what is claimed
  claims_level : (s : RoundStep) → step ≡ s → (step ≡ steps.Asks → all_held ports ≡ true) → (step ≡ steps.Releases → ⊥)
      → (q r : ℕ) → q < length ports → r < length ports
      → took q + coming (port_in ports q) ≡ took r + coming (port_in ports r)
  claims_level steps.Asks is all not q r ql rl =
      let same : took q ≡ took r = subst (λ (s : RoundStep). level_of s (port_in ports q) (took q) ≡ level_of s (port_in ports r) (took r)) is (law.level q r ql rl) in
      let one = front_comes (port_in ports q) (first_of (port_in ports q).queue) (held_at ports q ql (all is)) in
      let other = front_comes (port_in ports r) (first_of (port_in ports r).queue) (held_at ports r rl (all is)) in
      let most = (law.each q ql).one in
      let least = (law.each r rl).one in
      omega arith
  claims_level steps.Releases is all not q r ql rl = absurd (not is)
  claims_level steps.Claims is all not q r ql rl =
      subst (λ (s : RoundStep). level_of s (port_in ports q) (took q) ≡ level_of s (port_in ports r) (took r)) is (law.level q r ql rl)

  claims_keep : (step ≡ steps.Asks → all_held ports ≡ true) → (step ≡ steps.Releases → ⊥)
      → RoundLaw steps.Claims (set ports p (claims k held_port)) took
  claims_keep all not = record {
    each = each_port (λ q now. PortInRound steps.Claims now) ports p (claims k held_port) here
        (record {
          freely = each_stage (λ j stage. takes_freely stage ≡ false) held_port.ends k claimed place refl (λ j l other. was.freely j l);
          front = each_stage (λ j stage. is_asked stage ≡ true → first_of (without k held_port.queue) ≡ Some j) held_port.ends k claimed place
              (λ e. absurd (cc)) (λ j l other e. absurd (only_one j l other e));
          one = let same = claims_same in let most = was.one in omega arith;
          taken = λ j l e. refl;
          none_asked = λ _. each_stage (λ j stage. is_asking stage ≡ false) held_port.ends k claimed place refl none_asking_else;
        })
        (λ q l other. let old = law.each q l in record {
          freely = old.freely;
          front = old.front;
          one = old.one;
          taken = λ j jl e. refl;
          none_asked = λ _ j jl. none_asks step refl all not q l j jl (is_asking (stage_at j (port_in ports q))) refl;
        });
    under_way = λ _. some_comes (set ports p (claims k held_port)) p (omega (arith, here, length-set ports p (claims k held_port))) comes_there;
    there = λ e. absurd (let no : steps.Claims ≡ steps.Asks = e in cc);
    level = λ q r ql rl.
        let mine = coming_now q ql in
        let theirs = coming_now r rl in
        let level = claims_level step refl all not q r (omega (arith, ql, length-set ports p (claims k held_port)))
        (omega (arith, rl, length-set ports p (claims k held_port))) in
        omega arith;
  }
    where
      comes_there : 1 ≤ coming (port_in (set ports p (claims k held_port)) p)
      comes_there =
          let counted = count_there is_coming held_port.ends k place in
          let one : ◌≡◌ {A = ℕ} (cond (is_coming (stage_at k held_port)) 1 0) 1 =
          ap (λ (b : Bool). cond {A = ℕ} b 1 0) (holding_asked (stage_at k held_port) holding).1 in
          let same = coming_now p (omega (arith, here, length-set ports p (claims k held_port))) in
          omega arith

  abbrev given_up : EndState
  given_up = record (get_or held_port.ends k (fresh_end 0)) { stage = Postponed (message_of (stage_at k held_port)) }

  -- the ports after a release, where it goes on to release, or asks anew
  released_port : (s : RoundStep) → (s ≡ steps.Claims → ⊥) → step ≡ steps.Releases → (q : ℕ) → q < length (set ports p (releases k held_port))
      → PortInRound s (port_in (set ports p (releases k held_port)) q)
  released_port s free is = each_port (λ q now. PortInRound s now) ports p (releases k held_port) here
      (record {
        freely = each_stage (λ j stage. takes_freely stage ≡ false) held_port.ends k given_up place refl (λ j l other. was.freely j l);
        front = each_stage (λ j stage. is_asked stage ≡ true → first_of held_port.queue ≡ Some j) held_port.ends k given_up place
            (λ e. absurd (cc)) (λ j l other. was.front j l);
        one =
            let less = count_less is_coming held_port.ends k given_up place (holding_asked (stage_at k held_port) holding).1 refl in
            let most = was.one in
            omega arith;
        taken = each_stage (λ j stage. is_taken stage ≡ true → s ≡ steps.Claims) held_port.ends k given_up place
            (λ e. absurd (cc)) (λ j l other e. absurd (never (was.taken j l e)));
        none_asked = λ e. absurd (free e);
      })
      (λ q l other. let old = law.each q l in record {
        freely = old.freely;
        front = old.front;
        one = old.one;
        taken = λ j jl e. absurd (never (old.taken j jl e));
        none_asked = λ e. absurd (free e);
      })
    where
      never : step ≡ steps.Claims → ⊥
      never e = let no : steps.Releases ≡ steps.Claims = sym is ∙ e in cc

  releases_keep : step ≡ steps.Releases → (none : Bool) → none_comes (set ports p (releases k held_port)) ≡ none
      → RoundLaw (cond none steps.Asks steps.Releases) (set ports p (releases k held_port)) took
  releases_keep is true none = record {
    each = released_port steps.Asks (λ e. let no : steps.Asks ≡ steps.Claims = e in cc) is;
    under_way = λ not. absurd (not refl);
    there = λ _ some. absurd (let no : true ≡ false = sym none ∙ some in cc);
    level = λ q r ql rl. same_took is q r (omega (arith, ql, length-set ports p (releases k held_port))) (omega (arith, rl, length-set ports p (releases k held_port)));
  }
    where
      same_took : step ≡ steps.Releases → (q r : ℕ) → q < length ports → r < length ports → took q ≡ took r
      same_took is q r ql rl = subst (λ (s : RoundStep). level_of s (port_in ports q) (took q) ≡ level_of s (port_in ports r) (took r)) is (law.level q r ql rl)
  releases_keep is false none = record {
    each = released_port steps.Releases (λ e. let no : steps.Releases ≡ steps.Claims = e in cc) is;
    under_way = λ _. none;
    there = λ e. absurd (let no : steps.Releases ≡ steps.Asks = e in cc);
    level = λ q r ql rl. same_took is q r (omega (arith, ql, length-set ports p (releases k held_port))) (omega (arith, rl, length-set ports p (releases k held_port)));
  }
    where
      same_took : step ≡ steps.Releases → (q r : ℕ) → q < length ports → r < length ports → took q ≡ took r
      same_took is q r ql rl = subst (λ (s : RoundStep). level_of s (port_in ports q) (took q) ≡ level_of s (port_in ports r) (took r)) is (law.level q r ql rl)

pub wishes_kept : WishesKept
wishes_kept = record {
  ask = λ step ports took law p k here place is front waits all. asks_keep step ports took law p k here place is front waits all;
  claim = λ step ports took law p k here place all not holding. claims_keep step ports took law p k here place holding all not;
  release = λ step ports took law p k here place is holding.
      subst (λ (s : RoundStep). RoundLaw (step_after s false (none_comes (set ports p (releases k (port_in ports p)))))
      (set ports p (releases k (port_in ports p))) took) (sym is)
      (releases_keep step ports took law p k here place holding is (none_comes (set ports p (releases k (port_in ports p)))) refl);
}
