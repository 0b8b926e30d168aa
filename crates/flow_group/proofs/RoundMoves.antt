-- What becomes of a round when an offer comes, is gone or refused, or when a message is taken.
use Rattle.std.proofs.Common.{◌≡◌, ◌≢◌, ℕ, zero, suc, ◌+◌, ◌<◌, ◌≤◌, ◌==◌, ◌&&◌, cond, not, Bool, true, false, List, [], ◌∷◌, ◌++◌, length, get_or, set, Option, Some, None, is_none, refl, ap, sym, ◌∙◌, subst, inl, inr, arith, eqb-true, eq-eqb, ne_eqb}
use Rattle.std.proofs.lemmas.Bool.{cases_eq, and_parts}
use Rattle.std.proofs.lemmas.List.{length-set}
use Rattle.flow_value.specs.declared.value.Value.{Value}
use Rattle.flow_link.specs.declared.phase.Phase.{Phase}
use Rattle.flow_link.specs.declared.phase.Phase.TheVariants as phase
use Rattle.flow_link.specs.declared.stage.Refusal.{Refusal}
use Rattle.flow_link.specs.declared.stage.TargetStage.{TargetStage}
use Rattle.flow_link.specs.declared.stage.TargetStage.TheVariants.{Free, Offered, Posted, Postponed, Accepted, Consuming, Asking, Holding, Claiming, Arrived, Hand, Refused, Ended}
use Rattle.flow_link.specs.Stage.{target_looks}
use Rattle.flow_intake.specs.Port.{EndState, PortState, fresh_end, stage_in, stage_at, coming, count_at, is_coming, is_queued, is_hand}
use Rattle.flow_intake.specs.Calls.{first_of, is_front, is_offered, may_be_refused, message_of, refused_by, looks, refuses, postpones, closes}
use Rattle.flow_intake.specs.Queue.{without}
use Rattle.flow_intake.proofs.CountsOfEnds.{count_there, count_same, count_less, hand_comes}
use Rattle.flow_intake.proofs.EndsInOrder.{coming_moved}
use Rattle.flow_group.specs.declared.round.RoundStep.{RoundStep}
use Rattle.flow_group.specs.declared.round.RoundStep.TheVariants as steps
use Rattle.flow_group.specs.Round.{is_asked, is_asking, is_taken, none_comes, has_front, all_there, step_after, port_in}
use Rattle.flow_group.specs.RoundLaw.{PortInRound, RoundLaw, RoundGoesOn, TookOneMore, goes_from, level_of, takes_freely}
use Rattle.flow_group.proofs.RoundKeeps.{each_stage, each_port, all_there_set, there_at}

-- Of queues

kept_first : (b : Bool) (i : ℕ) (rest : List ℕ) → b ≡ true → first_of (cond b (i ∷ rest) rest) ≡ Some i
kept_first true i rest e = refl
kept_first false i rest e = cc

pub first_without : (k j : ℕ) (queue : List ℕ) → first_of queue ≡ Some j → j ≢ k → first_of (without k queue) ≡ Some j
first_without k j [] e other = cc
first_without k j (i ∷ queue) e other =
    let same : i ≡ j = cc in
    kept_first (not (i == k)) i (without k queue) (rw (ne_eqb i k (λ is. other (sym same ∙ is))) refl) ∙ ap Some same

pub first_joined : (k j : ℕ) (queue : List ℕ) → first_of queue ≡ Some j → first_of (queue ++ k ∷ []) ≡ Some j
first_joined k j [] e = cc
first_joined k j (i ∷ queue) e = e

joined_has : (k : ℕ) (queue : List ℕ) → not (is_none (first_of (queue ++ k ∷ []))) ≡ true
joined_has k [] = refl
joined_has k (i ∷ queue) = refl

pub first_there : (place : Option ℕ) → not (is_none place) ≡ true → (i : ℕ) × (place ≡ Some i)
first_there None e = absurd (cc)
first_there (Some i) e = (i, refl)

-- Of stages

asked_is : (stage : TargetStage) → is_asked stage ≡ true → (is_queued stage ≡ true) × (is_coming stage ≡ true)
asked_is (Asking i) e = (refl, refl)
asked_is (Holding i) e = (refl, refl)
asked_is stage e = absurd (cc)

taken_comes : (stage : TargetStage) → is_taken stage ≡ true → is_coming stage ≡ true
taken_comes (Claiming i) e = refl
taken_comes (Arrived i) e = refl
taken_comes (Hand i) e = refl
taken_comes stage e = absurd (cc)

pub hand_taken : (stage : TargetStage) → is_hand stage ≡ true → is_taken stage ≡ true
hand_taken (Hand i) e = refl
hand_taken stage e = absurd (cc)

-- what an end may become without a wish of its own
pub record Quietly (before after : TargetStage) : Type 0 where
  pub free : takes_freely before ≡ false → takes_freely after ≡ false
  pub asked : is_asked after ≡ true → is_asked before ≡ true
  pub asking : is_asking after ≡ true → is_asking before ≡ true
  pub taken : takes_freely before ≡ false → is_taken after ≡ true → is_taken before ≡ true
  pub queued : is_queued after ≡ true → is_queued before ≡ true
  pub coming : is_coming after ≡ true → is_coming before ≡ true
  -- what does not ask for a message has it come as before
  pub comes : is_asking before ≡ false → takes_freely before ≡ false → is_coming after ≡ is_coming before

stays_quietly : (stage : TargetStage) → Quietly stage stage
stays_quietly stage = record { free = λ e. e; asked = λ e. e; asking = λ e. e; taken = λ _ e. e; queued = λ e. e; coming = λ e. e; comes = λ _ _. refl }

pub look_quietly : (stage : TargetStage) (found : Phase) → Quietly stage (target_looks stage found)
look_quietly Free (phase.Posted _) = record { free = λ _. refl; asked = λ e. cc; asking = λ e. cc; taken = λ _ e. cc; queued = λ e. cc; coming = λ e. cc; comes = λ _ _. refl }
look_quietly Free (phase.Offered _) = record { free = λ _. refl; asked = λ e. cc; asking = λ e. cc; taken = λ _ e. cc; queued = λ e. cc; coming = λ e. cc; comes = λ _ _. refl }
look_quietly Free (phase.Ended _) = record { free = λ _. refl; asked = λ e. cc; asking = λ e. cc; taken = λ _ e. cc; queued = λ e. cc; coming = λ e. cc; comes = λ _ _. refl }
look_quietly (Postponed i) phase.Idle = record { free = λ _. refl; asked = λ e. cc; asking = λ e. cc; taken = λ _ e. cc; queued = λ e. cc; coming = λ e. cc; comes = λ _ _. refl }
look_quietly (Postponed i) (phase.Posted _) = record { free = λ _. refl; asked = λ e. cc; asking = λ e. cc; taken = λ _ e. cc; queued = λ e. cc; coming = λ e. cc; comes = λ _ _. refl }
look_quietly (Postponed i) (phase.Offered _) = record { free = λ _. refl; asked = λ e. cc; asking = λ e. cc; taken = λ _ e. cc; queued = λ e. cc; coming = λ e. cc; comes = λ _ _. refl }
look_quietly (Postponed i) (phase.Ended _) = record { free = λ _. refl; asked = λ e. cc; asking = λ e. cc; taken = λ _ e. cc; queued = λ e. cc; coming = λ e. cc; comes = λ _ _. refl }
look_quietly (Consuming i) phase.Idle = record { free = λ _. refl; asked = λ e. cc; asking = λ e. cc; taken = λ _ e. cc; queued = λ e. cc; coming = λ e. cc; comes = λ _ e. cc }
look_quietly (Consuming i) (phase.Posted _) = record { free = λ _. refl; asked = λ e. cc; asking = λ e. cc; taken = λ _ e. cc; queued = λ e. cc; coming = λ e. cc; comes = λ _ e. cc }
look_quietly (Consuming i) (phase.Offered _) = record { free = λ _. refl; asked = λ e. cc; asking = λ e. cc; taken = λ _ e. cc; queued = λ e. cc; coming = λ e. cc; comes = λ _ e. cc }
look_quietly (Consuming i) (phase.Ended _) = record { free = λ _. refl; asked = λ e. cc; asking = λ e. cc; taken = λ _ e. cc; queued = λ e. cc; coming = λ e. cc; comes = λ _ e. cc }
look_quietly (Asking i) phase.Idle = record { free = λ _. refl; asked = λ e. cc; asking = λ e. cc; taken = λ _ e. cc; queued = λ e. cc; coming = λ e. cc; comes = λ e _. cc }
look_quietly (Asking i) (phase.Posted _) = record { free = λ _. refl; asked = λ e. cc; asking = λ e. cc; taken = λ _ e. cc; queued = λ e. cc; coming = λ e. cc; comes = λ e _. cc }
look_quietly (Asking i) (phase.Offered _) = record { free = λ _. refl; asked = λ e. cc; asking = λ e. cc; taken = λ _ e. cc; queued = λ e. cc; coming = λ e. cc; comes = λ e _. cc }
look_quietly (Asking i) (phase.Ended _) = record { free = λ _. refl; asked = λ e. cc; asking = λ e. cc; taken = λ _ e. cc; queued = λ e. cc; coming = λ e. cc; comes = λ e _. cc }
look_quietly (Asking i) (phase.Held _) = record { free = λ _. refl; asked = λ _. refl; asking = λ e. cc; taken = λ _ e. cc; queued = λ _. refl; coming = λ _. refl; comes = λ e _. cc }
look_quietly (Accepted i) (phase.Given _) = record { free = λ e. cc; asked = λ e. cc; asking = λ e. cc; taken = λ e _. cc; queued = λ e. cc; coming = λ _. refl; comes = λ _ e. cc }
look_quietly (Consuming i) (phase.Given _) = record { free = λ e. cc; asked = λ e. cc; asking = λ e. cc; taken = λ e _. cc; queued = λ e. cc; coming = λ _. refl; comes = λ _ e. cc }
look_quietly (Claiming i) (phase.Given _) = record { free = λ _. refl; asked = λ e. cc; asking = λ e. cc; taken = λ _ _. refl; queued = λ e. cc; coming = λ _. refl; comes = λ _ _. refl }
look_quietly (Refused why) _ = record { free = λ _. refl; asked = λ e. cc; asking = λ e. cc; taken = λ _ e. cc; queued = λ e. cc; coming = λ e. cc; comes = λ _ _. refl }
look_quietly stage _ = stays_quietly stage

pub refusal_quietly : (stage : TargetStage) (refusing : Option Refusal) → may_be_refused stage ≡ true → Quietly stage (refused_by refusing)
refusal_quietly (Offered i) None e = record { free = λ _. refl; asked = λ e. cc; asking = λ e. cc; taken = λ _ e. cc; queued = λ e. cc; coming = λ e. cc; comes = λ _ _. refl }
refusal_quietly (Offered i) (Some _) e = record { free = λ _. refl; asked = λ e. cc; asking = λ e. cc; taken = λ _ e. cc; queued = λ e. cc; coming = λ e. cc; comes = λ _ _. refl }
refusal_quietly (Posted i) None e = record { free = λ _. refl; asked = λ e. cc; asking = λ e. cc; taken = λ _ e. cc; queued = λ e. cc; coming = λ e. cc; comes = λ _ _. refl }
refusal_quietly (Posted i) (Some _) e = record { free = λ _. refl; asked = λ e. cc; asking = λ e. cc; taken = λ _ e. cc; queued = λ e. cc; coming = λ e. cc; comes = λ _ _. refl }
refusal_quietly (Postponed i) None e = record { free = λ _. refl; asked = λ e. cc; asking = λ e. cc; taken = λ _ e. cc; queued = λ e. cc; coming = λ e. cc; comes = λ _ _. refl }
refusal_quietly (Postponed i) (Some _) e = record { free = λ _. refl; asked = λ e. cc; asking = λ e. cc; taken = λ _ e. cc; queued = λ e. cc; coming = λ e. cc; comes = λ _ _. refl }
refusal_quietly stage refusing e = absurd (cc)

pub refusal_unqueued : (refusing : Option Refusal) → is_queued (refused_by refusing) ≡ false
refusal_unqueued None = refl
refusal_unqueued (Some _) = refl

-- The law with another step

-- a port that has nothing on the way of a claim is in order for asking and for releasing alike
asks_or_releases : (s t : RoundStep) (port : PortState) → (s ≡ steps.Claims → ⊥) → (t ≡ steps.Claims → ⊥)
    → PortInRound s port → PortInRound t port
asks_or_releases s t port s_free t_free old = record {
  freely = old.freely;
  front = old.front;
  one = old.one;
  taken = λ j l e. absurd (s_free (old.taken j l e));
  none_asked = λ e. absurd (t_free e);
}

-- nor does it matter where nothing comes
idle_port : (s t : RoundStep) (port : PortState) → (t ≡ steps.Claims → ⊥) → coming port ≡ 0 → PortInRound s port → PortInRound t port
idle_port s t port t_free none old = record {
  freely = old.freely;
  front = old.front;
  one = old.one;
  taken = λ j l e. absurd (never j l (taken_comes (stage_at j port) e));
  none_asked = λ e. absurd (t_free e);
}
  where
    never : (j : ℕ) → j < length port.ends → is_coming (stage_at j port) ≡ true → ⊥
    never j l e =
        let counted = count_there is_coming port.ends j l in
        let one : ◌≡◌ {A = ℕ} (cond (is_coming (stage_at j port)) 1 0) 1 = ap (λ (b : Bool). cond {A = ℕ} b 1 0) e in
        omega arith

none_at : (ports : List PortState) (q : ℕ) → q < length ports → none_comes ports ≡ true → coming (port_in ports q) ≡ 0
none_at [] q l none = absurd (omega arith)
none_at (port ∷ ports) zero l none = eqb-true (coming port) 0 (and_parts (coming port == 0) (none_comes ports) none).0
none_at (port ∷ ports) (suc q) l none = none_at ports q (omega arith) (and_parts (coming port == 0) (none_comes ports) none).1

-- the ports keep their parts of the law, and are as far as each other, by the step that was; then the law holds with the step
-- that follows
pub goes_on : (step : RoundStep) (gone : Bool) (ports : List PortState) (took : ℕ → ℕ)
    → ((q : ℕ) → q < length ports → PortInRound step (port_in ports q))
    → ((q r : ℕ) → q < length ports → r < length ports → level_of step (port_in ports q) (took q) ≡ level_of step (port_in ports r) (took r))
    → (step ≡ steps.Asks → gone ≡ false → none_comes ports ≡ false → all_there ports ≡ true)
    → (none : Bool) → none_comes ports ≡ none → RoundLaw (step_after step gone none) ports took
goes_on steps.Asks false ports took each level there none is = record {
  each = each;
  under_way = λ not. absurd (not refl);
  there = λ _ some. there refl refl some;
  level = level;
}
goes_on steps.Asks true ports took each level there true is = record {
  each = each;
  under_way = λ not. absurd (not refl);
  there = λ _ some. absurd (let no : true ≡ false = sym is ∙ some in cc);
  level = level;
}
goes_on steps.Asks true ports took each level there false is = record {
  each = λ q l. asks_or_releases steps.Asks steps.Releases (port_in ports q) (λ e. let no : steps.Asks ≡ steps.Claims = e in cc)
      (λ e. let no : steps.Releases ≡ steps.Claims = e in cc) (each q l);
  under_way = λ _. is;
  there = λ e. absurd (let no : steps.Releases ≡ steps.Asks = e in cc);
  level = level;
}
goes_on steps.Releases gone ports took each level there true is = record {
  each = λ q l. asks_or_releases steps.Releases steps.Asks (port_in ports q) (λ e. let no : steps.Releases ≡ steps.Claims = e in cc)
      (λ e. let no : steps.Asks ≡ steps.Claims = e in cc) (each q l);
  under_way = λ not. absurd (not refl);
  there = λ _ some. absurd (let no : true ≡ false = sym is ∙ some in cc);
  level = level;
}
goes_on steps.Releases gone ports took each level there false is = record {
  each = each;
  under_way = λ _. is;
  there = λ e. absurd (let no : steps.Releases ≡ steps.Asks = e in cc);
  level = level;
}
goes_on steps.Claims gone ports took each level there true is = record {
  each = λ q l. idle_port steps.Claims steps.Asks (port_in ports q) (λ e. let no : steps.Asks ≡ steps.Claims = e in cc)
      (none_at ports q l is) (each q l);
  under_way = λ not. absurd (not refl);
  there = λ _ some. absurd (let no : true ≡ false = sym is ∙ some in cc);
  level = λ q r ql rl.
      let same = level q r ql rl in
      let none = none_at ports q ql is in
      let nothing = none_at ports r rl is in
      omega arith;
}
goes_on steps.Claims gone ports took each level there false is = record {
  each = each;
  under_way = λ _. is;
  there = λ e. absurd (let no : steps.Claims ≡ steps.Asks = e in cc);
  level = level;
}

-- One end of one port moves without a wish of its own

module _ (step : RoundStep) (ports : List PortState) (took : ℕ → ℕ) (law : RoundLaw step ports took)
    (p k : ℕ) (here : p < length ports) (place : k < length (port_in ports p).ends) where
  abbrev before : PortState
  before = port_in ports p

  before_law : PortInRound step before
  before_law = law.each p here

  module _ (now : PortState) (end : EndState) (ends_are : now.ends ≡ set before.ends k end)
      (quietly : Quietly (stage_at k before) end.stage)
      (queue_is : now.queue ≡ cond (is_queued end.stage) before.queue (without k before.queue)) where
    -- who stands in front of the port goes on doing so, unless it is this end
    front_stays : (j : ℕ) → first_of before.queue ≡ Some j → j ≢ k → first_of now.queue ≡ Some j
    front_stays j e other = ap first_of queue_is ∙ by (is_queued end.stage)
      where
        by : (b : Bool) → first_of (cond b before.queue (without k before.queue)) ≡ Some j
        by true = e
        by false = first_without k j before.queue e other

    -- and this end, while it waits there
    mine_stays : is_queued end.stage ≡ true → first_of now.queue ≡ first_of before.queue
    mine_stays waits = ap first_of (queue_is ∙ ap (λ (b : Bool). cond b before.queue (without k before.queue)) waits)

    each_now : (P : ℕ → TargetStage → Type 0) → P k end.stage
        → ((j : ℕ) → j < length before.ends → j ≢ k → P j (stage_at j before))
        → (j : ℕ) → j < length now.ends → P j (stage_at j now)
    each_now P mine others = subst (λ (ends : List EndState). (j : ℕ) → j < length ends → P j (stage_in j ends)) (sym ends_are)
        (each_stage P before.ends k end place mine others)

    coming_is_now : coming now ≡ count_at is_coming (set before.ends k end)
    coming_is_now = ap (count_at is_coming) ends_are

    no_more : coming now ≤ coming before
    no_more = let less = coming_moved before.ends k end place quietly.coming in let is = coming_is_now in omega arith

    port_now : PortInRound step now
    port_now =
        let free : takes_freely (stage_at k before) ≡ false = before_law.freely k place in
        record {
          freely = each_now (λ j stage. takes_freely stage ≡ false) (quietly.free free) (λ j l other. before_law.freely j l);
          front = each_now (λ j stage. is_asked stage ≡ true → first_of now.queue ≡ Some j)
              (λ asked. mine_stays (asked_is end.stage asked).0 ∙ before_law.front k place (quietly.asked asked))
              (λ j l other asked. front_stays j (before_law.front j l asked) other);
          one = let most = before_law.one in let less = no_more in omega arith;
          taken = each_now (λ j stage. is_taken stage ≡ true → step ≡ steps.Claims) (λ e. before_law.taken k place (quietly.taken free e))
              (λ j l other. before_law.taken j l);
          none_asked = λ is. each_now (λ j stage. is_asking stage ≡ false)
              (not_asking (is_asking end.stage) refl (before_law.none_asked is k place)) (λ j l other. before_law.none_asked is j l);
        }
      where
        not_asking : (b : Bool) → is_asking end.stage ≡ b → is_asking (stage_at k before) ≡ false → is_asking end.stage ≡ false
        not_asking false e none = e
        not_asking true e none = let no : false ≡ true = sym none ∙ quietly.asking e in cc

    -- nothing comes now that did not come before
    came_before : none_comes (set ports p now) ≡ false → none_comes ports ≡ false
    came_before some = by (none_comes ports) refl
      where
        all_none : (ports : List PortState) → ((q : ℕ) → q < length ports → coming (port_in ports q) ≡ 0) → none_comes ports ≡ true
        all_none [] none = refl
        all_none (port ∷ ports) none = rw (none 0 (omega arith), all_none ports (λ q l. none (suc q) (omega arith))) refl

        by : (b : Bool) → none_comes ports ≡ b → none_comes ports ≡ false
        by false e = e
        by true e =
            let nothing : none_comes (set ports p now) ≡ true = all_none (set ports p now)
            (each_port (λ q x. coming x ≡ 0) ports p now here
            (let none = none_at ports p here e in let less = no_more in omega arith) (λ q l other. none_at ports q l e)) in
            let no : false ≡ true = sym some ∙ nothing in cc

    levels_now : (s : RoundStep) → step ≡ s → (q r : ℕ) → q < length (set ports p now) → r < length (set ports p now)
        → level_of s (port_in (set ports p now) q) (took q) ≡ level_of s (port_in (set ports p now) r) (took r)
    levels_now steps.Asks is q r ql rl = old_level is q r ql rl
      where
        old_level : step ≡ steps.Asks → (q r : ℕ) → q < length (set ports p now) → r < length (set ports p now) → took q ≡ took r
        old_level is q r ql rl = subst (λ (s : RoundStep). level_of s (port_in ports q) (took q) ≡ level_of s (port_in ports r) (took r)) is
            (law.level q r (omega (arith, ql, length-set ports p now)) (omega (arith, rl, length-set ports p now)))
    levels_now steps.Releases is q r ql rl = old_level is q r ql rl
      where
        old_level : step ≡ steps.Releases → (q r : ℕ) → q < length (set ports p now) → r < length (set ports p now) → took q ≡ took r
        old_level is q r ql rl = subst (λ (s : RoundStep). level_of s (port_in ports q) (took q) ≡ level_of s (port_in ports r) (took r)) is
            (law.level q r (omega (arith, ql, length-set ports p now)) (omega (arith, rl, length-set ports p now)))
    levels_now steps.Claims is q r ql rl =
        let old = subst (λ (s : RoundStep). level_of s (port_in ports q) (took q) ≡ level_of s (port_in ports r) (took r)) is
        (law.level q r (omega (arith, ql, length-set ports p now)) (omega (arith, rl, length-set ports p now))) in
        let mine = comes_as is q ql in
        let theirs = comes_as is r rl in
        omega arith
      where
        same_here : step ≡ steps.Claims → coming now ≡ coming before
        same_here is =
            coming_is_now ∙ count_same is_coming before.ends k end place
            (sym (quietly.comes (before_law.none_asked is k place) (before_law.freely k place)))

        comes_as : step ≡ steps.Claims → (q : ℕ) → q < length (set ports p now) → coming (port_in (set ports p now) q) ≡ coming (port_in ports q)
        comes_as is = each_port (λ q x. coming x ≡ coming (port_in ports q)) ports p now here (same_here is) (λ q l other. refl)

    -- while it asks, each port has an offer in front, unless the one that stood there is gone
    there_now : step ≡ steps.Asks → goes_from k before end.stage ≡ false → none_comes (set ports p now) ≡ false
        → all_there (set ports p now) ≡ true
    there_now is stays some =
        let all = law.there is (came_before some) in
        all_there_set ports p now all (has_one (first_there (first_of before.queue) (there_at ports p here all)))
      where
        has_one : (i : ℕ) × (first_of before.queue ≡ Some i) → has_front now ≡ true
        has_one front = elim (cases_eq front.0 k) [
          | inl same ↦ ap (λ (place : Option ℕ). not (is_none place)) (mine_stays (waits same) ∙ front.1)
          | inr other ↦ ap (λ (place : Option ℕ). not (is_none place)) (front_stays front.0 front.1 other)
        ]
          where
            waits : front.0 ≡ k → is_queued end.stage ≡ true
            waits same = by (is_queued end.stage) refl
              where
                first : is_front k before ≡ true
                first = rw (front.1, same) (eq-eqb k k refl)

                by : (b : Bool) → is_queued end.stage ≡ b → is_queued end.stage ≡ true
                by true e = e
                by false e = let no : false ≡ true = sym stays ∙ rw (first, e) refl in cc

    pub quietly_keeps : RoundGoesOn step (goes_from k before end.stage) (set ports p now) took
    quietly_keeps = goes_on step (goes_from k before end.stage) (set ports p now) took
        (each_port (λ q x. PortInRound step x) ports p now here port_now (λ q l other. law.each q l))
        (levels_now step refl) there_now (none_comes (set ports p now)) refl

-- The calls

and_true : (a b : Bool) → b ≡ false → (a && not b) ≡ a
and_true true b e = rw e refl
and_true false b e = refl

offered_tells : (stage : TargetStage) → is_offered stage ≡ true → (is_coming stage ≡ false) × (is_asked stage ≡ false) × (is_taken stage ≡ false)
offered_tells (Offered i) e = (refl, refl, refl)
offered_tells stage e = absurd (cc)

pub none_comes_same : (ports : List PortState) (p : ℕ) (now : PortState) → p < length ports → coming now ≡ coming (port_in ports p)
    → none_comes (set ports p now) ≡ none_comes ports
none_comes_same [] p now l same = absurd (omega arith)
none_comes_same (port ∷ ports) zero now l same = ap (λ (n : ℕ). (n == 0) && none_comes ports) same
none_comes_same (port ∷ ports) (suc p) now l same = ap (λ (b : Bool). (coming port == 0) && b) (none_comes_same ports p now (omega arith) same)

pub level_same : (s : RoundStep) (now was : PortState) (took : ℕ) → coming now ≡ coming was → level_of s now took ≡ level_of s was took
level_same steps.Asks now was took same = refl
level_same steps.Releases now was took same = refl
level_same steps.Claims now was took same = ap (λ (n : ℕ). took + n) same

module _ (step : RoundStep) (ports : List PortState) (took : ℕ → ℕ) (law : RoundLaw step ports took)
    (p k : ℕ) (here : p < length ports) (place : k < length (port_in ports p).ends) where
  abbrev old : PortState
  old = port_in ports p

  old_law : PortInRound step old
  old_law = law.each p here

  pub look_keeps : (found : Phase) → RoundGoesOn step (goes_from k old (target_looks (stage_at k old) found)) (set ports p (looks k found old)) took
  look_keeps found =
      quietly_keeps step ports took law p k here place (looks k found old)
      (record (get_or old.ends k (fresh_end 0)) { stage = target_looks (stage_at k old) found }) refl (look_quietly (stage_at k old) found) refl

  pub refuse_keeps : may_be_refused (stage_at k old) ≡ true → RoundGoesOn step (is_front k old) (set ports p (refuses k old)) took
  refuse_keeps may =
      let out = refusal_unqueued old.refusing in
      subst (λ (gone : Bool). RoundGoesOn step gone (set ports p (refuses k old)) took) (and_true (is_front k old) (is_queued (refused_by old.refusing)) out)
      (quietly_keeps step ports took law p k here place (refuses k old)
      (record (get_or old.ends k (fresh_end 0)) { stage = refused_by old.refusing }) refl
      (refusal_quietly (stage_at k old) old.refusing may) (rw out refl))

  -- an offer that comes waits behind the others
  abbrev waits : EndState
  waits = record (get_or old.ends k (fresh_end 0)) { stage = Postponed (message_of (stage_at k old)) }

  module _ (offered : is_offered (stage_at k old) ≡ true) where
    postpone_same : coming (postpones k old) ≡ coming old
    postpone_same = count_same is_coming old.ends k waits place (offered_tells (stage_at k old) offered).0

    postpone_at : (q : ℕ) → q < length (set ports p (postpones k old)) → coming (port_in (set ports p (postpones k old)) q) ≡ coming (port_in ports q)
    postpone_at = each_port (λ q x. coming x ≡ coming (port_in ports q)) ports p (postpones k old) here postpone_same (λ q l other. refl)

    pub postpone_keeps : RoundLaw step (set ports p (postpones k old)) took
    postpone_keeps = record {
      each = each_port (λ q x. PortInRound step x) ports p (postpones k old) here
          (record {
            freely = each_stage (λ j stage. takes_freely stage ≡ false) old.ends k waits place refl (λ j l other. old_law.freely j l);
            front = each_stage (λ j stage. is_asked stage ≡ true → first_of (without k old.queue ++ k ∷ []) ≡ Some j) old.ends k waits place
                (λ e. absurd (cc))
                (λ j l other asked. first_joined k j (without k old.queue) (first_without k j old.queue (old_law.front j l asked) other));
            one = let same = postpone_same in let most = old_law.one in omega arith;
            taken = each_stage (λ j stage. is_taken stage ≡ true → step ≡ steps.Claims) old.ends k waits place (λ e. absurd (cc))
                (λ j l other. old_law.taken j l);
            none_asked = λ is. each_stage (λ j stage. is_asking stage ≡ false) old.ends k waits place refl (λ j l other. old_law.none_asked is j l);
          })
          (λ q l other. law.each q l);
      under_way = λ not. none_comes_same ports p (postpones k old) here postpone_same ∙ law.under_way not;
      there = λ is some.
          all_there_set ports p (postpones k old)
          (law.there is (sym (none_comes_same ports p (postpones k old) here postpone_same) ∙ some)) (joined_has k (without k old.queue));
      level = λ q r ql rl.
          level_same step (port_in (set ports p (postpones k old)) q) (port_in ports q) (took q) (postpone_at q ql)
          ∙ law.level q r (omega (arith, ql, length-set ports p (postpones k old))) (omega (arith, rl, length-set ports p (postpones k old)))
          ∙ sym (level_same step (port_in (set ports p (postpones k old)) r) (port_in ports r) (took r) (postpone_at r rl));
    }

  -- a message is taken
  module _ (value : Value) (later : ℕ → ℕ) (hand : is_hand (stage_at k old) ≡ true) (more : TookOneMore p took later) where
    abbrev home : EndState
    home = record (get_or old.ends k (fresh_end 0)) { stage = Free; hand = None }

    is_claims : step ≡ steps.Claims
    is_claims = old_law.taken k place (hand_taken (stage_at k old) hand)

    close_less : coming (closes k value old) + 1 ≡ coming old
    close_less = count_less is_coming old.ends k home place (hand_comes (stage_at k old) hand) refl

    gone_as_far : (q : ℕ) → q < length (set ports p (closes k value old))
        → later q + coming (port_in (set ports p (closes k value old)) q) ≡ took q + coming (port_in ports q)
    gone_as_far = each_port (λ q x. later q + coming x ≡ took q + coming (port_in ports q)) ports p (closes k value old) here
        (let less = close_less in let one = more.here in omega arith)
        (λ q l other. let same = more.elsewhere q other in omega arith)

    pub close_keeps : RoundGoesOn step false (set ports p (closes k value old)) later
    close_keeps =
        subst (λ (s : RoundStep). RoundGoesOn s false (set ports p (closes k value old)) later) (sym is_claims)
        (goes_on steps.Claims false (set ports p (closes k value old)) later
        (each_port (λ q x. PortInRound steps.Claims x) ports p (closes k value old) here
        (record {
          freely = each_stage (λ j stage. takes_freely stage ≡ false) old.ends k home place refl (λ j l other. old_law.freely j l);
          front = each_stage (λ j stage. is_asked stage ≡ true → first_of old.queue ≡ Some j) old.ends k home place (λ e. absurd (cc))
              (λ j l other. old_law.front j l);
          one = let less = close_less in let most = old_law.one in omega arith;
          taken = λ j l e. refl;
          none_asked = λ _. each_stage (λ j stage. is_asking stage ≡ false) old.ends k home place refl (λ j l other. old_law.none_asked is_claims j l);
        })
        (λ q l other. subst (λ (s : RoundStep). PortInRound s (port_in ports q)) is_claims (law.each q l)))
        (λ q r ql rl.
        let mine = gone_as_far q ql in
        let theirs = gone_as_far r rl in
        let level = subst (λ (s : RoundStep). level_of s (port_in ports q) (took q) ≡ level_of s (port_in ports r) (took r)) is_claims
        (law.level q r (omega (arith, ql, length-set ports p (closes k value old))) (omega (arith, rl, length-set ports p (closes k value old)))) in
        omega arith)
        (λ is. absurd (let no : steps.Claims ≡ steps.Asks = is in cc))
        (none_comes (set ports p (closes k value old))) refl)
