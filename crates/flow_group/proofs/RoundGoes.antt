-- A round in which a message is held goes on.
use Rattle.std.proofs.Common.{◌≡◌, ℕ, zero, suc, ◌<◌, ◌≤◌, leb, ◌==◌, ◌&&◌, ◌||◌, cond, not, Bool, true, false, List, [], ◌∷◌, length, Option, Some, None, is_none, refl, ap, sym, ◌∙◌, subst, inl, inr, arith, eq-eqb, eqb-true, le-leb}
use Rattle.std.proofs.lemmas.Bool.{and_parts, leb-true, cases_lt}
use Rattle.std.specs.List.{list_all}
use Rattle.flow_link.specs.declared.phase.Move.{Move}
use Rattle.flow_link.specs.declared.phase.Move.TheVariants.{Ask, Claim, Release}
use Rattle.flow_link.specs.declared.stage.TargetStage.{TargetStage}
use Rattle.flow_link.specs.declared.stage.TargetStage.TheVariants.{Postponed, Asking, Holding}
use Rattle.flow_intake.specs.Port.{PortState, stage_at, coming, is_coming, is_queued, is_holding}
use Rattle.flow_intake.specs.Calls.{first_of, is_at, is_postponed}
use Rattle.flow_intake.proofs.CountsOfEnds.{count_there}
use Rattle.flow_group.specs.declared.round.RoundStep.{RoundStep}
use Rattle.flow_group.specs.declared.round.RoundStep.TheVariants as steps
use Rattle.flow_group.specs.Round.{RoundState, reserves, is_asked, is_asking, none_comes, all_there, all_held, all_open, all_have_room, none_asking, may_ask, comes_first, front_source, front_stage, stage_from, move_by, held_move, port_in}
use Rattle.flow_group.specs.RoundLaw.{RoundLaw, FrontsWait, GoesOn, RoundGoes}
use Rattle.flow_group.proofs.RoundKeeps.{some_comes, there_at, front_comes}

-- The least of those that pass

module _ (t : PortState → Bool) (f : PortState → ℕ) where
  abbrev after : ℕ → PortState → Bool
  after n other = not (t other) || leb n (f other)

  record Least (ports : List PortState) : Type 0 where
    at : ℕ
    here : at < length ports
    passes : t (port_in ports at) ≡ true
    least : list_all (after (f (port_in ports at))) ports ≡ true

  both : (a b : Bool) → a ≡ true → b ≡ true → (a && b) ≡ true
  both true true e f = refl
  both true false e f = absurd (cc)
  both false b e f = absurd (cc)

  later_least : (n m : ℕ) → n ≤ m → (ports : List PortState) → list_all (after m) ports ≡ true → list_all (after n) ports ≡ true
  later_least n m l [] all = refl
  later_least n m l (port ∷ ports) all =
      let parts = and_parts (after m port) (list_all (after m) ports) all in
      both (after n port) (list_all (after n) ports) (one (t port) parts.0) (later_least n m l ports parts.1)
    where
      one : (b : Bool) → (not b || leb m (f port)) ≡ true → (not b || leb n (f port)) ≡ true
      one false e = refl
      one true e = let over = leb-true m (f port) e in le-leb n (f port) (omega arith)

  none_after : (n : ℕ) (ports : List PortState) → list_all (λ (port : PortState). not (t port)) ports ≡ true → list_all (after n) ports ≡ true
  none_after n [] none = refl
  none_after n (port ∷ ports) none =
      let parts = and_parts (not (t port)) (list_all (λ (port : PortState). not (t port)) ports) none in
      both (after n port) (list_all (after n) ports) (rw parts.0 refl) (none_after n ports parts.1)

  self_after : (b : Bool) (n : ℕ) → (not b || leb n n) ≡ true
  self_after false n = refl
  self_after true n = le-leb n n (omega arith)

  least_of : (ports : List PortState) → list_all (λ (port : PortState). not (t port)) ports ≡ false → Least ports
  least_of [] some = absurd (cc)
  least_of (port ∷ ports) some = by (λ is. least_of ports is) (t port) refl (list_all (λ (port : PortState). not (t port)) ports) refl
    where
      first : t port ≡ true → list_all (after (f port)) ports ≡ true → Least (port ∷ ports)
      first e rest = record { at = 0; here = omega arith; passes = e; least = both (after (f port) port) (list_all (after (f port)) ports) (self_after (t port) (f port)) rest }

      next : (found : Least ports) → after (f (port_in ports found.at)) port ≡ true → Least (port ∷ ports)
      next found e = record {
        at = suc found.at;
        here = let l = found.here in omega arith;
        passes = found.passes;
        least = both (after (f (port_in ports found.at)) port) (list_all (after (f (port_in ports found.at))) ports) e found.least;
      }

      by : (list_all (λ (port : PortState). not (t port)) ports ≡ false → Least ports)
          → (b : Bool) → t port ≡ b → (none : Bool) → list_all (λ (port : PortState). not (t port)) ports ≡ none → Least (port ∷ ports)
      by of_rest false e none is = next (of_rest (rest none is)) (rw e refl)
        where
          rest : (none : Bool) → list_all (λ (port : PortState). not (t port)) ports ≡ none → list_all (λ (port : PortState). not (t port)) ports ≡ false
          rest false is = is
          rest true is = let all : list_all (λ (port : PortState). not (t port)) (port ∷ ports) ≡ true = rw (e, is) refl in absurd (let no : true ≡ false = sym all ∙ some in cc)
      by of_rest true e true is = first e (none_after (f port) ports is)
      by of_rest true e false is =
          let found = of_rest is in
          elim (cases_lt (f (port_in ports found.at)) (f port)) [
            | inl less ↦ next found (rw (e, le-leb (f (port_in ports found.at)) (f port) (omega (arith, less))) refl)
            | inr more ↦ first e (later_least (f port) (f (port_in ports found.at)) more ports found.least)
          ]

-- What stands in front

waits_now : (stage : TargetStage) → is_queued stage ≡ true → is_asking stage ≡ false → is_holding stage ≡ false → is_postponed stage ≡ true
waits_now (Postponed i) queued asking holding = refl
waits_now (Asking i) queued asking holding = absurd (cc)
waits_now (Holding i) queued asking holding = absurd (cc)
waits_now stage queued asking holding = absurd (cc)

front_waits : (port : PortState) (place : Option ℕ) → ((k : ℕ) → place ≡ Some k → is_queued (stage_at k port) ≡ true)
    → not (is_none place) ≡ true → is_queued (stage_from place port) ≡ true
front_waits port None queued there = absurd (cc)
front_waits port (Some k) queued there = queued k refl

front_is : (port : PortState) (place : Option ℕ) → is_postponed (stage_from place port) ≡ true → (k : ℕ) × (place ≡ Some k)
front_is port None e = absurd (cc)
front_is port (Some k) e = (k, refl)

-- one that doesn't pass
record Fails (t : PortState → Bool) (ports : List PortState) : Type 0 where
  at : ℕ
  here : at < length ports
  fails : t (port_in ports at) ≡ false

fails_at : (t : PortState → Bool) (ports : List PortState) → list_all t ports ≡ false → Fails t ports
fails_at t [] e = absurd (cc)
fails_at t (port ∷ ports) e = by (λ is. fails_at t ports is) (t port) refl
  where
    by : (list_all t ports ≡ false → Fails t ports) → (b : Bool) → t port ≡ b → Fails t (port ∷ ports)
    by of_rest false is = record { at = 0; here = omega arith; fails = is }
    by of_rest true is =
        let found = of_rest (subst (λ (b : Bool). (b && list_all t ports) ≡ false) is e) in
        record { at = suc found.at; here = let l = found.here in omega arith; fails = found.fails }

pub pass_at : (t : PortState → Bool) (ports : List PortState) (p : ℕ) → p < length ports → list_all t ports ≡ true → t (port_in ports p) ≡ true
pass_at t [] p l all = absurd (omega arith)
pass_at t (port ∷ ports) zero l all = (and_parts (t port) (list_all t ports) all).0
pass_at t (port ∷ ports) (suc p) l all = pass_at t ports p (omega arith) (and_parts (t port) (list_all t ports) all).1

is_not : (b : Bool) → not b ≡ false → b ≡ true
is_not true e = refl
is_not false e = cc

is_so : (b : Bool) → not b ≡ true → b ≡ false
is_so false e = refl
is_so true e = cc

never_all : (b : Bool) → (b ≡ true → ⊥) → b ≡ false
never_all false not_true = refl
never_all true not_true = absurd (not_true refl)

-- The move

move_there : (p k : ℕ) (round : RoundState) (ports : List PortState) (place : Option ℕ) (move : Option Move) → reserves round ≡ true → place ≡ Some k
    → cond (reserves round && is_at k place) move None ≡ move
move_there p k round ports place move has is = rw (has, is, eq-eqb k k refl) refl

by_held : (round : RoundState) (port : PortState) (ports : List PortState) (stage : TargetStage) → is_holding stage ≡ true
    → move_by round port ports stage ≡ held_move round.step (all_held ports)
by_held round port ports (Holding i) e = refl
by_held round port ports stage e = absurd (cc)

by_waiting : (sources_step : RoundState) (port : PortState) (ports : List PortState) (stage : TargetStage) → is_postponed stage ≡ true
    → sources_step.step ≡ steps.Asks → may_ask ports ≡ true → comes_first sources_step.sources port ports ≡ true
    → move_by sources_step port ports stage ≡ Some Ask
by_waiting round port ports (Postponed i) e asks may first = rw (asks, may, first) refl
by_waiting round port ports stage e asks may first = absurd (cc)

module _ (round : RoundState) (ports : List PortState) (took : ℕ → ℕ) (law : RoundLaw round.step ports took) (has : reserves round ≡ true)
    (fronts : FrontsWait ports) (room : round.step ≡ steps.Asks → none_asking ports ≡ true → all_have_room ports ≡ true)
    (p k : ℕ) (here : p < length ports) (place : k < length (port_in ports p).ends) (holding : is_holding (stage_at k (port_in ports p)) ≡ true) where
  asked : (stage : TargetStage) → is_holding stage ≡ true → (is_asked stage ≡ true) × (is_coming stage ≡ true)
  asked (Holding i) e = (refl, refl)
  asked stage e = absurd (cc)

  front : first_of (port_in ports p).queue ≡ Some k
  front = (law.each p here).front k place (asked (stage_at k (port_in ports p)) holding).0

  held_front : is_holding (front_stage (port_in ports p)) ≡ true
  held_front = subst (λ (place : Option ℕ). is_holding (stage_from place (port_in ports p)) ≡ true) (sym front) holding

  moves_by : (move : Move) → held_move round.step (all_held ports) ≡ Some move → GoesOn round ports
  moves_by move is = GoesOn.moves p k move here
      (move_there p k round ports (first_of (port_in ports p).queue) (move_by round (port_in ports p) ports (front_stage (port_in ports p))) has front
      ∙ by_held round (port_in ports p) ports (front_stage (port_in ports p)) held_front ∙ is)

  some_come : none_comes ports ≡ false
  some_come = some_comes ports p here (
      let counted = count_there is_coming (port_in ports p).ends k place in
      let one : ◌≡◌ {A = ℕ} (cond (is_coming (stage_at k (port_in ports p))) 1 0) 1 =
      ap (λ (b : Bool). cond {A = ℕ} b 1 0) (asked (stage_at k (port_in ports p)) holding).1 in
      omega arith)

  -- all have an offer, none is asked, and one of them waits: the one of the least source is asked for
  asks_next : round.step ≡ steps.Asks → none_asking ports ≡ true → all_held ports ≡ false → GoesOn round ports
  asks_next is none some =
      let there = law.there is some_come in
      let may : may_ask ports ≡ true = rw (there, none, some_come, room is none) refl in
      let waiting : list_all (λ (port : PortState). not (is_postponed (front_stage port))) ports ≡ false = some_wait there none some in
      let found = least_of (λ port. is_postponed (front_stage port)) (front_source round.sources) ports waiting in
      let next = front_is (port_in ports found.at) (first_of (port_in ports found.at).queue) found.passes in
      GoesOn.moves found.at next.0 Ask found.here
      (move_there found.at next.0 round ports (first_of (port_in ports found.at).queue)
      (move_by round (port_in ports found.at) ports (front_stage (port_in ports found.at))) has next.1
      ∙ by_waiting round (port_in ports found.at) ports (front_stage (port_in ports found.at)) found.passes is may found.least)
    where
      some_wait : all_there ports ≡ true → none_asking ports ≡ true → all_held ports ≡ false
          → list_all (λ (port : PortState). not (is_postponed (front_stage port))) ports ≡ false
      some_wait there none some =
          let found = fails_at (λ port. is_holding (front_stage port)) ports some in
          let port = port_in ports found.at in
          let queued = front_waits port (first_of port.queue) (λ j e. fronts found.at j found.here e) (there_at ports found.at found.here there) in
          let asking = is_so (is_asking (front_stage port)) (pass_at (λ port. not (is_asking (front_stage port))) ports found.at found.here none) in
          let waits = waits_now (front_stage port) queued asking found.fails in
          never_all (list_all (λ (port : PortState). not (is_postponed (front_stage port))) ports) (λ all.
          let no : not (is_postponed (front_stage port)) ≡ true = pass_at (λ port. not (is_postponed (front_stage port))) ports found.at found.here all in
          let so : true ≡ false = sym waits ∙ is_so (is_postponed (front_stage port)) no in
          cc)

  goes : (step : RoundStep) → round.step ≡ step → (held : Bool) → all_held ports ≡ held → (none : Bool) → none_asking ports ≡ none → GoesOn round ports
  goes steps.Releases is held all none asking = moves_by Release (rw is refl)
  goes steps.Claims is held all none asking = moves_by Claim (rw is refl)
  goes steps.Asks is true all none asking = moves_by Claim (rw (is, all) refl)
  goes steps.Asks is false all true asking = asks_next is asking all
  goes steps.Asks is false all false asking =
      let found = fails_at (λ port. not (is_asking (front_stage port))) ports asking in
      GoesOn.waits found.at found.here (is_not (is_asking (front_stage (port_in ports found.at))) found.fails)

-- Nothing comes, so that none is held: the one of the least source is asked for
module _ (round : RoundState) (ports : List PortState) (has : reserves round ≡ true) (fronts : FrontsWait ports)
    (is : round.step ≡ steps.Asks) (some : 0 < length ports) (none : none_comes ports ≡ true) (quiet : none_asking ports ≡ true)
    (there : all_there ports ≡ true) (going : all_open ports ≡ true) (room : all_have_room ports ≡ true) where
  none_held : (p : ℕ) → p < length ports → is_holding (front_stage (port_in ports p)) ≡ false
  none_held p l = never_all (is_holding (front_stage (port_in ports p))) (λ held.
      let comes = front_comes (port_in ports p) (first_of (port_in ports p).queue) held in
      let zero : coming (port_in ports p) ≡ 0 =
      eqb-true (coming (port_in ports p)) 0 (pass_at (λ (port : PortState). coming port == 0) ports p l none) in
      omega (arith, comes, zero))

  first_waits : is_postponed (front_stage (port_in ports 0)) ≡ true
  first_waits =
      let port = port_in ports 0 in
      waits_now (front_stage port) (front_waits port (first_of port.queue) (λ j e. fronts 0 j some e) (there_at ports 0 some there))
      (is_so (is_asking (front_stage port)) (pass_at (λ (port : PortState). not (is_asking (front_stage port))) ports 0 some quiet))
      (none_held 0 some)

  starts : GoesOn round ports
  starts =
      let may : may_ask ports ≡ true = rw (there, quiet, none, going, room) refl in
      let waiting : list_all (λ (port : PortState). not (is_postponed (front_stage port))) ports ≡ false =
      never_all (list_all (λ (port : PortState). not (is_postponed (front_stage port))) ports) (λ all.
      let no = pass_at (λ (port : PortState). not (is_postponed (front_stage port))) ports 0 some all in
      let so : true ≡ false = sym first_waits ∙ is_so (is_postponed (front_stage (port_in ports 0))) no in
      cc) in
      let found = least_of (λ port. is_postponed (front_stage port)) (front_source round.sources) ports waiting in
      let next = front_is (port_in ports found.at) (first_of (port_in ports found.at).queue) found.passes in
      GoesOn.moves found.at next.0 Ask found.here
      (move_there found.at next.0 round ports (first_of (port_in ports found.at).queue)
      (move_by round (port_in ports found.at) ports (front_stage (port_in ports found.at))) has next.1
      ∙ by_waiting round (port_in ports found.at) ports (front_stage (port_in ports found.at)) found.passes is may found.least)

pub round_goes : RoundGoes
round_goes = record {
  starter = λ round ports has fronts is some none quiet there going room. starts round ports has fronts is some none quiet there going room;
  holder = λ round ports took law has fronts room p k here place holding.
      goes round ports took law has fronts room p k here place holding round.step refl (all_held ports) refl (none_asking ports) refl;
}
