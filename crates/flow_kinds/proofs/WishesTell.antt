-- What a wish tells of the end over whose link it is made, and how the block's stages change by it.
use Rattle.std.proofs.Common.{◌≡◌, ℕ, ◌<◌, ◌==◌, Bool, true, false, cond, List, length, set, position, Option, Some, None, is_some, unwrap_or, refl, ap, sym, ◌∙◌, subst, arith, eqb-true}
use Rattle.std.proofs.lemmas.Bool.{and_parts}
use Rattle.std.proofs.lemmas.List.Quantifiers.{position-Some}
use Rattle.flow_link.specs.Lists.{below}
use Rattle.flow_link.specs.declared.phase.Move.{Move}
use Rattle.flow_link.specs.declared.phase.Move.TheVariants.{Ask, Claim, Release}
use Rattle.flow_link.specs.declared.stage.TargetStage.{TargetStage}
use Rattle.flow_link.specs.declared.stage.TargetStage.TheVariants as target
use Rattle.flow_link.specs.declared.traits.Wish.{Wish}
use Rattle.flow_link.specs.declared.traits.Wish.TheVariants as wish
use Rattle.flow_link.specs.BlockCalls.{Stays}
use Rattle.flow_link.specs.StagesMove.{MovesBy}
use Rattle.flow_link.specs.TargetCalls.{Asks, Claims, Releases, Wishes}
use Rattle.flow_intake.specs.Port.{PortState, link_in, stage_at, is_holding, has_room}
use Rattle.flow_intake.specs.Calls.{put_stage, message_of, is_postponed, asks, claims, releases}
use Rattle.flow_intake.specs.ByLink.{place_of}
use Rattle.flow_group.specs.declared.round.RoundStep.TheVariants as steps
use Rattle.flow_group.specs.Round.{RoundState, port_in, reserves, front_stage, stage_from, round_move}
use Rattle.flow_group.proofs.RoundTells.{round_moves_tell}
use Rattle.flow_block.specs.Traits.{port_shown, shown_over, names_itself, port_into, target_over, outcome_of}
use Rattle.flow_block.proofs.OutcomesStay.{stays_as}
use Rattle.flow_block.proofs.TargetStands.{PortChanges, found, at_place, port_moves}
use Rattle.flow_block.proofs.TargetMoves.{number_at, below_count, port_changes}
use Rattle.flow_kinds.specs.ReservingJoin.{ReservingState}
use Rattle.flow_kinds.specs.Wishes.{is_ask, is_claim, is_release, front_at, move_from, front_move, asks_in_vain, is_failing, gives_up, next_at, is_own, wishes_at, wishing_port, asks_at, claims_from, releases_to, front_place, wish_at, after_wish_at, fails_now, wishing_now, next_wish, after_wish}

-- the end in front of a port is the one that its link names, and its link leads into the port
pub record OwnEnd (p k : ℕ) (ports : List PortState) : Type 0 where
  pub front : front_at p ports ≡ Some k
  pub there : k < length (port_in ports p).ends
  pub named : place_of (link_in k (port_in ports p).ends) (port_in ports p).ends ≡ Some k
  pub leads : port_into (link_in k (port_in ports p).ends) ports ≡ p

own_by : (p : ℕ) (ports : List PortState) (place : Option ℕ) → front_at p ports ≡ place → is_own p place ports ≡ true
    → OwnEnd p (unwrap_or place 0) ports
own_by p ports None at own = absurd (cc)
own_by p ports (Some k) at own =
    let port = port_in ports p in
    let link = link_in k port.ends in
    let both = and_parts (names_itself (Some k) port) (port_into link ports == p) own in
    let named = at_place k (place_of link port.ends) both.0 in
    record { front = at; there = (found link port.ends k named).0; named = named; leads = eqb-true (port_into link ports) p both.1 }

pub own_end : (p : ℕ) (ports : List PortState) → is_own p (front_at p ports) ports ≡ true → OwnEnd p (front_place p ports) ports
own_end p ports own = own_by p ports (front_at p ports) refl own

-- What it does there

ask_is : (next : Option Move) → is_ask next ≡ true → next ≡ Some Ask
ask_is (Some Ask) e = refl
ask_is _ e = absurd (cc)

claim_is : (next : Option Move) → is_claim next ≡ true → next ≡ Some Claim
claim_is (Some Claim) e = refl
claim_is _ e = absurd (cc)

release_is : (next : Option Move) → is_release next ≡ true → next ≡ Some Release
release_is (Some Release) e = refl
release_is _ e = absurd (cc)

-- where the round fails it gives up what is kept, and nothing else
given_up_by : (move : Move) (stage : TargetStage) (kept : Bool) → is_holding stage ≡ kept → cond kept (Some Release) None ≡ Some move
    → (is_holding stage ≡ true) × (move ≡ Release)
given_up_by move stage true is e = (is, let same : Some Release ≡ Some move = e in cc)
given_up_by move stage false is e = absurd (cc)

module _ (failing : Bool) (round : RoundState) (ports : List PortState) (p k : ℕ) (front : front_at p ports ≡ Some k) where
  abbrev next : Option Move
  next = next_at failing p round ports

  stage_is : front_stage (port_in ports p) ≡ stage_at k (port_in ports p)
  stage_is = ap (λ (place : Option ℕ). stage_from place (port_in ports p)) front

  move_is : (move : Move) → front_move p round ports ≡ Some move → round_move p k round ports ≡ Some move
  move_is move e = sym (ap (λ (place : Option ℕ). move_from place p round ports) front) ∙ e

  -- by the round, unless that fails
  next_by : (f : Bool) (move : Move) → (move ≡ Release → ⊥) → cond f (gives_up (front_stage (port_in ports p))) (front_move p round ports) ≡ Some move
      → (f ≡ false) × (round_move p k round ports ≡ Some move)
  next_by false move other e = (refl, move_is move e)
  next_by true move other e =
      absurd (other (given_up_by move (front_stage (port_in ports p)) (is_holding (front_stage (port_in ports p))) refl e).1)

  pub asks_by_round : is_ask next ≡ true → (failing ≡ false) × (round_move p k round ports ≡ Some Ask)
  asks_by_round e = next_by failing Ask (λ no. cc) (ask_is next e)

  pub claims_by_round : is_claim next ≡ true → (failing ≡ false) × (round_move p k round ports ≡ Some Claim)
  claims_by_round e = next_by failing Claim (λ no. cc) (claim_is next e)

  released_by : (f : Bool) → cond f (gives_up (front_stage (port_in ports p))) (front_move p round ports) ≡ Some Release
      → is_holding (stage_at k (port_in ports p)) ≡ true
  released_by false e = (round_moves_tell.releases p k round ports (move_is Release e)).held
  released_by true e =
      ap is_holding (sym stage_is) ∙ (given_up_by Release (front_stage (port_in ports p)) (is_holding (front_stage (port_in ports p))) refl e).0

  pub releases_by_round : failing ≡ false → is_release next ≡ true → round_move p k round ports ≡ Some Release
  releases_by_round fine e =
      move_is Release (ap (λ (f : Bool). cond f (gives_up (front_stage (port_in ports p))) (front_move p round ports)) (sym fine) ∙ release_is next e)

  -- what it asks for waits, and there is room
  pub asked_waits : is_ask next ≡ true → p < length ports → is_postponed (stage_at k (port_in ports p)) ≡ true
  asked_waits e l = (round_moves_tell.asks p k round ports l (asks_by_round e).1).waits

  pub asked_room : is_ask next ≡ true → p < length ports → has_room (port_in ports p) ≡ true
  asked_room e l = (round_moves_tell.asks p k round ports l (asks_by_round e).1).room

  -- and what it claims or gives up is kept for it
  pub claimed_held : is_claim next ≡ true → is_holding (stage_at k (port_in ports p)) ≡ true
  claimed_held e = (round_moves_tell.claims p k round ports (claims_by_round e).1).held

  pub released_held : is_release next ≡ true → is_holding (stage_at k (port_in ports p)) ≡ true
  released_held e = released_by failing (release_is next e)

-- How the stages change

module _ (ports : List PortState) (p k : ℕ) (own : OwnEnd p k ports) (l : p < length ports) where
  abbrev port : PortState
  port = port_in ports p

  abbrev link : ℕ
  link = link_in k port.ends

  goes_at : (Moves : TargetStage → TargetStage → Type 0) (stage : TargetStage) (new : PortState) → new.ends ≡ put_stage k stage port.ends
      → new.refusing ≡ port.refusing → Moves (stage_at k port) stage → MovesBy Moves link (target_over ports) (target_over (set ports p new))
  goes_at Moves stage new ends same allowed =
      let moved = port_moves port new k link stage own.named ends same in
      let before : shown_over port link ≡ stage_at k port = ap (λ (place : Option ℕ). port_shown place port) own.named in
      let changes : PortChanges Moves link port new = record {
        links = moved.links;
        moves = record {
          here = subst (λ (s : TargetStage). Moves s (shown_over new link)) (sym before)
              (subst (λ (s : TargetStage). Moves (stage_at k port) s) (sym moved.here) allowed);
          elsewhere = moved.elsewhere;
        };
      } in
      let some : 0 < length ports = omega (arith, l) in
      subst (λ (q : ℕ). MovesBy Moves link (target_over ports) (target_over (set ports q new))) own.leads
      (port_changes ports link some Moves new (subst (λ (q : ℕ). PortChanges Moves link (port_in ports q) new) (sym own.leads) changes))

  asks_from : (stage : TargetStage) → is_postponed stage ≡ true → Asks stage (target.Asking (message_of stage))
  asks_from (target.Postponed i) e = refl
  asks_from stage e = absurd (cc)

  claims_held : (stage : TargetStage) → is_holding stage ≡ true → Claims stage (target.Claiming (message_of stage))
  claims_held (target.Holding i) e = refl
  claims_held stage e = absurd (cc)

  releases_held : (stage : TargetStage) → is_holding stage ≡ true → Releases stage (target.Postponed (message_of stage))
  releases_held (target.Holding i) e = refl
  releases_held stage e = absurd (cc)

  pub ask_goes : is_postponed (stage_at k port) ≡ true → Wishes (wish.Ask link) (target_over ports) (target_over (set ports p (asks k port)))
  ask_goes waits = goes_at Asks (target.Asking (message_of (stage_at k port))) (asks k port) refl refl (asks_from (stage_at k port) waits)

  pub claim_goes : is_holding (stage_at k port) ≡ true → Wishes (wish.Claim link) (target_over ports) (target_over (set ports p (claims k port)))
  claim_goes held = goes_at Claims (target.Claiming (message_of (stage_at k port))) (claims k port) refl refl (claims_held (stage_at k port) held)

  pub release_goes : is_holding (stage_at k port) ≡ true → Wishes (wish.Release link) (target_over ports) (target_over (set ports p (releases k port)))
  release_goes held =
      goes_at Releases (target.Postponed (message_of (stage_at k port))) (releases k port) refl refl (releases_held (stage_at k port) held)

-- Which port it is

pub record IsWishing (failing : Bool) (round : RoundState) (ports : List PortState) (p : ℕ) : Type 0 where
  pub there : p < length ports
  pub wishes : wishes_at failing round ports p ≡ true
  pub own : OwnEnd p (front_place p ports) ports

pub wishing_is : (failing : Bool) (round : RoundState) (ports : List PortState) (p : ℕ) → p < length ports → wishes_at failing round ports p ≡ true
    → IsWishing failing round ports p
wishing_is failing round ports p there wishes = record {
  there = there;
  wishes = wishes;
  own = own_end p ports (and_parts (is_some (next_at failing p round ports)) (is_own p (front_at p ports) ports) wishes).1;
}

pub wishing_at : (failing : Bool) (round : RoundState) (ports : List PortState) (p : ℕ) → wishing_port failing round ports ≡ Some p
    → IsWishing failing round ports p
wishing_at failing round ports p is =
    let first = position-Some (wishes_at failing round ports) (below (length ports)) p 0 is in
    let there : p < length ports = omega (arith, first.0, below_count (length ports)) in
    wishing_is failing round ports p there (ap (wishes_at failing round ports) (sym (number_at (length ports) p there)) ∙ first.1)

-- a round that fails would ask
pub record FailsNow (round : RoundState) : Type 0 where
  pub some : reserves round ≡ true
  pub asking : round.step ≡ steps.Asks

pub failing_tells : (round : RoundState) (ports : List PortState) → is_failing round ports ≡ true → FailsNow round
failing_tells round ports e = by (position (asks_in_vain round ports) (below (length ports))) refl e
  where
    at : (q : ℕ) (place : Option ℕ) → q < length ports → move_from place q round ports ≡ Some Ask → FailsNow round
    at q None l moves = absurd (cc)
    at q (Some k) l moves =
        let now = round_moves_tell.asks q k round ports l moves in
        record { some = now.some; asking = now.asking }

    by : (place : Option ℕ) → position (asks_in_vain round ports) (below (length ports)) ≡ place → is_some place ≡ true → FailsNow round
    by None is some = absurd (cc)
    by (Some q) is some =
        let first = position-Some (asks_in_vain round ports) (below (length ports)) q 0 is in
        let there : q < length ports = omega (arith, first.0, below_count (length ports)) in
        let vain : asks_in_vain round ports q ≡ true = ap (asks_in_vain round ports) (sym (number_at (length ports) q there)) ∙ first.1 in
        at q (front_at q ports) there (ask_is (front_move q round ports) (and_parts (is_ask (front_move q round ports)) (is_some (port_in ports q).refusing) vain).0)

-- a fact of a join and a wish, and what the join becomes by it
module _ (P : Wish → ReservingState → Type 0) (join : ReservingState) (nothing : P wish.None join)
    (step : (failing : Bool) (p : ℕ) → failing ≡ fails_now join → IsWishing failing join.round join.block.ports p
    → let next = next_at failing p join.round join.block.ports in
    let k = front_place p join.block.ports in
    let link = link_in k (port_in join.block.ports p).ends in
    (is_ask next ≡ true → P (wish.Ask link) (asks_at p k join))
    × ((is_claim next ≡ true → P (wish.Claim link) (claims_from p k join))
    × (is_release next ≡ true → P (wish.Release link) (releases_to failing p k join)))) where
  pub by_wish : P (next_wish join) (after_wish join)
  by_wish = at (wishing_now join) refl
    where
      by : (next : Option Move) (failing : Bool) (p k link : ℕ)
          → (is_ask next ≡ true → P (wish.Ask link) (asks_at p k join))
          → (is_claim next ≡ true → P (wish.Claim link) (claims_from p k join))
          → (is_release next ≡ true → P (wish.Release link) (releases_to failing p k join))
          → (a c r : Bool) → is_ask next ≡ a → is_claim next ≡ c → is_release next ≡ r
          → P (cond a (wish.Ask link) (cond c (wish.Claim link) (cond r (wish.Release link) wish.None)))
          (cond a (asks_at p k join) (cond c (claims_from p k join) (cond r (releases_to failing p k join) join)))
      by next failing p k link ask claim release true c r ia ic ir = ask ia
      by next failing p k link ask claim release false true r ia ic ir = claim ic
      by next failing p k link ask claim release false false true ia ic ir = release ir
      by next failing p k link ask claim release false false false ia ic ir = nothing

      at : (place : Option ℕ) → wishing_now join ≡ place → P (wish_at (fails_now join) place join) (after_wish_at (fails_now join) place join)
      at None is = nothing
      at (Some p) is =
          let failing = fails_now join in
          let next = next_at failing p join.round join.block.ports in
          let k = front_place p join.block.ports in
          let link = link_in k (port_in join.block.ports p).ends in
          let all = step failing p refl (wishing_at failing join.round join.block.ports p is) in
          by next failing p k link all.0 all.1.0 all.1.1 (is_ask next) (is_claim next) (is_release next) refl refl refl

pub wish_moves : (join : ReservingState) → Wishes (next_wish join) (target_over join.block.ports) (target_over (after_wish join).block.ports)
wish_moves join = by_wish (λ told later. Wishes told (target_over join.block.ports) (target_over later.block.ports)) join tt
    (λ failing p is wishing.
    let ports = join.block.ports in
    let k = front_place p ports in
    let own = wishing.own in
    let l = wishing.there in (
      λ ask. ask_goes ports p k own l (asked_waits failing join.round ports p k own.front ask l),
      (
        λ claim. claim_goes ports p k own l (claimed_held failing join.round ports p k own.front claim),
        λ release. release_goes ports p k own l (released_held failing join.round ports p k own.front release),
      ),
    ))

pub wish_stopped : (join : ReservingState) → (after_wish join).block.stopped ≡ join.block.stopped
wish_stopped join = by_wish (λ told later. later.block.stopped ≡ join.block.stopped) join refl
    (λ failing p is wishing. (λ ask. refl, (λ claim. refl, λ release. refl)))

-- what is told and becomes of it, where it is read off a call
pub wish_goes : (join now : ReservingState) (told : Wish) → told ≡ next_wish join → now ≡ after_wish join
    → Wishes told (target_over join.block.ports) (target_over now.block.ports)
wish_goes join now told told_is is =
    subst (λ (later : ReservingState). Wishes told (target_over join.block.ports) (target_over later.block.ports)) (sym is)
    (subst (λ (wished : Wish). Wishes wished (target_over join.block.ports) (target_over (after_wish join).block.ports)) (sym told_is) (wish_moves join))

pub wish_stays : (join now : ReservingState) → now ≡ after_wish join → Stays (outcome_of join.block) (outcome_of now.block)
wish_stays join now is =
    stays_as join.block now.block (ap (λ (later : ReservingState). later.block.stopped) is ∙ wish_stopped join)
