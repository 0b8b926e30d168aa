-- What a move for the round tells.
use Rattle.std.proofs.Common.{◌≡◌, ℕ, ◌<◌, length, ◌&&◌, ◌||◌, not, cond, Bool, true, false, List, Option, Some, None, refl, ap, sym, ◌∙◌}
use Rattle.std.proofs.lemmas.Bool.{and_parts}
use Rattle.flow_link.specs.declared.phase.Move.{Move}
use Rattle.flow_link.specs.declared.phase.Move.TheVariants.{Ask, Claim, Release}
use Rattle.flow_link.specs.declared.stage.TargetStage.{TargetStage}
use Rattle.flow_link.specs.declared.stage.TargetStage.TheVariants.{Postponed, Holding}
use Rattle.flow_intake.specs.Port.{PortState, stage_at, has_room, is_holding}
use Rattle.flow_intake.specs.Calls.{first_of, is_front, is_postponed}
use Rattle.flow_group.specs.declared.round.RoundStep.{RoundStep}
use Rattle.flow_group.specs.declared.round.RoundStep.TheVariants as steps
use Rattle.flow_group.specs.Round.{RoundState, reserves, all_there, none_asking, none_comes, all_open, all_have_room, may_ask, asks_step, asks_for, comes_first, all_held, held_move, move_by, front_stage, stage_from, port_in, round_move}
use Rattle.flow_group.specs.RoundTells.{AsksNow, ClaimsNow, ReleasesNow, RoundMovesTell}
use Rattle.flow_group.proofs.RoundKeeps.{at_is}
use Rattle.flow_group.proofs.RoundGoes.{pass_at}

-- a move for the round is that of the end in front
record MovesInFront (p k : ℕ) (round : RoundState) (ports : List PortState) (move : Move) : Type 0 where
  some : reserves round ≡ true
  front : is_front k (port_in ports p) ≡ true
  moves : move_by round (port_in ports p) ports (stage_at k (port_in ports p)) ≡ Some move

in_front : (p k : ℕ) (round : RoundState) (ports : List PortState) (move : Move) → round_move p k round ports ≡ Some move
    → MovesInFront p k round ports move
in_front p k round ports move e = by (reserves round && is_front k (port_in ports p)) refl e
  where
    by : (here : Bool) → (reserves round && is_front k (port_in ports p)) ≡ here
        → cond here (move_by round (port_in ports p) ports (front_stage (port_in ports p))) None ≡ Some move → MovesInFront p k round ports move
    by false is e = absurd (cc)
    by true is e =
        let both = and_parts (reserves round) (is_front k (port_in ports p)) is in
        let front = at_is k (first_of (port_in ports p).queue) both.1 in
        record {
          some = both.0;
          front = both.1;
          moves = ap (λ (place : Option ℕ). move_by round (port_in ports p) ports (stage_from place (port_in ports p))) (sym front) ∙ e;
        }

asks_only : (step : RoundStep) → asks_step step ≡ true → step ≡ steps.Asks
asks_only steps.Asks e = refl
asks_only steps.Releases e = absurd (cc)
asks_only steps.Claims e = absurd (cc)

held_by : (step : RoundStep) (all : Bool) → held_move step all ≡ Some Claim → (step ≡ steps.Asks → all ≡ true) × (step ≡ steps.Releases → ⊥)
held_by steps.Asks true e = (λ _. refl, λ is. cc)
held_by steps.Asks false e = absurd (cc)
held_by steps.Releases all e = absurd (cc)
held_by steps.Claims all e = (λ is. absurd (let no : steps.Claims ≡ steps.Asks = is in cc), λ is. cc)

given_up : (step : RoundStep) (all : Bool) → held_move step all ≡ Some Release → step ≡ steps.Releases
given_up steps.Asks true e = absurd (cc)
given_up steps.Asks false e = absurd (cc)
given_up steps.Releases all e = refl
given_up steps.Claims all e = absurd (cc)

-- by where the end in front stands
module _ (round : RoundState) (port : PortState) (ports : List PortState) where
  asks_where : (stage : TargetStage) → move_by round port ports stage ≡ Some Ask
      → (is_postponed stage ≡ true) × (asks_for port round ports ≡ true)
  asks_where (Postponed i) e = by (asks_for port round ports) refl e
    where
      by : (b : Bool) → asks_for port round ports ≡ b → cond b (Some Ask) None ≡ Some Ask
          → (is_postponed (Postponed i) ≡ true) × (asks_for port round ports ≡ true)
      by true is e = (refl, is)
      by false is e = absurd (cc)
  asks_where (Holding i) e = absurd (never (round.step) (all_held ports) e)
    where
      never : (step : RoundStep) (all : Bool) → held_move step all ≡ Some Ask → ⊥
      never steps.Asks true e = cc
      never steps.Asks false e = cc
      never steps.Releases all e = cc
      never steps.Claims all e = cc
  asks_where stage e = absurd (cc)

  held_where : (move : Move) → (Some Ask ≡ Some move → ⊥) → (stage : TargetStage) → move_by round port ports stage ≡ Some move
      → (is_holding stage ≡ true) × (held_move round.step (all_held ports) ≡ Some move)
  held_where move other (Holding i) e = (refl, e)
  held_where move other (Postponed i) e = by (asks_for port round ports) e
    where
      by : (b : Bool) → cond b (Some Ask) None ≡ Some move
          → (is_holding (Postponed i) ≡ true) × (held_move round.step (all_held ports) ≡ Some move)
      by true e = absurd (other e)
      by false e = absurd (cc)
  held_where move other stage e = absurd (cc)

room_of_waiting : (stage : TargetStage) (room : Bool) → is_postponed stage ≡ true → (is_holding stage || room) ≡ true → room ≡ true
room_of_waiting (Postponed i) room waits e = e
room_of_waiting stage room waits e = absurd (cc)

asks_tell : (p k : ℕ) (round : RoundState) (ports : List PortState) → p < length ports → round_move p k round ports ≡ Some Ask
    → AsksNow p k round ports
asks_tell p k round ports l e =
    let port = port_in ports p in
    let here = in_front p k round ports Ask e in
    let asks = asks_where round port ports (stage_at k port) here.moves in
    let two = and_parts (asks_step round.step && may_ask ports) (comes_first round.sources port ports) asks.1 in
    let one = and_parts (asks_step round.step) (may_ask ports) two.0 in
    let three = and_parts (all_there ports && none_asking ports && (not (none_comes ports) || all_open ports)) (all_have_room ports) one.1 in
    let rest = and_parts (all_there ports && none_asking ports) (not (none_comes ports) || all_open ports) three.0 in
    let first = and_parts (all_there ports) (none_asking ports) rest.0 in
    let front = at_is k (first_of port.queue) here.front in
    let room = pass_at (λ (port : PortState). is_holding (front_stage port) || has_room port) ports p l three.1 in
    record {
      some = here.some;
      asking = asks_only round.step one.0;
      front = here.front;
      waits = asks.0;
      there = first.0;
      room = room_of_waiting (stage_at k port) (has_room port) asks.0
          (ap (λ (place : Option ℕ). is_holding (stage_from place port) || has_room port) (sym front) ∙ room);
      first = two.1;
    }

claims_tell : (p k : ℕ) (round : RoundState) (ports : List PortState) → round_move p k round ports ≡ Some Claim → ClaimsNow p k round ports
claims_tell p k round ports e =
    let here = in_front p k round ports Claim e in
    let held = held_where round (port_in ports p) ports Claim (λ same. cc) (stage_at k (port_in ports p)) here.moves in
    let by = held_by round.step (all_held ports) held.1 in
    record { some = here.some; front = here.front; held = held.0; all = by.0; goes_on = by.1 }

releases_tell : (p k : ℕ) (round : RoundState) (ports : List PortState) → round_move p k round ports ≡ Some Release
    → ReleasesNow p k round ports
releases_tell p k round ports e =
    let here = in_front p k round ports Release e in
    let held = held_where round (port_in ports p) ports Release (λ same. cc) (stage_at k (port_in ports p)) here.moves in
    record { some = here.some; front = here.front; held = held.0; failed = given_up round.step (all_held ports) held.1 }

pub round_moves_tell : RoundMovesTell
round_moves_tell = record { asks = asks_tell; claims = claims_tell; releases = releases_tell }
