-- What a move for the round tells of the round and of the ports.
use Rattle.std.specs.Prelude.{◌≡◌, ℕ, ◌<◌, true, List, length, Some}
use Rattle.flow_link.specs.declared.phase.Move.TheVariants.{Ask, Claim, Release}
use Rattle.flow_intake.specs.Port.{PortState, stage_at, has_room, is_holding}
use Rattle.flow_intake.specs.Calls.{is_front, is_postponed}
use Rattle.flow_group.specs.declared.round.RoundStep.TheVariants as steps
use Rattle.flow_group.specs.Round.{RoundState, reserves, all_there, all_held, comes_first, port_in, round_move}

-- the end at this place of this port asks: its offer is in front, and waits; so do those of all other ports, and there is room
pub record AsksNow (p k : ℕ) (round : RoundState) (ports : List PortState) : Type 0 where
  pub some : reserves round ≡ true
  pub asking : round.step ≡ steps.Asks
  pub front : is_front k (port_in ports p) ≡ true
  pub waits : is_postponed (stage_at k (port_in ports p)) ≡ true
  pub there : all_there ports ≡ true
  pub room : has_room (port_in ports p) ≡ true
  pub first : comes_first round.sources (port_in ports p) ports ≡ true

-- it claims: its message is kept for it; where the round still asks, all are
pub record ClaimsNow (p k : ℕ) (round : RoundState) (ports : List PortState) : Type 0 where
  pub some : reserves round ≡ true
  pub front : is_front k (port_in ports p) ≡ true
  pub held : is_holding (stage_at k (port_in ports p)) ≡ true
  pub all : round.step ≡ steps.Asks → all_held ports ≡ true
  pub goes_on : round.step ≡ steps.Releases → ⊥

-- it gives up what is kept for it
pub record ReleasesNow (p k : ℕ) (round : RoundState) (ports : List PortState) : Type 0 where
  pub some : reserves round ≡ true
  pub front : is_front k (port_in ports p) ≡ true
  pub held : is_holding (stage_at k (port_in ports p)) ≡ true
  pub failed : round.step ≡ steps.Releases

pub record RoundMovesTell : Type 0 where
  pub asks : (p k : ℕ) (round : RoundState) (ports : List PortState) → p < length ports → round_move p k round ports ≡ Some Ask
      → AsksNow p k round ports
  pub claims : (p k : ℕ) (round : RoundState) (ports : List PortState) → round_move p k round ports ≡ Some Claim → ClaimsNow p k round ports
  pub releases : (p k : ℕ) (round : RoundState) (ports : List PortState) → round_move p k round ports ≡ Some Release
      → ReleasesNow p k round ports
