-- When a round is in order, whatever the sources do, and what a call of one port leaves of it.
use Rattle.std.specs.Prelude.{◌≡◌, ℕ, ◌+◌, ◌≢◌, ◌<◌, ◌≤◌, ◌&&◌, not, Bool, true, false, List, length, set, Some}
use Rattle.flow_value.specs.declared.value.Value.{Value}
use Rattle.flow_link.specs.declared.phase.Move.{Move}
use Rattle.flow_link.specs.declared.phase.Phase.{Phase}
use Rattle.flow_link.specs.declared.stage.TargetStage.{TargetStage}
use Rattle.flow_link.specs.declared.stage.TargetStage.TheVariants.{Accepted, Consuming}
use Rattle.flow_link.specs.Stage.{target_looks}
use Rattle.flow_intake.specs.Port.{PortState, stage_at, coming, is_queued, is_hand, is_holding}
use Rattle.flow_intake.specs.Calls.{first_of, is_front, is_postponed, is_offered, is_posted, is_arrived, may_be_refused, asks, claims, releases, looks, refuses, turns_down, postpones, opens, closes}
use Rattle.flow_group.specs.declared.round.RoundStep.{RoundStep}
use Rattle.flow_group.specs.declared.round.RoundStep.TheVariants as steps
use Rattle.flow_group.specs.declared.round.Source.{Source}
use Rattle.flow_group.specs.Round.{RoundState, is_asked, is_asking, is_taken, none_comes, all_there, all_held, all_open, all_have_room, none_asking, step_after, port_in, reserves, front_stage, front_source, comes_first, round_move}

abbrev pub takes_freely : TargetStage → Bool
takes_freely (Accepted _) = true
takes_freely (Consuming _) = true
takes_freely _ = false

-- what holds of one port
pub record PortInRound (step : RoundStep) (port : PortState) : Type 0 where
  pub freely : (k : ℕ) → k < length port.ends → takes_freely (stage_at k port) ≡ false
  -- what is asked for or held is in front
  pub front : (k : ℕ) → k < length port.ends → is_asked (stage_at k port) ≡ true → first_of port.queue ≡ Some k
  pub one : coming port ≤ 1
  pub taken : (k : ℕ) → k < length port.ends → is_taken (stage_at k port) ≡ true → step ≡ steps.Claims
  pub none_asked : step ≡ steps.Claims → (k : ℕ) → k < length port.ends → is_asking (stage_at k port) ≡ false

-- how far a port is, where it took so many messages
abbrev pub level_of : RoundStep → PortState → ℕ → ℕ
level_of steps.Claims port took = took + coming port
level_of _ port took = took

-- what holds of all ports of a join that reserves, where took says how many messages each took
pub record RoundLaw (step : RoundStep) (ports : List PortState) (took : ℕ → ℕ) : Type 0 where
  pub each : (p : ℕ) → p < length ports → PortInRound step (port_in ports p)
  pub under_way : (step ≡ steps.Asks → ⊥) → none_comes ports ≡ false
  pub there : step ≡ steps.Asks → none_comes ports ≡ false → all_there ports ≡ true
  pub level : (p q : ℕ) → p < length ports → q < length ports
      → level_of step (port_in ports p) (took p) ≡ level_of step (port_in ports q) (took q)

-- the offer at this place is in front, and is gone when its end stands so
abbrev pub goes_from : ℕ → PortState → TargetStage → Bool
goes_from k port stage = is_front k port && not (is_queued stage)

-- the round goes on with these ports
abbrev pub RoundGoesOn : RoundStep → Bool → List PortState → (ℕ → ℕ) → Type 0
RoundGoesOn step gone ports took = RoundLaw (step_after step gone (none_comes ports)) ports took

-- one port took one message more
pub record TookOneMore (p : ℕ) (took later : ℕ → ℕ) : Type 0 where
  pub here : later p ≡ took p + 1
  pub elsewhere : (q : ℕ) → q ≢ p → later q ≡ took q

-- what a call leaves of ports that changes neither their ends nor their queues
pub record SameEnds (ports later : List PortState) : Type 0 where
  pub as_many : length later ≡ length ports
  pub ends : (p : ℕ) → (port_in later p).ends ≡ (port_in ports p).ends
  pub queue : (p : ℕ) → (port_in later p).queue ≡ (port_in ports p).queue

-- a call at place k of port p
abbrev pub AtEachPort : (RoundStep → List PortState → (ℕ → ℕ) → ℕ → ℕ → Type 0) → Type 0
AtEachPort P =
    (step : RoundStep) (ports : List PortState) (took : ℕ → ℕ) → RoundLaw step ports took
    → (p k : ℕ) → p < length ports → k < length (port_in ports p).ends → P step ports took p k

pub record WishesKept : Type 0 where
  pub ask : AtEachPort λ step ports took p k.
      step ≡ steps.Asks → is_front k (port_in ports p) ≡ true → is_postponed (stage_at k (port_in ports p)) ≡ true
      → all_there ports ≡ true → RoundLaw step (set ports p (asks k (port_in ports p))) took
  pub claim : AtEachPort λ step ports took p k.
      (step ≡ steps.Asks → all_held ports ≡ true) → (step ≡ steps.Releases → ⊥)
      → is_holding (stage_at k (port_in ports p)) ≡ true
      → RoundLaw steps.Claims (set ports p (claims k (port_in ports p))) took
  pub release : AtEachPort λ step ports took p k.
      step ≡ steps.Releases → is_holding (stage_at k (port_in ports p)) ≡ true
      → RoundLaw (step_after step false (none_comes (set ports p (releases k (port_in ports p))))) (set ports p (releases k (port_in ports p))) took

pub record RoundsKept : Type 0 where
  pub wishes : WishesKept
  pub look : AtEachPort λ step ports took p k.
      (phase : Phase)
      → RoundGoesOn step (goes_from k (port_in ports p) (target_looks (stage_at k (port_in ports p)) phase))
      (set ports p (looks k phase (port_in ports p))) took
  pub refuse : AtEachPort λ step ports took p k.
      may_be_refused (stage_at k (port_in ports p)) ≡ true
      → RoundGoesOn step (is_front k (port_in ports p)) (set ports p (refuses k (port_in ports p))) took
  pub postpone : AtEachPort λ step ports took p k.
      is_offered (stage_at k (port_in ports p)) ≡ true → RoundLaw step (set ports p (postpones k (port_in ports p))) took
  pub close : AtEachPort λ step ports took p k.
      (value : Value) (later : ℕ → ℕ) → is_hand (stage_at k (port_in ports p)) ≡ true → TookOneMore p took later
      → RoundGoesOn step false (set ports p (closes k value (port_in ports p))) later
  pub opened : AtEachPort λ step ports took p k.
      (value : Value) → is_arrived (stage_at k (port_in ports p)) ≡ true
      → RoundLaw step (set ports p (opens k value (port_in ports p))) took
  pub turn_down : AtEachPort λ step ports took p k.
      is_posted (stage_at k (port_in ports p)) ≡ true → RoundLaw step (set ports p (turns_down k (port_in ports p))) took
  -- whatever leaves ends and queues alone
  pub frame : (step : RoundStep) (ports later : List PortState) (took now : ℕ → ℕ) → RoundLaw step ports took → SameEnds ports later
      → ((p : ℕ) → now p ≡ took p) → RoundLaw step later now

-- what the law says of how far the ports are
pub record LevelsTell : Type 0 where
  -- no port is more than one message ahead of another
  pub near : (step : RoundStep) (ports : List PortState) (took : ℕ → ℕ) → RoundLaw step ports took
      → (p q : ℕ) → p < length ports → q < length ports → took p ≤ took q + 1
  -- and none is, unless it claims, or where nothing comes
  pub same : (step : RoundStep) (ports : List PortState) (took : ℕ → ℕ) → RoundLaw step ports took
      → (step ≡ steps.Claims → ⊥) → (p q : ℕ) → p < length ports → q < length ports → took p ≡ took q
  pub still : (step : RoundStep) (ports : List PortState) (took : ℕ → ℕ) → RoundLaw step ports took → none_comes ports ≡ true
      → (p q : ℕ) → p < length ports → q < length ports → took p ≡ took q

-- what is in front of a port waits at its source
abbrev pub FrontsWait : List PortState → Type 0
FrontsWait ports = (p k : ℕ) → p < length ports → first_of (port_in ports p).queue ≡ Some k → is_queued (stage_at k (port_in ports p)) ≡ true

-- the round goes on by itself, or waits for the source that it asks
pub data GoesOn (round : RoundState) (ports : List PortState) : Type 0 where
  moves : (p k : ℕ) (move : Move) → p < length ports → round_move p k round ports ≡ Some move → GoesOn round ports
  waits : (p : ℕ) → p < length ports → is_asking (front_stage (port_in ports p)) ≡ true → GoesOn round ports

pub record RoundGoes : Type 0 where
  -- where a message is held; to ask for the next one, each port that holds none has to have room
  pub holder : (round : RoundState) (ports : List PortState) (took : ℕ → ℕ) → RoundLaw round.step ports took → reserves round ≡ true
      → FrontsWait ports → (round.step ≡ steps.Asks → none_asking ports ≡ true → all_have_room ports ≡ true)
      → (p k : ℕ) → p < length ports → k < length (port_in ports p).ends → is_holding (stage_at k (port_in ports p)) ≡ true
      → GoesOn round ports
  -- and a round begins where each port has an offer, is open and has room
  pub starter : (round : RoundState) (ports : List PortState) → reserves round ≡ true → FrontsWait ports → round.step ≡ steps.Asks
      → 0 < length ports → none_comes ports ≡ true → none_asking ports ≡ true → all_there ports ≡ true → all_open ports ≡ true
      → all_have_room ports ≡ true → GoesOn round ports

-- While it asks, no offer that waits in front comes from a block below one that it asked.
abbrev pub InTurn : List Source → RoundStep → List PortState → Type 0
InTurn sources step ports =
    step ≡ steps.Asks → (p q : ℕ) → p < length ports → q < length ports
    → is_asked (front_stage (port_in ports p)) ≡ true → is_postponed (front_stage (port_in ports q)) ≡ true
    → front_source sources (port_in ports p) ≤ front_source sources (port_in ports q)

abbrev pub AtEachTurn : (List Source → RoundStep → List PortState → ℕ → ℕ → Type 0) → Type 0
AtEachTurn P =
    (sources : List Source) (step : RoundStep) (ports : List PortState) (took : ℕ → ℕ) → RoundLaw step ports took → InTurn sources step ports
    → (p k : ℕ) → p < length ports → k < length (port_in ports p).ends → P sources step ports p k

abbrev pub TurnGoesOn : List Source → RoundStep → Bool → List PortState → Type 0
TurnGoesOn sources step gone ports = InTurn sources (step_after step gone (none_comes ports)) ports

pub record TurnsKept : Type 0 where
  pub ask : AtEachTurn λ sources step ports p k.
      step ≡ steps.Asks → is_front k (port_in ports p) ≡ true → comes_first sources (port_in ports p) ports ≡ true
      → InTurn sources step (set ports p (asks k (port_in ports p)))
  pub claim : AtEachTurn λ sources step ports p k. InTurn sources steps.Claims (set ports p (claims k (port_in ports p)))
  pub release : AtEachTurn λ sources step ports p k.
      step ≡ steps.Releases → TurnGoesOn sources step false (set ports p (releases k (port_in ports p)))
  pub look : AtEachTurn λ sources step ports p k.
      (phase : Phase)
      → TurnGoesOn sources step (goes_from k (port_in ports p) (target_looks (stage_at k (port_in ports p)) phase)) (set ports p (looks k phase (port_in ports p)))
  pub refuse : AtEachTurn λ sources step ports p k.
      may_be_refused (stage_at k (port_in ports p)) ≡ true
      → TurnGoesOn sources step (is_front k (port_in ports p)) (set ports p (refuses k (port_in ports p)))
  pub postpone : AtEachTurn λ sources step ports p k.
      FrontsWait ports → is_offered (stage_at k (port_in ports p)) ≡ true → InTurn sources step (set ports p (postpones k (port_in ports p)))
  pub close : AtEachTurn λ sources step ports p k.
      (value : Value) → is_hand (stage_at k (port_in ports p)) ≡ true → TurnGoesOn sources step false (set ports p (closes k value (port_in ports p)))
  pub opened : AtEachTurn λ sources step ports p k. (value : Value) → InTurn sources step (set ports p (opens k value (port_in ports p)))
  pub turn_down : AtEachTurn λ sources step ports p k. InTurn sources step (set ports p (turns_down k (port_in ports p)))
  pub frame : (sources : List Source) (step : RoundStep) (ports later : List PortState) → InTurn sources step ports → SameEnds ports later
      → InTurn sources step later
