-- The round of a join that reserves: it asks for the offer that waits longest at each port, one after another, claims all when
-- all are held, and releases all that it holds when one of them has gone. While it asks, the chosen offers are those in front.
use Rattle.std.specs.Prelude.{ℕ, ◌==◌, leb, Bool, true, false, cond, ◌&&◌, ◌||◌, not, List, [], ◌∷◌, get_or, position, Option, Some, None, is_none}
use Rattle.std.specs.List.{list_all}
use Rattle.flow_link.specs.declared.phase.Move.{Move}
use Rattle.flow_link.specs.declared.phase.Move.TheVariants.{Ask, Claim, Release}
use Rattle.flow_link.specs.declared.stage.TargetStage.{TargetStage}
use Rattle.flow_link.specs.declared.stage.TargetStage.TheVariants.{Free, Postponed, Asking, Holding, Claiming, Arrived, Hand}
use Rattle.flow_intake.specs.Port.{PortState, fresh_port, stage_at, link_in, coming, has_room, is_holding}
use Rattle.flow_intake.specs.Calls.{first_of, is_at, is_postponed}
use Rattle.flow_group.specs.declared.round.RoundStep.{RoundStep}
use Rattle.flow_group.specs.declared.round.RoundStep.TheVariants as steps
use Rattle.flow_group.specs.declared.round.Source.{Source}

pub record RoundState : Type 0 where
  -- the sources of all links into a join that reserves; none where nothing reserves
  pub sources : List Source
  pub step : RoundStep

abbrev pub no_round : RoundState
no_round = record { sources = []; step = steps.Asks }

abbrev pub has_sources : List Source → Bool
has_sources [] = false
has_sources (_ ∷ _) = true

abbrev pub reserves : RoundState → Bool
reserves round = has_sources round.sources

abbrev pub block_at : List Source → Option ℕ → ℕ
block_at sources None = 0
block_at sources (Some place) = (get_or sources place (record { link = 0; block = 0 })).block

-- the block from which a link comes
abbrev pub source_of : ℕ → List Source → ℕ
source_of link sources = block_at sources (position (λ (source : Source). source.link == link) sources)

-- What stands in front

abbrev pub stage_from : Option ℕ → PortState → TargetStage
stage_from None port = Free
stage_from (Some place) port = stage_at place port

abbrev pub front_stage : PortState → TargetStage
front_stage port = stage_from (first_of port.queue) port

abbrev pub source_from : List Source → Option ℕ → PortState → ℕ
source_from sources None port = 0
source_from sources (Some place) port = source_of (link_in place port.ends) sources

abbrev pub front_source : List Source → PortState → ℕ
front_source sources port = source_from sources (first_of port.queue) port

abbrev pub is_asking : TargetStage → Bool
is_asking (Asking _) = true
is_asking _ = false

abbrev pub is_asked : TargetStage → Bool
is_asked stage = is_asking stage || is_holding stage

-- the message goes the way of a claim
abbrev pub is_taken : TargetStage → Bool
is_taken (Claiming _) = true
is_taken (Arrived _) = true
is_taken (Hand _) = true
is_taken _ = false

abbrev pub none_comes : List PortState → Bool
none_comes ports = list_all (λ (port : PortState). coming port == 0) ports

abbrev pub has_front : PortState → Bool
has_front port = not (is_none (first_of port.queue))

abbrev pub all_there : List PortState → Bool
all_there ports = list_all has_front ports

abbrev pub all_held : List PortState → Bool
all_held ports = list_all (λ (port : PortState). is_holding (front_stage port)) ports

abbrev pub none_asking : List PortState → Bool
none_asking ports = list_all (λ (port : PortState). not (is_asking (front_stage port))) ports

abbrev pub all_open : List PortState → Bool
all_open ports = list_all (λ (port : PortState). is_none port.refusing) ports

abbrev pub all_have_room : List PortState → Bool
all_have_room ports = list_all (λ (port : PortState). is_holding (front_stage port) || has_room port) ports

-- it may ask for one more: each port has an offer, the last one asked for is held, and when the round begins no port has ended
abbrev pub may_ask : List PortState → Bool
may_ask ports = all_there ports && none_asking ports && (not (none_comes ports) || all_open ports) && all_have_room ports

-- no other offer in front that still waits comes from a block with a smaller number
abbrev pub is_behind : List Source → ℕ → PortState → Bool
is_behind sources own other = not (is_postponed (front_stage other)) || leb own (front_source sources other)

abbrev pub comes_first : List Source → PortState → List PortState → Bool
comes_first sources port ports = list_all (is_behind sources (front_source sources port)) ports

-- What becomes of a round

-- gone: an offer in front has gone, other than by a claim; none: nothing comes
abbrev pub step_after : RoundStep → (gone none : Bool) → RoundStep
step_after steps.Asks gone none = cond (gone && not none) steps.Releases steps.Asks
step_after steps.Releases gone none = cond none steps.Asks steps.Releases
step_after steps.Claims gone none = cond none steps.Asks steps.Claims

-- where nothing reserves there is no round
abbrev pub settles : Bool → List PortState → RoundState → RoundState
settles gone ports round = cond (reserves round) (record round { step = step_after round.step gone (none_comes ports) }) round

-- it claims what is kept for it
abbrev pub claims_on : RoundState → RoundState
claims_on round = record round { step = steps.Claims }

-- What it does next

abbrev pub asks_step : RoundStep → Bool
asks_step steps.Asks = true
asks_step _ = false

abbrev pub held_move : RoundStep → Bool → Option Move
held_move steps.Asks held = cond held (Some Claim) None
held_move steps.Releases held = Some Release
held_move steps.Claims held = Some Claim

abbrev pub asks_for : PortState → RoundState → List PortState → Bool
asks_for port round ports = asks_step round.step && may_ask ports && comes_first round.sources port ports

abbrev pub move_by : RoundState → PortState → List PortState → TargetStage → Option Move
move_by round port ports (Postponed _) = cond (asks_for port round ports) (Some Ask) None
move_by round port ports (Holding _) = held_move round.step (all_held ports)
move_by round port ports _ = None

abbrev pub port_in : List PortState → ℕ → PortState
port_in ports p = get_or ports p (fresh_port None)

-- what the end at place k of port p does next for the round
abbrev pub round_move : ℕ → ℕ → RoundState → List PortState → Option Move
round_move p k round ports =
    cond (reserves round && is_at k (first_of (port_in ports p).queue)) (move_by round (port_in ports p) ports (front_stage (port_in ports p))) None
