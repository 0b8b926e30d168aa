-- What a join that reserves wishes next, and what it becomes by that.
use Rattle.std.specs.Prelude.{ℕ, ◌==◌, Bool, true, false, cond, ◌&&◌, List, length, position, Option, Some, None, is_some, unwrap_or}
use Rattle.flow_link.specs.Lists.{below}
use Rattle.flow_link.specs.declared.phase.Move.{Move}
use Rattle.flow_link.specs.declared.phase.Move.TheVariants.{Ask, Claim, Release}
use Rattle.flow_link.specs.declared.stage.TargetStage.{TargetStage}
use Rattle.flow_link.specs.declared.traits.Wish.{Wish}
use Rattle.flow_link.specs.declared.traits.Wish.TheVariants as wish
use Rattle.flow_link.specs.declared.traits.WishAnswer.{WishAnswer}
use Rattle.flow_link.specs.declared.traits.WishAnswer.TheVariants as answer
use Rattle.flow_intake.specs.Port.{PortState, link_in, is_holding}
use Rattle.flow_intake.specs.Calls.{first_of, is_front, asks, claims, releases}
use Rattle.flow_intake.specs.ByLink.{place_of}
use Rattle.flow_group.specs.Round.{RoundState, port_in, front_stage, round_move, settles, claims_on}
use Rattle.flow_block.specs.Block.{with_port}
use Rattle.flow_block.specs.Traits.{names_itself, port_into}
use Rattle.flow_kinds.specs.ReservingJoin.{ReservingState}

abbrev pub is_ask : Option Move → Bool
is_ask (Some Ask) = true
is_ask _ = false

abbrev pub is_claim : Option Move → Bool
is_claim (Some Claim) = true
is_claim _ = false

abbrev pub is_release : Option Move → Bool
is_release (Some Release) = true
is_release _ = false

-- What it does next at one port

-- the place of the end whose offer is in front
abbrev pub front_at : ℕ → List PortState → Option ℕ
front_at p ports = first_of (port_in ports p).queue

abbrev pub move_from : Option ℕ → ℕ → RoundState → List PortState → Option Move
move_from None p round ports = None
move_from (Some k) p round ports = round_move p k round ports

-- what the round would have the end in front of a port do
abbrev pub front_move : ℕ → RoundState → List PortState → Option Move
front_move p round ports = move_from (front_at p ports) p round ports

-- the round would ask for the offer in front of a port that has ended
abbrev pub asks_in_vain : RoundState → List PortState → ℕ → Bool
asks_in_vain round ports p = is_ask (front_move p round ports) && is_some (port_in ports p).refusing

-- it would do so at some port: the offer there is as good as gone, and the round fails
abbrev pub is_failing : RoundState → List PortState → Bool
is_failing round ports = is_some (position (asks_in_vain round ports) (below (length ports)))

-- what is kept is given up
abbrev pub gives_up : TargetStage → Option Move
gives_up stage = cond (is_holding stage) (Some Release) None

abbrev pub next_at : (failing : Bool) → ℕ → RoundState → List PortState → Option Move
next_at failing p round ports = cond failing (gives_up (front_stage (port_in ports p))) (front_move p round ports)

-- the end in front is the one that its link names, and its link leads into the port: in a block in order each is so
abbrev pub is_own : ℕ → Option ℕ → List PortState → Bool
is_own p None ports = false
is_own p (Some k) ports =
    names_itself (Some k) (port_in ports p) && port_into (link_in k (port_in ports p).ends) ports == p

-- Of all ports

abbrev pub wishes_at : (failing : Bool) → RoundState → List PortState → ℕ → Bool
wishes_at failing round ports p = is_some (next_at failing p round ports) && is_own p (front_at p ports) ports

-- the first port at which it does something
abbrev pub wishing_port : (failing : Bool) → RoundState → List PortState → Option ℕ
wishing_port failing round ports = position (wishes_at failing round ports) (below (length ports))

-- What it wishes, and what it becomes

abbrev pub wish_by : Option Move → (link : ℕ) → Wish
wish_by next link = cond (is_ask next) (wish.Ask link) (cond (is_claim next) (wish.Claim link) (cond (is_release next) (wish.Release link) wish.None))

abbrev pub asks_at : (p k : ℕ) → ReservingState → ReservingState
asks_at p k join = record join { block = with_port p (asks k) join.block }

abbrev pub claims_from : (p k : ℕ) → ReservingState → ReservingState
claims_from p k join = record { block = with_port p (claims k) join.block; round = claims_on join.round }

-- a round that fails is as one from which an offer in front has gone
abbrev pub turned : (failing : Bool) → ReservingState → RoundState
turned failing join = cond failing (settles true join.block.ports join.round) join.round

abbrev pub releases_to : (failing : Bool) → (p k : ℕ) → ReservingState → ReservingState
releases_to failing p k join = record {
  block = with_port p (releases k) join.block;
  round = settles false (with_port p (releases k) join.block).ports (turned failing join);
}

abbrev pub wishes_by : Option Move → (failing : Bool) → (p k : ℕ) → ReservingState → ReservingState
wishes_by next failing p k join =
    cond (is_ask next) (asks_at p k join) (cond (is_claim next) (claims_from p k join) (cond (is_release next) (releases_to failing p k join) join))

abbrev pub front_place : ℕ → List PortState → ℕ
front_place p ports = unwrap_or (front_at p ports) 0

abbrev pub wish_at : (failing : Bool) → Option ℕ → ReservingState → Wish
wish_at failing None join = wish.None
wish_at failing (Some p) join =
    wish_by (next_at failing p join.round join.block.ports) (link_in (front_place p join.block.ports) (port_in join.block.ports p).ends)

abbrev pub after_wish_at : (failing : Bool) → Option ℕ → ReservingState → ReservingState
after_wish_at failing None join = join
after_wish_at failing (Some p) join =
    wishes_by (next_at failing p join.round join.block.ports) failing p (front_place p join.block.ports) join

abbrev pub fails_now : ReservingState → Bool
fails_now join = is_failing join.round join.block.ports

abbrev pub wishing_now : ReservingState → Option ℕ
wishing_now join = wishing_port (fails_now join) join.round join.block.ports

abbrev pub next_wish : ReservingState → Wish
next_wish join = wish_at (fails_now join) (wishing_now join) join

abbrev pub after_wish : ReservingState → ReservingState
after_wish join = after_wish_at (fails_now join) (wishing_now join) join

-- What an answer tells the round

abbrev pub is_gone : WishAnswer → Bool
is_gone answer.Coming = false
is_gone answer.Held = false
is_gone answer.NotAvailable = true
is_gone answer.Withdrawn = true

abbrev pub fronts_at : Option ℕ → PortState → Bool
fronts_at None port = false
fronts_at (Some k) port = is_front k port

-- the offer over the link is in front of the port into which it leads
abbrev pub fronts : (link : ℕ) → List PortState → Bool
fronts link ports = fronts_at (place_of link (port_in ports (port_into link ports)).ends) (port_in ports (port_into link ports))

-- by the answer the offer in front of its port is gone
abbrev pub loses_front : WishAnswer → (link : ℕ) → List PortState → Bool
loses_front told link ports = is_gone told && fronts link ports
