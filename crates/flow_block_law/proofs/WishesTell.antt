-- What a wish of a join that reserves tells: where the end stands, and that its port is open.
use Rattle.std.proofs.Common.{◌≡◌, ℕ, ◌&&◌, cond, List, Bool, true, false, Option, Some, None, refl, ap, sym, ◌∙◌, eqb-true}
use Rattle.std.proofs.lemmas.Bool.{and_parts}
use Rattle.flow_value.specs.declared.message.MessageStatus.{MessageStatus}
use Rattle.flow_value.specs.declared.message.MessageStatus.TheVariants as status
use Rattle.flow_link.specs.declared.phase.Move.{Move}
use Rattle.flow_link.specs.declared.phase.Move.TheVariants as move
use Rattle.flow_link.specs.declared.stage.Refusal.{Refusal}
use Rattle.flow_link.specs.declared.stage.TargetStage.{TargetStage}
use Rattle.flow_link.specs.declared.stage.TargetStage.TheVariants as target
use Rattle.flow_intake.specs.Port.{PortState, stage_at as port_stage}
use Rattle.flow_intake.specs.PortLaw.{has_ended}
use Rattle.flow_intake.specs.Calls.{first_of, answer_to, move_of, move_at, in_move, next_place, is_at, is_postponed}
use Rattle.flow_group.specs.declared.round.RoundStep.{RoundStep}
use Rattle.flow_group.specs.declared.round.RoundStep.TheVariants as steps
use Rattle.flow_group.specs.Round.{RoundState, reserves, all_held, asks_for, front_stage, held_move, move_by, port_in, round_move}
use Rattle.flow_group.specs.RoundTells.{AsksNow, ClaimsNow, ReleasesNow}
use Rattle.flow_group.proofs.RoundTells.{round_moves_tell}
use Rattle.flow_block.specs.Block.{port_at}
use Rattle.flow_block.specs.Node.{NodeState, or_else, next_in}
use Rattle.flow_block_law.specs.NodeKeeps.{MayWish}

-- a move for the round
abbrev pub is_wish : Option Move → Bool
is_wish (Some move.Ask) = true
is_wish (Some move.Claim) = true
is_wish (Some move.Release) = true
is_wish _ = false

answers_so : (answer : MessageStatus) → is_wish (move_of answer) ≡ false
answers_so status.Accepted = refl
answers_so status.Declined = refl
answers_so status.Postponed = refl
answers_so status.NotAvailable = refl
answers_so status.DecliningPermanently = refl

consumes_so : (here : Bool) → is_wish (cond here (Some move.Consume) None) ≡ false
consumes_so true = refl
consumes_so false = refl

queued_so : (refusing : Option Refusal) (here : Bool)
    → is_wish (elim refusing as (λ _. Option Move) [ Some _ ↦ Some move.Refuse | None ↦ cond here (Some move.Consume) None ]) ≡ false
queued_so (Some why) here = refl
queued_so None here = consumes_so here

-- an end by itself makes none
by_itself : (k : ℕ) (port : PortState) (stage : TargetStage) → is_wish (move_at k port stage) ≡ false
by_itself k port (target.Offered i) = answers_so (answer_to true port)
by_itself k port (target.Posted i) = answers_so (answer_to false port)
by_itself k port (target.Postponed i) = queued_so port.refusing (is_at k (next_place port))
by_itself k port (target.Arrived i) = refl
by_itself k port (target.Hand i) = refl
by_itself k port _ = refl

wish_of : (wish : Move) (own other : Option Move) → is_wish (Some wish) ≡ true → is_wish own ≡ false → or_else own other ≡ Some wish
    → (own ≡ None) × (other ≡ Some wish)
wish_of wish (Some next) other is none e = absurd (let wrong : true ≡ false = sym is ∙ sym (ap is_wish e) ∙ none in cc)
wish_of wish None other is none e = (refl, e)

open_where : (k : ℕ) (port : PortState) (stage : TargetStage) → is_postponed stage ≡ true → move_at k port stage ≡ None
    → has_ended port.refusing ≡ false
open_where k port (target.Postponed i) waits none = by port.refusing refl none
  where
    by : (refusing : Option Refusal) → port.refusing ≡ refusing
        → elim refusing as (λ _. Option Move) [ Some _ ↦ Some move.Refuse | None ↦ cond (is_at k (next_place port)) (Some move.Consume) None ] ≡ None
        → has_ended port.refusing ≡ false
    by None is e = ap has_ended is
    by (Some why) is e = absurd (cc)
open_where k port _ waits none = absurd (cc)

module _ (p k : ℕ) (node : NodeState) where
  abbrev port : PortState
  port = port_at p node.block

  parts : (wish : Move) → is_wish (Some wish) ≡ true → MayWish wish p k node
      → (in_move k port ≡ None) × (round_move p k node.round node.block.ports ≡ Some wish)
  parts wish is may =
      wish_of wish (in_move k port) (round_move p k node.round node.block.ports) is (by_itself k port (port_stage k port)) may.next

  pub asks_so : MayWish move.Ask p k node → AsksNow p k node.round node.block.ports
  asks_so may = round_moves_tell.asks p k node.round node.block.ports may.port (parts move.Ask refl may).1

  pub claims_so : MayWish move.Claim p k node → ClaimsNow p k node.round node.block.ports
  claims_so may = round_moves_tell.claims p k node.round node.block.ports (parts move.Claim refl may).1

  pub releases_so : MayWish move.Release p k node → ReleasesNow p k node.round node.block.ports
  releases_so may = round_moves_tell.releases p k node.round node.block.ports (parts move.Release refl may).1

  pub asks_openly : MayWish move.Ask p k node → has_ended port.refusing ≡ false
  asks_openly may = open_where k port (port_stage k port) (asks_so may).waits (parts move.Ask refl may).0

-- and the round makes no other
held_only : (step : RoundStep) (all : Bool) (next : Move) → held_move step all ≡ Some next → is_wish (Some next) ≡ true
held_only steps.Asks true next e = ap is_wish (sym e)
held_only steps.Asks false next e = absurd (cc)
held_only steps.Releases all next e = ap is_wish (sym e)
held_only steps.Claims all next e = ap is_wish (sym e)

asked_only : (asks : Bool) (next : Move) → cond asks (Some move.Ask) None ≡ Some next → is_wish (Some next) ≡ true
asked_only true next e = ap is_wish (sym e)
asked_only false next e = absurd (cc)

moved_only : (round : RoundState) (port : PortState) (ports : List PortState) (stage : TargetStage) (next : Move)
    → move_by round port ports stage ≡ Some next → is_wish (Some next) ≡ true
moved_only round port ports (target.Postponed i) next e = asked_only (asks_for port round ports) next e
moved_only round port ports (target.Holding i) next e = held_only round.step (all_held ports) next e
moved_only round port ports _ next e = absurd (cc)

pub wishes_only : (p k : ℕ) (round : RoundState) (ports : List PortState) (next : Move) → round_move p k round ports ≡ Some next
    → is_wish (Some next) ≡ true
wishes_only p k round ports next e =
    by (reserves round && is_at k (first_of (port_in ports p).queue)) e
  where
    by : (here : Bool) → cond here (move_by round (port_in ports p) ports (front_stage (port_in ports p))) None ≡ Some next
        → is_wish (Some next) ≡ true
    by true e = moved_only round (port_in ports p) ports (front_stage (port_in ports p)) next e
    by false e = absurd (cc)

-- what is no wish is the end's own move
own_where : (own other : Option Move) (next : Move) → (other ≡ Some next → is_wish (Some next) ≡ true) → is_wish (Some next) ≡ false
    → or_else own other ≡ Some next → own ≡ Some next
own_where (Some move) other next wished none e = e
own_where None other next wished none e = absurd (let wrong : true ≡ false = sym (wished e) ∙ none in cc)

none_where : (own other : Option Move) → or_else own other ≡ None → own ≡ None
none_where (Some move) other e = absurd (cc)
none_where None other e = refl

none_after : (own other : Option Move) → or_else own other ≡ None → other ≡ None
none_after (Some move) other e = absurd (cc)
none_after None other e = e

pub no_round_move : (p k : ℕ) (node : NodeState) → next_in p k node ≡ None → round_move p k node.round node.block.ports ≡ None
no_round_move p k node e = none_after (in_move k (port_at p node.block)) (round_move p k node.round node.block.ports) e

-- a move for the round is that of the end in front
pub moves_in_front : (p k : ℕ) (round : RoundState) (ports : List PortState) (next : Move) → round_move p k round ports ≡ Some next
    → first_of (port_in ports p).queue ≡ Some k
moves_in_front p k round ports next e =
    by (reserves round) (first_of (port_in ports p).queue) e
  where
    at_place : (place : Option ℕ) → is_at k place ≡ true → place ≡ Some k
    at_place None at = absurd (cc)
    at_place (Some j) at = ap Some (eqb-true j k at)

    by : (some : Bool) (place : Option ℕ)
        → cond (some && is_at k place) (move_by round (port_in ports p) ports (front_stage (port_in ports p))) None ≡ Some next → place ≡ Some k
    by some place e = tested (some && is_at k place) refl e
      where
        tested : (here : Bool) → (some && is_at k place) ≡ here
            → cond here (move_by round (port_in ports p) ports (front_stage (port_in ports p))) None ≡ Some next → place ≡ Some k
        tested true is e = at_place place (and_parts some (is_at k place) is).1
        tested false is e = absurd (cc)

pub own_move : (p k : ℕ) (node : NodeState) (next : Move) → is_wish (Some next) ≡ false → next_in p k node ≡ Some next
    → in_move k (port_at p node.block) ≡ Some next
own_move p k node next none e =
    own_where (in_move k (port_at p node.block)) (round_move p k node.round node.block.ports) next
    (wishes_only p k node.round node.block.ports next) none e

pub no_own_move : (p k : ℕ) (node : NodeState) → next_in p k node ≡ None → in_move k (port_at p node.block) ≡ None
no_own_move p k node e = none_where (in_move k (port_at p node.block)) (round_move p k node.round node.block.ports) e
