-- What an end of a link would do next is a move that the link's phase allows.
use Rattle.std.proofs.Common.{◌≡◌, ℕ, ◌==◌, ◌||◌, ◌&&◌, not, cond, Bool, true, false, List, Option, Some, None, is_some, refl, ap, sym, ◌∙◌, subst, eqb-true}
use Rattle.std.proofs.lemmas.Bool.{not-true, and_parts}
use Rattle.flow_value.specs.declared.value.Value.{Value}
use Rattle.flow_value.specs.declared.message.MessageStatus.{MessageStatus}
use Rattle.flow_value.specs.declared.message.MessageStatus.TheVariants as status
use Rattle.flow_link.specs.declared.phase.LinkEnd.{LinkEnd}
use Rattle.flow_link.specs.declared.phase.Phase.{Phase}
use Rattle.flow_link.specs.declared.phase.Phase.TheVariants.{Given, Opened}
use Rattle.flow_link.specs.declared.phase.Move.{Move}
use Rattle.flow_link.specs.declared.phase.Move.TheVariants as move
use Rattle.flow_link.specs.declared.plan.LinkSource.{LinkSource}
use Rattle.flow_link.specs.declared.plan.LinkSource.TheVariants.{Block, Input}
use Rattle.flow_link.specs.declared.plan.LinkTarget.{LinkTarget}
use Rattle.flow_link.specs.declared.plan.LinkTarget.TheVariants.{Port, Exit}
use Rattle.flow_link.specs.declared.stage.Refusal.{Refusal}
use Rattle.flow_link.specs.declared.stage.SourceStage.{SourceStage as SourceKept}
use Rattle.flow_link.specs.declared.stage.SourceStage.TheVariants as source
use Rattle.flow_link.specs.declared.stage.TargetStage.{TargetStage as TargetKept}
use Rattle.flow_link.specs.declared.stage.TargetStage.TheVariants as target
use Rattle.flow_link.specs.Layout.{Layout}
use Rattle.flow_link.specs.declared.trace.Outcome.{Outcome}
use Rattle.flow_link.specs.Lists.{is_empty}
use Rattle.flow_link.specs.LooksKeep.{SeenAt}
use Rattle.flow_link.specs.Phase.{phase_after}
use Rattle.flow_link.specs.Plan.{link_in, is_one_taker}
use Rattle.flow_link.specs.Stage.{source_stage_of, target_stage_of}
use Rattle.flow_link.specs.Views.{SourceStage, SourceView, TargetStage}
use Rattle.flow_link.proofs.LooksKeepOrder.{looks_keep}
use Rattle.flow_intake.specs.Port.{PortState, stage_at as port_stage, hand_in, has_room}
use Rattle.flow_intake.specs.Calls.{first_of, in_move, move_of, move_at as in_move_at, is_at as is_queued_at, next_place, answer_where}
use Rattle.flow_outlet.specs.Outlet.{OutletState, stage_at, end_at, end_of, has_offer_out, answers_wish, free_move, is_at, may_offer, move_at as out_move_at}
use Rattle.flow_block.specs.Block.{port_at}
use Rattle.flow_input.specs.Input.{InputState, move_from, end_move, end_by, has_next, next_id}
use Rattle.flow_spread.specs.Spread.{SpreadState, link_at, stage_at as copy_stage, may_offer as may_offer_copy, free_move as free_copy_move, move_at as copy_move_at}
use Rattle.flow_block_law.specs.NextCopies.{next_copy}
use Rattle.flow_block_law.specs.NextMoves.{next_out}
use Rattle.flow_group.specs.declared.round.RoundStep.{RoundStep}
use Rattle.flow_group.specs.declared.round.RoundStep.TheVariants as steps
use Rattle.flow_group.specs.Round.{RoundState, reserves, all_held, asks_for, held_move, move_by, stage_from, round_move}
use Rattle.flow_block.specs.Node.{or_else, out_view, copy_view}
use Rattle.flow_block.specs.Peeks.{is_held_up, is_copy_held_up}
use Rattle.flow_block.specs.Planned.{in_place, out_place}
use Rattle.flow_exit.specs.Exit.{exit_move_at, wants_one}
use Rattle.flow_core.specs.Events.{is_of_source, peek_by, source_peek, target_peek}
use Rattle.flow_core.specs.State.{NetState, node_at, line_at, input_at, exit_at, ends_of, source_from, target_from}
use Rattle.flow_core.specs.Statements.{NextIsAllowed}
use Rattle.flow_core.proofs.StagesShow.{source_shows, source_shown, target_shows, target_shown}

abbrev is_allowed : Phase → Move → Bool
is_allowed phase next = is_some (phase_after phase next)

-- a next move, if there is one, is the end's own, and one that the phase allows which it has seen
abbrev source_fits : SourceStage → Option Move → Bool
source_fits s None = true
source_fits s (Some next) = is_allowed (source_shows s) next && is_of_source next

abbrev target_fits : TargetStage Value → Option Move → Bool
target_fits t None = true
target_fits t (Some next) = is_allowed (target_shows t) next && not (is_of_source next)

-- an outlet's end, and an input, make only such moves
either : (test : Option Move → Bool) (b : Bool) (one other : Option Move) → test one ≡ true → test other ≡ true
    → test (cond b one other) ≡ true
either test true one other a c = a
either test false one other a c = c

answer_fits : (s : SourceStage) (so : Move) (b : Bool) → source_fits s (Some so) ≡ true → source_fits s (Some move.Deny) ≡ true
    → source_fits s (Some (cond b so move.Deny)) ≡ true
answer_fits s so true fits denies = fits
answer_fits s so false fits denies = denies

wish_fits : (s : SourceStage) (so : Move) (i : ℕ) (o : OutletState) → source_fits s (Some so) ≡ true
    → source_fits s (Some move.Deny) ≡ true → source_fits s (answers_wish so i o) ≡ true
wish_fits s so i o fits denies =
    let is_there = i == o.next && not (is_some o.offer) in
    either (source_fits s) (has_offer_out o) None (Some (cond is_there so move.Deny)) refl (answer_fits s so is_there fits denies)

free_fits : (o : OutletState) (k : ℕ) (how : Option LinkEnd) → source_fits SourceStage.free (free_move o k how) ≡ true
free_fits o k (Some how) = refl
free_fits o k None =
    either (source_fits SourceStage.free) (is_at (may_offer o) k) (Some (move.Offer o.next)) None refl refl

out_fits : (o : OutletState) (k : ℕ) (stopped : Option Outcome) (up : Bool) (stage : SourceKept)
    → source_fits (source_stage_of stage) (out_move_at o k stopped up stage) ≡ true
out_fits o k stopped up source.Free = free_fits o k (end_of (end_at o k) stopped)
out_fits o k stopped up (source.Accepted i) = refl
out_fits o k stopped up (source.Claimed i) = refl
out_fits o k stopped up (source.Wished i) = wish_fits (SourceStage.wished i) move.Give i o refl refl
out_fits o k stopped up (source.AskedBy i) = wish_fits (SourceStage.asked_by i) move.Hold i o refl refl
out_fits o k stopped up (source.Waiting i) =
    either (source_fits (SourceStage.waiting i)) (up || o.renewing || not (i == o.next)) (Some move.Withdraw) None refl refl
out_fits o k stopped up _ = refl

-- so does an end over which copies go
copy_free_fits : (s : SpreadState) (k : ℕ) (how : Option LinkEnd) → source_fits SourceStage.free (free_copy_move s k how) ≡ true
copy_free_fits s k (Some how) = refl
copy_free_fits s k None =
    either (source_fits SourceStage.free) (may_offer_copy k s) (Some (move.Offer s.id)) None refl refl

copy_fits : (s : SpreadState) (k : ℕ) (stopped : Option Outcome) (up : Bool) (stage : SourceKept)
    → source_fits (source_stage_of stage) (copy_move_at s k stopped up stage) ≡ true
copy_fits s k stopped up source.Free = copy_free_fits s k (end_of (link_at s k) stopped)
copy_fits s k stopped up (source.Accepted i) = refl
copy_fits s k stopped up (source.Wished i) = refl
copy_fits s k stopped up (source.Claimed i) = refl
copy_fits s k stopped up (source.AskedBy i) = refl
copy_fits s k stopped up (source.Waiting i) =
    either (source_fits (SourceStage.waiting i)) up (Some move.Withdraw) None refl refl
copy_fits s k stopped up _ = refl

fits_by : (sharing : Bool) (one other : SourceView Value) (first second : Option Move) → source_fits one.stage first ≡ true
    → source_fits other.stage second ≡ true → source_fits (cond sharing one other).stage (cond sharing first second) ≡ true
fits_by true one other first second fits also = fits
fits_by false one other first second fits also = also

end_fits : (how : Option LinkEnd) → source_fits SourceStage.free (end_move how) ≡ true
end_fits None = refl
end_fits (Some how) = refl

input_fits : (input : InputState) (stage : SourceKept)
    → source_fits (source_stage_of stage) (move_from input stage) ≡ true
input_fits input source.Free =
    either (source_fits SourceStage.free) (has_next input) (Some (move.Offer (next_id input)))
    (end_move (end_by input.ending)) refl (end_fits (end_by input.ending))
input_fits input (source.Accepted i) = refl
input_fits input (source.Wished i) = refl
input_fits input _ = refl

-- so does a port's end
reply_fits : (t : TargetStage Value) (put_off : MessageStatus) → target_fits t (move_of put_off) ≡ true
    → target_fits t (Some move.Want) ≡ true → target_fits t (Some move.Refuse) ≡ true
    → (refusing : Option Refusal) (reserves free : Bool)
    → target_fits t (move_of (answer_where refusing reserves free put_off)) ≡ true
reply_fits t put_off puts_off wants refuses (Some why) reserves free = refuses
reply_fits t put_off puts_off wants refuses None true free = puts_off
reply_fits t put_off puts_off wants refuses None false true = wants
reply_fits t put_off puts_off wants refuses None false false = puts_off

queued_fits : (i : ℕ) (refusing : Option Refusal) (b : Bool)
    → target_fits (TargetStage.postponed i)
    (elim refusing [ Some _ ↦ Some move.Refuse | None ↦ cond b (Some move.Consume) None ]) ≡ true
queued_fits i (Some why) b = refl
queued_fits i None b = either (target_fits (TargetStage.postponed i)) b (Some move.Consume) None refl refl

in_fits : (k : ℕ) (port : PortState) (stage : TargetKept) (hand : Option Value)
    → target_fits (target_stage_of stage hand) (in_move_at k port stage) ≡ true
in_fits k port (target.Offered i) hand =
    reply_fits (TargetStage.offered i) status.Postponed refl refl refl port.refusing port.reserves
    (has_room port && is_empty port.queue)
in_fits k port (target.Posted i) hand =
    reply_fits (TargetStage.posted i) status.Declined refl refl refl port.refusing port.reserves
    (has_room port && is_empty port.queue)
in_fits k port (target.Postponed i) hand = queued_fits i port.refusing (is_queued_at k (next_place port))
in_fits k port (target.Arrived i) hand = refl
in_fits k port (target.Hand i) hand = refl
in_fits k port _ hand = refl

-- so does the end of a link out of the network
exit_fits : (wants : Bool) (stage : TargetKept) (hand : Option Value)
    → target_fits (target_stage_of stage hand) (exit_move_at wants stage) ≡ true
exit_fits true (target.Offered i) hand = refl
exit_fits false (target.Offered i) hand = refl
exit_fits true (target.Posted i) hand = refl
exit_fits false (target.Posted i) hand = refl
exit_fits true (target.Postponed i) hand = refl
exit_fits false (target.Postponed i) hand = refl
exit_fits wants (target.Arrived i) hand = refl
exit_fits wants (target.Hand i) hand = refl
exit_fits wants _ hand = refl

-- so does the end of a join that reserves, for its round
held_fits : (i : ℕ) (step : RoundStep) (all : Bool) → target_fits (TargetStage.holding i) (held_move step all) ≡ true
held_fits i steps.Asks true = refl
held_fits i steps.Asks false = refl
held_fits i steps.Releases all = refl
held_fits i steps.Claims all = refl

moved_fits : (round : RoundState) (port : PortState) (ports : List PortState) (stage : TargetKept) (hand : Option Value)
    → target_fits (target_stage_of stage hand) (move_by round port ports stage) ≡ true
moved_fits round port ports (target.Postponed i) hand =
    either (target_fits (TargetStage.postponed i)) (asks_for port round ports) (Some move.Ask) None refl refl
moved_fits round port ports (target.Holding i) hand = held_fits i round.step (all_held ports)
moved_fits round port ports _ hand = refl

not_here : (some : Bool) → (some && false) ≡ false
not_here true = refl
not_here false = refl

front_fits : (k : ℕ) (round : RoundState) (ports : List PortState) (port : PortState) (place : Option ℕ)
    → target_fits (target_stage_of (port_stage k port) (hand_in k port.ends))
    (cond (reserves round && is_queued_at k place) (move_by round port ports (stage_from place port)) None) ≡ true
front_fits k round ports port None =
    either (target_fits (target_stage_of (port_stage k port) (hand_in k port.ends))) (reserves round && false)
    (move_by round port ports (stage_from None port)) None refl refl
front_fits k round ports port (Some front) = by (front == k) refl
  where
    by : (b : Bool) → front == k ≡ b
        → target_fits (target_stage_of (port_stage k port) (hand_in k port.ends))
        (cond (reserves round && front == k) (move_by round port ports (stage_from (Some front) port)) None) ≡ true
    by true same =
        let is : front ≡ k = eqb-true front k same in
        subst (λ (n : ℕ).
        target_fits (target_stage_of (port_stage k port) (hand_in k port.ends))
        (cond (reserves round && front == k) (move_by round port ports (port_stage n port)) None) ≡ true) (sym is)
        (either (target_fits (target_stage_of (port_stage k port) (hand_in k port.ends))) (reserves round && front == k)
        (move_by round port ports (port_stage k port)) None (moved_fits round port ports (port_stage k port) (hand_in k port.ends)) refl)
    by false other = rw (other, not_here (reserves round)) refl

else_fits : (t : TargetStage Value) (own other : Option Move) → target_fits t own ≡ true → target_fits t other ≡ true
    → target_fits t (or_else own other) ≡ true
else_fits t (Some next) other fits also = fits
else_fits t None other fits also = also

-- the phase that both ends have seen allows it too: a source has no move while its message crosses
source_may : (next : Move) (phase : Phase) (s : SourceStage) (t : TargetStage Value) → SeenAt phase s t
    → source_fits s (Some next) ≡ (is_allowed phase next && is_of_source next)
source_may next phase s t seen =
    source_shown (λ at. is_allowed at next && is_of_source next) (given_alike next) (opened_alike next) phase s t seen
  where
    given_alike : (next : Move) (i : ℕ)
        → (is_allowed (Given 0) next && is_of_source next) ≡ (is_allowed (Given i) next && is_of_source next)
    given_alike move.Open i = refl
    given_alike _ i = refl

    opened_alike : (next : Move) (i : ℕ)
        → (is_allowed (Given 0) next && is_of_source next) ≡ (is_allowed (Opened i) next && is_of_source next)
    opened_alike move.Open i = refl
    opened_alike move.Close i = refl
    opened_alike _ i = refl

target_may : (next : Move) (phase : Phase) (s : SourceStage) (t : TargetStage Value) → SeenAt phase s t
    → target_fits t (Some next) ≡ (is_allowed phase next && not (is_of_source next))
target_may next phase s t seen =
    ap (λ (at : Phase). is_allowed at next && not (is_of_source next)) (target_shown phase s t seen)

-- the two ends of a link
module _ {W : Type 0} (layout : Layout W) (net : NetState) (l : ℕ) where
  source_peek_fits : (from : LinkSource)
      → source_fits (source_from layout net l from).stage (source_peek layout net l from) ≡ true
  source_peek_fits (Block s) =
      let node = node_at net s in
      let k = out_place layout s l in
      fits_by (is_one_taker node.block.kind) (out_view k node) (copy_view k node) (next_out k node) (next_copy k node)
      (out_fits node.block.exits k node.block.stopped (is_held_up node.block) (stage_at node.block.exits k))
      (copy_fits node.block.copies k node.block.stopped (is_copy_held_up node.block) (copy_stage node.block.copies k))
  source_peek_fits (Input b) = input_fits (input_at layout net b) (input_at layout net b).stage

  target_peek_fits : (into : LinkTarget)
      → target_fits (target_from layout net l into).stage (target_peek layout net l into) ≡ true
  target_peek_fits (Port t p) =
      let node = node_at net t in
      let port = port_at p node.block in
      let k = in_place layout t p l in
      let stage = target_stage_of (port_stage k port) (hand_in k port.ends) in
      else_fits stage (in_move k port) (round_move p k node.round node.block.ports)
      (in_fits k port (port_stage k port) (hand_in k port.ends))
      (front_fits k node.round node.block.ports port (first_of port.queue))
  target_peek_fits Exit =
      let exit = exit_at layout net l in
      exit_fits (wants_one exit) exit.stage exit.hand

  abbrev source_stage : SourceStage
  source_stage = (ends_of layout net l).source.stage

  abbrev target_stage : TargetStage Value
  target_stage = (ends_of layout net l).target.stage

  source_next_fits : (next : Move) → source_peek layout net l (link_in layout.links l).source ≡ Some next
      → source_fits source_stage (Some next) ≡ true
  source_next_fits next peek =
      sym (ap (source_fits source_stage) peek) ∙ source_peek_fits (link_in layout.links l).source

  target_next_fits : (next : Move) → target_peek layout net l (link_in layout.links l).target ≡ Some next
      → target_fits target_stage (Some next) ≡ true
  target_next_fits next peek =
      sym (ap (target_fits target_stage) peek) ∙ target_peek_fits (link_in layout.links l).target

  -- the next move of an end tells whose it is
  pub of_source : (next : Move) → source_peek layout net l (link_in layout.links l).source ≡ Some next
      → is_of_source next ≡ true
  of_source next peek =
      (and_parts (is_allowed (source_shows source_stage) next) (is_of_source next) (source_next_fits next peek)).1

  pub of_target : (next : Move) → target_peek layout net l (link_in layout.links l).target ≡ Some next
      → is_of_source next ≡ false
  of_target next peek =
      let both = and_parts (is_allowed (target_shows target_stage) next) (not (is_of_source next))
      (target_next_fits next peek) in
      not-true (is_of_source next) both.1

  by_owner : (b : Bool) (next : Move) → SeenAt (line_at net l).phase source_stage target_stage
      → peek_by layout b net l (link_in layout.links l) ≡ Some next
      → is_allowed (line_at net l).phase next ≡ true
  by_owner true next seen peek =
      let phase = (line_at net l).phase in
      (and_parts (is_allowed phase next) (is_of_source next)
      (sym (source_may next phase source_stage target_stage seen) ∙ source_next_fits next peek)).0
  by_owner false next seen peek =
      let phase = (line_at net l).phase in
      (and_parts (is_allowed phase next) (not (is_of_source next))
      (sym (target_may next phase source_stage target_stage seen) ∙ target_next_fits next peek)).0

pub next_is_allowed : {W : Type 0} → NextIsAllowed W
next_is_allowed layout meaning runs net l next keeps there peek =
    let line = keeps.lines l there in
    let seen = (looks_keep Value).seen_tells _ _ _ _ _ line.in_order line.seen in
    by_owner layout net l (is_of_source next) next seen peek
