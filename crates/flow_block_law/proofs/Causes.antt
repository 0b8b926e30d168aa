-- What a node in order does next has its cause.
use Rattle.std.proofs.Common.{◌≡◌, ◌≢◌, ℕ, ◌<◌, ◌≤◌, ◌==◌, ◌&&◌, ◌||◌, ◌⊎◌, inl, inr, cond, not, Bool, true, false, List, length, Option, Some, None, is_some, is_none, Result, refl, ap, sym, ◌∙◌, arith, eqb-true, eq-eqb}
use Rattle.std.proofs.lemmas.Bool.{and_parts, or_parts}
use Rattle.flow_value.specs.declared.value.Value.{Value}
use Rattle.flow_value.specs.declared.message.MessageStatus.{MessageStatus}
use Rattle.flow_value.specs.declared.message.MessageStatus.TheVariants as status
use Rattle.flow_link.specs.declared.phase.Move.{Move}
use Rattle.flow_link.specs.declared.phase.Move.TheVariants as move
use Rattle.flow_link.specs.declared.stage.Refusal.{Refusal}
use Rattle.flow_link.specs.declared.stage.Refusal.TheVariants.{PortEnded, OwnFault}
use Rattle.flow_link.specs.declared.stage.SourceStage.{SourceStage}
use Rattle.flow_link.specs.declared.stage.SourceStage.TheVariants.{Free, Waiting}
use Rattle.flow_link.specs.declared.stage.TargetStage.{TargetStage}
use Rattle.flow_link.specs.declared.stage.TargetStage.TheVariants as target
use Rattle.flow_link.specs.declared.trace.Outcome.{Outcome}
use Rattle.flow_link.specs.Layout.{Layout}
use Rattle.flow_intake.specs.Port.{PortState, stage_at as port_stage, has_room}
use Rattle.flow_intake.specs.Calls.{answer_to, move_of, move_at, is_at, next_place}
use Rattle.flow_intake.specs.PortLaw.{has_ended as has_port_ended}
use Rattle.flow_intake.specs.Profile.{TakesAtOnce}
use Rattle.flow_intake.specs.Ended.{first_some}
use Rattle.flow_intake.proofs.ProfileHolds.{answers_tell, oldest_first, room_adds_up}
use Rattle.flow_outlet.specs.End.{is_free, is_waiting, is_closed, is_over, is_cut, speaks_of, rejects}
use Rattle.flow_outlet.specs.Outlet.{OutletState, head_of, end_at, stage_at, end_of, is_renewing, may_offer, free_move, is_at as is_place, move_at as out_move_at, is_empty, is_at_rest}
use Rattle.flow_outlet.specs.Order.{StopsAt, IsNextOffer}
use Rattle.flow_outlet.specs.declared.ends.OutEnd.{OutEnd}
use Rattle.flow_outlet.proofs.HeadRenewed.{renewing_waits}
use Rattle.flow_outlet.proofs.OffersInOrder.{offers_in_order}
use Rattle.flow_block.specs.Block.{BlockState, port_at}
use Rattle.flow_block_law.specs.Causes.{MayRefuse, FaultsItself, FaultsInTime, OffersBefore, TakesBack, NextMovesHaveCauses}
use Rattle.flow_block.specs.Node.{NodeState}
use Rattle.flow_block_law.proofs.WishesTell.{own_move}
use Rattle.flow_block_law.specs.NodeLaw.{NodeLaw}
use Rattle.flow_spread.specs.Spread.{is_at_rest as is_spread_at_rest}
use Rattle.flow_block.specs.Peeks.{next_fault, is_worked_off, could_stop, nothing_comes, fault_at_ports, fault_cause, is_held_up}

-- a move that an answer is
answer_refuses : (answer : MessageStatus) → move_of answer ≡ Some move.Refuse → answer ≡ status.DecliningPermanently
answer_refuses status.DecliningPermanently e = refl
answer_refuses status.Accepted e = absurd (cc)
answer_refuses status.Declined e = absurd (cc)
answer_refuses status.Postponed e = absurd (cc)
answer_refuses status.NotAvailable e = absurd (cc)

answer_wants : (answer : MessageStatus) → move_of answer ≡ Some move.Want → answer ≡ status.Accepted
answer_wants status.Accepted e = refl
answer_wants status.DecliningPermanently e = absurd (cc)
answer_wants status.Declined e = absurd (cc)
answer_wants status.Postponed e = absurd (cc)
answer_wants status.NotAvailable e = absurd (cc)

answer_postpones : (answer : MessageStatus) → move_of answer ≡ Some move.Postpone → answer ≡ status.Postponed
answer_postpones status.Postponed e = refl
answer_postpones status.Accepted e = absurd (cc)
answer_postpones status.DecliningPermanently e = absurd (cc)
answer_postpones status.Declined e = absurd (cc)
answer_postpones status.NotAvailable e = absurd (cc)

answer_never_consumes : (answer : MessageStatus) → move_of answer ≡ Some move.Consume → ⊥
answer_never_consumes status.Accepted e = cc
answer_never_consumes status.Declined e = cc
answer_never_consumes status.Postponed e = cc
answer_never_consumes status.NotAvailable e = cc
answer_never_consumes status.DecliningPermanently e = cc

-- one end of a port
module _ (port : PortState) (k : ℕ) where
  queued_refuses : (refusing : Option Refusal) (b : Bool)
      → elim refusing [ Some _ ↦ Some move.Refuse | None ↦ cond b (Some move.Consume) None ] ≡ Some move.Refuse → is_some refusing ≡ true
  queued_refuses (Some why) b e = refl
  queued_refuses None true e = absurd (cc)
  queued_refuses None false e = absurd (cc)

  queued_consumes : (refusing : Option Refusal) (place : Option ℕ)
      → elim refusing [ Some _ ↦ Some move.Refuse | None ↦ cond (is_at k place) (Some move.Consume) None ] ≡ Some move.Consume → place ≡ Some k
  queued_consumes (Some why) place e = absurd (cc)
  queued_consumes None None e = absurd (cc)
  queued_consumes None (Some other) e = by_test (other == k) refl e
    where
      by_test : (b : Bool) → other == k ≡ b → cond b (Some move.Consume) None ≡ Some move.Consume → Some other ≡ Some k
      by_test true is e = ap Some (eqb-true other k is)
      by_test false is e = absurd (cc)

  queued_moves : (refusing : Option Refusal) (b : Bool) (next : Move) → next ≢ move.Refuse → next ≢ move.Consume
      → elim refusing [ Some _ ↦ Some move.Refuse | None ↦ cond b (Some move.Consume) None ] ≡ Some next → ⊥
  queued_moves (Some why) b next one other e = one (let same : move.Refuse ≡ next = cc in sym same)
  queued_moves None true next one other e = other (let same : move.Consume ≡ next = cc in sym same)
  queued_moves None false next one other e = cc

  -- it refuses only while it refuses all
  refuses_at : (stage : TargetStage) → move_at k port stage ≡ Some move.Refuse → is_some port.refusing ≡ true
  refuses_at (target.Offered i) e = (answers_tell.declining true port).0 (answer_refuses (answer_to true port) e)
  refuses_at (target.Posted i) e = (answers_tell.declining false port).0 (answer_refuses (answer_to false port) e)
  refuses_at (target.Postponed i) e = queued_refuses port.refusing (is_at k (next_place port)) e
  refuses_at (target.Arrived i) e = absurd (cc)
  refuses_at (target.Hand i) e = absurd (cc)
  refuses_at _ e = absurd (cc)

  wants_at : (stage : TargetStage) → move_at k port stage ≡ Some move.Want → has_room port ≡ true
  wants_at (target.Offered i) e = ((answers_tell.accepted true port).0 (answer_wants (answer_to true port) e)).room
  wants_at (target.Posted i) e = ((answers_tell.accepted false port).0 (answer_wants (answer_to false port) e)).room
  wants_at (target.Postponed i) e = absurd (queued_moves port.refusing (is_at k (next_place port)) move.Want (λ same. cc) (λ same. cc) e)
  wants_at (target.Arrived i) e = absurd (cc)
  wants_at (target.Hand i) e = absurd (cc)
  wants_at _ e = absurd (cc)

  consumes_at : (stage : TargetStage) → move_at k port stage ≡ Some move.Consume → next_place port ≡ Some k
  consumes_at (target.Postponed i) e = queued_consumes port.refusing (next_place port) e
  consumes_at (target.Offered i) e = absurd (answer_never_consumes (answer_to true port) e)
  consumes_at (target.Posted i) e = absurd (answer_never_consumes (answer_to false port) e)
  consumes_at (target.Arrived i) e = absurd (cc)
  consumes_at (target.Hand i) e = absurd (cc)
  consumes_at _ e = absurd (cc)

postpones_at : (port : PortState) (k : ℕ) (stage : TargetStage) → move_at k port stage ≡ Some move.Postpone → ¬ TakesAtOnce port
postpones_at port k (target.Offered i) e takes =
    let put_off = answer_postpones (answer_to true port) e in
    let accepts = (answers_tell.accepted true port).1 takes in
    let wrong : status.Postponed ≡ status.Accepted = sym put_off ∙ accepts in
    cc
postpones_at port k (target.Posted i) e takes =
    let put_off = answer_postpones (answer_to false port) e in
    let accepts = (answers_tell.accepted false port).1 takes in
    let wrong : status.Postponed ≡ status.Accepted = sym put_off ∙ accepts in
    cc
postpones_at port k (target.Postponed i) e takes = queued_moves port k port.refusing (is_at k (next_place port)) move.Postpone (λ same. cc) (λ same. cc) e
postpones_at port k (target.Arrived i) e takes = cc
postpones_at port k (target.Hand i) e takes = cc
postpones_at port k _ e takes = cc

-- a place at which the head may be offered

not_later : (j k : ℕ) → (k < j → ⊥) → j ≤ k
not_later j k never = elim (le_or_lt j k) [ inl before ↦ before | inr later ↦ absurd (never later) ]
  where
    le_or_lt : (j k : ℕ) → (j ≤ k) ⊎ (k < j)
    le_or_lt j k = grind arith

free_moves : (o : OutletState) (stopped : Option Outcome) (up : Bool) (k : ℕ) (stage : SourceStage) → is_free stage ≡ true
    → out_move_at o k stopped up stage ≡ free_move o k (end_of (end_at o k) stopped)
free_moves o stopped up k Free e = refl
free_moves o stopped up k _ e = absurd (cc)

not_due : (end : OutEnd) (stopped : Option Outcome) (cut : Bool) → is_cut end ≡ cut → cut ≡ false → stopped ≡ None → end_of end stopped ≡ None
not_due end stopped cut is goes going = rw (is ∙ goes, going) refl

offers_there : (o : OutletState) (stopped : Option Outcome) (up : Bool) (k : ℕ) → IsNextOffer o k → stopped ≡ None → may_offer o ≡ Some k
    → out_move_at o k stopped up (stage_at o k) ≡ Some (move.Offer o.next)
offers_there o stopped up k next going may =
    let open_end = (or_parts (is_closed (end_at o k)) (speaks_of o.next (stage_at o k)) (first_false next.stops)).0 in
    let uncut = (or_parts (is_over (end_at o k).stage) (is_cut (end_at o k)) open_end).1 in
    let same = not_due (end_at o k) stopped (is_cut (end_at o k)) refl uncut going in
    free_moves o stopped up k (stage_at o k) next.free
    ∙ ap (free_move o k) same
    ∙ ap (λ (place : Option ℕ). cond (is_place place k) (Some (move.Offer o.next)) None) may
    ∙ ap (λ (b : Bool). cond b (Some (move.Offer o.next)) None) (eq-eqb k k refl)
  where
    first_false : StopsAt o k → is_closed (end_at o k) || speaks_of o.next (stage_at o k) ≡ false
    first_false stops =
        let two = or_parts (is_closed (end_at o k) || speaks_of o.next (stage_at o k) || (end_at o k).declined == o.next) (rejects (end_at o k).rule.when (head_of o)) stops in
        (or_parts (is_closed (end_at o k) || speaks_of o.next (stage_at o k)) ((end_at o k).declined == o.next) two.0).0

taken_back : (up renewing other : Bool) → renewing ≡ true → cond (up || renewing || other) (Some move.Withdraw) None ≡ Some move.Withdraw
taken_back true renewing other e = refl
taken_back false true other e = refl
taken_back false false other e = absurd (cc)

-- what waits is taken back where the head is to be offered anew
withdraws_there : (o : OutletState) (stopped : Option Outcome) (up : Bool) (k : ℕ) (stage : SourceStage) → is_waiting stage ≡ true
    → o.renewing ≡ true → out_move_at o k stopped up stage ≡ Some move.Withdraw
withdraws_there o stopped up k (Waiting i) waits e = taken_back up o.renewing (not (i == o.next)) e
withdraws_there o stopped up k _ waits e = absurd (cc)

module _ {W : Type 0} (layout : Layout W) (meaning : ℕ → Value → Result (List Value) ℕ) (b : ℕ) (node : NodeState) (law : NodeLaw layout meaning b node) where
  -- the fault that is known is that of its own function
  own_cause : (fault : Option ℕ) → node.block.fault ≡ fault → is_some fault ≡ true → (number : ℕ) × FaultsItself layout meaning b node number
  own_cause (Some number) is there = (number, law.makes.fault_is number is)
  own_cause None is there = absurd (cc)

  refuses_for : (p : ℕ) → p < length node.block.ports → (refusing : Option Refusal) → (port_at p node.block).refusing ≡ refusing → is_some refusing ≡ true
      → MayRefuse layout meaning b node p
  refuses_for p here None is there = absurd (cc)
  refuses_for p here (Some PortEnded) is there = inl (sym (law.ends.ended_is p here) ∙ ap has_port_ended is)
  refuses_for p here (Some OwnFault) is there = inr (own_cause node.block.fault refl (law.ends.own_fault p here is))

  -- a fault that could be next
  caused : (fault seen : Option ℕ) (nothing : Bool) (number : ℕ) → node.block.fault ≡ fault → is_worked_off node.block ≡ nothing
      → first_some fault (cond nothing seen None) ≡ Some number → FaultsItself layout meaning b node number ⊎ (is_worked_off node.block ≡ true)
  caused (Some own) seen nothing number is held e =
      let same : own ≡ number = cc in
      inl (law.makes.fault_is number (is ∙ ap Some same))
  caused None seen true number is held e = inr held
  caused None seen false number is held e = absurd (cc)

  in_time : (stops rests : Bool) (number : ℕ) → could_stop node.block ≡ stops → is_at_rest node.block.exits ≡ rests
      → cond (stops && rests) (fault_cause node.block) None ≡ Some number → FaultsInTime layout meaning b node number
  in_time true true number stops rests e = record {
    none_comes = (and_parts (is_none node.block.stopped) (nothing_comes node.block.ports) stops).1;
    none_away = rests;
    cause = caused node.block.fault (fault_at_ports node.block.ports) (is_worked_off node.block) number refl refl e;
  }
  in_time true false number stops rests e = absurd (cc)
  in_time false rests number stops is e = absurd (cc)

  offers_or : (k : ℕ) → k < length node.block.exits.ends → node.block.stopped ≡ None → is_empty node.block.exits.left ≡ false
      → node.block.exits.offer ≡ None → is_renewing node.block.exits ≡ false → StopsAt node.block.exits k → (place : Option ℕ)
      → may_offer node.block.exits ≡ place → OffersBefore layout meaning b node k
  offers_or k here going left none back stops (Some j) may =
      let next = (offers_in_order.named node.block.exits j).0 may in
      record {
        place = j;
        before = not_later j k (λ later. let wrong : true ≡ false = sym (next.earlier k later) ∙ stops in cc);
        goes_on = inl (offers_there node.block.exits node.block.stopped (is_held_up node.block) j next going may);
      }
  offers_or k here going left none back stops None may =
      let held = offers_in_order.none node.block.exits may left none back k here stops in
      record { place = held.place; before = held.before; goes_on = inr held.busy }

  takes_back : is_renewing node.block.exits ≡ true → TakesBack layout meaning b node
  takes_back e =
      let o = node.block.exits in
      let at = renewing_waits o e in
      record {
        place = at.place;
        there = at.there;
        goes_on = withdraws_there o node.block.stopped (is_held_up node.block) at.place (stage_at o at.place) at.waits at.renewing;
      }

  offers_where : (k : ℕ) → k < length node.block.exits.ends → node.block.stopped ≡ None → is_empty node.block.exits.left ≡ false
      → node.block.exits.offer ≡ None → StopsAt node.block.exits k → (back : Bool) → is_renewing node.block.exits ≡ back
      → OffersBefore layout meaning b node k ⊎ TakesBack layout meaning b node
  offers_where k here going left none stops true is = inr (takes_back is)
  offers_where k here going left none stops false is =
      inl (offers_or k here going left none is stops (may_offer node.block.exits) refl)

rests_out : (stops rests copied : Bool) (cause : Option ℕ) (number : ℕ) → cond (stops && (rests && copied)) cause None ≡ Some number
    → cond (stops && rests) cause None ≡ Some number
rests_out true true true cause number e = e
rests_out true true false cause number e = absurd (cc)
rests_out true false copied cause number e = absurd (cc)
rests_out false rests copied cause number e = absurd (cc)

at_rest_out : (block : BlockState) (number : ℕ) → next_fault block ≡ Some number
    → cond (could_stop block && is_at_rest block.exits) (fault_cause block) None ≡ Some number
at_rest_out block number e = rests_out (could_stop block) (is_at_rest block.exits) (is_spread_at_rest block.copies) (fault_cause block) number e

pub next_moves_have_causes : (W : Type 0) → NextMovesHaveCauses W
next_moves_have_causes W layout meaning b node law = record {
  refuses = λ p k here there e. refuses_for layout meaning b node law p here (port_at p node.block).refusing refl (refuses_at (port_at p node.block) k (port_stage k (port_at p node.block)) (own_move p k node move.Refuse refl e));
  puts_off = λ p k e. postpones_at (port_at p node.block) k (port_stage k (port_at p node.block)) (own_move p k node move.Postpone refl e);
  takes = λ p k capacity is e. (room_adds_up.room (port_at p node.block) capacity is).0 (wants_at (port_at p node.block) k (port_stage k (port_at p node.block)) (own_move p k node move.Want refl e));
  consumes = λ p k capacity is e.
      (room_adds_up.room (port_at p node.block) capacity is).0
      (oldest_first.oldest (port_at p node.block) k (consumes_at (port_at p node.block) k (port_stage k (port_at p node.block)) (own_move p k node move.Consume refl e))).0.room;
  oldest = λ p k e. (oldest_first.oldest (port_at p node.block) k (consumes_at (port_at p node.block) k (port_stage k (port_at p node.block)) (own_move p k node move.Consume refl e))).1;
  faults = λ number e. in_time layout meaning b node law (could_stop node.block) (is_at_rest node.block.exits) number refl refl (at_rest_out node.block number e);
  offers = λ k here going left none stops. offers_where layout meaning b node law k here going left none stops (is_renewing node.block.exits) refl;
}
