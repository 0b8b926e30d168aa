-- What an end of a link would do next where it takes a message at once, and what its stage tells of that.
use Rattle.std.proofs.Common.{◌≡◌, ℕ, ◌+◌, ◌<◌, Bool, true, ◌&&◌, length, List, Option, Some, refl, sym, ap, ◌∙◌}
use Rattle.std.proofs.lemmas.Bool.{and_parts}
use Rattle.std.proofs.lemmas.List.{get_or-set_same}
use Rattle.flow_value.specs.declared.value.Value.{Value}
use Rattle.flow_value.specs.declared.message.MessageStatus.{MessageStatus}
use Rattle.flow_value.specs.declared.message.MessageStatus.TheVariants as status
use Rattle.flow_link.specs.declared.phase.Move.TheVariants.{Want, Give, Open, Close}
use Rattle.flow_link.specs.declared.phase.Phase.TheVariants.{Offered, Wanted}
use Rattle.flow_link.specs.declared.stage.SourceStage.{SourceStage}
use Rattle.flow_link.specs.declared.stage.SourceStage.TheVariants as source
use Rattle.flow_link.specs.declared.stage.TargetStage.{TargetStage}
use Rattle.flow_link.specs.declared.stage.TargetStage.TheVariants as target
use Rattle.flow_link.specs.declared.trace.Outcome.{Outcome}
use Rattle.flow_link.specs.Lists.{is_empty}
use Rattle.flow_link.specs.Stage.{source_stage_of, target_stage_of, source_looks, target_looks}
use Rattle.flow_link.specs.Views.{SourceStage as SourceSeen, TargetStage as TargetSeen}
use Rattle.flow_intake.specs.Port.{EndState, PortState, fresh_end, end_in, stage_at, is_hand, is_coming, coming, is_below, has_room}
use Rattle.flow_intake.specs.Calls.{is_arrived, answer_to, answer_where, move_of, move_at, in_move, looks, queue_after}
use Rattle.flow_intake.specs.Receives.{is_accepted, takes_at_once}
use Rattle.flow_intake.specs.ByLink.{is_free}
use Rattle.flow_exit.specs.Exit.{exit_move_at}
use Rattle.flow_intake.proofs.CountsOfEnds.{count_same}
use Rattle.flow_intake.proofs.ReceivesAtOnce.{takes_tells}
use Rattle.flow_outlet.specs.Outlet.{OutletState, end_at, stage_at as out_stage_at, out_move, move_at as out_move_at, looks as out_looks}
use Rattle.flow_outlet.specs.End.{no_end}
use Rattle.flow_spread.specs.declared.end.CopyEnd.{CopyEnd}
use Rattle.flow_spread.specs.End.{no_end as no_copy_end}
use Rattle.flow_spread.specs.Spread.{SpreadState, stage_at as copy_stage_at, looks as copy_looks, out_move as copy_move, move_at as copy_move_at}

-- A target that takes a message at once wants it when it is offered

accepted_moves : (answer : MessageStatus) → is_accepted answer ≡ true → move_of answer ≡ Some Want
accepted_moves status.Accepted is = refl
accepted_moves status.Declined is = absurd (cc)
accepted_moves status.Postponed is = absurd (cc)
accepted_moves status.NotAvailable is = absurd (cc)
accepted_moves status.DecliningPermanently is = absurd (cc)

pub still_accepts : (k i : ℕ) (port : PortState) → k < length port.ends → takes_at_once k port ≡ true
    → in_move k (looks k (Offered i) port) ≡ Some Want
still_accepts k i port there takes =
    let tells = takes_tells k port takes in
    let accepted = (and_parts (is_free (stage_at k port)) (is_accepted (answer_to true port)) takes).1 in
    let after = target_looks (stage_at k port) (Offered i) in
    let end = end_in k port.ends in
    let seen = looks k (Offered i) port in
    let offered : after ≡ target.Offered i = ap (λ (stage : TargetStage). target_looks stage (Offered i)) tells.free in
    let stands : stage_at k seen ≡ target.Offered i =
    ap (λ (e : EndState). e.stage) (get_or-set_same port.ends k (record end { stage = after }) (fresh_end 0) there) ∙ offered in
    let nobody : seen.queue ≡ port.queue =
    ap (λ (stage : TargetStage). queue_after stage k port.queue) offered
    ∙ ap (λ (queue : List ℕ). queue_after (target.Offered i) k queue) tells.empty
    ∙ sym tells.empty in
    let as_many : coming seen ≡ coming port =
    count_same is_coming port.ends k (record end { stage = after }) there (ap is_coming tells.free ∙ sym (ap is_coming offered)) in
    let free : (has_room seen && is_empty seen.queue) ≡ (has_room port && is_empty port.queue) =
    ap (λ (count : ℕ). is_below (port.load + count) port.capacity && is_empty seen.queue) as_many
    ∙ ap (λ (queue : List ℕ). has_room port && is_empty queue) nobody in
    ap (λ (stage : TargetStage). move_at k seen stage) stands
    ∙ ap (λ (is : Bool). move_of (answer_where port.refusing port.reserves is status.Postponed)) free
    ∙ accepted_moves (answer_to true port) accepted

-- A source whose offer is out gives when it sees that the message is wanted

pub out_kept : (stage : SourceStage) (i : ℕ) → source_stage_of stage ≡ SourceSeen.out i → stage ≡ source.Out i
out_kept (source.Out j) i is = cc
out_kept source.Free i is = absurd (cc)
out_kept (source.Posted j) i is = absurd (cc)
out_kept (source.Waiting j) i is = absurd (cc)
out_kept (source.Accepted j) i is = absurd (cc)
out_kept (source.Wished j) i is = absurd (cc)
out_kept (source.AskedBy j) i is = absurd (cc)
out_kept (source.Reserved j) i is = absurd (cc)
out_kept (source.Claimed j) i is = absurd (cc)
out_kept source.Crossing i is = absurd (cc)
out_kept source.Refused i is = absurd (cc)
out_kept (source.Ended how) i is = absurd (cc)

pub sees_accepted : (k i : ℕ) (o : OutletState) (stopped : Option Outcome) (held_up : Bool) → k < length o.ends
    → out_stage_at o k ≡ source.Out i → out_move k stopped held_up (out_looks k (Wanted i) o) ≡ Some Give
sees_accepted k i o stopped held_up there out =
    let after = source_looks (out_stage_at o k) (Wanted i) in
    let seen = out_looks k (Wanted i) o in
    let accepted : after ≡ source.Accepted i = ap (λ (stage : SourceStage). source_looks stage (Wanted i)) out in
    let stands : out_stage_at seen k ≡ source.Accepted i =
    ap (λ (e : _). e.stage) (get_or-set_same o.ends k (record (end_at o k) { stage = after }) no_end there) ∙ accepted in
    ap (λ (stage : SourceStage). out_move_at seen k stopped held_up stage) stands

pub copy_accepted : (k i : ℕ) (copies : SpreadState) (stopped : Option Outcome) (held_up : Bool) → k < length copies.ends
    → copy_stage_at copies k ≡ source.Out i → copy_move k stopped held_up (copy_looks k (Wanted i) copies) ≡ Some Give
copy_accepted k i copies stopped held_up there out =
    let after = source_looks (copy_stage_at copies k) (Wanted i) in
    let seen = copy_looks k (Wanted i) copies in
    let accepted : after ≡ source.Accepted i = ap (λ (stage : SourceStage). source_looks stage (Wanted i)) out in
    let stands : copy_stage_at seen k ≡ source.Accepted i =
    ap (λ (end : CopyEnd). end.link.stage) (get_or-set_same copies.ends k _ no_copy_end there) ∙ accepted in
    ap (λ (stage : SourceStage). copy_move_at seen k stopped held_up stage) stands

-- A target opens what has arrived, and takes what it has in hand

-- an end at which a message has arrived, or which has one in hand, is kept so
seen_arrived : (i : ℕ) (stage : TargetStage) (hand : Option Value) → target_stage_of stage hand ≡ TargetSeen.arrived i
    → is_arrived stage ≡ true
seen_arrived i target.Free hand is = absurd (cc)
seen_arrived i (target.Offered j) hand is = absurd (cc)
seen_arrived i (target.Posted j) hand is = absurd (cc)
seen_arrived i (target.Postponed j) hand is = absurd (cc)
seen_arrived i (target.Accepted j) hand is = absurd (cc)
seen_arrived i (target.Consuming j) hand is = absurd (cc)
seen_arrived i (target.Asking j) hand is = absurd (cc)
seen_arrived i (target.Holding j) hand is = absurd (cc)
seen_arrived i (target.Claiming j) hand is = absurd (cc)
seen_arrived i (target.Arrived j) hand is = refl
seen_arrived i (target.Hand j) hand is = absurd (cc)
seen_arrived i (target.Refused why) hand is = absurd (cc)
seen_arrived i (target.Ended how) hand is = absurd (cc)

seen_hand : (i : ℕ) (value : Value) (stage : TargetStage) (hand : Option Value) → target_stage_of stage hand ≡ TargetSeen.hand i value
    → is_hand stage ≡ true
seen_hand i value target.Free hand is = absurd (cc)
seen_hand i value (target.Offered j) hand is = absurd (cc)
seen_hand i value (target.Posted j) hand is = absurd (cc)
seen_hand i value (target.Postponed j) hand is = absurd (cc)
seen_hand i value (target.Accepted j) hand is = absurd (cc)
seen_hand i value (target.Consuming j) hand is = absurd (cc)
seen_hand i value (target.Asking j) hand is = absurd (cc)
seen_hand i value (target.Holding j) hand is = absurd (cc)
seen_hand i value (target.Claiming j) hand is = absurd (cc)
seen_hand i value (target.Arrived j) hand is = absurd (cc)
seen_hand i value (target.Hand j) hand is = refl
seen_hand i value (target.Refused why) hand is = absurd (cc)
seen_hand i value (target.Ended how) hand is = absurd (cc)

port_opens : (k : ℕ) (port : PortState) (stage : TargetStage) → is_arrived stage ≡ true → move_at k port stage ≡ Some Open
port_opens k port (target.Arrived j) e = refl
port_opens k port _ e = absurd (cc)

port_closes_hand : (k : ℕ) (port : PortState) (stage : TargetStage) → is_hand stage ≡ true → move_at k port stage ≡ Some Close
port_closes_hand k port (target.Hand j) e = refl
port_closes_hand k port _ e = absurd (cc)

end_opens : (wants : Bool) (stage : TargetStage) → is_arrived stage ≡ true → exit_move_at wants stage ≡ Some Open
end_opens wants (target.Arrived j) e = refl
end_opens wants _ e = absurd (cc)

end_closes : (wants : Bool) (stage : TargetStage) → is_hand stage ≡ true → exit_move_at wants stage ≡ Some Close
end_closes wants (target.Hand j) e = refl
end_closes wants _ e = absurd (cc)

pub arrived_opens : (k i : ℕ) (port : PortState) (stage : TargetStage) (hand : Option Value)
    → target_stage_of stage hand ≡ TargetSeen.arrived i → move_at k port stage ≡ Some Open
arrived_opens k i port stage hand is = port_opens k port stage (seen_arrived i stage hand is)

pub hand_closes : (k i : ℕ) (value : Value) (port : PortState) (stage : TargetStage) (hand : Option Value)
    → target_stage_of stage hand ≡ TargetSeen.hand i value → move_at k port stage ≡ Some Close
hand_closes k i value port stage hand is = port_closes_hand k port stage (seen_hand i value stage hand is)

-- and so does the end of a link out of the network
pub exit_opens : (i : ℕ) (wants : Bool) (stage : TargetStage) (hand : Option Value)
    → target_stage_of stage hand ≡ TargetSeen.arrived i → exit_move_at wants stage ≡ Some Open
exit_opens i wants stage hand is = end_opens wants stage (seen_arrived i stage hand is)

pub exit_closes : (i : ℕ) (value : Value) (wants : Bool) (stage : TargetStage) (hand : Option Value)
    → target_stage_of stage hand ≡ TargetSeen.hand i value → exit_move_at wants stage ≡ Some Close
exit_closes i value wants stage hand is = end_closes wants stage (seen_hand i value stage hand is)
