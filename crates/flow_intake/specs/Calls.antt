-- What each call makes of a port.
use Rattle.std.specs.Prelude.{ℕ, ◌+◌, ◌-◌, Bool, true, false, not, ◌&&◌, ◌||◌, cond, ◌==◌, List, [], ◌∷◌, ◌++◌, set, drop, Option, Some, None}
use Rattle.flow_value.specs.declared.value.Value.{Value}
use Rattle.flow_value.specs.declared.message.MessageStatus.{MessageStatus}
use Rattle.flow_value.specs.declared.message.MessageStatus.TheVariants as status
use Rattle.flow_link.specs.declared.phase.Phase.{Phase}
use Rattle.flow_link.specs.declared.phase.Move.{Move}
use Rattle.flow_link.specs.declared.phase.Move.TheVariants as move
use Rattle.flow_link.specs.declared.stage.Refusal.{Refusal}
use Rattle.flow_link.specs.declared.stage.Refusal.TheVariants.{PortEnded, OwnFault}
use Rattle.flow_link.specs.declared.stage.TargetStage.{TargetStage}
use Rattle.flow_link.specs.declared.stage.TargetStage.TheVariants.{Free, Offered, Posted, Postponed, Accepted, Consuming, Asking, Holding, Claiming, Arrived, Hand, Refused}
use Rattle.flow_link.specs.Lists.{is_empty}
use Rattle.flow_link.specs.Stage.{target_looks}
use Rattle.flow_intake.specs.Port.{EndState, PortState, end_in, stage_at, is_offer, is_queued, has_room}
use Rattle.flow_intake.specs.Queue.{without}

-- the answer to an offer
abbrev pub answer_where : Option Refusal → Bool → Bool → MessageStatus → MessageStatus
answer_where (Some _) reserves free put_off = status.DecliningPermanently
answer_where None true free put_off = put_off
answer_where None false true put_off = status.Accepted
answer_where None false false put_off = put_off

abbrev pub answer_to : Bool → PortState → MessageStatus
answer_to may_postpone port =
    answer_where port.refusing port.reserves (has_room port && is_empty port.queue)
    (cond may_postpone status.Postponed status.Declined)

-- the end whose offer it would consume next
abbrev pub first_of : {A : Type 0} → List A → Option A
first_of [] = None
first_of (x ∷ _) = Some x

abbrev pub next_where : Option Refusal → Bool → Bool → Option ℕ → Option ℕ
next_where None false true place = place
next_where _ _ _ _ = None

abbrev pub next_place : PortState → Option ℕ
next_place port = next_where port.refusing port.reserves (has_room port) (first_of port.queue)

-- the move that an answer is
abbrev pub move_of : MessageStatus → Option Move
move_of status.Accepted = Some move.Want
move_of status.Declined = Some move.TurnDown
move_of status.Postponed = Some move.Postpone
move_of status.NotAvailable = None
move_of status.DecliningPermanently = Some move.Refuse

abbrev pub is_at : ℕ → Option ℕ → Bool
is_at place None = false
is_at place (Some other) = other == place

-- the move that an end makes whose offer waits
abbrev pub move_of_queued : ℕ → PortState → Option Move
move_of_queued place port = elim port.refusing [
  | Some _ ↦ Some move.Refuse
  | None ↦ cond (is_at place (next_place port)) (Some move.Consume) None
]

-- what the end at this place would do next
abbrev pub move_at : ℕ → PortState → TargetStage → Option Move
move_at place port (Offered _) = move_of (answer_to true port)
move_at place port (Posted _) = move_of (answer_to false port)
move_at place port (Postponed _) = move_of_queued place port
move_at place port (Arrived _) = Some move.Open
move_at place port (Hand _) = Some move.Close
move_at place port _ = None

abbrev pub in_move : ℕ → PortState → Option Move
in_move place port = move_at place port (stage_at place port)

-- the ends when the one at this place has moved to a stage
abbrev pub put_stage : ℕ → TargetStage → List EndState → List EndState
put_stage place stage ends = set ends place (record (end_in place ends) { stage = stage })

abbrev pub put_hand : ℕ → TargetStage → Option Value → List EndState → List EndState
put_hand place stage hand ends = set ends place (record (end_in place ends) { stage = stage; hand = hand })

-- what an end must stand at for a move of its own
abbrev pub is_offered : TargetStage → Bool
is_offered (Offered _) = true
is_offered _ = false

abbrev pub is_posted : TargetStage → Bool
is_posted (Posted _) = true
is_posted _ = false

abbrev pub is_postponed : TargetStage → Bool
is_postponed (Postponed _) = true
is_postponed _ = false

abbrev pub is_arrived : TargetStage → Bool
is_arrived (Arrived _) = true
is_arrived _ = false

abbrev pub may_be_refused : TargetStage → Bool
may_be_refused stage = is_offer stage || is_postponed stage

-- where an end must stand for its offer to be dropped: it is postponed, or wished for
abbrev pub may_be_dropped : TargetStage → Bool
may_be_dropped (Postponed _) = true
may_be_dropped (Consuming _) = true
may_be_dropped (Asking _) = true
may_be_dropped _ = false

-- the message that an end speaks of
abbrev pub message_of : TargetStage → ℕ
message_of (Offered i) = i
message_of (Posted i) = i
message_of (Postponed i) = i
message_of (Holding i) = i
message_of (Arrived i) = i
message_of _ = 0

abbrev pub refused_by : Option Refusal → TargetStage
refused_by (Some why) = Refused why
refused_by None = Free

-- memory is set aside for one more message
abbrev pub prepared : PortState → PortState
prepared port = record port { ready = true }

-- it is set aside no more
abbrev pub unprepared : PortState → PortState
unprepared port = record port { ready = false }

-- it accepts this message
abbrev pub accepts : ℕ → ℕ → PortState → PortState
accepts place i port = record port { ends = put_stage place (Accepted i) port.ends; ready = false }

-- it postpones this message
abbrev pub puts_off : ℕ → ℕ → PortState → PortState
puts_off place i port = record port {
  ends = put_stage place (Postponed i) port.ends;
  queue = without place port.queue ++ place ∷ [];
  ready = false;
}

-- an end leaves the queue, and stands elsewhere
abbrev pub leaves_for : TargetStage → ℕ → PortState → PortState
leaves_for stage place port = record port { ends = put_stage place stage port.ends; queue = without place port.queue }

-- a message that was taken counts only where there is a capacity
abbrev pub one_more : Option ℕ → ℕ → ℕ
one_more None load = load
one_more (Some _) load = load + 1

-- it takes this message
abbrev pub takes : Value → List EndState → PortState → PortState
takes value ends port = record port { ends = ends; waiting = port.waiting ++ value ∷ []; load = one_more port.capacity port.load }

-- the moves
abbrev pub wants : ℕ → PortState → PortState
wants place port = accepts place (message_of (stage_at place port)) port

abbrev pub turns_down : ℕ → PortState → PortState
turns_down place port = record port { ends = put_stage place Free port.ends }

abbrev pub postpones : ℕ → PortState → PortState
postpones place port = puts_off place (message_of (stage_at place port)) port

abbrev pub refuses : ℕ → PortState → PortState
refuses place port = leaves_for (refused_by port.refusing) place port

abbrev pub consumes : ℕ → PortState → PortState
consumes place port = leaves_for (Consuming (message_of (stage_at place port))) place port

-- it asks to reserve a message that it postponed; it claims, or releases, a message that is kept for it
abbrev pub asks : ℕ → PortState → PortState
asks place port = record port { ends = put_stage place (Asking (message_of (stage_at place port))) port.ends }

abbrev pub claims : ℕ → PortState → PortState
claims place port = leaves_for (Claiming (message_of (stage_at place port))) place port

abbrev pub releases : ℕ → PortState → PortState
releases place port = record port { ends = put_stage place (Postponed (message_of (stage_at place port))) port.ends }

-- its offer waits longest
abbrev pub is_front : ℕ → PortState → Bool
is_front place port = is_at place (first_of port.queue)

-- and has gone, by a look that finds this phase
abbrev pub loses_front : ℕ → Phase → PortState → Bool
loses_front place phase port = is_front place port && not (is_queued (target_looks (stage_at place port) phase))

abbrev pub opens : ℕ → Value → PortState → PortState
opens place value port = record port { ends = put_hand place (Hand (message_of (stage_at place port))) (Some value) port.ends }

abbrev pub closes : ℕ → Value → PortState → PortState
closes place value port = takes value (put_hand place Free None port.ends) port

-- an end that waits for nothing any more leaves the queue
abbrev pub queue_after : TargetStage → ℕ → List ℕ → List ℕ
queue_after stage place queue = cond (is_queued stage) queue (without place queue)

abbrev pub looks : ℕ → Phase → PortState → PortState
looks place phase port = record port {
  ends = put_stage place (target_looks (stage_at place port) phase) port.ends;
  queue = queue_after (target_looks (stage_at place port) phase) place port.queue;
}

-- what becomes of the port as a whole
abbrev pub takes_next : PortState → PortState
takes_next port = record port { waiting = drop 1 port.waiting }

abbrev pub gives_room : ℕ → PortState → PortState
gives_room count port = record port { load = port.load - count }

abbrev pub port_closes : PortState → PortState
port_closes port = record port { refusing = Some PortEnded }

-- a port that has ended does not fail
abbrev pub failing_from : Option Refusal → Option Refusal
failing_from (Some why) = Some why
failing_from None = Some OwnFault

abbrev pub port_fails : PortState → PortState
port_fails port = record port { refusing = failing_from port.refusing }
