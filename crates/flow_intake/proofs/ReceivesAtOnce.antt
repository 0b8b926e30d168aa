-- A message that is taken at once leaves the links' ends and the queue as they were.
use Rattle.std.proofs.Common.{◌≡◌, ℕ, ◌<◌, Bool, true, false, ◌&&◌, cond, List, [], ◌∷◌, ◌++◌, length, set, Option}
use Rattle.std.proofs.Common.{Some, None, refl, ap, sym, ◌∙◌}
use Rattle.std.proofs.lemmas.Bool.{and_parts}
use Rattle.std.proofs.lemmas.List.{get_or-set_same, set-get_or, set-set}
use Rattle.flow_value.specs.declared.value.Value.{Value}
use Rattle.flow_value.specs.declared.message.MessageStatus.{MessageStatus}
use Rattle.flow_value.specs.declared.message.MessageStatus.TheVariants.{Accepted, Declined, Postponed, NotAvailable}
use Rattle.flow_value.specs.declared.message.MessageStatus.TheVariants.{DecliningPermanently}
use Rattle.flow_link.specs.declared.phase.Phase.{Phase}
use Rattle.flow_link.specs.declared.phase.Phase.TheVariants as phase
use Rattle.flow_link.specs.declared.stage.TargetStage.{TargetStage}
use Rattle.flow_link.specs.declared.stage.TargetStage.TheVariants as stage
use Rattle.flow_link.specs.Lists.{is_empty}
use Rattle.flow_link.specs.Stage.{target_looks}
use Rattle.flow_intake.specs.Port.{EndState, PortState, fresh_end, end_in, stage_at, hand_in, is_queued, has_room}
use Rattle.flow_intake.specs.ByLink.{is_free}
use Rattle.flow_intake.specs.Calls.{answer_to, one_more, queue_after, message_of, looks, wants, opens, closes, takes}
use Rattle.flow_intake.specs.Receives.{is_accepted, takes_at_once, receives}
use Rattle.flow_intake.proofs.AnswersTell.{accepted_where}

is_accepted_at : (status : MessageStatus) → is_accepted status ≡ true → status ≡ Accepted
is_accepted_at Accepted is = refl
is_accepted_at Declined is = absurd (cc)
is_accepted_at Postponed is = absurd (cc)
is_accepted_at NotAvailable is = absurd (cc)
is_accepted_at DecliningPermanently is = absurd (cc)

is_free_at : (at : TargetStage) → is_free at ≡ true → at ≡ stage.Free
is_free_at stage.Free is = refl
is_free_at (stage.Offered _) is = absurd (cc)
is_free_at (stage.Posted _) is = absurd (cc)
is_free_at (stage.Postponed _) is = absurd (cc)
is_free_at (stage.Accepted _) is = absurd (cc)
is_free_at (stage.Consuming _) is = absurd (cc)
is_free_at (stage.Asking _) is = absurd (cc)
is_free_at (stage.Holding _) is = absurd (cc)
is_free_at (stage.Claiming _) is = absurd (cc)
is_free_at (stage.Arrived _) is = absurd (cc)
is_free_at (stage.Hand _) is = absurd (cc)
is_free_at (stage.Refused _) is = absurd (cc)
is_free_at (stage.Ended _) is = absurd (cc)

nobody_waits : (queue : List ℕ) → is_empty queue ≡ true → queue ≡ []
nobody_waits [] is = refl
nobody_waits (_ ∷ _) is = absurd (cc)

-- what takes a message at once
pub record TakesAtOnce (place : ℕ) (port : PortState) : Type 0 where
  pub free : stage_at place port ≡ stage.Free
  pub room : has_room port ≡ true
  pub empty : port.queue ≡ []

pub takes_tells : (place : ℕ) (port : PortState) → takes_at_once place port ≡ true → TakesAtOnce place port
takes_tells place port is =
    let both = and_parts (is_free (stage_at place port)) (is_accepted (answer_to true port)) is in
    let accepted = is_accepted_at (answer_to true port) both.1 in
    let parts = and_parts (has_room port) (is_empty port.queue)
    (accepted_where port.refusing port.reserves (has_room port && is_empty port.queue) true accepted) in
    record { free = is_free_at (stage_at place port) both.0; room = parts.0; empty = nobody_waits port.queue parts.1 }

-- the port with this end at the place
abbrev with_end : ℕ → EndState → PortState → PortState
with_end place end port = record port { ends = set port.ends place end }

-- an end at another stage, and with this in hand
abbrev at : TargetStage → EndState → EndState
at to end = record end { stage = to }

abbrev has : TargetStage → Option Value → EndState → EndState
has to hand end = record end { stage = to; hand = hand }

none_leaves : (after : TargetStage) (place : ℕ) (queue : List ℕ) → queue ≡ [] → queue_after after place queue ≡ queue
none_leaves after place queue empty = rw empty (none_of (is_queued after))
  where
    none_of : (stays : Bool) → cond {A = List ℕ} stays [] [] ≡ []
    none_of true = refl
    none_of false = refl

-- the end at the place is this one
read : (place : ℕ) (end : EndState) (port : PortState) → place < length port.ends
    → end_in place (set port.ends place end) ≡ end
read place end port below = get_or-set_same port.ends place end (fresh_end 0) below

stands : (place : ℕ) (end : EndState) (port : PortState) → place < length port.ends
    → stage_at place (with_end place end port) ≡ end.stage
stands place end port below = ap (λ (e : EndState). e.stage) (read place end port below)

looks_there : (place : ℕ) (phase : Phase) (end : EndState) (port : PortState) → place < length port.ends
    → port.queue ≡ []
    → looks place phase (with_end place end port) ≡ with_end place (at (target_looks end.stage phase) end) port
looks_there place phase end port below empty =
    let to = target_looks end.stage phase in
    let queue = none_leaves to place port.queue empty in
    rw (read place end port below, stands place end port below, set-set port.ends place end (at to end), queue) refl

wants_there : (place : ℕ) (end : EndState) (port : PortState) → place < length port.ends
    → wants place (with_end place end port)
    ≡ with_end place (at (stage.Accepted (message_of end.stage)) end) (record port { ready = false })
wants_there place end port below =
    let to = stage.Accepted (message_of end.stage) in
    rw (read place end port below, stands place end port below, set-set port.ends place end (at to end)) refl

opens_there : (place : ℕ) (value : Value) (end : EndState) (port : PortState) → place < length port.ends
    → opens place value (with_end place end port)
    ≡ with_end place (has (stage.Hand (message_of end.stage)) (Some value) end) port
opens_there place value end port below =
    let after = has (stage.Hand (message_of end.stage)) (Some value) end in
    rw (read place end port below, stands place end port below, set-set port.ends place end after) refl

closes_there : (place : ℕ) (value : Value) (end : EndState) (port : PortState) → place < length port.ends
    → closes place value (with_end place end port)
    ≡ takes value (set port.ends place (has stage.Free None end)) port
closes_there place value end port below =
    rw (read place end port below, set-set port.ends place end (has stage.Free None end)) refl

-- the whole way of a message over the end at this place
way : (place i : ℕ) (value : Value) (end : EndState) (port : PortState) → place < length port.ends → port.queue ≡ []
    → end.stage ≡ stage.Free → receives place i value (with_end place end port)
    ≡ takes value (set port.ends place (has stage.Free None end)) (record port { ready = false })
way place i value end port below empty free =
    let offered : looks place (phase.Offered i) (with_end place end port)
    ≡ with_end place (at (stage.Offered i) end) port =
    looks_there place (phase.Offered i) end port below empty
    ∙ ap (λ (s : TargetStage). with_end place (at (target_looks s (phase.Offered i)) end) port) free in
    let wanted = wants_there place (at (stage.Offered i) end) port below in
    let after : PortState = record port { ready = false } in
    let given = looks_there place (phase.Given i) (at (stage.Accepted i) end) after below empty in
    let opened = opens_there place value (at (stage.Arrived i) end) after below in
    let closed = closes_there place value (has (stage.Hand i) (Some value) end) after below in
    ap (λ (p : PortState). closes place value (opens place value (looks place (phase.Given i) (wants place p)))) offered
    ∙ ap (λ (p : PortState). closes place value (opens place value (looks place (phase.Given i) p))) wanted
    ∙ ap (λ (p : PortState). closes place value (opens place value p)) given
    ∙ ap (λ (p : PortState). closes place value p) opened
    ∙ closed

-- an end that is free and has nothing in hand
same_end : (end : EndState) → end.stage ≡ stage.Free → end.hand ≡ None → has stage.Free None end ≡ end
same_end end free none = rw (← free, ← none) refl

pub received : (place i : ℕ) (value : Value) (port : PortState) → place < length port.ends
    → takes_at_once place port ≡ true → hand_in place port.ends ≡ None → receives place i value port
    ≡ record port { waiting = port.waiting ++ value ∷ []; load = one_more port.capacity port.load; ready = false }
received place i value port below is none =
    let tells = takes_tells place port is in
    let end : EndState = end_in place port.ends in
    let unmoved : set port.ends place end ≡ port.ends = set-get_or port.ends place (fresh_end 0) in
    let same : has stage.Free None end ≡ end = same_end end tells.free none in
    let as_before = ap (λ (e : EndState). set port.ends place e) same ∙ unmoved in
    ap (λ (ends : List EndState). receives place i value (record port { ends = ends })) (sym unmoved)
    ∙ way place i value end port below tells.empty tells.free
    ∙ ap (λ (ends : List EndState). takes value ends (record port { ready = false })) as_before

-- the same, of an end that may have something in hand
pub received_at : (place i : ℕ) (value : Value) (port : PortState) → place < length port.ends
    → takes_at_once place port ≡ true → receives place i value port
    ≡ takes value (set port.ends place (has stage.Free None (end_in place port.ends))) (record port { ready = false })
received_at place i value port below is =
    let tells = takes_tells place port is in
    let end : EndState = end_in place port.ends in
    let unmoved : set port.ends place end ≡ port.ends = set-get_or port.ends place (fresh_end 0) in
    ap (λ (ends : List EndState). receives place i value (record port { ends = ends })) (sym unmoved)
    ∙ way place i value end port below tells.empty tells.free
