-- The table of moves: which phase each move leads to, and the word in which a phase is stored.
use Rattle.std.specs.Prelude.{◌≡◌, ℕ, ◌+◌, ◌*◌, ◌^◌, ◌<◌, ◌≤◌, ltb, Bool, true, Option, Some, None}
use Rattle.flow_link.specs.declared.phase.LinkEnd.TheVariants.{Plain, Complete, Fault}
use Rattle.flow_link.specs.declared.phase.Phase.{Phase}
use Rattle.flow_link.specs.declared.phase.Phase.TheVariants.{Idle, Posted, Offered, Postponed, Wanted, Given, Opened, Asked, Held, Refused, Ended}
use Rattle.flow_link.specs.declared.phase.Move.{Move}
use Rattle.flow_link.specs.declared.phase.Move.TheVariants.{Offer, Post, Want, TurnDown, Refuse, Postpone, Consume, Withdraw, Deny, Give, Open, Close, End, Ask, Hold, Claim, Release}

-- the phase after a move, where the phase allows it
abbrev pub phase_after : Phase → Move → Option Phase
-- the source's
phase_after Idle (Offer i) = Some (Offered i)
phase_after Idle (Post i) = Some (Posted i)
phase_after Idle (End how) = Some (Ended how)
phase_after (Postponed i) Withdraw = Some Idle
phase_after (Wanted i) Give = Some (Given i)
phase_after (Wanted i) Deny = Some Idle
phase_after (Asked i) Hold = Some (Held i)
phase_after (Asked i) Deny = Some Idle
-- the target's
phase_after (Offered i) Want = Some (Wanted i)
phase_after (Posted i) Want = Some (Wanted i)
phase_after (Posted i) TurnDown = Some Idle
phase_after (Offered i) Postpone = Some (Postponed i)
phase_after (Offered i) Refuse = Some Refused
phase_after (Posted i) Refuse = Some Refused
phase_after (Postponed i) Refuse = Some Refused
phase_after (Postponed i) Consume = Some (Wanted i)
phase_after (Postponed i) Ask = Some (Asked i)
phase_after (Held i) Claim = Some (Wanted i)
phase_after (Held i) Release = Some (Postponed i)
phase_after (Given i) Open = Some (Opened i)
phase_after (Opened i) Close = Some Idle
-- all else is not allowed
phase_after _ _ = None

-- the message that a phase speaks of
abbrev pub message_id : Phase → Option ℕ
message_id Idle = None
message_id (Posted i) = Some i
message_id (Offered i) = Some i
message_id (Postponed i) = Some i
message_id (Wanted i) = Some i
message_id (Given i) = Some i
message_id (Opened i) = Some i
message_id (Asked i) = Some i
message_id (Held i) = Some i
message_id Refused = None
message_id (Ended _) = None

-- the number of a phase's kind
abbrev pub code_of : Phase → ℕ
code_of Idle = 0
code_of (Posted _) = 1
code_of (Offered _) = 2
code_of (Postponed _) = 3
code_of (Wanted _) = 4
code_of (Given _) = 5
code_of (Opened _) = 6
code_of (Asked _) = 7
code_of (Held _) = 8
code_of Refused = 9
code_of (Ended Plain) = 10
code_of (Ended Complete) = 11
code_of (Ended (Fault _)) = 12

-- the message's id or the fault's number; 0 where a phase has neither
abbrev pub id_of : Phase → ℕ
id_of Idle = 0
id_of (Posted i) = i
id_of (Offered i) = i
id_of (Postponed i) = i
id_of (Wanted i) = i
id_of (Given i) = i
id_of (Opened i) = i
id_of (Asked i) = i
id_of (Held i) = i
id_of Refused = 0
id_of (Ended Plain) = 0
id_of (Ended Complete) = 0
id_of (Ended (Fault number)) = number

-- the word in which a phase is stored
abbrev pub word_of_phase : Phase → ℕ
word_of_phase phase = code_of phase * 2 ^ 59 + id_of phase

-- an id that a message can have
abbrev pub IsId : ℕ → Type 0
IsId i = (1 ≤ i) × (i < 2 ^ 59)

-- the ids and the fault's number are such as can be: only then does a word tell its phase
abbrev pub IsPhase : Phase → Type 0
IsPhase Idle = Unit {0}
IsPhase (Posted i) = IsId i
IsPhase (Offered i) = IsId i
IsPhase (Postponed i) = IsId i
IsPhase (Wanted i) = IsId i
IsPhase (Given i) = IsId i
IsPhase (Opened i) = IsId i
IsPhase (Asked i) = IsId i
IsPhase (Held i) = IsId i
IsPhase Refused = Unit {0}
IsPhase (Ended Plain) = Unit {0}
IsPhase (Ended Complete) = Unit {0}
IsPhase (Ended (Fault number)) = (1 ≤ number) × (number < 2 ^ 32)

-- a link that has ended with a fault tells the fault's number
abbrev pub is_numbered : Phase → Bool
is_numbered (Ended (Fault number)) = ltb 0 number
is_numbered _ = true

-- a word is one phase's word
abbrev pub WordsTell : Type 0
WordsTell = (first second : Phase) → IsPhase first → IsPhase second → word_of_phase first ≡ word_of_phase second → first ≡ second
