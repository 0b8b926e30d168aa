-- A message that a port takes at once: its link was free, and nobody waits.
use Rattle.std.specs.Prelude.{ℕ, Bool, true, false, ◌&&◌}
use Rattle.flow_value.specs.declared.value.Value.{Value}
use Rattle.flow_value.specs.declared.message.MessageStatus.{MessageStatus}
use Rattle.flow_value.specs.declared.message.MessageStatus.TheVariants.{Accepted}
use Rattle.flow_link.specs.declared.phase.Phase.TheVariants.{Offered, Given}
use Rattle.flow_intake.specs.Port.{PortState, stage_at}
use Rattle.flow_intake.specs.ByLink.{is_free}
use Rattle.flow_intake.specs.Calls.{answer_to, looks, wants, opens, closes}

abbrev pub is_accepted : MessageStatus → Bool
is_accepted Accepted = true
is_accepted _ = false

-- the link at this place is free, and a message that is offered over it would be accepted
abbrev pub takes_at_once : ℕ → PortState → Bool
takes_at_once place port = is_free (stage_at place port) && is_accepted (answer_to true port)

-- the port after the whole way of a message that it accepts: it sees the offer, wants it, sees it in the slot, opens,
-- and closes
abbrev pub receives : ℕ → ℕ → Value → PortState → PortState
receives place i value port =
    closes place value (opens place value (looks place (Given i) (wants place (looks place (Offered i) port))))
