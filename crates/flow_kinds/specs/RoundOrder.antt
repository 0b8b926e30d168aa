-- What holds of the round of a join by hand, whatever is called.
use Rattle.std.specs.Prelude.{◌≡◌, ℕ, ◌<◌, true, false, List, length}
use Rattle.flow_intake.specs.Port.{PortState, stage_at, coming, is_queued}
use Rattle.flow_intake.specs.PortLaw.{is_in}
use Rattle.flow_group.specs.Round.{RoundState, port_in, reserves}
use Rattle.flow_group.specs.RoundLaw.{RoundLaw, InTurn}

-- how many messages each port has ahead of the tuples
abbrev pub took_at : List PortState → ℕ → ℕ
took_at ports p = length (port_in ports p).waiting

-- what stands in the queue of a port waits, or is asked for or kept
abbrev pub QueueWaits : PortState → Type 0
QueueWaits port = (k : ℕ) → is_in k port.queue ≡ true → is_queued (stage_at k port) ≡ true

pub record RoundFits (round : RoundState) (ports : List PortState) : Type 0 where
  pub law : RoundLaw round.step ports (took_at ports)
  -- it asks in the order of the sources
  pub turn : InTurn round.sources round.step ports
  pub queues : (p : ℕ) → p < length ports → QueueWaits (port_in ports p)
  -- where no source is known, nothing is asked for
  pub idle : reserves round ≡ false → (p : ℕ) → p < length ports → coming (port_in ports p) ≡ 0
