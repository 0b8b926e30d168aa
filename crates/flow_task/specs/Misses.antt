-- An exchange of an end of a block that missed, since the other end had moved first.
use Rattle.std.specs.Prelude.{ℕ, List, get_or}
use Rattle.std.specs.declared.alloc.Global.{Global}
use Rattle.std.specs.declared.vec.Vec.{Vec}
use Rattle.flow_core.specs.MovesFit.{message_in, message_out}
use Rattle.flow_wire.specs.Ends.{MissedIn, MissedOut, SourceOf, TargetOf}

-- the last step of the end was an exchange of the message of which its stage speaks, and found another phase than postponed
pub record HasMissedOut (end : SourceOf) : Type 0 where
  pub before : SourceOf
  pub missed : MissedOut (message_out end.side.view.stage) before end

pub record HasMissedIn (end : TargetOf) : Type 0 where
  pub before : TargetOf
  pub missed : MissedIn (message_in end.side.view.stage) before end

-- so it was at this end out of a block, and at this end into a port of it
abbrev pub OutMissed : List SourceOf → ℕ → Type 0
OutMissed outs k = (none : SourceOf) → HasMissedOut (get_or outs k none)

abbrev pub InMissed : List (Vec TargetOf Global) → ℕ → ℕ → Type 0
InMissed ins p k = (no_port : Vec TargetOf Global) (none : TargetOf) → HasMissedIn (get_or (get_or ins p no_port).items k none)

-- whichever of them had missed has missed now
abbrev pub OutsMissStill : List SourceOf → List SourceOf → Type 0
OutsMissStill before after = (k : ℕ) → OutMissed before k → OutMissed after k

abbrev pub InsMissStill : List (Vec TargetOf Global) → List (Vec TargetOf Global) → Type 0
InsMissStill before after = (p k : ℕ) → InMissed before p k → InMissed after p k
