-- A block that is asked in vain, and ends later, has ended so.
use Rattle.std.proofs.Common.{suc, Option, Some, None}
use Rattle.flow_link.specs.declared.trace.Outcome.{Outcome}
use Rattle.flow_link.specs.BlockCalls.{Stays}
use Rattle.flow_poll.specs.Completes.{Completes}

-- it had not ended
still_open : (before : Option Outcome) (how : Outcome) → Stays before None → Stays before (Some how)
still_open None how open_still = tt
still_open (Some earlier) how ended = cc

module _ {B : Type 0} (outcome : B → Option Outcome) (learns : B → B → Type 0) where
  pub completes_later : (first next last : B) (how : Outcome) → learns first next → Stays (outcome first) None
      → Completes outcome learns next last how → Completes outcome learns first last how
  completes_later first next last how learned in_vain later = record {
    times = suc later.times;
    asked = (next, (learned, later.asked));
    told = later.told;
    stays = still_open (outcome first) how in_vain;
  }
