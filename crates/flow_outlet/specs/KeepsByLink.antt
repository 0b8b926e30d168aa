-- The calls that name a link keep the outlet's law, while its block may fault. A target may decline an offer, or put it off,
-- only over a link that is not steady.
use Rattle.std.specs.Prelude.{◌≡◌, ℕ, Bool, true, false, Option}
use Rattle.flow_value.specs.declared.message.MessageStatus.{MessageStatus}
use Rattle.flow_value.specs.declared.message.MessageStatus.TheVariants as status
use Rattle.flow_link.specs.declared.trace.Outcome.{Outcome}
use Rattle.flow_outlet.specs.Outlet.{OutletState, end_at}
use Rattle.flow_outlet.specs.ByLink.{IsAsked, answered, place_of, forgets, MayReserve, reserves, IsReserved, releases}
use Rattle.flow_outlet.specs.Law.{OutletLaw}

-- the target takes the message, or takes none any more
abbrev pub settles_it : MessageStatus → Bool
settles_it status.Accepted = true
settles_it status.DecliningPermanently = true
settles_it _ = false

pub record LinkCallsKeepLaw : Type 0 where
  pub answer : (stopped : Option Outcome) (o : OutletState) → OutletLaw true stopped o → (link header : ℕ) (answer : MessageStatus)
      → IsAsked link header o → (settles_it answer ≡ false → (end_at o (place_of link o.ends)).rule.steady ≡ false)
      → OutletLaw true stopped (answered answer header (place_of link o.ends) o)
  pub forget : (pending : Bool) (stopped : Option Outcome) (o : OutletState) → OutletLaw pending stopped o
      → OutletLaw pending stopped (forgets o)
  pub reserve : (pending : Bool) (stopped : Option Outcome) (o : OutletState) → OutletLaw pending stopped o
      → (link header : ℕ) → MayReserve link header o → OutletLaw pending stopped (reserves link header o)
  pub release : (pending : Bool) (stopped : Option Outcome) (o : OutletState) → OutletLaw pending stopped o
      → (link header : ℕ) → IsReserved link header o → OutletLaw pending stopped (releases link header o)
