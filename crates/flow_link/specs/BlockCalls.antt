-- What a block's own calls are, and that a block which has ended stays so.
use Rattle.std.specs.Prelude.{◌≡◌, ℕ, Bool, Option, Some, None, Result, unwrap_or}
use Rattle.flow_link.specs.declared.trace.Outcome.{Outcome}
use Rattle.flow_link.specs.declared.traits.MakeFault.{MakeFault}

-- a call with its answer
pub data BlockCall : Type 0 where
  -- this port completes
  completed : ℕ → BlockCall
  -- the block faults, with this number
  faulted : ℕ → BlockCall
  -- the block makes outputs, if it can
  made : Result Bool MakeFault → BlockCall

-- whoever has ended stays ended, and in the same way
abbrev pub Stays : Option Outcome → Option Outcome → Type 0
Stays None later = Unit {0}
Stays (Some how) later = later ≡ Some how

-- how a block has ended after this: it ends only once
abbrev pub ends_as : Outcome → Option Outcome → Option Outcome
ends_as how before = Some (unwrap_or before how)
