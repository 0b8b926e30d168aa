-- What a contract sees of waiting for the end of a block.
use Rattle.std.specs.Prelude.{◌≡◌, ℕ, zero, suc, Option, Some}
use Rattle.flow_link.specs.declared.trace.Outcome.{Outcome}
use Rattle.flow_link.specs.BlockCalls.{Stays}

module _ {B : Type 0} (learns : B → B → Type 0) where
  -- it is the same block, asked so many times since
  abbrev pub IsAsked : ℕ → B → B → Type 0
  IsAsked zero first last = last ≡ first
  IsAsked (suc times) first last = (next : B) × (learns first next × IsAsked times next last)

-- the same block, asked some times since, has ended so
pub record Completes {B : Type 0} (outcome : B → Option Outcome) (learns : B → B → Type 0) (first last : B) (how : Outcome) : Type 0 where
  pub times : ℕ
  pub asked : IsAsked learns times first last
  pub told : outcome last ≡ Some how
  -- if it had ended before, it had ended so
  pub stays : Stays (outcome first) (Some how)
