-- What holds of every spread: what it keeps ready is right, and its ids fit.
use Rattle.std.specs.Prelude.{◌≡◌, ℕ, ◌<◌, ◌≤◌, ◌^◌, true, false, List, length, Option, Some, is_some}
use Rattle.std.specs.Option.{ForSome}
use Rattle.flow_value.specs.declared.value.Value.{Value}
use Rattle.flow_spread.specs.declared.end.CopyEnd.{CopyEnd}
use Rattle.flow_spread.specs.End.{end_in, is_open}

pub record Fits (ends : List CopyEnd) (element : Option Value) (id cursor : ℕ) : Type 0 where
  pub few : length ends < 2 ^ 63
  pub ids_fit : id < 2 ^ 59
  pub ids_begin : is_some element ≡ true → 1 ≤ id
  -- before the cursor nobody may be offered the element
  pub within : cursor ≤ length ends
  pub passed : (j : ℕ) → j < cursor → is_open id (end_in ends j) ≡ false
  -- what is made for a link is a copy of the element
  pub made : (j : ℕ) → ForSome (end_in ends j).share (λ value. element ≡ Some value)
