-- What holds of every outlet: what it keeps ready is right, and its numbers fit.
use Rattle.std.specs.Prelude.{◌≡◌, ℕ, ◌+◌, ◌≤◌, ◌<◌, ◌^◌, List, [], ◌∷◌, length, Option, Some}
use Rattle.std.specs.Option.{ForSome}
use Rattle.flow_value.specs.declared.value.Value.{Value}
use Rattle.flow_outlet.specs.End.{place_in, count_at, is_away, is_waiting}
use Rattle.flow_outlet.specs.Outlet.{first_of}
use Rattle.flow_outlet.specs.declared.ends.OutEnd.{OutEnd}
use Rattle.flow_outlet.specs.declared.group.Group.{Group}

abbrev pub weight_of : List Group → ℕ
weight_of [] = 0
weight_of (group ∷ groups) = group.weight + weight_of groups

-- for an outlet that has memory for so many values, the space, and for so many groups, the slots
pub record Fits (ends : List OutEnd) (left : List Value) (next : ℕ) (parcel : Option Value) (groups : List Group) (room cursor away waiting spare space slots : ℕ) : Type 0 where
  pub few : length ends < 2 ^ 63
  pub cursor_is : cursor ≡ place_in next (first_of left) ends
  pub away_is : away ≡ count_at is_away ends
  pub waiting_is : waiting ≡ count_at is_waiting ends
  pub ids_begin : 1 ≤ next
  pub ids_fit : next + length left + spare ≤ 2 ^ 59
  -- a value more is a group more at most
  pub values_fit : length left + spare ≤ space
  pub groups_fit : length groups + spare ≤ slots
  pub room_fits : room + weight_of groups < 2 ^ 32
  pub parcel_is : ForSome parcel (λ value. first_of left ≡ Some value)
