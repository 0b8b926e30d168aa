-- When the weight of a result comes back: when the last of its messages is given, and not before.
use Rattle.std.specs.Prelude.{◌≡◌, ℕ, ◌+◌, ◌<◌, ◌≤◌, false, List, [], ◌∷◌, length}
use Rattle.flow_value.specs.declared.value.Value.{Value}
use Rattle.flow_outlet.specs.declared.ends.LinkRule.{LinkRule}
use Rattle.flow_outlet.specs.declared.group.Group.{Group}
use Rattle.flow_outlet.specs.Outlet.{OutletState, is_empty, fresh_outlet, puts, sets_aside, puts_aside, gives}

-- the last messages of the results that are kept come one after another, from low on and below high
abbrev pub AreRising : ℕ → ℕ → List Group → Type 0
AreRising low high [] = Unit {0}
AreRising low high (group ∷ groups) = (low ≤ group.until) × (group.until < high) × AreRising (group.until + 1) high groups

-- each result that is kept ends with a message that is left
abbrev pub EndsAreLeft : OutletState → Type 0
EndsAreLeft o = AreRising o.next (o.next + length o.left) o.groups

pub record WeightsComeInTime : Type 0 where
  pub fresh : (rules : List LinkRule) (first : ℕ) → EndsAreLeft (fresh_outlet rules first)
  pub put : (o : OutletState) (values : List Value) (weight : ℕ) → EndsAreLeft o → EndsAreLeft (puts values weight o)
  pub set_aside : (o : OutletState) (count : ℕ) → EndsAreLeft o → EndsAreLeft (sets_aside count o)
  pub put_aside : (o : OutletState) (values : List Value) (weight : ℕ) → EndsAreLeft o → EndsAreLeft (puts_aside values weight o)
  pub give : (o : OutletState) (k : ℕ) → is_empty o.left ≡ false → EndsAreLeft o → EndsAreLeft (gives k o)
  -- where nothing is left, all weights have come back
  pub all : (o : OutletState) → EndsAreLeft o → o.left ≡ [] → o.groups ≡ []
