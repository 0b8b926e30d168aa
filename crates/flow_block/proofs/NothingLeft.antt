-- What it tells that nothing is left.
use Rattle.std.proofs.Common.{◌≡◌, true, List, [], ◌∷◌, refl}
use Rattle.flow_value.specs.declared.value.Value.{Value}
use Rattle.flow_outlet.specs.Outlet.{is_empty}

pub none_left : (left : List Value) → is_empty left ≡ true → left ≡ []
none_left [] e = refl
none_left (value ∷ left) e = absurd (cc)
