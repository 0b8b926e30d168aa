-- What stays of what a writer held, whatever became of a call.
use Rattle.std.specs.Prelude.{◌≡◌, ℕ, List, ◌++◌, Option, Some}

-- the bytes are known, and these stand in front
pub record BeginsWith (known : Option (List ℕ)) (front : List ℕ) : Type 0 where
  pub rest : List ℕ
  pub is : known ≡ Some (front ++ rest)

-- whatever stood in front stands there still: of a writer that tells its bytes, all that it held
abbrev pub StaysInFront : Option (List ℕ) → Option (List ℕ) → Type 0
StaysInFront old new = (front : List ℕ) → BeginsWith old front → BeginsWith new front
