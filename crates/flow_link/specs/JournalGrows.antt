-- What one more mark changes: a Took mark adds to what was taken, a Gave mark to what was given, and no other does.
use Rattle.std.specs.Prelude.{◌≡◌, ℕ, Bool, List, [], ◌∷◌, ◌++◌}
use Rattle.flow_value.specs.declared.value.Value.{Value}
use Rattle.flow_link.specs.declared.trace.Mark.{Mark}
use Rattle.flow_link.specs.Trace.{took_where, gave_where}

-- the values that one mark adds
abbrev pub taken_by_mark : (ℕ → ℕ → Bool) → Mark → List Value
taken_by_mark test mark = took_where test (mark ∷ [])

abbrev pub given_by_mark : (ℕ → Bool) → Mark → List Value
given_by_mark test mark = gave_where test (mark ∷ [])

pub record JournalsGrow : Type 0 where
  pub took_more : (test : ℕ → ℕ → Bool) (marks : List Mark) (mark : Mark)
      → took_where test (marks ++ mark ∷ []) ≡ took_where test marks ++ taken_by_mark test mark
  pub gave_more : (test : ℕ → Bool) (marks : List Mark) (mark : Mark)
      → gave_where test (marks ++ mark ∷ []) ≡ gave_where test marks ++ given_by_mark test mark
