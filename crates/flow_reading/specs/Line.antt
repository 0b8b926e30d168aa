-- A line of a report.
use Rattle.std.specs.Prelude.{ℕ, List, [], ◌∷◌, ◌++◌, Option, None, Some}

-- a line that begins with these words, and what stands behind them
abbrev pub line_text : List ℕ → List ℕ → List ℕ
line_text words found = words ++ (found ++ 10 ∷ [])

-- such a line, if it is there
abbrev pub optional_line : List ℕ → Option (List ℕ) → List ℕ
optional_line words None = []
optional_line words (Some found) = line_text words found
