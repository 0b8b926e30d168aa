-- Where a text is cut: at its first line that is exactly `%%`.
use Rattle.std.specs.Prelude.{◌≡◌, ℕ, ◌+◌, ◌-◌, ◌<◌, ◌⊎◌, List, [], length, take, drop, slice_index}

-- a line that is exactly `%%` begins at this place; 10 is the line feed and 37 the percent sign
pub record IsCut (text : List ℕ) (at : ℕ) : Type 0 where
  pub begins_line : (at ≡ 0) ⊎ (slice_index text (at - 1) ≡ 10)
  pub first_sign : slice_index text at ≡ 37
  pub second_sign : slice_index text (at + 1) ≡ 37
  pub ends_line : (length text ≡ at + 2) ⊎ (slice_index text (at + 2) ≡ 10)

-- the first such line begins at this place
pub record IsFirstCut (text : List ℕ) (at : ℕ) : Type 0 where
  pub cut : IsCut text at
  pub first : (i : ℕ) → i < at → IsCut text i → ⊥

-- there is no such line
abbrev pub IsUncut : List ℕ → Type 0
IsUncut text = (i : ℕ) → IsCut text i → ⊥

-- the text is cut at its first such line, which has three bytes with its line feed
pub record IsCutInto (text before after : List ℕ) (at : ℕ) : Type 0 where
  pub place : IsFirstCut text at
  pub before_is : before ≡ take at text
  pub after_is : after ≡ drop (at + 3) text

-- the text is not cut
pub record IsAll (text before after : List ℕ) : Type 0 where
  pub uncut : IsUncut text
  pub before_is : before ≡ text
  pub after_is : after ≡ []

-- what stands before and after the first such line, if there is one
abbrev pub IsSplit : List ℕ → List ℕ → List ℕ → Type 0
IsSplit text before after = ((at : ℕ) × IsCutInto text before after at) ⊎ IsAll text before after
