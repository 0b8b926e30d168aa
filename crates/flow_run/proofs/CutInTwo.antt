-- What a cut leaves before and after it.
use Rattle.std.proofs.Common.{◌≡◌, ℕ, List, take, drop, ◌∙◌, ap, inl}
use Rattle.std.proofs.lemmas.List.{drop-drop}
use Rattle.flow_run.specs.Split.{IsFirstCut, IsSplit}

-- the parts before and after the first line that is exactly `%%` are a split
pub split_at_cut : (text before line after : List ℕ) (at : ℕ) → IsFirstCut text at → before ≡ take at text
    → line ≡ drop at text → after ≡ drop 3 line → IsSplit text before after
split_at_cut text before line after at place before_is line_is after_is =
    inl (at, record { place = place; before_is = before_is; after_is = after_is ∙ (ap (drop 3) line_is ∙ drop-drop 3 at text) })
