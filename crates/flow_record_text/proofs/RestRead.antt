-- What a read leaves of bytes that stand in front of a reader.
use Rattle.std.proofs.Common.{◌≡◌, ◌+◌, ◌<◌, ◌≤◌, ℕ, List, [], ◌++◌, length, drop, refl, ap, Option, Some, None, Result}
use Rattle.std.proofs.lemmas.List.{drop_all}
use Rattle.std.specs.Io.KnownBytes.{ReadConsumes, prepend_known}

-- nothing of it is left
pub front-over : (front : List ℕ) (at : ℕ) (known : Option (List ℕ)) → length front ≤ at → prepend_known (drop at front) known ≡ known
front-over front at None over = refl
front-over front at (Some bytes) over = ap (λ (rest : List ℕ). Some (rest ++ bytes)) (drop_all at front over)

-- then a read is one of the reader
pub over-read : {E : Type 0} (front : List ℕ) (at : ℕ) (old new : Option (List ℕ)) (result : Result ℕ E) (shown : List ℕ) → length front ≤ at
    → ReadConsumes old new result shown → ReadConsumes (prepend_known (drop at front) old) (prepend_known (drop at front) new) result shown
over-read front at old new result shown over reads = rw (front-over front at old over, front-over front at new over) reads
